use Rattle.std.proofs.Common.{◌+◌, ◌*◌, arith}
use Rattle.cells.specs.Tables.{counts_in}
use Rattle.references.specs.References.{nth}
use Rattle.references.proofs.Copying.{upto_steps, overflows_up}
use Rattle.references.proofs.copied.raise_all.Goals as goal

pub returns-in-Err : goal.returns-in-Err
returns-in-Err g c =
    let f = nth g.E.Element.refs c.args.memory.now c.args.from in
    let rows = counts_in c.args.table.now in
    let over = overflows_up f (c.loop-j.j + 1) rows (4 * c.args.n) in
    grind (arith, upto_steps, over, c.in-Err.ensures, c.lower_all.ensures rows c.loop-j.invariant.0)
