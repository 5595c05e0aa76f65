use Rattle.std.proofs.Common.{◌<◌, length, sym, refl, ap, ◌∙◌, arith}
use Rattle.std.proofs.lemmas.List.{length-set}
use Rattle.cells.specs.Rows.{small, standing_in}
use Rattle.cells.proofs.Rows.{counts_same}
use Rattle.cells.proofs.table.Table.relink.Goals as goal

pub invariant_of-self : goal.invariant_of-self
invariant_of-self c =
    let table = c.args.self.now in
    let full = table.full in
    let l : c.args.p < length table.rows = omega arith in
    let same = counts_same table.rows c.args.p _ _ l refl in
    record { full = length-set table.rows c.args.p _ ∙ full; few = ap small same ∙ table.few; sum = table.sum ∙ sym (ap standing_in same) }
