use Rattle.std.proofs.Common.{◌≡◌, arith}
use Rattle.references.proofs.Copying.{upto_none, upto_steps}
use Rattle.references.proofs.copied.lower_all.Goals as goal

pub loop-j-preserved : goal.loop-j-preserved
loop-j-preserved g c rows safe start = grind (arith, upto_steps, c.loop-j.invariant rows safe start)

pub returns : goal.returns
returns g c rows safe start =
    let none : c.loop-j.j ≡ 0 = omega arith in
    rw (c.loop-j.invariant rows safe start, none) (upto_none _ rows)
