use Rattle.std.proofs.Common.{arith, rules}
use Rattle.std.proofs.lemmas.Grind.{common_steps}
use Rattle.references.proofs.Naming.{each_more}
use Rattle.references.proofs.changed.change_all.Goals as goal

pub loop-r-preserved : goal.loop-r-preserved
loop-r-preserved g c test f m =
    let here = c.change.ensures test f (m.0, λ d s o p. m.1 d s o (search rules)) in
    grind (arith, common_steps, each_more, here, c.loop-r.invariant test f m)

pub returns : goal.returns
returns g c test f m = grind (arith, common_steps, c.loop-r.invariant test f m)
