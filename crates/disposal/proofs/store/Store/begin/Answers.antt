use Rattle.std.proofs.Common.{ap, ◌∙◌, arith}
use Rattle.cells.specs.declared.row.Counts.{Counts}
use Rattle.disposal.proofs.Places.{cell_here, standing_short}
use Rattle.disposal.proofs.store.Store.begin.Goals as goal

pub overflow_cast-place : goal.overflow_cast-place
overflow_cast-place g c =
    let here = cell_here c.args.self.now.table c.args.p c.get.result.counts c.get.ensures.counts c.in-Some.ensures.0 in
    omega arith

pub overflow_add-link : goal.overflow_add-link
overflow_add-link g c =
    let table = c.args.self.now.table in
    let here = cell_here table c.args.p c.get.result.counts c.get.ensures.counts c.in-Some.ensures.0 in
    let same = ap (λ (k : Counts). k.standing) (c.in-Some.ensures.1 ∙ c.get.ensures.counts) in
    omega (arith, c.from.ensures, standing_short table c.args.p)
