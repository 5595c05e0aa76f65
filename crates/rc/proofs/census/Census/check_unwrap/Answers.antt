use Rattle.std.proofs.Common.{[], ◌∷◌}
use Rattle.std.proofs.lemmas.Result.{err_from_is_err_and}
use Rattle.rc.specs.Checks.{wrong_memory, no_rc, past_memory, slice_cell, not_sole}
use Rattle.rc.specs.Worlds.{world}
use Rattle.rc.proofs.Chains.{stopped}
use Rattle.rc.proofs.census.Census.check_unwrap.Goals as goal

pub returns-in_err-cell : goal.returns-in_err-cell
returns-in_err-cell g c =
    let p = err_from_is_err_and c.from_residual.result c.from_residual.ensures.1 in
    let w = world g.A.Allocator.meaning c.args.self.now in
    let t = c.args.ticket in
    let memory = c.args.memory.now in
    rw (p.1, p.2) (
      stopped (wrong_memory w memory ∷ no_rc w t ∷ []) (past_memory memory t.place ∷ slice_cell w t.place ∷ not_sole w t.place ∷ [])
          c.in_err-cell.field-0.0
          c.in_err-cell.ensures.0,
      tt,
    )
