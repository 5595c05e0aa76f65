use Rattle.std.proofs.Common.{Bool, true, false, ltb, [], ◌∷◌, MatchBool, refl}
use Rattle.std.proofs.lemmas.Result.{err_from_is_err_and}
use Rattle.cells.specs.Rows.{at}
use Rattle.rc.specs.Calls.{unfit}
use Rattle.rc.specs.Checks.{wrong_memory, no_rc}
use Rattle.rc.specs.Ends.{full_copy}
use Rattle.rc.specs.Worlds.{world}
use Rattle.rc.proofs.Chains.{stopped}
use Rattle.rc.proofs.census.Census.make_mut.Goals as goal

both : (b : Bool) (P Q : Type 0) → P → Q → MatchBool b P Q
both true P Q p q = p
both false P Q p q = q

pub returns-in_err-counts : goal.returns-in_err-counts
returns-in_err-counts g c =
    let r = err_from_is_err_and c.from_residual.result c.from_residual.ensures.1 in
    let w = world g.A.Allocator.meaning c.args.self.now in
    let t = c.args.rc.now.ticket in
    let p = t.place in
    let memory = c.args.memory.now in
    let admit = wrong_memory w memory ∷ no_rc w t ∷ [] in
    let d = c.in_err-counts.field-0.0 in
    let e = c.in_err-counts.ensures.0 in
    rw (r.1, r.2) (
    both (ltb 1 (at w.rows p).strong) _ _
    (stopped admit (full_copy g.E.Element.refs w memory p ∷ unfit w (at w.rows p).size ∷ []) d e, (refl, refl, refl))
    (both (ltb 1 (at w.rows p).weak) _ _ (stopped admit (unfit w (at w.rows p).size ∷ []) d e, (refl, refl, refl))
    (e, (refl, refl, refl)))
    )
