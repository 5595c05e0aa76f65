-- What `make_mut` answers of a held handle, by cases, and that the handle is admitted after it.
use Rattle.std.proofs.Common.{◌≡◌, ℕ, Bool, true, false, cond, ltb, List, [], ◌∷◌, Some, Ok, Err, MatchBool, Result, sym, refl, ap, ◌∙◌}
use Rattle.std.proofs.Common.{arith}
use Rattle.std.proofs.lemmas.Bool.{and_parts}
use Rattle.cells.specs.Counts.{is_cell}
use Rattle.cells.specs.Rows.{at}
use Rattle.element.specs.declared.reference.Reference.{Reference}
use Rattle.element.specs.declared.reference.Sort.TheVariants.{Strong}
use Rattle.rc.specs.Admits.{AdmitsRc}
use Rattle.rc.specs.Calls.{RcFromRaw, held_strong, loosened_strong, unfit}
use Rattle.rc.specs.Checks.{Answers, first, wrong_memory, no_rc, no_loose_strong}
use Rattle.rc.specs.Declines.{number_of}
use Rattle.rc.specs.Ends.{Copied, Moved, MovedTo, MakeMut, full_copy}
use Rattle.rc.specs.Housed.{AllHoused}
use Rattle.rc.specs.Worlds.{World}
use Rattle.rc.specs.declared.decline.Decline.{Decline}
use Rattle.rc.specs.Handles.{Rc}
use Rattle.rc.specs.declared.handle.Ticket.{Ticket}
use Rattle.rc.proofs.Admitted.{handle_admitted}
use Rattle.rc.proofs.Chains.{handle_stands}
use Rattle.rc.proofs.Fresh.{Ready, Fresh, copied_fresh, moved_fresh}
use Rattle.rc.proofs.Housed.{gathered}
use Rattle.drive.specs.Commands.{own_checks, Owns, MakesOwn}
use Rattle.drive.proofs.Held.{checked_again, rc_back}

-- the three ways, as one list of checks
abbrev ways : Bool → Bool → Bool × ℕ → Bool × ℕ → List (Bool × ℕ)
ways a b f n = cond a (f ∷ n ∷ []) (cond b (n ∷ []) [])

abbrev Ways : Bool → Bool → (c d f n : Bool × ℕ) → Result (Unit {0}) Decline → (X Y Z D : Type 0) → Type 0
Ways a b c d f n r X Y Z D =
    MatchBool a (Answers (c ∷ d ∷ f ∷ n ∷ []) r (λ _. X) D)
    (MatchBool b (Answers (c ∷ d ∷ n ∷ []) r (λ _. Y) D) (Answers (c ∷ d ∷ []) r (λ _. Z) D))

ways_declined : (a b : Bool) (c d f n : Bool × ℕ) (why : Decline) (X Y Z D : Type 0) → Ways a b c d f n (Err why) X Y Z D
    → (first (c ∷ d ∷ ways a b f n) ≡ number_of why) × D
ways_declined a b c d f n why X Y Z D h = grind arith

ways_accepted : (a b : Bool) (c d f n : Bool × ℕ) (x : Unit {0}) (X Y Z D : Type 0) → Ways a b c d f n (Ok x) X Y Z D
    → (first (c ∷ d ∷ ways a b f n) ≡ 0) × MatchBool a X (MatchBool b Y Z)
ways_accepted a b c d f n x X Y Z D h = grind arith

each_way : (a b : Bool) (X Y Z X' Y' Z' : Type 0) → (X → X') → (Y → Y') → (Z → Z') → MatchBool a X (MatchBool b Y Z)
    → MatchBool a X' (MatchBool b Y' Z')
each_way true b X Y Z X' Y' Z' f g h x = f x
each_way false true X Y Z X' Y' Z' f g h x = g x
each_way false false X Y Z X' Y' Z' f g h x = h x

one_way : (a b : Bool) (X Y Z P : Type 0) → (X → P) → (Y → P) → (Z → P) → MatchBool a X (MatchBool b Y Z) → P
one_way true b X Y Z P f g h x = f x
one_way false true X Y Z P f g h x = g x
one_way false false X Y Z P f g h x = h x

module _ {E : Type 0} (refs : E → List Reference) (w : World) (memory : List E) (rc : Rc) (v : World) (memory' : List E) (rc' : Rc) where
  -- the ways: a copy, a move, or the same cell
  abbrev Copy : Type 0
  Copy = MovedTo w rc rc' × Copied refs w memory rc.ticket.place rc'.ticket.place v memory'

  abbrev Move : Type 0
  Move = MovedTo w rc rc' × Moved w memory rc.ticket.place rc'.ticket.place v memory'

  abbrev Same : Type 0
  Same = (v ≡ w) × (memory' ≡ memory) × (rc' ≡ rc)

  abbrev Done : Type 0
  Done = MatchBool (ltb 1 (at w.rows rc.ticket.place).strong) Copy (MatchBool (ltb 1 (at w.rows rc.ticket.place).weak) Move Same)

  declined : (why : Decline) → MakeMut refs w memory rc (Err why) v memory' rc'
      → (first (wrong_memory w memory ∷ no_rc w rc.ticket ∷ own_checks refs w memory rc.ticket.place) ≡ number_of why) × Same
  declined why h =
      let p = rc.ticket.place in
      let k = at w.rows p in
      ways_declined (ltb 1 k.strong) (ltb 1 k.weak) (wrong_memory w memory) (no_rc w rc.ticket) (full_copy refs w memory p)
      (unfit w k.size) why Copy Move Same Same h

  accepted : (x : Unit {0}) → MakeMut refs w memory rc (Ok x) v memory' rc'
      → (first (wrong_memory w memory ∷ no_rc w rc.ticket ∷ own_checks refs w memory rc.ticket.place) ≡ 0) × Done
  accepted x h =
      let p = rc.ticket.place in
      let k = at w.rows p in
      ways_accepted (ltb 1 k.strong) (ltb 1 k.weak) (wrong_memory w memory) (no_rc w rc.ticket) (full_copy refs w memory p)
      (unfit w k.size) x Copy Move Same Same h

  owns : Done → Owns refs w memory rc.ticket.place rc'.ticket.place v memory'
  owns d =
      let k = at w.rows rc.ticket.place in
      each_way (ltb 1 k.strong) (ltb 1 k.weak) Copy Move Same _ _ _
      (λ x. x.1) (λ x. x.1) (λ x. (ap (λ (z : Rc). z.ticket.place) x.2, x.0, x.1)) d

  -- the handle after the call is admitted, and each cell keeps its block
  abbrev pub Kept : Type 0
  Kept = AdmitsRc v memory' rc'.ticket × AllHoused v

  same_kept : AllHoused w → AdmitsRc w memory rc.ticket → Same → Kept
  same_kept h a x = (
    rw (x.0, x.1, x.2) a,
    rw x.0 h,
  )

  from_fresh : MovedTo w rc rc' → Fresh w v memory' rc'.ticket.place → Kept
  from_fresh to f = (
    handle_admitted Strong v memory' rc'.ticket f.fits (ap (λ (t : Ticket). t.census) to.0 ∙ sym f.number) f.strong,
    gathered v.rows v.meaning.out f.homes,
  )

  kept : Ready w → AllHoused w → AdmitsRc w memory rc.ticket → Done → Kept
  kept can H adm d =
      let p = rc.ticket.place in
      let q = rc'.ticket.place in
      let k = at w.rows p in
      let s = handle_stands Strong w memory rc.ticket adm in
      let cell = (and_parts (is_cell k) _ s.admitted).0 in
      one_way (ltb 1 k.strong) (ltb 1 k.weak) Copy Move Same Kept
      (λ x. from_fresh x.0 (copied_fresh w memory memory' p q v can cell s.memory_fits refs x.1))
      (λ x. from_fresh x.0 (moved_fresh w memory memory' p q v can cell s.memory_fits x.1))
      (same_kept H adm)
      d

  pub rc_kept : Ready w → AllHoused w → AdmitsRc w memory rc.ticket → (r : Result (Unit {0}) Decline)
      → MakeMut refs w memory rc r v memory' rc' → Kept
  rc_kept can H adm (Ok x) h = kept can H adm (accepted x h).1
  rc_kept can H adm (Err why) h = same_kept H adm (declined why h).1

-- A strong handle at p is held in the world u, gets a cell of its own in the world a, and is loose again in the world b.
module _ {E : Type 0} (refs : E → List Reference) (w : World) (memory : List E) (p : ℕ) (rc : Rc) (u : World)
    (told : RcFromRaw w memory p (Ok rc) u)
    (a : World) (memory' : List E) (rc' : Rc) (b : World) (loosed : b ≡ loosened_strong a rc'.ticket.place) where
  own_checks_again : first (wrong_memory w memory ∷ no_loose_strong w p ∷ own_checks refs (held_strong w p) memory p)
      ≡ first (wrong_memory u memory ∷ no_rc u rc.ticket ∷ own_checks refs u memory rc.ticket.place)
  own_checks_again =
      checked_again w memory p rc u told (own_checks refs u memory rc.ticket.place) (own_checks refs (held_strong w p) memory p)
      (rw (told.1.0.0, told.1.1) refl)

  pub not_owned : (why : Decline) → MakeMut refs u memory rc (Err why) a memory' rc' → MakesOwn refs w memory p (Err why) b memory'
  not_owned why h =
      let back = declined refs u memory rc a memory' rc' why h in
      (own_checks_again ∙ back.0, (rc_back w memory p rc u told b (rw (back.1.0, back.1.2) at loosed), back.1.1))

  pub owned : (x : Unit {0}) → MakeMut refs u memory rc (Ok x) a memory' rc'
      → MakesOwn refs w memory p (Ok (record { value = Some rc'.ticket.place; place = rc'.ticket.place })) b memory'
  owned x h =
      let q = rc'.ticket.place in
      let done = accepted refs u memory rc a memory' rc' x h in
      let here = owns refs u memory rc a memory' rc' done.1 in
      (own_checks_again ∙ done.0, ((refl, refl), (a, rw (told.1.0.0, told.1.1) at here, loosed)))
