-- A loose handle that is held, used and made loose again at one place.
use Rattle.std.proofs.Common.{◌≡◌, ℕ, ◌-◌, ◌<◌, Bool, true, false, List, [], ◌∷◌, length, set, Some, None}
use Rattle.std.proofs.Common.{Ok, Err, Option, Result, sym, refl, ◌∙◌, subst, arith}
use Rattle.std.specs.Prelude.{IsOk}
use Rattle.std.proofs.lemmas.List.{get_or-set_same, set-set}
use Rattle.std.proofs.lemmas.Bool.Decides.{nat_tests}
use Rattle.cells.specs.Counts.{none, shared, is_cell, loose, has_loose, one_more, one_looser, one_held, with_loose_strong}
use Rattle.cells.specs.Rows.{at}
use Rattle.cells.specs.declared.row.Counts.{Counts}
use Rattle.cells.specs.declared.row.Shape.TheVariants.{Single}
use Rattle.disposal.specs.declared.store.Receipt.{Receipt}
use Rattle.element.specs.declared.reference.Reference.{Reference}
use Rattle.element.specs.declared.reference.Sort.{Sort}
use Rattle.element.specs.declared.reference.Sort.TheVariants.{Strong, Weak as WeakSort}
use Rattle.rc.specs.Admits.{AdmitsRc, AdmitsWeak}
use Rattle.rc.specs.Calls.{Made, RcFromRaw, Increment, WeakFromRaw, Downgrade, Upgrade, Upgraded, full_upgrade, held_at, held_strong}
use Rattle.rc.specs.Calls.{loosened_at, loosened_strong, loosened_weak}
use Rattle.rc.specs.Checks.{first, wrong_memory, no_handle, no_rc, no_weak, no_loose, no_loose_strong, no_loose_weak, past_memory}
use Rattle.rc.specs.Checks.{slice_cell}
use Rattle.rc.specs.Checks.{not_sole, full, full_strong, full_weak}
use Rattle.rc.specs.Ends.{Decrement, ReleasesWeak, TryUnwrap}
use Rattle.rc.specs.Housed.{housed_at, AllHoused}
use Rattle.rc.specs.Tickets.{ticket_of, place_of}
use Rattle.rc.specs.Worlds.{World, with_row}
use Rattle.rc.specs.declared.decline.Decline.{Decline}
use Rattle.rc.specs.declared.decline.Refused.{Refused}
use Rattle.rc.specs.Handles.{Rc, Weak}
use Rattle.rc.proofs.Admitted.{Admits, other, held_admitted, held_back, more_admitted, given_admitted, given_back, others_still}
use Rattle.rc.proofs.Admitted.{cell_within, row_back, row_again, row_here, in_row, unrefused}
use Rattle.rc.proofs.Chains.{past_two}
use Rattle.rc.proofs.Housed.{row_kept, spread, goes_kept, weak_kept, loose_homes}
use Rattle.drive.specs.Commands.{Downgrades, Upgrades, Unwraps, one_strong, one_weak}

-- each cell keeps its block where nothing changes
pub same_homes : (w v : World) → v ≡ w → AllHoused w → AllHoused v
same_homes w v e H = subst AllHoused (sym e) H

-- and where the counts of one cell change, and neither its state nor its size
pub kept_homes : (w v : World) (p : ℕ) (f : Counts → Counts)
    → (housed_at w.meaning.out p (at w.rows p) ≡ true → housed_at w.meaning.out p (f (at w.rows p)) ≡ true)
    → v ≡ with_row w p (f (at w.rows p)) → AllHoused w → AllHoused v
kept_homes w v p f same e H = row_kept w v p (f (at w.rows p)) H (same (spread w.rows w.meaning.out H p)) e

-- one strong handle more, or one less with what goes with it, whether or not it is declined
module _ {E : Type 0} (w : World) (memory : List E) (p : ℕ) (v : World) (H : AllHoused w) where
  pub incremented_homes : (r : Result (Unit {0}) Decline) → Increment w memory p r v → AllHoused v
  incremented_homes (Ok x) d = kept_homes w v p one_strong (λ h. h) d.1 H
  incremented_homes (Err why) d = same_homes w v d.1 H

  pub decremented_homes : (refs : E → List Reference) (list list' : List E) (r : Result Receipt Decline)
      → Decrement refs w memory list p r v list' → AllHoused v
  decremented_homes refs list list' (Ok t) d = goes_kept d.1 (kept_homes w (held_strong w p) p (one_held Strong) (λ h. h) refl H)
  decremented_homes refs list list' (Err why) d = same_homes w v d.1.0 H

-- what a loose handle of the sort at p says of its cell
record Stands {E : Type 0} (s : Sort) (w : World) (memory : List E) (p : ℕ) : Type 0 where
  pub fits : (wrong_memory w memory).0 ≡ false
  pub some : has_loose s (at w.rows p) ≡ true
  pub cell : is_cell (at w.rows p) ≡ true
  pub here : p < length w.rows

passed_both : {E : Type 0} (s : Sort) (w : World) (memory : List E) (p : ℕ) → first (wrong_memory w memory ∷ no_loose s w p ∷ []) ≡ 0
    → ((wrong_memory w memory).0 ≡ false) × (has_loose s (at w.rows p) ≡ true) × (is_cell (at w.rows p) ≡ true)
passed_both s w memory p e = grind arith

stands : {E : Type 0} (s : Sort) (w : World) (memory : List E) (p : ℕ) → first (wrong_memory w memory ∷ no_loose s w p ∷ []) ≡ 0
    → Stands s w memory p
stands s w memory p e =
    let h = passed_both s w memory p e in
    record { fits = h.0; some = h.1; cell = h.2; here = cell_within w.rows p h.2 }

strong_left : (k : Counts) → has_loose Strong k ≡ true → 0 < k.strong
strong_left k h = grind (arith, nat_tests)

-- A handle of the sort s at p, from the world w; u is the world in which it is held.
module _ {E : Type 0} (s : Sort) (w : World) (memory : List E) (p : ℕ) (u : World)
    (passed : first (wrong_memory w memory ∷ no_loose s w p ∷ []) ≡ 0) (is : u ≡ held_at s w p) where
  homes : AllHoused w → AllHoused u
  homes = kept_homes w u p (one_held s) (loose_homes w.meaning.out (λ t k. loose t k - 1) s p (at w.rows p)) is

  held : Admits s u memory (ticket_of w.number p)
  held =
      let h = stands s w memory p passed in
      in_row s w u memory p (one_held s (at w.rows p)) (ticket_of w.number p) h.fits h.here is refl (held_admitted s (at w.rows p) h.some)

  held_row : at u.rows p ≡ one_held s (at w.rows p)
  held_row = row_here w u p (one_held s (at w.rows p)) (stands s w memory p passed).here is

  -- the checks of a call with the handle are those of a call on the place
  again : (more more' : List (Bool × ℕ)) → first more ≡ first more'
      → first (wrong_memory w memory ∷ no_loose s w p ∷ more') ≡ first (wrong_memory u memory ∷ no_handle s u (ticket_of w.number p) ∷ more)
  again more more' e =
      past_two (wrong_memory w memory).0 (no_loose s w p).0 1 4 more' (omega arith) (omega arith) passed
      ∙ sym e ∙ sym (past_two (wrong_memory u memory).0 (no_handle s u (ticket_of w.number p)).0 1 3 more (omega arith) (omega arith)
      held)

  full_again : first (wrong_memory w memory ∷ no_loose s w p ∷ full (other s) w p ∷ [])
      ≡ first (wrong_memory u memory ∷ no_handle s u (ticket_of w.number p) ∷ full (other s) u p ∷ [])
  full_again = again (full (other s) u p ∷ []) (full (other s) w p ∷ []) (rw (held_row, others_still s (at w.rows p)) refl)

  -- made loose with no change, it is as before
  back : (v : World) → v ≡ loosened_at s u p → v ≡ w
  back v e =
      let h = stands s w memory p passed in
      row_again w u v p (one_held s (at w.rows p)) (one_looser s) h.here is e
      ∙ rw (held_back s (at w.rows p) h.some) (row_back w p)

  -- One of the other sort is given, in the world a. The first is made loose, in the world b, and then the other, in the world v.
  module _ (alive : 0 < (at w.rows p).strong) (a : World) (more : a ≡ with_row u p (one_more (other s) (at u.rows p))) where
    given_is : a ≡ with_row w p (one_more (other s) (one_held s (at w.rows p)))
    given_is = row_again w u a p (one_held s (at w.rows p)) (one_more (other s)) (stands s w memory p passed).here is more

    stays : Admits s a memory (ticket_of w.number p)
    stays =
        let h = stands s w memory p passed in
        in_row s w a memory p (one_more (other s) (one_held s (at w.rows p))) (ticket_of w.number p) h.fits h.here given_is refl
        (given_admitted s (at w.rows p) h.some alive)

    module _ (b : World) (loosed : b ≡ loosened_at s a p) where
      loosed_is : b ≡ with_row w p (one_more (other s) (at w.rows p))
      loosed_is =
          let h = stands s w memory p passed in
          row_again w a b p (one_more (other s) (one_held s (at w.rows p))) (one_looser s) h.here given_is loosed
          ∙ rw (given_back s (at w.rows p) h.some) refl

      other_stays : Admits (other s) b memory (ticket_of w.number p)
      other_stays =
          let h = stands s w memory p passed in
          in_row (other s) w b memory p (one_more (other s) (at w.rows p)) (ticket_of w.number p) h.fits h.here loosed_is refl
          (more_admitted (other s) (at w.rows p) h.cell alive)

      both : (v : World) → v ≡ loosened_at (other s) b p → v ≡ with_row w p (one_looser (other s) (one_more (other s) (at w.rows p)))
      both v e = row_again w b v p (one_more (other s) (at w.rows p)) (one_looser (other s)) (stands s w memory p passed).here loosed_is e

-- A strong one, with its Rc
module _ {E : Type 0} (w : World) (memory : List E) (p : ℕ) (rc : Rc) (u : World) (told : RcFromRaw w memory p (Ok rc) u) where
  pub at_place : rc.ticket.place ≡ p
  at_place = rw told.1.0.0 refl

  pub held_homes : AllHoused w → AllHoused u
  held_homes = homes Strong w memory p u told.0 told.1.1

  pub rc_held : AdmitsRc u memory rc.ticket
  rc_held = rw told.1.0.0 (held Strong w memory p u told.0 told.1.1)

  pub checked_again : (more more' : List (Bool × ℕ)) → first more ≡ first more'
      → first (wrong_memory w memory ∷ no_loose_strong w p ∷ more') ≡ first (wrong_memory u memory ∷ no_rc u rc.ticket ∷ more)
  checked_again more more' e = rw told.1.0.0 (again Strong w memory p u told.0 told.1.1 more more' e)

  pub rc_back : (v : World) → v ≡ loosened_strong u rc.ticket.place → v ≡ w
  rc_back v e = back Strong w memory p u told.0 told.1.1 v (rw told.1.0.0 at e)

  alive : 0 < (at w.rows p).strong
  alive = strong_left (at w.rows p) (stands Strong w memory p told.0).some

  -- A Weak is asked for, in the world a, and the Rc is made loose, in the world b.
  module _ (a : World) where
    pub rc_stays : (r : Result Weak Decline) → Downgrade u memory rc.ticket r a → AdmitsRc a memory rc.ticket
    rc_stays (Ok weak) d =
        let more = rw told.1.0.0 at d.1.1 in
        rw told.1.0.0 (stays Strong w memory p u told.0 told.1.1 alive a more)
    rc_stays (Err why) d = rw d.1 rc_held

    weak_checks : first (wrong_memory w memory ∷ no_loose_strong w p ∷ full_weak w p ∷ [])
        ≡ first (wrong_memory u memory ∷ no_rc u rc.ticket ∷ full_weak u rc.ticket.place ∷ [])
    weak_checks = rw told.1.0.0 (full_again Strong w memory p u told.0 told.1.1)

    module _ (b : World) (loosed : b ≡ loosened_strong a rc.ticket.place) where
      pub not_downgraded : (why : Decline) → Downgrade u memory rc.ticket (Err why) a → Downgrades w memory p (Err why) b
      not_downgraded why d = (weak_checks ∙ d.0, rc_back b (rw d.1 at loosed))

      module _ (weak : Weak) (d : Downgrade u memory rc.ticket (Ok weak) a) where
        called_is : weak.ticket ≡ Some (ticket_of w.number p)
        called_is = rw (told.1.0.0, told.1.1) at d.1.0.0

        pub weak_stays : AdmitsWeak b memory weak.ticket
        weak_stays =
            let more = rw told.1.0.0 at d.1.1 in
            rw called_is (other_stays Strong w memory p u told.0 told.1.1 alive a more b (rw told.1.0.0 at loosed))

        pub both_loose : (v : World) → v ≡ loosened_weak b (place_of weak.ticket) → v ≡ with_row w p (one_weak (at w.rows p))
        both_loose v e =
            let more = rw told.1.0.0 at d.1.1 in
            both Strong w memory p u told.0 told.1.1 alive a more b (rw told.1.0.0 at loosed) v (rw called_is at e)

        pub downgraded : (v : World) → v ≡ loosened_weak b (place_of weak.ticket)
            → Downgrades w memory p (Ok (record { value = Some p; place = p })) v
        downgraded v e = (weak_checks ∙ d.0, ((refl, refl), both_loose v e))

  -- The element is asked for, in the world a.
  module _ (refs : E → List Reference) (a : World) where
    sole_checks : first (wrong_memory w memory ∷ no_loose_strong w p ∷ past_memory memory p ∷ slice_cell w p ∷ not_sole w p ∷ [])
        ≡ first (wrong_memory u memory ∷ no_rc u rc.ticket ∷ past_memory memory rc.ticket.place ∷ slice_cell u rc.ticket.place
        ∷ not_sole u rc.ticket.place ∷ [])
    sole_checks =
        checked_again (past_memory memory rc.ticket.place ∷ slice_cell u rc.ticket.place ∷ not_sole u rc.ticket.place ∷ [])
        (past_memory memory p ∷ slice_cell w p ∷ not_sole w p ∷ [])
        (rw (told.1.0.0, held_row Strong w memory p u told.0 told.1.1) refl)

    pub unwrapped : (number : E → ℕ) (x : E) → TryUnwrap refs u memory rc (Ok x) a
        → Unwraps refs number w memory p (Ok (record { value = Some (number x); place = p })) a
    unwrapped number x d = (sole_checks ∙ d.0, (x, (refl, refl), rw (told.1.0.0, told.1.1) at d.1))

    module _ (back : Refused Rc) (d : TryUnwrap refs u memory rc (Err back) a) where
      pub handle_stays : AdmitsRc a memory back.handle.ticket
      handle_stays = rw (d.2, d.1) rc_held

      pub handle_back : (v : World) → v ≡ loosened_strong a back.handle.ticket.place → v ≡ w
      handle_back v e = rc_back v (rw (d.2, d.1) at e)

      pub not_unwrapped : (number : E → ℕ) (v : World) → v ≡ loosened_strong a back.handle.ticket.place
          → Unwraps refs number w memory p (Err back.why) v
      not_unwrapped number v e = (sole_checks ∙ d.0, handle_back v e)

-- A weak one, with its Weak
module _ {E : Type 0} (w : World) (memory : List E) (p : ℕ) (weak : Weak) (u : World)
    (told : WeakFromRaw w memory (Some p) (Ok weak) u) where
  weak_held : AdmitsWeak u memory weak.ticket
  weak_held = rw told.1.0.0 (held WeakSort w memory p u told.0 told.1.1)

  pub weak_released : (r : Result Receipt (Refused Weak)) (v : World) → ReleasesWeak u memory weak r v → IsOk r
  weak_released (Ok t) v d = refl
  weak_released (Err back) v d = absurd (unrefused (first (wrong_memory u memory ∷ no_weak u weak.ticket ∷ [])) back.why weak_held d.0)

  pub homes_left : AllHoused w → (r : Result Receipt (Refused Weak)) (v : World) → ReleasesWeak u memory weak r v → AllHoused v
  homes_left H (Ok t) v d =
      let goes = rw told.1.0.0 at d.1 in
      weak_kept u v p t (homes WeakSort w memory p u told.0 told.1.1 H) goes.1
  homes_left H (Err back) v d = same_homes u v d.2 (homes WeakSort w memory p u told.0 told.1.1 H)

  full_checks : first (wrong_memory w memory ∷ no_loose_weak w (Some p) ∷ full_strong w p ∷ [])
      ≡ first (wrong_memory u memory ∷ no_weak u weak.ticket ∷ full_upgrade u weak.ticket ∷ [])
  full_checks = rw told.1.0.0 (full_again WeakSort w memory p u told.0 told.1.1)

  -- An Rc is asked for, in the world a, and the Weak is made loose, in the world b.
  module _ (a : World) where
    none_given : Upgraded u weak.ticket None a → ((at w.rows p).strong ≡ 0) × (a ≡ u)
    none_given e =
        let n = rw told.1.0.0 at e in
        let none : (at u.rows p).strong ≡ 0 = n.0 in
        (rw (held_row WeakSort w memory p u told.0 told.1.1) at none, n.1)

    given : (rc : Rc) → Upgraded u weak.ticket (Some rc) a → Upgraded u (Some (ticket_of w.number p)) (Some rc) a
    given rc e = rw told.1.0.0 at e

    alive_still : (rc : Rc) → Upgraded u weak.ticket (Some rc) a → 0 < (at w.rows p).strong
    alive_still rc e = rw (held_row WeakSort w memory p u told.0 told.1.1) at (given rc e).0

    pub weak_still : (r : Result (Option Rc) Decline) → Upgrade u memory weak.ticket r a → AdmitsWeak a memory weak.ticket
    weak_still (Ok (Some rc)) d = rw told.1.0.0 (stays WeakSort w memory p u told.0 told.1.1 (alive_still rc d.1) a (given rc d.1).2)
    weak_still (Ok None) d = rw (none_given d.1).1 weak_held
    weak_still (Err why) d = rw d.1 weak_held

    module _ (b : World) (loosed : b ≡ loosened_weak a (place_of weak.ticket)) where
      as_before : a ≡ u → b ≡ w
      as_before e = back WeakSort w memory p u told.0 told.1.1 b (rw (e, told.1.0.0) at loosed)

      pub not_upgraded : (why : Decline) → Upgrade u memory weak.ticket (Err why) a → Upgrades w memory p (Err why) b
      not_upgraded why d = (full_checks ∙ d.0, as_before d.1)

      pub none_upgraded : Upgrade u memory weak.ticket (Ok None) a → Upgrades w memory p (Ok (record { value = None; place = p })) b
      none_upgraded d = let n = none_given d.1 in (full_checks ∙ d.0, (refl, (n.0, as_before n.1)))

      module _ (rc : Rc) (d : Upgrade u memory weak.ticket (Ok (Some rc)) a) where
        ticket_is : rc.ticket ≡ ticket_of w.number p
        ticket_is = rw told.1.1 at (given rc d.1).1.0

        pub rc_given : AdmitsRc b memory rc.ticket
        rc_given =
            let loose = rw told.1.0.0 at loosed in
            rw ticket_is (other_stays WeakSort w memory p u told.0 told.1.1 (alive_still rc d.1) a (given rc d.1).2 b loose)

        pub both_settled : (v : World) → v ≡ loosened_strong b rc.ticket.place → v ≡ with_row w p (one_strong (at w.rows p))
        both_settled v e =
            let loose = rw told.1.0.0 at loosed in
            both WeakSort w memory p u told.0 told.1.1 (alive_still rc d.1) a (given rc d.1).2 b loose v (rw ticket_is at e)

        pub upgraded : (v : World) → v ≡ loosened_strong b rc.ticket.place
            → Upgrades w memory p (Ok (record { value = Some p; place = p })) v
        upgraded v e = (full_checks ∙ d.0, (refl, (alive_still rc d.1, refl, both_settled v e)))

-- a new cell whose one strong handle is made loose
pub made_loose : (w u v : World) (rows : List Counts) (q : ℕ) → Made w 1 rows (shared Single 1 1) q u → q < length rows
    → v ≡ loosened_strong u q → Made w 1 rows (with_loose_strong (shared Single 1 1) 1) q v
made_loose w u v rows q made l e =
    let new = shared Single 1 1 in
    let number : v.number ≡ u.number = rw e refl in
    let meaning : v.meaning ≡ u.meaning = rw e refl in
    let table : v.rows ≡ set u.rows q (one_looser Strong (at u.rows q)) = rw e refl in
    record {
      block = rw meaning made.block;
      number = number ∙ made.number;
      table = table ∙ rw (made.table, get_or-set_same rows q new none l, set-set rows q new (one_looser Strong new)) refl;
    }
