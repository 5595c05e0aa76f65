-- Handles that the census has just given or kept are admitted.
use Rattle.std.proofs.Common.{◌≡◌, ℕ, ◌<◌, false, true, List, [], ◌∷◌, length, refl, arith}
use Rattle.std.proofs.lemmas.List.{get_or-set_same, get_or_past, set-set, set-get_or}
use Rattle.std.proofs.lemmas.Bool.Decides.{nat_tests}
use Rattle.cells.specs.Counts.{none, is_cell, handles, admits, has_loose, one_more, one_looser, one_held}
use Rattle.cells.specs.Rows.{at}
use Rattle.cells.specs.declared.row.Counts.{Counts}
use Rattle.element.specs.declared.reference.Sort.{Sort}
use Rattle.element.specs.declared.reference.Sort.TheVariants.{Strong, Weak}
use Rattle.rc.specs.Checks.{first, wrong_memory, no_handle}
use Rattle.rc.specs.Declines.{number_of}
use Rattle.rc.specs.Tickets.{ticket_of}
use Rattle.rc.specs.Worlds.{World, with_row}
use Rattle.rc.specs.declared.decline.Decline.{Decline}
use Rattle.rc.specs.declared.handle.Ticket.{Ticket}
use Rattle.rc.proofs.Chains.{numbered}
use Rattle.references.proofs.Copying.{owns_still}

-- Counts

-- a loose handle that is held is admitted
pub held_admitted : (s : Sort) (k : Counts) → has_loose s k ≡ true → admits s (one_held s k) ≡ true
held_admitted Strong k h = grind (arith, nat_tests)
held_admitted Weak k h = grind (arith, nat_tests)

-- and made loose again it is as before
pub held_back : (s : Sort) (k : Counts) → has_loose s k ≡ true → one_looser s (one_held s k) ≡ k
held_back Strong k h = grind (arith, nat_tests)
held_back Weak k h = grind (arith, nat_tests)

abbrev pub other : Sort → Sort
other Strong = Weak
other Weak = Strong

-- while a strong handle is left, one handle more is admitted
pub more_admitted : (s : Sort) (k : Counts) → is_cell k ≡ true → 0 < k.strong → admits s (one_more s k) ≡ true
more_admitted Strong k h l = grind (arith, nat_tests, owns_still k.state k.strong l)
more_admitted Weak k h l = grind (arith, nat_tests)

-- and one of the other sort leaves a held handle admitted
pub given_admitted : (s : Sort) (k : Counts) → has_loose s k ≡ true → 0 < k.strong → admits s (one_more (other s) (one_held s k)) ≡ true
given_admitted Strong k h l = grind (arith, nat_tests)
given_admitted Weak k h l = grind (arith, nat_tests, owns_still k.state k.strong l)

pub given_back : (s : Sort) (k : Counts) → has_loose s k ≡ true → one_looser s (one_more (other s) (one_held s k)) ≡ one_more (other s) k
given_back Strong k h = grind (arith, nat_tests)
given_back Weak k h = grind (arith, nat_tests)

-- a handle of one sort made loose leaves those of the other
pub loosened_admitted : (s : Sort) (k : Counts) → admits s k ≡ true → admits (other s) k ≡ true → admits (other s) (one_looser s k) ≡ true
loosened_admitted Strong k h l = grind (arith, nat_tests)
loosened_admitted Weak k h l = grind (arith, nat_tests)

pub others_still : (s : Sort) (k : Counts) → handles (other s) (one_held s k) ≡ handles (other s) k
others_still Strong k = refl
others_still Weak k = refl

-- Places

pub cell_within : (rows : List Counts) (p : ℕ) → is_cell (at rows p) ≡ true → p < length rows
cell_within rows p h = grind (arith, get_or_past rows p none)

pub row_back : (w : World) (p : ℕ) → with_row w p (at w.rows p) ≡ w
row_back w p = rw (set-get_or w.rows p none) refl

-- a change at p after a change at p
pub row_again : (w u v : World) (p : ℕ) (k : Counts) (f : Counts → Counts) → p < length w.rows
    → u ≡ with_row w p k → v ≡ with_row u p (f (at u.rows p)) → v ≡ with_row w p (f k)
row_again w u v p k f l e e' = rw (e', e, get_or-set_same w.rows p k none l, set-set w.rows p k (f k)) refl

pub row_here : (w u : World) (p : ℕ) (k : Counts) → p < length w.rows → u ≡ with_row w p k → at u.rows p ≡ k
row_here w u p k l e = rw (e, get_or-set_same w.rows p k none l) refl

-- Handles

abbrev pub Admits : {E : Type 0} → Sort → World → List E → Ticket → Type 0
Admits s w memory t = first (wrong_memory w memory ∷ no_handle s w t ∷ []) ≡ 0

-- an admitted handle is not refused
pub unrefused : (n : ℕ) (d : Decline) → n ≡ 0 → n ≡ number_of d → ⊥
unrefused n d e e' = let h = numbered d in omega arith

pub handle_admitted : {E : Type 0} (s : Sort) (w : World) (memory : List E) (t : Ticket) → (wrong_memory w memory).0 ≡ false
    → t.census ≡ w.number → admits s (at w.rows t.place) ≡ true → Admits s w memory t
handle_admitted s w memory t m n a = grind (arith, nat_tests)

-- a handle of the cell whose counts at p are k
pub in_row : {E : Type 0} (s : Sort) (w u : World) (memory : List E) (p : ℕ) (k : Counts) (t : Ticket) → (wrong_memory w memory).0 ≡ false
    → p < length w.rows → u ≡ with_row w p k → t ≡ ticket_of w.number p → admits s k ≡ true → Admits s u memory t
in_row s w u memory p k t m l e i a =
    rw (e, i) (handle_admitted s (with_row w p k) memory (ticket_of w.number p) m refl (rw (get_or-set_same w.rows p k none l) a))
