-- What each call answers, and the world that it leaves.
use Rattle.std.specs.Prelude.{◌≡◌, ℕ, ◌-◌, ◌<◌, Bool, false, cond, not, List, [], ◌∷◌, take, drop, Some, None, Ok, Err, Option, Result, nat_lt, slice_set}
use Rattle.std.specs.Borrow.{Bor}
use Rattle.blocks.specs.Meaning.{HandsOut}
use Rattle.cells.specs.Counts.{shared, one_more, one_looser, one_held}
use Rattle.cells.specs.Rows.{at}
use Rattle.cells.specs.declared.row.Counts.{Counts}
use Rattle.cells.specs.declared.row.Shape.TheVariants.{Single}
use Rattle.element.specs.declared.reference.Reference.{Reference}
use Rattle.element.specs.declared.reference.Sort.{Sort}
use Rattle.element.specs.declared.reference.Sort.TheVariants as sort
use Rattle.rc.specs.declared.decline.Decline.{Decline}
use Rattle.rc.specs.declared.decline.Refused.{Refused}
use Rattle.rc.specs.Handles.{Rc, Weak}
use Rattle.rc.specs.declared.handle.Ticket.{Ticket}
use Rattle.rc.specs.Checks.{Answers, Spends, wrong_memory, no_rc, no_weak, no_loose_strong, no_loose_weak, no_strong, full_strong, full_weak}
use Rattle.rc.specs.Declines.{number_of}
use Rattle.references.specs.References.{some_lacking, each, held}
use Rattle.rc.specs.Tickets.{place_of, ticket_of, weak_at}
use Rattle.rc.specs.Worlds.{World, with_row}

-- Counts

abbrev pub RcCount : {E : Type 0} → (Counts → ℕ) → World → List E → Ticket → Result ℕ Decline → Type 0
RcCount f w memory t r = Answers (wrong_memory w memory ∷ no_rc w t ∷ []) r (λ n. n ≡ f (at w.rows t.place)) (Unit {0})

-- an empty `Weak` counts nothing
abbrev pub weak_counts : (Counts → ℕ) → World → Option Ticket → ℕ
weak_counts f w None = 0
weak_counts f w (Some t) = f (at w.rows t.place)

abbrev pub WeakCount : {E : Type 0} → (Counts → ℕ) → World → List E → Option Ticket → Result ℕ Decline → Type 0
WeakCount f w memory t r = Answers (wrong_memory w memory ∷ no_weak w t ∷ []) r (λ n. n ≡ weak_counts f w t) (Unit {0})

-- the weak handles that are not the owner's
abbrev pub others : Counts → ℕ
others k = k.weak - 1

-- the same, and none once no strong handle is left
abbrev pub others_alive : Counts → ℕ
others_alive k = cond (nat_lt 0 k.strong) (k.weak - 1) 0

-- Handles given

abbrev pub IsRc : World → ℕ → Rc → Type 0
IsRc w p rc = (rc.ticket ≡ ticket_of w.number p) × (rc.spent ≡ false)

abbrev pub IsWeak : World → Option ℕ → Weak → Type 0
IsWeak w p weak = (weak.ticket ≡ weak_at w.number p) × (weak.spent ≡ false)

-- Raw and back

-- a handle of the sort at p becomes loose, and a loose one is held again
abbrev pub loosened_at : Sort → World → ℕ → World
loosened_at s w p = with_row w p (one_looser s (at w.rows p))

abbrev pub held_at : Sort → World → ℕ → World
held_at s w p = with_row w p (one_held s (at w.rows p))

abbrev pub loosened_strong : World → ℕ → World
loosened_strong w p = loosened_at sort.Strong w p

abbrev pub held_strong : World → ℕ → World
held_strong w p = held_at sort.Strong w p

abbrev pub loosened_weak : World → Option ℕ → World
loosened_weak w None = w
loosened_weak w (Some p) = loosened_at sort.Weak w p

abbrev pub held_weak : World → Option ℕ → World
held_weak w None = w
held_weak w (Some p) = held_at sort.Weak w p

abbrev pub RcIntoRaw : {E : Type 0} → World → List E → Rc → Result ℕ (Refused Rc) → World → Type 0
RcIntoRaw w memory rc r v =
    Spends rc (wrong_memory w memory ∷ no_rc w rc.ticket ∷ []) r
    (λ p. (p ≡ rc.ticket.place) × (v ≡ loosened_strong w rc.ticket.place))
    (v ≡ w)

abbrev pub RcFromRaw : {E : Type 0} → World → List E → ℕ → Result Rc Decline → World → Type 0
RcFromRaw w memory p r v =
    Answers (wrong_memory w memory ∷ no_loose_strong w p ∷ []) r
    (λ rc. IsRc w p rc × (v ≡ held_strong w p))
    (v ≡ w)

abbrev pub WeakIntoRaw : {E : Type 0} → World → List E → Weak → Result (Option ℕ) (Refused Weak) → World → Type 0
WeakIntoRaw w memory weak r v =
    Spends weak (wrong_memory w memory ∷ no_weak w weak.ticket ∷ []) r
    (λ p. (p ≡ place_of weak.ticket) × (v ≡ loosened_weak w (place_of weak.ticket)))
    (v ≡ w)

abbrev pub WeakFromRaw : {E : Type 0} → World → List E → Option ℕ → Result Weak Decline → World → Type 0
WeakFromRaw w memory p r v =
    Answers (wrong_memory w memory ∷ no_loose_weak w p ∷ []) r
    (λ weak. IsWeak w p weak × (v ≡ held_weak w p))
    (v ≡ w)

-- one strong handle more, loose
abbrev pub Increment : {E : Type 0} → World → List E → ℕ → Result (Unit {0}) Decline → World → Type 0
Increment w memory p r v =
    Answers (wrong_memory w memory ∷ no_strong w p ∷ full_strong w p ∷ []) r
    (λ _. v ≡ with_row w p (one_looser sort.Strong (one_more sort.Strong (at w.rows p))))
    (v ≡ w)

-- Sharing

abbrev pub Downgrade : {E : Type 0} → World → List E → Ticket → Result Weak Decline → World → Type 0
Downgrade w memory t r v =
    Answers (wrong_memory w memory ∷ no_rc w t ∷ full_weak w t.place ∷ []) r
    (λ weak. IsWeak w (Some t.place) weak × (v ≡ with_row w t.place (one_more sort.Weak (at w.rows t.place))))
    (v ≡ w)

-- the strong handles of the cell that a `Weak` is of; none for an empty one
abbrev pub full_upgrade : World → Option Ticket → Bool × ℕ
full_upgrade w None = (false, 9)
full_upgrade w (Some t) = full_strong w t.place

-- an `Rc` exactly when a strong handle is left
abbrev pub Upgraded : World → Option Ticket → Option Rc → World → Type 0
Upgraded w t None v = (weak_counts (λ k. k.strong) w t ≡ 0) × (v ≡ w)
Upgraded w None (Some rc) v = ⊥
Upgraded w (Some t) (Some rc) v =
    (0 < (at w.rows t.place).strong) × IsRc w t.place rc × (v ≡ with_row w t.place (one_more sort.Strong (at w.rows t.place)))

abbrev pub Upgrade : {E : Type 0} → World → List E → Option Ticket → Result (Option Rc) Decline → World → Type 0
Upgrade w memory t r v =
    Answers (wrong_memory w memory ∷ no_weak w t ∷ full_upgrade w t ∷ []) r (λ o. Upgraded w t o v) (v ≡ w)

-- Looking

abbrev pub Look : {E : Type 0} → World → List E → Ticket → Result (Bor (List E)) Decline → Type 0
Look w memory t r =
    Answers (wrong_memory w memory ∷ no_rc w t ∷ []) r (λ s. s.now ≡ take (at w.rows t.place).standing (drop t.place memory)) (Unit {0})

-- Making cells

-- 7: an element names a reference more often than loose ones stand
abbrev pub lacking_references : World → List Reference → Bool × ℕ
lacking_references w rs = (some_lacking w.rows rs rs, 7)

-- 10: the length does not fit
abbrev pub unfit : World → ℕ → Bool × ℕ
unfit w n = (not (w.meaning.fits w.meaning.out n), 10)

-- the allocator is asked for a block of n; nothing else changes
abbrev pub Allocated : World → ℕ → Result ℕ Decline → World → Type 0
Allocated w n (Ok at) v = HandsOut w.meaning n at v.meaning × (v.number ≡ w.number) × (v.rows ≡ w.rows)
Allocated w n (Err why) v = (number_of why ≡ 10) × (w.meaning.fits w.meaning.out n ≡ false) × (v ≡ w)

-- a new cell at the place of `rc`, with these counts, over rows that are left otherwise
pub record Made (w : World) (n : ℕ) (rows : List Counts) (k : Counts) (p : ℕ) (v : World) : Type 0 where
  pub block : HandsOut w.meaning n p v.meaning
  pub number : v.number ≡ w.number
  pub table : v.rows ≡ slice_set rows p k

abbrev pub New : {E : Type 0} → (E → List Reference) → World → List E → E → Result Rc Decline → World → List E → Type 0
New refs w memory x r v memory' =
    Answers (wrong_memory w memory ∷ lacking_references w (refs x) ∷ unfit w 1 ∷ []) r
    (λ rc. IsRc w rc.ticket.place rc × Made w 1 (each held w.rows (refs x)) (shared Single 1 1) rc.ticket.place v × (memory' ≡ slice_set memory rc.ticket.place x))
    ((v ≡ w) × (memory' ≡ memory))
