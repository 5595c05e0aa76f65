-- What the calls answer that end a handle, take an element out or make one's own cell.
use Rattle.std.specs.Prelude.{◌≡◌, ℕ, zero, suc, ◌+◌, ◌*◌, Bool, true, false, List, [], ◌∷◌, take, drop, Some, None, MatchBool, Option, Result, nat_lt, slice_set}
use Rattle.cells.specs.Counts.{shared}
use Rattle.cells.specs.Rows.{at}
use Rattle.disposal.specs.Books.{none_yet, closed, weak_released}
use Rattle.disposal.specs.Disposal.{Release}
use Rattle.disposal.specs.declared.store.Receipt.{Receipt}
use Rattle.element.specs.declared.reference.Reference.{Reference}
use Rattle.element.specs.declared.reference.Reference.TheVariants.{Strong}
use Rattle.rc.specs.Calls.{Made, held_strong, unfit}
use Rattle.rc.specs.Checks.{Answers, Spends, wrong_memory, short_list, no_rc, past_memory, no_weak, no_loose_strong, slice_cell, not_sole}
use Rattle.references.specs.References.{each, loosened, lowered, nth, raised_upto, overflows}
use Rattle.rc.specs.Tickets.{place_of, ticket_of}
use Rattle.rc.specs.Worlds.{World, books, with_rows, after}
use Rattle.cells.specs.declared.row.Counts.{Counts}
use Rattle.rc.specs.declared.make_mut.Way.{Way}
use Rattle.rc.specs.declared.make_mut.Way.TheVariants.{Copy, Move, Stay}
use Rattle.rc.specs.declared.decline.Decline.{Decline}
use Rattle.rc.specs.declared.decline.Refused.{Refused}
use Rattle.rc.specs.Handles.{Rc, Weak}

-- Releases

-- a strong handle at p goes, from the world w to the world v
abbrev pub Goes : {E : Type 0} → (E → List Reference) → List E → ℕ → World → List E → Receipt → World → List E → Type 0
Goes refs memory p w list receipt v list' =
    (v.number ≡ w.number)
    × Release refs memory (Strong p) (record { books = books w none_yet; list = list }) (record { books = books v receipt; list = list' })

abbrev pub ReleasesRc : {E : Type 0} → (E → List Reference) → World → List E → List E → Rc → Result Receipt (Refused Rc) → World → List E → Type 0
ReleasesRc refs w memory list rc r v list' =
    Spends rc (wrong_memory w memory ∷ short_list w list ∷ no_rc w rc.ticket ∷ []) r
    (λ t. Goes refs memory rc.ticket.place w list t v list')
    ((v ≡ w) × (list' ≡ list))

abbrev pub Decrement : {E : Type 0} → (E → List Reference) → World → List E → List E → ℕ → Result Receipt Decline → World → List E → Type 0
Decrement refs w memory list p r v list' =
    Answers (wrong_memory w memory ∷ short_list w list ∷ no_loose_strong w p ∷ []) r
    (λ t. Goes refs memory p (held_strong w p) list t v list')
    ((v ≡ w) × (list' ≡ list))

-- an empty `Weak` goes without effect
abbrev pub WeakGoes : World → Option ℕ → Receipt → World → Type 0
WeakGoes w None t v = (v ≡ w) × (t ≡ none_yet)
WeakGoes w (Some p) t v = (v.number ≡ w.number) × (books v t ≡ weak_released (books w none_yet) p)

abbrev pub ReleasesWeak : {E : Type 0} → World → List E → Weak → Result Receipt (Refused Weak) → World → Type 0
ReleasesWeak w memory weak r v =
    Spends weak (wrong_memory w memory ∷ no_weak w weak.ticket ∷ []) r (λ t. WeakGoes w (place_of weak.ticket) t v) (v ≡ w)

-- Elements handed out

-- the references become loose, and the owner goes with its weak count
abbrev pub handed_out : {E : Type 0} → (E → List Reference) → World → ℕ → E → World
handed_out refs w p x = after w (closed (books (with_rows w (each loosened w.rows (refs x))) none_yet) p)

-- the first element of the cell at p is handed out
abbrev pub Unwrapped : {E : Type 0} → (E → List Reference) → World → List E → ℕ → E → World → Type 0
Unwrapped refs w memory p x v = (take 1 (drop p memory) ≡ x ∷ []) × (v ≡ handed_out refs w p x)

abbrev pub TryUnwrap : {E : Type 0} → (E → List Reference) → World → List E → Rc → Result E (Refused Rc) → World → Type 0
TryUnwrap refs w memory rc r v =
    Spends rc (wrong_memory w memory ∷ no_rc w rc.ticket ∷ past_memory memory rc.ticket.place ∷ slice_cell w rc.ticket.place ∷ not_sole w rc.ticket.place ∷ []) r
    (λ x. Unwrapped refs w memory rc.ticket.place x v)
    (v ≡ w)

-- A cell of one's own

-- the first element of the one list is written at a place of the other
abbrev pub put_first : {E : Type 0} → List E → List E → ℕ → List E
put_first [] memory q = memory
put_first (x ∷ _) memory q = slice_set memory q x

-- the n elements from p on stand from q on too
unfoldable pub copied : {E : Type 0} → List E → ℕ → ℕ → ℕ → List E
copied memory p q zero = memory
copied memory p q (suc n) = put_first (drop (p + n) (copied memory p q n)) (copied memory p q n) (q + n)

-- 9: a count of the references copied would pass 65,535
abbrev pub full_copy : {E : Type 0} → (E → List Reference) → World → List E → ℕ → Bool × ℕ
full_copy refs w memory p = (overflows (nth refs memory p) (4 * (at w.rows p).standing) w.rows, 9)

-- the cell of p is copied to q: each reference is counted once more, and then the old strong count falls
pub record Copied {E : Type 0} (refs : E → List Reference) (w : World) (memory : List E) (p q : ℕ) (v : World) (memory' : List E) : Type 0 where
  pub between : World
  pub made : Made w (at w.rows p).size (raised_upto (nth refs memory p) (4 * (at w.rows p).standing) w.rows) (shared (at w.rows p).shape (at w.rows p).size (at w.rows p).standing) q between
  pub fallen : v ≡ with_rows between (lowered between.rows (Strong p))
  pub memory_after : memory' ≡ copied memory p q (at w.rows p).standing

-- the elements of p move to q, and the old owner goes with its weak count
pub record Moved {E : Type 0} (w : World) (memory : List E) (p q : ℕ) (v : World) (memory' : List E) : Type 0 where
  pub between : World
  pub made : Made w (at w.rows p).size w.rows (shared (at w.rows p).shape (at w.rows p).size (at w.rows p).standing) q between
  pub left : v ≡ after between (closed (books between none_yet) p)
  pub memory_after : memory' ≡ copied memory p q (at w.rows p).standing

abbrev pub Copies : {E : Type 0} → (E → List Reference) → World → List E → ℕ → Result ℕ Decline → World → List E → Type 0
Copies refs w memory p r v memory' =
    Answers (full_copy refs w memory p ∷ unfit w (at w.rows p).size ∷ []) r (λ q. Copied refs w memory p q v memory') ((v ≡ w) × (memory' ≡ memory))

abbrev pub Moves : {E : Type 0} → World → List E → ℕ → Result ℕ Decline → World → List E → Type 0
Moves w memory p r v memory' =
    Answers (unfit w (at w.rows p).size ∷ []) r (λ q. Moved w memory p q v memory') ((v ≡ w) × (memory' ≡ memory))

-- which of the three it is, by both counts
abbrev pub IsWay : Counts → Way → Type 0
IsWay k Copy = nat_lt 1 k.strong ≡ true
IsWay k Move = (nat_lt 1 k.strong ≡ false) × (nat_lt 1 k.weak ≡ true)
IsWay k Stay = (nat_lt 1 k.strong ≡ false) × (nat_lt 1 k.weak ≡ false)

-- the handle is of another place now
abbrev pub MovedTo : World → Rc → Rc → Type 0
MovedTo w rc rc' = (rc'.ticket ≡ ticket_of w.number rc'.ticket.place) × (rc'.spent ≡ rc.spent)

-- what the call answers and leaves, each way
abbrev pub MakeMut : {E : Type 0} → (E → List Reference) → World → List E → Rc → Result (Unit {0}) Decline → World → List E → Rc → Type 0
MakeMut refs w memory rc r v memory' rc' =
    MatchBool (nat_lt 1 (at w.rows rc.ticket.place).strong)
    (Answers (wrong_memory w memory ∷ no_rc w rc.ticket ∷ full_copy refs w memory rc.ticket.place ∷ unfit w (at w.rows rc.ticket.place).size ∷ []) r
    (λ _. MovedTo w rc rc' × Copied refs w memory rc.ticket.place rc'.ticket.place v memory')
    ((v ≡ w) × (memory' ≡ memory) × (rc' ≡ rc)))
    (MatchBool (nat_lt 1 (at w.rows rc.ticket.place).weak)
    (Answers (wrong_memory w memory ∷ no_rc w rc.ticket ∷ unfit w (at w.rows rc.ticket.place).size ∷ []) r
    (λ _. MovedTo w rc rc' × Moved w memory rc.ticket.place rc'.ticket.place v memory')
    ((v ≡ w) × (memory' ≡ memory) × (rc' ≡ rc)))
    (Answers (wrong_memory w memory ∷ no_rc w rc.ticket ∷ []) r
    (λ _. (v ≡ w) × (memory' ≡ memory) × (rc' ≡ rc))
    ((v ≡ w) × (memory' ≡ memory) × (rc' ≡ rc))))
