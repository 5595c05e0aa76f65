-- The checks of a call, in order, and what it answers by the first that applies.
use Rattle.std.specs.Prelude.{◌≡◌, ℕ, Bool, true, false, cond, not, ◌&&◌, ◌||◌, List, [], ◌∷◌, length, Some, None, Ok, Err, Option, Result, ◌==◌, nat_le, nat_lt}
use Rattle.cells.specs.Counts.{is_cell, handles, admits, has_loose}
use Rattle.cells.specs.Rows.{at, standing_in}
use Rattle.cells.specs.declared.row.Shape.{Shape}
use Rattle.cells.specs.declared.row.Shape.TheVariants.{Single, Slice}
use Rattle.element.specs.declared.reference.Sort.{Sort}
use Rattle.element.specs.declared.reference.Sort.TheVariants.{Strong, Weak}
use Rattle.rc.specs.declared.decline.Decline.{Decline}
use Rattle.rc.specs.declared.decline.Refused.{Refused}
use Rattle.rc.specs.declared.handle.Ticket.{Ticket}
use Rattle.rc.specs.Declines.{number_of}
use Rattle.rc.specs.Worlds.{World}

-- A check is a test and its number. The number of the first that applies; 0 where none does.
abbrev pub first : List (Bool × ℕ) → ℕ
first [] = 0
first ((applies, n) ∷ checks) = cond applies n (first checks)

-- 1: the memory's length is not the extent
abbrev pub wrong_memory : {E : Type 0} → World → List E → Bool × ℕ
wrong_memory w memory = (not (length memory == w.meaning.extent), 1)

-- 2: the list is shorter than the elements standing in all cells
abbrev pub short_list : {E : Type 0} → World → List E → Bool × ℕ
short_list w list = (nat_lt (length list) (standing_in w.rows), 2)

-- 3: a handle of another census, or that no cell admits
abbrev pub no_handle : Sort → World → Ticket → Bool × ℕ
no_handle s w t = (not (t.census == w.number) || not (admits s (at w.rows t.place)), 3)

-- 3: of an `Rc`
abbrev pub no_rc : World → Ticket → Bool × ℕ
no_rc w t = no_handle Strong w t

-- 3: its place is past the memory
abbrev pub past_memory : {E : Type 0} → List E → ℕ → Bool × ℕ
past_memory memory p = (nat_le (length memory) p, 3)

-- 3: of a `Weak`; an empty one passes
abbrev pub no_weak : World → Option Ticket → Bool × ℕ
no_weak w None = (false, 3)
no_weak w (Some t) = no_handle Weak w t

-- 4: no loose handle of the sort at that place
abbrev pub no_loose : Sort → World → ℕ → Bool × ℕ
no_loose s w p = (not (has_loose s (at w.rows p)), 4)

-- 4: of an `Rc`
abbrev pub no_loose_strong : World → ℕ → Bool × ℕ
no_loose_strong w p = no_loose Strong w p

-- 4: of a `Weak`; the empty one passes
abbrev pub no_loose_weak : World → Option ℕ → Bool × ℕ
no_loose_weak w None = (false, 4)
no_loose_weak w (Some p) = no_loose Weak w p

-- 4: no cell with a strong handle at that place
abbrev pub no_strong : World → ℕ → Bool × ℕ
no_strong w p = (not (is_cell (at w.rows p) && nat_lt 0 (at w.rows p).strong), 4)

-- 5: the cell was made for a slice
abbrev pub is_slice : Shape → Bool
is_slice Single = false
is_slice Slice = true

abbrev pub slice_cell : World → ℕ → Bool × ℕ
slice_cell w p = (is_slice (at w.rows p).shape, 5)

-- 8: more than one strong handle
abbrev pub not_sole : World → ℕ → Bool × ℕ
not_sole w p = (not ((at w.rows p).strong == 1), 8)

-- 9: one more handle of the sort at that place would pass 65,535
abbrev pub full : Sort → World → ℕ → Bool × ℕ
full s w p = ((handles s (at w.rows p) == 65535), 9)

abbrev pub full_strong : World → ℕ → Bool × ℕ
full_strong w p = full Strong w p

abbrev pub full_weak : World → ℕ → Bool × ℕ
full_weak w p = full Weak w p

-- what a call answers: accepted when no check applies, else the number of the first that does
abbrev pub Answers : {T : Type 0} → List (Bool × ℕ) → Result T Decline → (T → Type 0) → Type 0 → Type 0
Answers checks (Ok x) accepted declined = (first checks ≡ 0) × accepted x
Answers checks (Err why) accepted declined = (first checks ≡ number_of why) × declined

-- the same of a call that takes a handle: a decline hands it back
abbrev pub Spends : {T H : Type 0} → H → List (Bool × ℕ) → Result T (Refused H) → (T → Type 0) → Type 0 → Type 0
Spends h checks (Ok x) accepted declined = (first checks ≡ 0) × accepted x
Spends h checks (Err back) accepted declined = (first checks ≡ number_of back.why) × (back.handle ≡ h) × declined
