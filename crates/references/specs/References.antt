-- The references of an element: named, taken from the loose handles, made loose, counted once more.
use Rattle.std.specs.Prelude.{◌≡◌, ℕ, zero, suc, ◌+◌, ◌/◌, ◌%◌, Bool, true, false, cond, not, ◌&&◌, ◌||◌, List, [], ◌∷◌, map, Some, None, Ok, Err, Option, Result, ◌==◌, nat_lt, count_by, fold, slice_index_or, slice_set}
use Rattle.std.specs.List.{list_any}
use Rattle.cells.specs.Counts.{is_cell, handles, loose as loose_of, admits, has_loose, one_more, one_less, one_looser, one_held}
use Rattle.cells.specs.Rows.{at}
use Rattle.cells.specs.declared.row.Counts.{Counts}
use Rattle.element.specs.Handles.{handle_of}
use Rattle.element.specs.declared.reference.Reference.{Reference}
use Rattle.element.specs.declared.reference.Reference.TheVariants.{Empty, Strong, Weak}
use Rattle.element.specs.declared.reference.Sort.{Sort}

-- four references, the missing ones empty
abbrev pub padded : List Reference → List Reference
padded rs = slice_index_or rs 0 Empty ∷ slice_index_or rs 1 Empty ∷ slice_index_or rs 2 Empty ∷ slice_index_or rs 3 Empty ∷ []

-- the same sort of handle, to the same place
abbrev pub same : Reference → Reference → Bool
same Empty Empty = true
same Empty (Strong q) = false
same Empty (Weak q) = false
same (Strong p) Empty = false
same (Strong p) (Strong q) = p == q
same (Strong p) (Weak q) = false
same (Weak p) Empty = false
same (Weak p) (Strong q) = false
same (Weak p) (Weak q) = p == q

-- how often a list names a reference
abbrev pub named : Reference → List Reference → ℕ
named r rs = count_by (same r) rs

-- how many loose handles of that sort stand at that place
abbrev pub loose_at : List Counts → Option (Sort × ℕ) → ℕ
loose_at rows None = 0
loose_at rows (Some (s, p)) = cond (is_cell (at rows p)) (loose_of s (at rows p)) 0

abbrev pub loose : List Counts → Reference → ℕ
loose rows r = loose_at rows (handle_of r)

-- a reference, not an empty one, that the list names more often than loose ones stand
abbrev pub lacking : List Counts → List Reference → Reference → Bool
lacking rows rs r = not (same r Empty) && nat_lt (loose rows r) (named r rs)

-- some reference among these is lacking
abbrev pub some_lacking : List Counts → List Reference → List Reference → Bool
some_lacking rows rs qs = list_any (lacking rows rs) qs

-- one after the other, in order
abbrev pub each : (List Counts → Reference → List Counts) → List Counts → List Reference → List Counts
each f rows rs = fold f rows rs

-- the counts at the place of a handle change where they pass the test; where there is none, nothing does
abbrev pub changed : (Sort → Counts → Bool) → (Sort → Counts → Counts) → List Counts → Option (Sort × ℕ) → List Counts
changed test f rows None = rows
changed test f rows (Some (s, p)) = cond (test s (at rows p)) (slice_set rows p (f s (at rows p))) rows

-- a loose handle goes into an element
abbrev pub held : List Counts → Reference → List Counts
held rows r = changed has_loose one_held rows (handle_of r)

-- a handle of an element becomes loose; one that no cell admits is passed over
abbrev pub loosened : List Counts → Reference → List Counts
loosened rows r = changed admits one_looser rows (handle_of r)

-- a copied reference is one handle more; one that no cell admits is passed over
abbrev pub raised : List Counts → Reference → List Counts
raised rows r = changed admits one_more rows (handle_of r)

-- and its count is full
abbrev pub full_at : List Counts → Option (Sort × ℕ) → Bool
full_at rows None = false
full_at rows (Some (s, p)) = admits s (at rows p) && handles s (at rows p) == 65535

abbrev pub full : List Counts → Reference → Bool
full rows r = full_at rows (handle_of r)

-- what counting one answers and leaves
abbrev pub Raises : {R Q : Type 0} → List Counts → Reference → Result R Q → List Counts → Type 0
Raises rows r (Ok _) after = (full rows r ≡ false) × (after ≡ raised rows r)
Raises rows r (Err _) after = (full rows r ≡ true) × (after ≡ rows)

-- a copied reference is taken back
abbrev pub lowered : List Counts → Reference → List Counts
lowered rows r = changed admits one_less rows (handle_of r)

-- References copied

-- reference j of the elements from p on, four to an element
abbrev pub nth : {E : Type 0} → (E → List Reference) → List E → ℕ → ℕ → Reference
nth refs memory p j = slice_index_or (slice_index_or (map refs memory) (p + j / 4) []) (j % 4) Empty

-- the first j references of a sequence, counted once more each
unfoldable pub raised_upto : (ℕ → Reference) → ℕ → List Counts → List Counts
raised_upto f zero rows = rows
raised_upto f (suc j) rows = raised (raised_upto f j rows) (f j)

-- some count among them is full when its turn comes
unfoldable pub overflows : (ℕ → Reference) → ℕ → List Counts → Bool
overflows f zero rows = false
overflows f (suc j) rows = overflows f j rows || full (raised_upto f j rows) (f j)

-- what counting them all answers and leaves
abbrev pub RaisesAll : {R Q : Type 0} → (ℕ → Reference) → ℕ → List Counts → Result R Q → List Counts → Type 0
RaisesAll f n rows (Ok _) after = (overflows f n rows ≡ false) × (after ≡ raised_upto f n rows)
RaisesAll f n rows (Err _) after = (overflows f n rows ≡ true) × (after ≡ rows)
