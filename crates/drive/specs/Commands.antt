-- What each command answers, and the world that it leaves: every handle is loose before and after.
use Rattle.std.specs.Prelude.{◌≡◌, ℕ, ◌+◌, ◌<◌, Bool, cond, List, [], ◌∷◌, Some, None, MatchBool, Option, Result, nat_lt, slice_set}
use Rattle.cells.specs.Counts.{shared, with_strong, with_weak, with_loose_strong, with_loose_weak}
use Rattle.cells.specs.Rows.{at}
use Rattle.cells.specs.declared.row.Counts.{Counts}
use Rattle.cells.specs.declared.row.Shape.TheVariants.{Single}
use Rattle.disposal.specs.Books.{none_yet, weak_released}
use Rattle.disposal.specs.declared.store.Receipt.{Receipt}
use Rattle.element.specs.declared.reference.Reference.{Reference}
use Rattle.rc.specs.Calls.{Made, held_strong, held_weak, loosened_strong, lacking_references, unfit}
use Rattle.rc.specs.Checks.{Answers, wrong_memory, short_list, past_memory, no_loose_strong, no_loose_weak, no_strong, slice_cell, not_sole, full_strong, full_weak}
use Rattle.rc.specs.Ends.{Goes, Unwrapped, Copied, Moved, full_copy}
use Rattle.references.specs.References.{each, held}
use Rattle.rc.specs.Worlds.{World, books, with_row}
use Rattle.rc.specs.declared.decline.Decline.{Decline}
use Rattle.drive.specs.declared.answer.Answer.{Answer}

-- the number n is answered, and the counts of p are shown
abbrev pub Says : ℕ → ℕ → Answer → Type 0
Says n p a = (a.value ≡ Some n) × (a.place ≡ p)

-- `n`: a new cell with x in it, whose one strong handle is loose
abbrev pub Makes : {E : Type 0} → (E → List Reference) → World → List E → E → Result Answer Decline → World → List E → Type 0
Makes refs w memory x r v memory' =
    Answers (wrong_memory w memory ∷ lacking_references w (refs x) ∷ unfit w 1 ∷ []) r
    (λ a. Says a.place a.place a
    × Made w 1 (each held w.rows (refs x)) (with_loose_strong (shared Single 1 1) 1) a.place v
    × (memory' ≡ slice_set memory a.place x))
    ((v ≡ w) × (memory' ≡ memory))

-- one strong handle more, loose
abbrev pub one_strong : Counts → Counts
one_strong k = with_loose_strong (with_strong k (k.strong + 1)) (k.loose_strong + 1)

-- one weak handle more, loose
abbrev pub one_weak : Counts → Counts
one_weak k = with_loose_weak (with_weak k (k.weak + 1)) (k.loose_weak + 1)

-- `c`: one strong handle more
abbrev pub Increments : {E : Type 0} → World → List E → ℕ → Result Answer Decline → World → Type 0
Increments w memory p r v =
    Answers (wrong_memory w memory ∷ no_strong w p ∷ full_strong w p ∷ []) r
    (λ a. Says p p a × (v ≡ with_row w p (one_strong (at w.rows p))))
    (v ≡ w)

-- `w`: one weak handle more
abbrev pub Downgrades : {E : Type 0} → World → List E → ℕ → Result Answer Decline → World → Type 0
Downgrades w memory p r v =
    Answers (wrong_memory w memory ∷ no_loose_strong w p ∷ full_weak w p ∷ []) r
    (λ a. Says p p a × (v ≡ with_row w p (one_weak (at w.rows p))))
    (v ≡ w)

-- what `m` is declined for once its handle is there: a copy counts references, and it and a move take a block
abbrev pub own_checks : {E : Type 0} → (E → List Reference) → World → List E → ℕ → List (Bool × ℕ)
own_checks refs w memory p =
    cond (nat_lt 1 (at w.rows p).strong) (full_copy refs w memory p ∷ unfit w (at w.rows p).size ∷ [])
    (cond (nat_lt 1 (at w.rows p).weak) (unfit w (at w.rows p).size ∷ []) [])

-- the cell of one's own is a copy where another strong handle is out, has the elements where a weak one is, or is the same
abbrev pub Owns : {E : Type 0} → (E → List Reference) → World → List E → ℕ → ℕ → World → List E → Type 0
Owns refs w memory p q v memory' =
    MatchBool (nat_lt 1 (at w.rows p).strong) (Copied refs w memory p q v memory')
    (MatchBool (nat_lt 1 (at w.rows p).weak) (Moved w memory p q v memory') ((q ≡ p) × (v ≡ w) × (memory' ≡ memory)))

-- `m`: a held handle gets a cell of its own, and is loose again there
abbrev pub MakesOwn : {E : Type 0} → (E → List Reference) → World → List E → ℕ → Result Answer Decline → World → List E → Type 0
MakesOwn refs w memory p r v memory' =
    Answers (wrong_memory w memory ∷ no_loose_strong w p ∷ own_checks refs (held_strong w p) memory p) r
    (λ a. Says a.place a.place a
    × ((u : World) × Owns refs (held_strong w p) memory p a.place u memory' × (v ≡ loosened_strong u a.place)))
    ((v ≡ w) × (memory' ≡ memory))

-- `d`: a strong handle goes, and the elements that go with it are counted
abbrev pub Decrements : {E : Type 0} → (E → List Reference) → World → List E → List E → ℕ → Result Answer Decline → World → List E → Type 0
Decrements refs w memory list p r v list' =
    Answers (wrong_memory w memory ∷ short_list w list ∷ no_loose_strong w p ∷ []) r
    (λ a. (t : Receipt) × Says t.listed p a × Goes refs memory p (held_strong w p) list t v list')
    ((v ≡ w) × (list' ≡ list))

-- one strong handle more where one is left, and nothing where none is
abbrev pub UpgradedTo : World → ℕ → Option ℕ → World → Type 0
UpgradedTo w p None v = ((at w.rows p).strong ≡ 0) × (v ≡ w)
UpgradedTo w p (Some n) v = (0 < (at w.rows p).strong) × (n ≡ p) × (v ≡ with_row w p (one_strong (at w.rows p)))

-- `u`: a strong handle beside the weak one, or none
abbrev pub Upgrades : {E : Type 0} → World → List E → ℕ → Result Answer Decline → World → Type 0
Upgrades w memory p r v =
    Answers (wrong_memory w memory ∷ no_loose_weak w (Some p) ∷ full_strong w p ∷ []) r
    (λ a. (a.place ≡ p) × UpgradedTo w p a.value v)
    (v ≡ w)

-- `t`: the element of a cell that no other strong handle has, by its number
abbrev pub Unwraps : {E : Type 0} → (E → List Reference) → (E → ℕ) → World → List E → ℕ → Result Answer Decline → World → Type 0
Unwraps refs number w memory p r v =
    Answers (wrong_memory w memory ∷ no_loose_strong w p ∷ past_memory memory p ∷ slice_cell w p ∷ not_sole w p ∷ []) r
    (λ a. (x : _) × Says (number x) p a × Unwrapped refs (held_strong w p) memory p x v)
    (v ≡ w)

-- `r`: a weak handle goes, and the blocks that come back are counted
abbrev pub Releases : {E : Type 0} → World → List E → ℕ → Result Answer Decline → World → Type 0
Releases w memory p r v =
    Answers (wrong_memory w memory ∷ no_loose_weak w (Some p) ∷ []) r
    (λ a. (t : Receipt) × Says t.blocks p a × (v.number ≡ w.number)
    × (books v t ≡ weak_released (books (held_weak w (Some p)) none_yet) p))
    (v ≡ w)
