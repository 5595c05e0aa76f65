-- What the release of a reference does, in full. Places are numbers; past the table no cell stands.
use Rattle.std.specs.Prelude.{◌≡◌, ℕ, ◌-◌, true, false, List, [], ◌∷◌, take, drop, MatchBool, ◌≢◌, slice_set}
use Rattle.element.specs.declared.reference.Reference.{Reference}
use Rattle.element.specs.declared.reference.Reference.TheVariants.{Empty, Strong, Weak}
use Rattle.cells.specs.Counts.{admits_strong, with_strong}
use Rattle.cells.specs.Rows.{at}
use Rattle.disposal.specs.Books.{Books, sole, one_listed, stray, with_row, begun, closed, weak_released}

-- the books, and the list that elements are written to on their way out
pub record World (E : Type 0) : Type 0 where
  pub books : Books
  pub list : List E

abbrev pub with_books : {E : Type 0} → World E → Books → World E
with_books w b = record { books = b; list = w.list }

-- x is written to the list at the next place, if there is one, and counted
abbrev pub listing : {E : Type 0} → E → World E → World E
listing x w =
    record {
      books = record { rows = w.books.rows; meaning = w.books.meaning; receipt = one_listed w.books.receipt };
      list = slice_set w.list w.books.receipt.listed x;
    }

-- The memory does not change. Every rule goes from the world before to the world after.
mutual
  -- the cell at p is disposed of: its elements go, first to last, and then the owner's weak count
  pub data Disposes {E : Type 0} (refs : E → List Reference) (mem : List E) : ℕ → World E → World E → Type 0 where
    disposes : {p : ℕ} {w v : World E}
        → Lists refs mem (take (at w.books.rows p).standing (drop p mem)) (with_books w (begun w.books p)) v
        → Disposes refs mem p w (with_books v (closed v.books p))

  -- elements go: each is listed, and then its references are released
  pub data Lists {E : Type 0} (refs : E → List Reference) (mem : List E) : List E → World E → World E → Type 0 where
    lists_none : {w : World E} → Lists refs mem [] w w
    lists_next : {x : E} {xs : List E} {w u v : World E}
        → Releases refs mem (refs x) (listing x w) u → Lists refs mem xs u v → Lists refs mem (x ∷ xs) w v

  -- references are released in order, each in full before the next
  pub data Releases {E : Type 0} (refs : E → List Reference) (mem : List E) : List Reference → World E → World E → Type 0 where
    releases_none : {w : World E} → Releases refs mem [] w w
    releases_next : {r : Reference} {rs : List Reference} {w u v : World E}
        → Release refs mem r w u → Releases refs mem rs u v → Releases refs mem (r ∷ rs) w v

  pub data Release {E : Type 0} (refs : E → List Reference) (mem : List E) : Reference → World E → World E → Type 0 where
    empty : {w : World E} → Release refs mem Empty w w
    -- the row admits no strong handle: passed over, and counted
    strong_stray : {q : ℕ} {w : World E} → admits_strong (at w.books.rows q) ≡ false
        → Release refs mem (Strong q) w (with_books w (stray w.books))
    -- others remain
    strong_lowered : {q : ℕ} {w : World E} → admits_strong (at w.books.rows q) ≡ true → ((at w.books.rows q).strong ≢ 1)
        → Release refs mem (Strong q) w
        (with_books w (with_row w.books q (with_strong (at w.books.rows q) ((at w.books.rows q).strong - 1))))
    -- the last one: the cell is disposed of before anything else
    strong_last : {q : ℕ} {w v : World E} → admits_strong (at w.books.rows q) ≡ true → (at w.books.rows q).strong ≡ 1
        → Disposes refs mem q w v → Release refs mem (Strong q) w v
    weak : {q : ℕ} {w : World E} → Release refs mem (Weak q) w (with_books w (weak_released w.books q))

-- the last owner at p lets go of its cell; where there is none it is passed over, and counted
abbrev pub Abandons : {E : Type 0} → (E → List Reference) → List E → ℕ → World E → World E → Type 0
Abandons refs mem p w v = MatchBool (sole (at w.books.rows p)) (Disposes refs mem p w v) (v ≡ with_books w (stray w.books))

-- from every world it ends, and in one only
pub record OneOutcome {E : Type 0} (Does : World E → World E → Type 0) : Type 0 where
  pub some : (w : World E) → (v : World E) × Does w v
  pub only : (w v u : World E) → Does w v → Does w u → v ≡ u
