-- The world of a census: its number, the meaning of its allocator, and the counts at each place.
use Rattle.std.specs.Prelude.{◌≡◌, ℕ, true, false, List, Some, None, Option, replicate, slice_set}
use Rattle.blocks.specs.Meaning.{Meaning}
use Rattle.cells.specs.Counts.{none, is_cell}
use Rattle.cells.specs.Tables.{counts_in}
use Rattle.cells.specs.declared.cell.Cell.{Cell}
use Rattle.cells.specs.declared.row.Counts.{Counts}
use Rattle.disposal.specs.Books.{Books}
use Rattle.disposal.specs.declared.store.Receipt.{Receipt}
use Rattle.cells.specs.Rows.{at}
use Rattle.rc.specs.declared.census.Census.{Census}
use Rattle.rc.specs.declared.handle.Ticket.{Ticket}

pub record World : Type 0 where
  pub number : ℕ
  pub meaning : Meaning
  pub rows : List Counts

abbrev pub world : {A : Type 0} → (A → Meaning) → Census A → World
world m c = record { number = c.number; meaning = m c.store.alloc; rows = counts_in c.store.table }

-- the world with other counts at one place
abbrev pub with_row : World → ℕ → Counts → World
with_row w p k = record { number = w.number; meaning = w.meaning; rows = slice_set w.rows p k }

-- the cell with these counts, where they are in order
abbrev pub StandsAs : Counts → Option Cell → Type 0
StandsAs k None = is_cell k ≡ false
StandsAs k (Some c) = (is_cell k ≡ true) × (c.counts ≡ k)

-- a new census: no cell at any of 1,024 places
abbrev pub opened : ℕ → Meaning → World
opened number m = record { number = number; meaning = m; rows = replicate 1024 none }

-- its books for the disposal, with a receipt
abbrev pub books : World → Receipt → Books
books w t = record { rows = w.rows; meaning = w.meaning; receipt = t }

-- the world with other rows
abbrev pub with_rows : World → List Counts → World
with_rows w rows = record { number = w.number; meaning = w.meaning; rows = rows }

-- the world that these books leave
abbrev pub after : World → Books → World
after w b = record { number = w.number; meaning = b.meaning; rows = b.rows }

-- the cell at p
abbrev pub IsCellAt : World → ℕ → Cell → Type 0
IsCellAt w p c = c.counts ≡ at w.rows p

-- the cell of a `Weak`, and none of an empty one
abbrev pub IsCellOf : World → Option Ticket → Option Cell → Type 0
IsCellOf w None None = Unit {0}
IsCellOf w None (Some c) = ⊥
IsCellOf w (Some t) None = ⊥
IsCellOf w (Some t) (Some c) = IsCellAt w t.place c
