-- The books and the world that a store stands for, and links at rest.
use Rattle.std.specs.Prelude.{◌≡◌, ℕ, List, Option}
use Rattle.blocks.specs.Meaning.{Meaning}
use Rattle.cells.specs.Rows.{link_at, at_rest}
use Rattle.cells.specs.Tables.{counts_in}
use Rattle.cells.specs.declared.row.Link.{Link}
use Rattle.disposal.specs.Books.{Books}
use Rattle.disposal.specs.Disposal.{World}
use Rattle.disposal.specs.declared.store.Receipt.{Receipt}
use Rattle.disposal.specs.declared.store.Store.{Store}

abbrev pub books_of : {A : Type 0} → (A → Meaning) → Store A → Receipt → Books
books_of m s t = record { rows = counts_in s.table; meaning = m s.alloc; receipt = t }

abbrev pub world_of : {A E : Type 0} → (A → Meaning) → Store A → Receipt → List E → World E
world_of m s t xs = record { books = books_of m s t; list = xs }

-- no cell is under disposal
abbrev pub Resting : List (Option Link) → Type 0
Resting links = (p : ℕ) → link_at links p ≡ at_rest
