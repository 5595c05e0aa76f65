-- The rows of a table by place: the counts and the links apart, and the elements standing in all.
use Rattle.std.specs.Prelude.{ℕ, Bool, List, map, None, Option, nat_le, slice_index_or}
use Rattle.std.specs.List.{list_all, sum_by}
use Rattle.cells.specs.declared.row.Counts.{Counts}
use Rattle.cells.specs.declared.row.Link.{Link}
use Rattle.cells.specs.declared.row.Row.{Row}
use Rattle.cells.specs.Counts.{none}

-- the link of a cell that is not under disposal
abbrev pub at_rest : Option Link
at_rest = None

-- no cell stands past the end
abbrev pub at : List Counts → ℕ → Counts
at ks p = slice_index_or ks p none

abbrev pub link_at : List (Option Link) → ℕ → Option Link
link_at ls p = slice_index_or ls p at_rest

unfoldable pub counts_of : List Row → List Counts
counts_of = map (λ r. r.counts)

unfoldable pub links_of : List Row → List (Option Link)
links_of = map (λ r. r.link)

abbrev pub free_row : Row
free_row = record { counts = none; link = at_rest }

-- the elements standing in all cells
unfoldable pub standing_in : List Counts → ℕ
standing_in = sum_by (λ k. k.standing)

-- in no cell stand more elements than 16 bits can count
unfoldable pub small : List Counts → Bool
small = list_all (λ k. nat_le k.standing 65535)
