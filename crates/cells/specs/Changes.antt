-- What a change of a cell answers.
use Rattle.std.specs.Prelude.{◌≡◌, Bool, true, false, Some, None, Option}
use Rattle.cells.specs.declared.row.Counts.{Counts}
use Rattle.cells.specs.declared.row.Row.{Row}
use Rattle.cells.specs.declared.cell.Cell.{Cell}
use Rattle.cells.specs.declared.row.Link.{Link}
use Rattle.cells.specs.Counts.{is_cell, last_owner, dying}

-- the row as a cell, where it is one
abbrev pub Reads : Row → Option Cell → Type 0
Reads r None = is_cell r.counts ≡ false
Reads r (Some c) = (is_cell r.counts ≡ true) × (c.counts ≡ r.counts) × (c.link ≡ r.link)

-- the cell with these counts where the test passes, else nothing
abbrev pub Becomes : Cell → Bool → Counts → Option Cell → Type 0
Becomes c test k None = test ≡ false
Becomes c test k (Some d) = (test ≡ true) × (d.counts ≡ k) × (d.link ≡ c.link)

-- the cell under disposal, with that link
abbrev pub Begins : Cell → Link → Option Cell → Type 0
Begins c l None = last_owner c.counts ≡ false
Begins c l (Some d) = (last_owner c.counts ≡ true) × (d.counts ≡ dying c.counts) × (d.link ≡ Some l)
