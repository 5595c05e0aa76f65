-- A change of a cell, made to the cell that a reference is of.
use Rattle.std.specs.Prelude.{◌≡◌, Bool, false, List, Option}
use Rattle.cells.specs.Changes.{Becomes}
use Rattle.cells.specs.Counts.{is_cell}
use Rattle.cells.specs.declared.cell.Cell.{Cell}
use Rattle.cells.specs.declared.row.Counts.{Counts}
use Rattle.element.specs.Handles.{handle_of}
use Rattle.element.specs.declared.reference.Reference.{Reference}
use Rattle.element.specs.declared.reference.Sort.{Sort}
use Rattle.references.specs.References.{changed, each}

-- what is given of a cell is the cell with those counts, where it passes that test
abbrev pub Makes : (Cell → Sort → Option Cell → Type 0) → (Sort → Counts → Bool) → (Sort → Counts → Counts) → Type 0
Makes Gives test f =
    ((s : Sort) (k : Counts) → is_cell k ≡ false → test s k ≡ false)
    × ((c : Cell) (s : Sort) (o : Option Cell) → Gives c s o → Becomes c (test s c.counts) (f s c.counts) o)

-- the rows change at the reference by what is given
abbrev pub ChangesBy : (Cell → Sort → Option Cell → Type 0) → List Counts → Reference → List Counts → Type 0
ChangesBy Gives rows r after =
    (test : Sort → Counts → Bool) (f : Sort → Counts → Counts) → Makes Gives test f → after ≡ changed test f rows (handle_of r)

-- and at each of the references, in order
abbrev pub ChangesEachBy : (Cell → Sort → Option Cell → Type 0) → List Counts → List Reference → List Counts → Type 0
ChangesEachBy Gives rows rs after =
    (test : Sort → Counts → Bool) (f : Sort → Counts → Counts) → Makes Gives test f
    → after ≡ each (λ rows r. changed test f rows (handle_of r)) rows rs
