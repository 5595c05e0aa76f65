use Rattle.std.proofs.Common.{take}
use Rattle.cells.specs.Tables.{counts_in}
use Rattle.references.specs.Changes.{ChangesEachBy}
use Rattle.references.proofs.changed.change_all.Given as goal

abbrev pub invariant-loop-r : goal.invariant-loop-r
invariant-loop-r g l =
    ChangesEachBy (λ c s o. goal.F-post g l.f c s o) (counts_in l.initial.table) (take l.r-index l.rs) (counts_in l.table)
