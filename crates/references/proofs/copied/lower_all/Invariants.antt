use Rattle.std.proofs.Common.{◌≡◌, false, List}
use Rattle.cells.specs.Tables.{counts_in}
use Rattle.cells.specs.declared.row.Counts.{Counts}
use Rattle.references.specs.References.{nth, raised_upto, overflows}
use Rattle.references.proofs.copied.lower_all.Given as goal

abbrev pub invariant-loop-j : goal.invariant-loop-j
invariant-loop-j g l =
    (rows : List Counts) → overflows (nth g.E.Element.refs l.memory l.from) l.count rows ≡ false
    → counts_in l.initial.table ≡ raised_upto (nth g.E.Element.refs l.memory l.from) l.count rows
    → counts_in l.table ≡ raised_upto (nth g.E.Element.refs l.memory l.from) l.j rows
