use Rattle.std.proofs.Common.{◌≡◌, false}
use Rattle.cells.specs.Tables.{counts_in}
use Rattle.references.specs.References.{nth, raised_upto, overflows}
use Rattle.references.proofs.copied.raise_all.Given as goal

abbrev pub invariant-loop-j : goal.invariant-loop-j
invariant-loop-j g l =
    (overflows (nth g.E.Element.refs l.memory l.from) l.j (counts_in l.initial.table) ≡ false)
    × (counts_in l.table ≡ raised_upto (nth g.E.Element.refs l.memory l.from) l.j (counts_in l.initial.table))
