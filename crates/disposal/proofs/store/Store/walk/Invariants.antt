use Rattle.cells.specs.Tables.{counts_in, links_in}
use Rattle.disposal.specs.Walks.{walk_of, effort, stack_of}
use Rattle.disposal.proofs.Loop.{Within}
use Rattle.disposal.proofs.store.Store.walk.Given as goal

abbrev pub invariant-loop-place : goal.invariant-loop-place
invariant-loop-place g l =
    Within g.E.Element.refs l.memory
    (walk_of g.A.Allocator.meaning l.initial.self l.initial.receipt l.initial.list l.initial.place) (stack_of l.initial.place)
    (walk_of g.A.Allocator.meaning l.self l.receipt l.list l.place)

abbrev pub decreases-loop-place : goal.decreases-loop-place
decreases-loop-place g l = effort (counts_in l.self.table) (links_in l.self.table)
