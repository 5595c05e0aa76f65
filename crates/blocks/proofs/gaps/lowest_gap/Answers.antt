use Rattle.std.proofs.Common.{arith, rules, tests}
use Rattle.blocks.proofs.Scans.{walked_inside, walked_past, walked_here, walked_found}
use Rattle.blocks.proofs.Scans.{walked_missed}
use Rattle.blocks.proofs.gaps.lowest_gap.Goals as goal

pub returns-then-has_room : goal.returns-then-has_room
returns-then-has_room c =
    walked_here c.loop-line.invariant c.loop-line-test.true
    (search (rules, tests))

pub overflow_add-from : goal.overflow_add-from
overflow_add-from c = omega (arith, walked_inside c.loop-line.invariant c.loop-line-test.true)

pub loop-line-preserved : goal.loop-line-preserved
loop-line-preserved c =
    walked_past c.loop-line.invariant c.loop-line-test.true
    (search (rules, tests))

pub returns-then-has_room-2 : goal.returns-then-has_room-2
returns-then-has_room-2 c =
    walked_found c.loop-line.invariant (omega arith)
    (search (rules, tests))

pub returns-else-has_room-2 : goal.returns-else-has_room-2
returns-else-has_room-2 c =
    walked_missed c.loop-line.invariant (omega arith)
    (search (rules, tests))
