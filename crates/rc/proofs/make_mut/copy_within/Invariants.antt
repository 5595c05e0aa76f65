use Rattle.std.proofs.Common.{◌≡◌}
use Rattle.rc.specs.Ends.{copied}
use Rattle.rc.proofs.make_mut.copy_within.Given as goal

abbrev pub invariant-loop-i : goal.invariant-loop-i
invariant-loop-i g l = l.memory ≡ copied l.initial.memory l.from l.to l.i
