use Rattle.blocks.proofs.Scans.{Walked}
use Rattle.blocks.proofs.gaps.lowest_gap.Given as goal

abbrev pub invariant-loop-line : goal.invariant-loop-line
invariant-loop-line l = Walked l.n l.extent l.blocks l.line l.from
