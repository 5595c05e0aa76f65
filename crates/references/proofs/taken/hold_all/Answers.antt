use Rattle.std.proofs.Common.{rules}
use Rattle.cells.specs.Counts.{has_loose, one_held}
use Rattle.references.proofs.taken.hold_all.Goals as goal

pub returns : goal.returns
returns c = c.change_all.ensures has_loose one_held (λ s k e. search rules, λ d s o p. search rules)
