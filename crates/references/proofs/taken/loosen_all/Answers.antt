use Rattle.std.proofs.Common.{rules}
use Rattle.cells.specs.Counts.{admits, one_looser}
use Rattle.references.proofs.taken.loosen_all.Goals as goal

pub returns : goal.returns
returns c = c.change_all.ensures admits one_looser (λ s k e. search rules, λ d s o p. search rules)
