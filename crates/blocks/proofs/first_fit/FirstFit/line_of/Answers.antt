use Rattle.std.proofs.Common.{◌≡◌, true, false, rules, tests}
use Rattle.std.proofs.lemmas.Iterator.{IsFirst-from_position, YieldsList-from_slice}
use Rattle.blocks.specs.Blocks.{same}
use Rattle.blocks.proofs.Placed.{line_found}
use Rattle.blocks.proofs.first_fit.FirstFit.line_of.Goals as goal

pub returns : goal.returns
returns c =
    line_found c.args.x c.args.self.now.table.items _
    (IsFirst-from_position _ _ _ (λ b. same c.args.x b ≡ true) (λ b. same c.args.x b ≡ false) c.position.ensures.ran
    (YieldsList-from_slice c.args.self.now.table.items cc) (λ b q k. search (rules, tests)) (λ b q k. search (rules, tests)))
