-- Blocks in lines.
use Rattle.std.specs.Prelude.{◌≡◌, ℕ, ◌<◌, true, false, List, length, Some, None, Option}
use Rattle.std.specs.List.{remove as removed}
use Rattle.blocks.specs.declared.block.Block.{Block}
use Rattle.blocks.specs.Blocks.{member, remove}

-- the line of a block, if it has one
abbrev pub LineOf : Block → List Block → Option ℕ → Type 0
LineOf x bs None = member x bs ≡ false
LineOf x bs (Some i) = (i < length bs) × (member x bs ≡ true) × (remove x bs ≡ removed bs i)
