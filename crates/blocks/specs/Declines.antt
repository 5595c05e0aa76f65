-- The number of each decline.
use Rattle.std.specs.Prelude.{ℕ}
use Rattle.blocks.specs.declared.block.Decline.{Decline}
use Rattle.blocks.specs.declared.block.Decline.TheVariants.{Unfit, NotOut}

abbrev pub number_of : Decline → ℕ
number_of Unfit = 10
number_of NotOut = 11
