-- The lowest gap between blocks that are apart.
use Rattle.std.specs.Prelude.{◌≡◌, ℕ, ◌+◌, ◌<◌, ◌≤◌, true, false, List, length, Some, None, Ok, Err, Option, Result}
use Rattle.std.specs.List.{insert as inserted}
use Rattle.blocks.specs.declared.block.Block.{Block}
use Rattle.blocks.specs.declared.block.Decline.{Decline}
use Rattle.blocks.specs.declared.gaps.Gap.{Gap}
use Rattle.blocks.specs.Blocks.{block, Apart, insert, clear}
use Rattle.blocks.specs.Rules.{has_gap, first_fits}

-- no lower offset has a gap of n
abbrev pub LowestGap : ℕ → List Block → Result ℕ Decline → Type 0
LowestGap n bs (Ok at) = (p : ℕ) → p < at → clear p n bs ≡ false
LowestGap n bs (Err e) = Unit {0}

-- `at` is the lowest offset with a gap of n, and a block there leaves them apart and is the one at `line`
pub record GapAt (extent n : ℕ) (bs : List Block) (at line : ℕ) : Type 0 where
  pub inside : at + n ≤ extent
  pub free : clear at n bs ≡ true
  pub lowest : (p : ℕ) → p < at → clear p n bs ≡ false
  pub within : line ≤ length bs
  pub apart : Apart extent 0 (insert (block at n) bs)
  pub place : inserted bs line (block at n) ≡ insert (block at n) bs

-- the lowest gap of n, if there is one
abbrev pub GapIn : ℕ → ℕ → List Block → Option Gap → Type 0
GapIn extent n bs None = has_gap extent n bs ≡ false
GapIn extent n bs (Some g) = GapAt extent n bs g.offset g.line

-- the lowest gap of n, if n fits
abbrev pub GapFor : ℕ → ℕ → List Block → Option Gap → Type 0
GapFor extent n bs None = first_fits extent bs n ≡ false
GapFor extent n bs (Some g) = (0 < n) × (length bs < 512) × GapAt extent n bs g.offset g.line
