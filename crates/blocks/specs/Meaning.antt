-- What an allocator is to its callers: an extent, a rule on lists and lengths, and the blocks out.
use Rattle.std.specs.Prelude.{◌≡◌, ℕ, ◌+◌, ◌≤◌, Bool, true, false, List, Ok, Err, Result}
use Rattle.blocks.specs.declared.block.Block.{Block}
use Rattle.blocks.specs.declared.block.Decline.{Decline}
use Rattle.blocks.specs.Blocks.{block, insert, remove, member, clear}
use Rattle.blocks.specs.Declines.{number_of}

pub record Meaning : Type 0 where
  pub extent : ℕ
  pub fits : List Block → ℕ → Bool
  pub out : List Block

abbrev pub with_out : Meaning → List Block → Meaning
with_out m bs = record { extent = m.extent; fits = m.fits; out = bs }

-- a block of n is handed out at `at`
pub record HandsOut (m : Meaning) (n at : ℕ) (m' : Meaning) : Type 0 where
  pub fitted : m.fits m.out n ≡ true
  pub inside : at + n ≤ m.extent
  pub apart : clear at n m.out ≡ true
  pub after : m' ≡ with_out m (insert (block at n) m.out)

-- that block comes back
pub record TakesBack (m : Meaning) (b : Block) (m' : Meaning) : Type 0 where
  pub was_out : member b m.out ≡ true
  pub after : m' ≡ with_out m (remove b m.out)

-- what `allocate` of n answers and leaves
abbrev pub Allocates : {S : Type 0} → (S → Meaning) → S → ℕ → Result ℕ Decline → S → Type 0
Allocates meaning s n (Ok at) t = HandsOut (meaning s) n at (meaning t)
Allocates meaning s n (Err e) t = (number_of e ≡ 10) × ((meaning s).fits (meaning s).out n ≡ false) × (t ≡ s)

-- what `deallocate` of b answers and leaves
abbrev pub Deallocates : {S R : Type 0} → (S → Meaning) → S → Block → Result R Decline → S → Type 0
Deallocates meaning s b (Ok _) t = TakesBack (meaning s) b (meaning t)
Deallocates meaning s b (Err e) t = (number_of e ≡ 11) × (member b (meaning s).out ≡ false) × (t ≡ s)
