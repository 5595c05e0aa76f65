-- The blocks out of a pool, by the lengths of the blocks in its slots.
use Rattle.std.specs.Prelude.{◌≡◌, ℕ, ◌+◌, ◌*◌, ◌<◌, false, cond, List, [], ◌∷◌, Some, None, Ok, Err, Option, Result, nat_lt, slice_index}
use Rattle.blocks.specs.declared.block.Block.{Block}
use Rattle.blocks.specs.declared.block.Decline.{Decline}
use Rattle.blocks.specs.Blocks.{block, member, clear}

-- slots of `unit` places, the first at `at`, each free at 0 and else with a block of that length at its start
unfoldable pub slots_out : ℕ → ℕ → List ℕ → List Block
slots_out unit at [] = []
slots_out unit at (s ∷ ss) = cond (nat_lt 0 s) (block at s ∷ slots_out unit (at + unit) ss) (slots_out unit (at + unit) ss)

-- no slot before the one handed out was free
abbrev pub LowestSlot : ℕ → List Block → Result ℕ Decline → Type 0
LowestSlot unit bs (Ok at) = (k : ℕ) → k * unit < at → clear (k * unit) unit bs ≡ false
LowestSlot unit bs (Err e) = Unit {0}

-- the lowest free one of the first `count` slots, if there is one
abbrev pub LowestFree : ℕ → List ℕ → Option ℕ → Type 0
LowestFree count ss None = (k : ℕ) → k < count → 0 < slice_index ss k
LowestFree count ss (Some i) = (i < count) × (slice_index ss i ≡ 0) × ((k : ℕ) → k < i → 0 < slice_index ss k)

-- the slot of the block of n at `at`, if it has one
abbrev pub SlotOf : ℕ → List ℕ → ℕ → ℕ → Option ℕ → Type 0
SlotOf unit ss at n None = member (block at n) (slots_out unit 0 ss) ≡ false
SlotOf unit ss at n (Some k) = (0 < n) × (at ≡ k * unit) × (slice_index ss k ≡ n)
