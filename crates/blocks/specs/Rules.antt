-- When a length fits, for each allocator; the rules are on any list and length.
use Rattle.std.specs.Prelude.{ℕ, zero, suc, ◌+◌, ◌-◌, ◌*◌, ◌/◌, Bool, false, ◌&&◌, ◌||◌, List, length, nat_le, nat_lt}
use Rattle.blocks.specs.declared.block.Block.{Block}
use Rattle.blocks.specs.Blocks.{total, clear}

-- some number below k passes the test
abbrev pub some_below : ℕ → (ℕ → Bool) → Bool
some_below zero f = false
some_below (suc k) f = f k || some_below k f

-- a gap of n lies inside the extent
unfoldable pub has_gap : ℕ → ℕ → List Block → Bool
has_gap extent n bs = some_below (suc extent - n) (λ p. clear p n bs)

-- first fit: a gap, and one of 512 lines free
abbrev pub first_fits : ℕ → List Block → ℕ → Bool
first_fits extent bs n = nat_lt 0 n && (has_gap extent n bs && nat_lt (length bs) 512)

-- one of the slots of `unit` places that lie whole in the extent is free
unfoldable pub free_slot : ℕ → ℕ → List Block → Bool
free_slot extent unit bs = some_below (extent / unit) (λ k. clear (k * unit) unit bs)

-- pool: no longer than a slot, and a slot free
abbrev pub pool_fits : ℕ → ℕ → List Block → ℕ → Bool
pool_fits extent unit bs n = nat_lt 0 n && (nat_le n unit && free_slot extent unit bs)

-- quota: what fits below, while no more than the limit is used
abbrev pub quota_fits : ℕ → (List Block → ℕ → Bool) → List Block → ℕ → Bool
quota_fits limit below bs n = below bs n && nat_le (total bs + n) limit
