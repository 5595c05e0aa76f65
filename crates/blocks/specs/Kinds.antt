-- The meaning of each allocator, by what it holds.
use Rattle.std.specs.Prelude.{ℕ, List}
use Rattle.blocks.specs.declared.block.Block.{Block}
use Rattle.blocks.specs.Meaning.{Meaning}
use Rattle.blocks.specs.Rules.{first_fits, pool_fits, quota_fits}

-- the meaning of the one below, with the limit in its rule
abbrev pub quota_over : ℕ → Meaning → Meaning
quota_over limit m = record { extent = m.extent; fits = quota_fits limit m.fits; out = m.out }

-- slots of `unit` places
abbrev pub pool_with : ℕ → ℕ → List Block → Meaning
pool_with extent unit bs = record { extent = extent; fits = pool_fits extent unit; out = bs }

-- a line for each block
abbrev pub first_fit_with : ℕ → List Block → Meaning
first_fit_with extent bs = record { extent = extent; fits = first_fits extent; out = bs }
