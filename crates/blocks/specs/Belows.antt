-- Whether some number below a bound passes a test.
use Rattle.std.specs.Prelude.{◌≡◌, ℕ, zero, suc, ◌<◌, Bool, true, false, refl}
use Rattle.std.proofs.Common.{arith}
use Rattle.std.proofs.lemmas.Grind.{common_steps}
use Rattle.blocks.specs.Rules.{some_below}

pub some_below_at : (k : ℕ) (f : ℕ → Bool) (i : ℕ) → i < k → f i ≡ true → some_below k f ≡ true
some_below_at zero f i h e = absurd (omega arith)
some_below_at (suc k) f i h e = grind (arith, common_steps, some_below_at k f i)

pub some_below_none : (k : ℕ) (f : ℕ → Bool) → ((i : ℕ) → i < k → f i ≡ false) → some_below k f ≡ false
some_below_none zero f h = refl
some_below_none (suc k) f h =
    let r = some_below_none k f (λ i l. h i (omega arith)) in let e = h k (omega arith) in grind (arith, common_steps)

pub some_below_like : (k : ℕ) (f g : ℕ → Bool) → ((i : ℕ) → f i ≡ true → g i ≡ true) → some_below k f ≡ true
    → some_below k g ≡ true
some_below_like zero f g h e = e
some_below_like (suc k) f g h e = grind (arith, common_steps, h k, some_below_like k f g h)

-- a bound below which there is some number is no 0
pub some_below_pos : (k : ℕ) (f : ℕ → Bool) → some_below k f ≡ true → 0 < k
some_below_pos zero f e = absurd cc
some_below_pos (suc k) f e = omega arith
