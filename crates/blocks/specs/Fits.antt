-- The rules: when one fits, and that fewer blocks leave no less room.
use Rattle.std.specs.Prelude.{◌≡◌, ℕ, suc, ◌+◌, ◌-◌, ◌*◌, ◌/◌, ◌<◌, ◌≤◌, Bool, true, false, List, [], refl}
use Rattle.std.proofs.Common.{arith}
use Rattle.std.proofs.lemmas.Nat.{le-div}
use Rattle.std.proofs.lemmas.Grind.{common_steps}
use Rattle.blocks.specs.declared.block.Block.{Block}
use Rattle.blocks.specs.Blocks.{remove, clear}
use Rattle.blocks.specs.Rules.{has_gap, first_fits, free_slot, pool_fits, quota_fits}
use Rattle.blocks.specs.Edits.{total_remove_le, clear_remove, length_remove_le}
use Rattle.blocks.specs.Belows.{some_below_at, some_below_none, some_below_like, some_below_pos}

pub free_slot_at : (extent unit k : ℕ) (bs : List Block) → k < extent / unit → clear (k * unit) unit bs ≡ true
    → free_slot extent unit bs ≡ true
unfolding free_slot
free_slot_at extent unit k bs l h = some_below_at (extent / unit) (λ k. clear (k * unit) unit bs) k l h

pub free_slot_none : (extent unit : ℕ) (bs : List Block)
    → ((k : ℕ) → k < extent / unit → clear (k * unit) unit bs ≡ false) → free_slot extent unit bs ≡ false
unfolding free_slot
free_slot_none extent unit bs h = some_below_none (extent / unit) (λ k. clear (k * unit) unit bs) h

free_slot_fewer : (extent unit : ℕ) (b : Block) (bs : List Block) → free_slot extent unit bs ≡ true
    → free_slot extent unit (remove b bs) ≡ true
unfolding free_slot
free_slot_fewer extent unit b bs h =
    some_below_like (extent / unit) (λ k. clear (k * unit) unit bs) (λ k. clear (k * unit) unit (remove b bs))
    (λ k. clear_remove (k * unit) unit b bs) h

pub pool_one : (extent unit : ℕ) → 1 ≤ unit → unit ≤ extent → pool_fits extent unit [] 1 ≡ true
pool_one extent unit u e =
    let free = free_slot_at extent unit 0 [] (le-div 1 extent unit u (omega arith)) refl in grind (arith, common_steps)

pub pool_fewer : (extent unit : ℕ) (b : Block) (bs : List Block) (n : ℕ) → pool_fits extent unit bs n ≡ true
    → pool_fits extent unit (remove b bs) n ≡ true
pool_fewer extent unit b bs n h = grind (arith, common_steps, free_slot_fewer extent unit b bs)

pub has_gap_at : (extent n p : ℕ) (bs : List Block) → p + n ≤ extent → clear p n bs ≡ true → has_gap extent n bs ≡ true
unfolding has_gap
has_gap_at extent n p bs l h = some_below_at (suc extent - n) (λ p. clear p n bs) p (omega arith) h

pub has_gap_none : (extent n : ℕ) (bs : List Block) → ((p : ℕ) → p + n ≤ extent → clear p n bs ≡ false)
    → has_gap extent n bs ≡ false
unfolding has_gap
has_gap_none extent n bs h = some_below_none (suc extent - n) (λ p. clear p n bs) (λ p l. h p (omega arith))

has_gap_fewer : (extent n : ℕ) (b : Block) (bs : List Block) → has_gap extent n bs ≡ true
    → has_gap extent n (remove b bs) ≡ true
unfolding has_gap
has_gap_fewer extent n b bs h =
    some_below_like (suc extent - n) (λ p. clear p n bs) (λ p. clear p n (remove b bs)) (λ p. clear_remove p n b bs) h

has_gap_le : (extent n : ℕ) (bs : List Block) → has_gap extent n bs ≡ true → n ≤ extent
unfolding has_gap
has_gap_le extent n bs h = omega (arith, some_below_pos (suc extent - n) (λ p. clear p n bs) h)

pub first_lengths : (extent : ℕ) (bs : List Block) (n : ℕ) → first_fits extent bs n ≡ true → (1 ≤ n) × (n ≤ extent)
first_lengths extent bs n h = grind (arith, common_steps, has_gap_le extent n bs)

pub first_one : (extent : ℕ) → 1 ≤ extent → first_fits extent [] 1 ≡ true
first_one extent l = let gap = has_gap_at extent 1 0 [] (omega arith) refl in grind (arith, common_steps)

pub first_fewer : (extent : ℕ) (b : Block) (bs : List Block) (n : ℕ) → first_fits extent bs n ≡ true
    → first_fits extent (remove b bs) n ≡ true
first_fewer extent b bs n h =
    grind (arith, common_steps, has_gap_fewer extent n b bs, length_remove_le b bs)

pub quota_fewer : (limit : ℕ) (below : List Block → ℕ → Bool) (b : Block) (bs : List Block) (n : ℕ)
    → (below bs n ≡ true → below (remove b bs) n ≡ true)
    → quota_fits limit below bs n ≡ true → quota_fits limit below (remove b bs) n ≡ true
quota_fewer limit below b bs n f h = grind (arith, common_steps, total_remove_le b bs)
