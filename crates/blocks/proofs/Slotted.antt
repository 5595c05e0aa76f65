-- The blocks in the slots of a pool: apart, and one more or one less by one slot.
use Rattle.std.proofs.Common.{◌≡◌, ℕ, zero, suc, ◌+◌, ◌*◌, ◌<◌, ◌≤◌, true, false, eqb, List, [], ◌∷◌, length, get_or, set, replicate, refl, suc-mul, zero-mul, arith}
use Rattle.std.proofs.lemmas.Grind.{common_steps}
use Rattle.blocks.specs.declared.block.Block.{Block}
use Rattle.blocks.specs.Blocks.{block, member, insert, remove, clear}
use Rattle.blocks.specs.Slots.{slots_out}

pub slots_none : (unit at n : ℕ) → slots_out unit at (replicate n 0) ≡ []
unfolding slots_out
slots_none unit at zero = refl
slots_none unit at (suc n) = slots_none unit (at + unit) n

pub get_or-zeros : (n k : ℕ) → get_or {A = ℕ} (replicate n 0) k 0 ≡ 0
get_or-zeros zero k = refl
get_or-zeros (suc n) zero = refl
get_or-zeros (suc n) (suc k) = get_or-zeros n k

-- a slot is clear when it is free
later_clear : (unit at p n : ℕ) (ss : List ℕ) → p + n ≤ at → clear p n (slots_out unit at ss) ≡ true
unfolding slots_out
later_clear unit at p n [] l = refl
later_clear unit at p n (s ∷ ss) l = grind (arith, common_steps, later_clear unit (at + unit) p n ss (omega arith))

pub slot_clear : (unit at k : ℕ) (ss : List ℕ) → 0 < unit → ((k : ℕ) → get_or ss k 0 ≤ unit)
    → clear (at + k * unit) unit (slots_out unit at ss) ≡ eqb (get_or ss k 0) 0
unfolding slots_out
slot_clear unit at k [] u held = refl
slot_clear unit at zero (s ∷ ss) u held =
    grind (arith, common_steps, zero-mul unit, later_clear unit (at + unit) at unit ss (omega arith))
slot_clear unit at (suc k) (s ∷ ss) u held =
    let m = suc-mul k unit in
    let e : at + unit + k * unit ≡ at + suc k * unit = omega arith in
    grind (arith, common_steps, e, held 0, slot_clear unit (at + unit) k ss u (λ j. held (suc j)))

-- a block put into a free slot
earlier_insert : (unit at : ℕ) (x : Block) (ss : List ℕ) → x.offset < at
    → insert x (slots_out unit at ss) ≡ x ∷ slots_out unit at ss
unfolding slots_out
earlier_insert unit at x [] l = refl
earlier_insert unit at x (s ∷ ss) l = grind (arith, common_steps, earlier_insert unit (at + unit) x ss (omega arith))

pub slot_insert : (unit at k n : ℕ) (ss : List ℕ) → 0 < unit → 0 < n → k < length ss → get_or ss k 0 ≡ 0
    → insert (block (at + k * unit) n) (slots_out unit at ss) ≡ slots_out unit at (set ss k n)
unfolding slots_out
slot_insert unit at k n [] u p l f = absurd (omega arith)
slot_insert unit at zero n (s ∷ ss) u p l f =
    grind (arith, common_steps, zero-mul unit, earlier_insert unit (at + unit) (block at n) ss (omega arith))
slot_insert unit at (suc k) n (s ∷ ss) u p l f =
    let m = suc-mul k unit in
    let e : at + unit + k * unit ≡ at + suc k * unit = omega arith in
    grind (arith, common_steps, e, slot_insert unit (at + unit) k n ss u p (omega arith) f)

-- a block taken out of its slot
pub slot_remove : (unit at k n : ℕ) (ss : List ℕ) → 0 < unit → 0 < n → get_or ss k 0 ≡ n
    → remove (block (at + k * unit) n) (slots_out unit at ss) ≡ slots_out unit at (set ss k 0)
unfolding slots_out
slot_remove unit at k n [] u p f = absurd (omega arith)
slot_remove unit at zero n (s ∷ ss) u p f = grind (arith, common_steps, zero-mul unit)
slot_remove unit at (suc k) n (s ∷ ss) u p f =
    let m = suc-mul k unit in
    let e : at + unit + k * unit ≡ at + suc k * unit = omega arith in
    grind (arith, common_steps, e, slot_remove unit (at + unit) k n ss u p f)

pub slot_member : (unit at k n : ℕ) (ss : List ℕ) → 0 < n → get_or ss k 0 ≡ n
    → member (block (at + k * unit) n) (slots_out unit at ss) ≡ true
unfolding slots_out
slot_member unit at k n [] p f = absurd (omega arith)
slot_member unit at zero n (s ∷ ss) p f = grind (arith, common_steps, zero-mul unit)
slot_member unit at (suc k) n (s ∷ ss) p f =
    let m = suc-mul k unit in
    let e : at + unit + k * unit ≡ at + suc k * unit = omega arith in
    grind (arith, common_steps, e, slot_member unit (at + unit) k n ss p f)

pub slot_stranger : (unit at : ℕ) (b : Block) (ss : List ℕ)
    → ((k : ℕ) → 0 < get_or ss k 0 → b.offset ≡ at + k * unit → b.len ≡ get_or ss k 0 → ⊥)
    → member b (slots_out unit at ss) ≡ false
unfolding slots_out
slot_stranger unit at b [] f = refl
slot_stranger unit at b (s ∷ ss) f =
    let m = zero-mul unit in
    let r = slot_stranger unit (at + unit) b ss (λ k p o l. f (suc k) p (let m = suc-mul k unit in omega arith) l) in
    grind (arith, common_steps, r, f 0)
