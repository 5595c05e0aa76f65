-- That the blocks out are apart, from what each allocator keeps.
use Rattle.std.specs.Prelude.{◌≡◌, ℕ, zero, suc, ◌+◌, ◌*◌, ◌<◌, ◌≤◌, List, [], ◌∷◌, refl}
use Rattle.std.proofs.Common.{ltb, ◌⊎◌, get_or, inl, inr, suc-mul, arith}
use mathlib.Core.HLevel.{×₃_prop}
use mathlib.Core.Logic.{∥∥₁_elim}
use native.Mathlib.Bridge.{le_prop}
use Rattle.std.proofs.lemmas.Bool.{cond-true, cond-false, lt-ltb, le-ltb}
use Rattle.std.proofs.lemmas.Grind.{common_steps}
use Rattle.blocks.specs.declared.block.Block.{Block}
use Rattle.blocks.specs.Blocks.{block, Apart}
use Rattle.blocks.specs.Slots.{slots_out}

pub apart_prop : (extent from : ℕ) (bs : List Block) → IsProp (Apart extent from bs)
apart_prop extent from [] = le_prop
apart_prop extent from (b ∷ bs) = ×₃_prop le_prop le_prop (apart_prop extent (b.offset + b.len) bs)

pub apart_of : (extent from : ℕ) (bs : List Block) → ∥ Apart extent from bs ∥₁ → Apart extent from bs
apart_of extent from bs a = ∥∥₁_elim a (apart_prop extent from bs) (λ x. x)

pub none_or_some : (s : ℕ) → (s ≡ 0) ⊎ (0 < s)
none_or_some zero = inl refl
none_or_some (suc s) = inr (omega arith)

pub slot_free : (unit at s : ℕ) (ss : List ℕ) → s ≡ 0 → slots_out unit at (s ∷ ss) ≡ slots_out unit (at + unit) ss
unfolding slots_out
slot_free unit at s ss e = cond-false (ltb 0 s) _ _ (le-ltb 0 s (omega arith))

pub slot_taken : (unit at s : ℕ) (ss : List ℕ) → 0 < s
    → slots_out unit at (s ∷ ss) ≡ block at s ∷ slots_out unit (at + unit) ss
unfolding slots_out
slot_taken unit at s ss l = cond-true (ltb 0 s) _ _ (lt-ltb 0 s l)

pub slots_end : (unit at : ℕ) → slots_out unit at [] ≡ []
unfolding slots_out
slots_end unit at = refl

pub slots_apart : (unit extent at from : ℕ) (ss : List ℕ) → from ≤ at → from ≤ extent
    → ((k : ℕ) → get_or ss k 0 ≤ unit) → ((k : ℕ) → 0 < get_or ss k 0 → at + k * unit + unit ≤ extent)
    → Apart extent from (slots_out unit at ss)
unfolding slots_out
slots_apart unit extent at from [] l e held inside = e
slots_apart unit extent at from (s ∷ ss) l e held inside =
    let next : (k : ℕ) → 0 < get_or ss k 0 → at + unit + k * unit + unit ≤ extent = λ k p. omega
    (arith, inside (suc k) p, suc-mul k unit) in
    let h : s ≤ unit = held 0 in
    let i : 0 < s → at + 0 * unit + unit ≤ extent = inside 0 in
    let later : (low : ℕ) → low ≤ at + unit → low ≤ extent → Apart extent low (slots_out unit (at + unit) ss) =
    λ low l m. slots_apart unit extent (at + unit) low ss l m (λ k. held (suc k)) next in
    grind (arith, common_steps, later from, later (at + s))

pub pool_slots_apart : (unit extent : ℕ) (ss : List ℕ) → ((k : ℕ) → get_or ss k 0 ≤ unit)
    → ((k : ℕ) → 0 < get_or ss k 0 → k * unit + unit ≤ extent) → Apart extent 0 (slots_out unit 0 ss)
pool_slots_apart unit extent ss held inside =
    slots_apart unit extent 0 0 ss (omega arith) (omega arith) held (λ k q. omega (arith, inside k q))
