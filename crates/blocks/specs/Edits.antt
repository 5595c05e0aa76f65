-- What a list of blocks is after one is put in or taken out.
use Rattle.std.specs.Prelude.{◌≡◌, ℕ, ◌+◌, ◌<◌, ◌≤◌, true, false, List, [], ◌∷◌, length, ◌==◌, ◌≢◌, refl}
use Rattle.std.proofs.Common.{ap, ⊎_elim, arith}
use Rattle.std.proofs.lemmas.Bool.{cases_Bool, eqb-true, and_parts}
use Rattle.std.proofs.lemmas.Grind.{common_steps}
use Rattle.blocks.specs.declared.block.Block.{Block}
use Rattle.blocks.specs.Blocks.{Apart, total, same, member, insert, remove, clear}

-- the test tells blocks apart
pub same_is : (x y : Block) → same x y ≡ true → x ≡ y
same_is x y e =
    let t = and_parts (x.offset == y.offset) (x.len == y.len) e in
    λ i. record { offset = eqb-true x.offset y.offset t.0 i; len = eqb-true x.len y.len t.1 i }

pub not_same : (x y : Block) → (x.offset ≡ y.offset → x.len ≢ y.len) → same x y ≡ false
not_same x y f =
    ⊎_elim
    (λ (e : same x y ≡ true). let t = same_is x y e in absurd
    (f (ap (λ (b : Block). b.offset) t) (ap (λ (b : Block). b.len) t)))
    (λ (e : same x y ≡ false). e)
    (cases_Bool (same x y))

pub total_insert : (x : Block) (bs : List Block) → total (insert x bs) ≡ x.len + total bs
total_insert x [] = refl
total_insert x (b ∷ bs) = grind (arith, common_steps, total_insert x bs)

pub total_remove : (x : Block) (bs : List Block) → member x bs ≡ true → total (remove x bs) + x.len ≡ total bs
total_remove x [] h = absurd cc
total_remove x (b ∷ bs) h = grind (arith, common_steps, total_remove x bs)

pub total_remove_le : (x : Block) (bs : List Block) → total (remove x bs) ≤ total bs
total_remove_le x [] = omega arith
total_remove_le x (b ∷ bs) = grind (arith, common_steps, total_remove_le x bs)

pub length_remove_le : (x : Block) (bs : List Block) → length (remove x bs) ≤ length bs
length_remove_le x [] = omega arith
length_remove_le x (b ∷ bs) = grind (arith, common_steps, length_remove_le x bs)

pub clear_remove : (p n : ℕ) (x : Block) (bs : List Block) → clear p n bs ≡ true → clear p n (remove x bs) ≡ true
clear_remove p n x [] h = refl
clear_remove p n x (b ∷ bs) h = grind (arith, common_steps, clear_remove p n x bs)

-- blocks apart leave no more than the extent
pub total_le : (extent from : ℕ) (bs : List Block) → Apart extent from bs → from + total bs ≤ extent
total_le extent from [] a = omega arith
total_le extent from (b ∷ bs) a = let a0 = a.0 in omega (arith, total_le extent (b.offset + b.len) bs a.2)

-- where a longer block is clear, so is a shorter one
pub clear_shorter : (p m n : ℕ) (bs : List Block) → m ≤ n → clear p n bs ≡ true → clear p m bs ≡ true
clear_shorter p m n [] l h = refl
clear_shorter p m n (b ∷ bs) l h = grind (arith, common_steps, clear_shorter p m n bs l)

-- apart from a lower place on too
pub apart_lower : (extent low from : ℕ) (bs : List Block) → low ≤ from → Apart extent from bs → Apart extent low bs
apart_lower extent low from [] l a = omega arith
apart_lower extent low from (b ∷ bs) l a = let a0 = a.0 in (omega arith, a.1, a.2)

pub apart_remove : (extent from : ℕ) (x : Block) (bs : List Block) → Apart extent from bs
    → Apart extent from (remove x bs)
apart_remove extent from x [] a = a
apart_remove extent from x (b ∷ bs) a =
    grind (arith, common_steps, apart_lower extent from (b.offset + b.len) bs, apart_remove extent (b.offset + b.len) x bs)

pub apart_insert : (extent from : ℕ) (x : Block) (bs : List Block) → 0 < x.len → from ≤ x.offset
    → x.offset + x.len ≤ extent
    → clear x.offset x.len bs ≡ true → Apart extent from bs → Apart extent from (insert x bs)
apart_insert extent from x [] some low high free a = (low, some, high)
apart_insert extent from x (b ∷ bs) some low high free a =
    grind (arith, common_steps, apart_insert extent (b.offset + b.len) x bs)
