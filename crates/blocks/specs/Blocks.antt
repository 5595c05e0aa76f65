-- Lists of blocks. Nothing is assumed of a list but where `Apart` is asked.
use Rattle.std.specs.Prelude.{ℕ, ◌+◌, ◌<◌, ◌≤◌, Bool, true, false, cond, ◌&&◌, ◌||◌, List, [], ◌∷◌, ◌==◌, nat_le, nat_lt}
use Rattle.blocks.specs.declared.block.Block.{Block}

abbrev pub block : ℕ → ℕ → Block
block at n = record { offset = at; len = n }

-- sorted by offset, none empty, none overlapping, all from `from` on and inside the extent
abbrev pub Apart : ℕ → ℕ → List Block → Type 0
Apart extent from [] = from ≤ extent
Apart extent from (b ∷ bs) = (from ≤ b.offset) × (0 < b.len) × Apart extent (b.offset + b.len) bs

-- the sum of the lengths
abbrev pub total : List Block → ℕ
total [] = 0
total (b ∷ bs) = b.len + total bs

abbrev pub same : Block → Block → Bool
same x y = x.offset == y.offset && x.len == y.len

abbrev pub member : Block → List Block → Bool
member x [] = false
member x (b ∷ bs) = same x b || member x bs

-- the list with one block more, at its place by offset
abbrev pub insert : Block → List Block → List Block
insert x [] = x ∷ []
insert x (b ∷ bs) = cond (nat_lt x.offset b.offset) (x ∷ (b ∷ bs)) (b ∷ insert x bs)

-- the list without that block
abbrev pub remove : Block → List Block → List Block
remove x [] = []
remove x (b ∷ bs) = cond (same x b) bs (b ∷ remove x bs)

-- the n places from p on lie in no block
abbrev pub clear : ℕ → ℕ → List Block → Bool
clear p n [] = true
clear p n (b ∷ bs) = (nat_le (p + n) b.offset || nat_le (b.offset + b.len) p) && clear p n bs
