-- The line of a block.
use Rattle.std.proofs.Common.{◌≡◌, ℕ, zero, suc, ◌<◌, ◌≤◌, true, false, List, [], ◌∷◌, length, sym, ap, subst, ◌∙◌, refl, Option, Some, None, arith}
use Rattle.std.specs.Option.{MatchOption}
use Rattle.std.specs.List.{AllWithin, HoldsAt, remove as removed}
use Rattle.std.proofs.lemmas.Bool.Decides.{nat_tests}
use Rattle.std.proofs.lemmas.Bool.{cond-true, cond-false, or_left, or_right, or_from}
use Rattle.blocks.specs.declared.block.Block.{Block}
use Rattle.blocks.specs.Blocks.{Apart, total, same, member}
use Rattle.blocks.specs.Edits.{total_remove, apart_remove}
use Rattle.blocks.specs.Lined.{LineOf}

-- the order of the two blocks does not matter
pub same_comm : (x y : Block) → same x y ≡ same y x
same_comm x y = grind (arith, nat_tests)

-- the first line that has the block
abbrev IsFirstLine : Block → List Block → ℕ → Type 0
IsFirstLine x bs i =
    (i < length bs) × HoldsAt (λ b. same x b ≡ true) bs i × AllWithin (λ b. same x b ≡ false) bs 0 i

line_first : (x : Block) (bs : List Block) (i : ℕ) → IsFirstLine x bs i → LineOf x bs (Some i)
line_first x [] i f = absurd (let l = f.0 in omega arith)
line_first x (b ∷ bs) zero f = (f.0, or_left _ _ (f.1 b), cond-true _ _ _ (f.1 b))
line_first x (b ∷ bs) (suc i) f =
    let r = line_first x bs i (let l = f.0 in omega arith, f.1, λ k d l h. f.2 (suc k) d (omega arith) (omega arith)) in
    (f.0, or_right _ _ r.1, cond-false _ _ _ (f.2 0 b (omega arith) (omega arith)) ∙ ap {B = List Block} (λ cs. b ∷ cs) r.2)

line_none : (x : Block) (bs : List Block) → AllWithin (λ b. same x b ≡ false) bs 0 (length bs) → member x bs ≡ false
line_none x [] none = refl
line_none x (b ∷ bs) none =
    or_from _ _ (none 0 b (omega arith) (omega arith))
    (line_none x bs (λ k d l h. none (suc k) d (omega arith) (omega arith)))

pub line_found : (x : Block) (bs : List Block) (r : Option ℕ)
    → MatchOption r (AllWithin (λ b. same x b ≡ false) bs 0 (length bs)) (IsFirstLine x bs) → LineOf x bs r
line_found x bs None m = line_none x bs m
line_found x bs (Some i) m = line_first x bs i m

-- without it the others stay apart
pub apart_removed : (extent line : ℕ) (x : Block) (bs cs : List Block) → cs ≡ removed bs line → LineOf x bs (Some line)
    → Apart extent 0 bs → Apart extent 0 cs
apart_removed extent line x bs cs took found a =
    subst (Apart extent 0) (found.2 ∙ sym took) (apart_remove extent 0 x bs a)

pub len_le_total : (line : ℕ) (x : Block) (bs : List Block) → LineOf x bs (Some line) → x.len ≤ total bs
len_le_total line x bs found = omega (arith, total_remove x bs found.1)
