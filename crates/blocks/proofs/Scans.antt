-- A walk over blocks apart, from one to the next, that stops at the first gap of n.
use Rattle.std.proofs.Common.{◌≡◌, ℕ, suc, ◌+◌, ◌<◌, ◌≤◌, true, false, cond, leb, List, [], ◌∷◌, length, get_or, drop, refl, ap, ◌∙◌, subst, subst₂, arith}
use Rattle.std.specs.List.{insert as inserted}
use Rattle.std.proofs.lemmas.List.{drop_more, drop_all}
use Rattle.std.proofs.lemmas.Bool.{cond-true, cond-false, le-leb, lt-leb}
use Rattle.std.proofs.lemmas.Grind.{common_steps}
use Rattle.blocks.specs.declared.block.Block.{Block}
use Rattle.blocks.specs.Blocks.{block, Apart, insert, clear}
use Rattle.blocks.specs.Gaps.{GapAt}
use Rattle.blocks.specs.Rules.{has_gap}
use Rattle.blocks.specs.Edits.{total_le, apart_insert}
use Rattle.blocks.specs.Fits.{has_gap_none}

pub apart_le : (extent from : ℕ) (bs : List Block) → Apart extent from bs → from ≤ extent
apart_le extent from bs a = omega (arith, total_le extent from bs a)

-- where the walk from `from` stops
unfoldable pub gap_at : ℕ → ℕ → List Block → ℕ
gap_at n from [] = from
gap_at n from (b ∷ bs) = cond (leb (from + n) b.offset) from (gap_at n (b.offset + b.len) bs)

-- and how many blocks it has passed
unfoldable pub gap_line : ℕ → ℕ → List Block → ℕ
gap_line n from [] = 0
gap_line n from (b ∷ bs) = cond (leb (from + n) b.offset) 0 (suc (gap_line n (b.offset + b.len) bs))

pub gap_end : (n from : ℕ) → (gap_at n from [] ≡ from) × (gap_line n from [] ≡ 0)
unfolding gap_at gap_line
gap_end n from = (refl, refl)

pub gap_here : (n from : ℕ) (b : Block) (bs : List Block) → from + n ≤ b.offset
    → (gap_at n from (b ∷ bs) ≡ from) × (gap_line n from (b ∷ bs) ≡ 0)
unfolding gap_at gap_line
gap_here n from b bs l = let t = le-leb (from + n) b.offset l in (cond-true _ _ _ t, cond-true _ _ _ t)

pub gap_past : (n from : ℕ) (b : Block) (bs : List Block) → b.offset < from + n
    → (gap_at n from (b ∷ bs) ≡ gap_at n (b.offset + b.len) bs) ×
    (gap_line n from (b ∷ bs) ≡ suc (gap_line n (b.offset + b.len) bs))
unfolding gap_at gap_line
gap_past n from b bs l = let t = lt-leb (from + n) b.offset l in (cond-false _ _ _ t, cond-false _ _ _ t)

gap_from : (n extent from : ℕ) (bs : List Block) → Apart extent from bs → from ≤ gap_at n from bs
unfolding gap_at
gap_from n extent from [] a = omega arith
gap_from n extent from (b ∷ bs) a =
    let a0 = a.0 in let a1 = a.1 in let r = gap_from n extent (b.offset + b.len) bs a.2 in grind (arith, common_steps)

gap_within : (n from : ℕ) (bs : List Block) → gap_line n from bs ≤ length bs
unfolding gap_line
gap_within n from [] = omega arith
gap_within n from (b ∷ bs) = let r = gap_within n (b.offset + b.len) bs in grind (arith, common_steps)

-- blocks from `from` on leave the places below it clear
clear_below : (p n extent from : ℕ) (bs : List Block) → p + n ≤ from → Apart extent from bs → clear p n bs ≡ true
clear_below p n extent from [] l a = refl
clear_below p n extent from (b ∷ bs) l a =
    let a0 = a.0 in
    let r = clear_below p n extent (b.offset + b.len) bs (omega arith) a.2 in
    grind (arith, common_steps)

gap_free : (n extent from : ℕ) (bs : List Block) → Apart extent from bs → clear (gap_at n from bs) n bs ≡ true
unfolding gap_at
gap_free n extent from [] a = refl
gap_free n extent from (b ∷ bs) a =
    let a0 = a.0 in
    let f = gap_from n extent (b.offset + b.len) bs a.2 in
    let r = gap_free n extent (b.offset + b.len) bs a.2 in
    grind (arith, common_steps, clear_below from n extent (b.offset + b.len) bs)

gap_lowest : (n extent from : ℕ) (bs : List Block) → 0 < n → Apart extent from bs → (p : ℕ) → from ≤ p
    → p < gap_at n from bs → clear p n bs ≡ false
unfolding gap_at
gap_lowest n extent from [] some a p low high = absurd (omega arith)
gap_lowest n extent from (b ∷ bs) some a p low high =
    let a0 = a.0 in
    grind (arith, common_steps, gap_lowest n extent (b.offset + b.len) bs some a.2 p)

gap_insert : (n extent from : ℕ) (bs : List Block) (x : Block) → 0 < n → Apart extent from bs
    → x.offset ≡ gap_at n from bs
    → inserted bs (gap_line n from bs) x ≡ insert x bs
unfolding gap_at gap_line
gap_insert n extent from [] x some a e = refl
gap_insert n extent from (b ∷ bs) x some a e =
    let a0 = a.0 in let a1 = a.1 in
    let f = gap_from n extent (b.offset + b.len) bs a.2 in
    grind (arith, common_steps, gap_insert n extent (b.offset + b.len) bs x some a.2)

-- the walk from 0 finds the lowest gap, if there is one
pub gap_found : (n extent : ℕ) (bs : List Block) → 0 < n → Apart extent 0 bs → gap_at n 0 bs + n ≤ extent
    → GapAt extent n bs (gap_at n 0 bs) (gap_line n 0 bs)
gap_found n extent bs some a l =
    let free = gap_free n extent 0 bs a in
    record {
      inside = l;
      free = free;
      lowest = λ p h. gap_lowest n extent 0 bs some a p (omega arith) h;
      within = gap_within n 0 bs;
      apart = apart_insert extent 0 (block (gap_at n 0 bs) n) bs some (omega arith) l free a;
      place = gap_insert n extent 0 bs (block (gap_at n 0 bs) n) some a refl;
    }

pub gap_missed : (n extent : ℕ) (bs : List Block) → 0 < n → Apart extent 0 bs → extent < gap_at n 0 bs + n
    → has_gap extent n bs ≡ false
gap_missed n extent bs some a l =
    has_gap_none extent n bs (λ p h. gap_lowest n extent 0 bs some a p (omega arith) (omega arith))

-- the walk from 0 has passed i blocks and come to `from`
pub record Walked (n extent : ℕ) (bs : List Block) (i from : ℕ) : Type 0 where
  pub some : 0 < n
  pub apart : Apart extent 0 bs
  pub ahead : Apart extent from (drop i bs)
  pub at : gap_at n 0 bs ≡ gap_at n from (drop i bs)
  pub line : gap_line n 0 bs ≡ i + gap_line n from (drop i bs)

-- the block at i
abbrev line_at : List Block → ℕ → Block
line_at bs i = get_or bs i (block 0 0)

module _ {n extent : ℕ} {bs : List Block} {i from : ℕ} (w : Walked n extent bs i from) where
  module _ (there : i < length bs) where
    more : drop i bs ≡ line_at bs i ∷ drop (i + 1) bs
    more = drop_more bs i (block 0 0) there

    onward : Apart extent from (line_at bs i ∷ drop (i + 1) bs)
    onward = subst (Apart extent from) more w.ahead

    pub walked_inside : (line_at bs i).offset + (line_at bs i).len ≤ extent
    walked_inside = apart_le extent ((line_at bs i).offset + (line_at bs i).len) (drop (i + 1) bs) onward.2

    pub walked_past : (line_at bs i).offset < from + n
        → Walked n extent bs (i + 1) ((line_at bs i).offset + (line_at bs i).len)
    walked_past l =
        let g = gap_past n from (line_at bs i) (drop (i + 1) bs) l in
        record {
          some = w.some;
          apart = w.apart;
          ahead = onward.2;
          at = w.at ∙ ap (gap_at n from) more ∙ g.0;
          line = omega (arith, w.line, ap (gap_line n from) more, g.1);
        }

    pub walked_here : from + n ≤ (line_at bs i).offset → GapAt extent n bs from i
    walked_here l =
        let g = gap_here n from (line_at bs i) (drop (i + 1) bs) l in
        let at : gap_at n 0 bs ≡ from = w.at ∙ ap (gap_at n from) more ∙ g.0 in
        let line : gap_line n 0 bs ≡ i = omega (arith, w.line, ap (gap_line n from) more, g.1) in
        subst₂ (GapAt extent n bs) at line (gap_found n extent bs w.some w.apart (omega (arith, walked_inside)))

  module _ (done : i ≡ length bs) where
    over : drop i bs ≡ []
    over = drop_all i bs (omega arith)

    last : gap_at n 0 bs ≡ from
    last = w.at ∙ ap (gap_at n from) over ∙ (gap_end n from).0

    pub walked_found : from + n ≤ extent → GapAt extent n bs from (length bs)
    walked_found l =
        let line : gap_line n 0 bs ≡ length bs = omega (arith, w.line, ap (gap_line n from) over, (gap_end n from).1) in
        subst₂ (GapAt extent n bs) last line (gap_found n extent bs w.some w.apart (omega (arith, last)))

    pub walked_missed : extent < from + n → has_gap extent n bs ≡ false
    walked_missed l = gap_missed n extent bs w.some w.apart (omega (arith, last))
