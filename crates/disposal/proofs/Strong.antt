-- A strong handle that goes, and the cell that dies by the last one.
use Rattle.std.proofs.Common.{◌≡◌, ℕ, ◌-◌, ◌<◌, true, false, eqb, ltb, List, length, refl, ap, ◌∙◌, arith}
use Rattle.std.proofs.lemmas.Bool.{and_parts, and_from, and_right, cond-true, eqb-true, eq-eqb, ne_eqb, ltb-true, le-leb, both_ways}
use Rattle.element.specs.declared.reference.Reference.{Reference}
use Rattle.element.specs.declared.reference.Reference.TheVariants.{Empty, Strong, Weak}
use Rattle.cells.specs.Counts.{none, owns, owner, taken, is_cell, admits_strong, with_strong}
use Rattle.cells.specs.Rows.{at}
use Rattle.cells.specs.declared.row.Counts.{Counts}
use Rattle.cells.specs.declared.row.State.{State}
use Rattle.cells.specs.declared.row.State.TheVariants.{Free, Counted, Unique, Cyclic, Building, Disposing}
use Rattle.disposal.specs.Books.{Books, sole, begun}
use Rattle.disposal.proofs.Places.{within}
use Rattle.disposal.specs.Walks.{released, last, target}

owned : (s : State) → taken s ≡ true → owns s 1 ≡ 1
owned Free t = cc
owned Counted t = refl
owned Unique t = refl
owned Cyclic t = refl
owned Building t = refl
owned Disposing t = refl

-- k is what the cell at p has when a strong handle goes: its last owner goes where no other is left
pub sole_last : (b : Books) (p : ℕ) (k : Counts) → admits_strong (at b.rows p) ≡ true → k ≡ with_strong (at b.rows p) ((at b.rows p).strong - 1)
    → k.strong ≡ 0 → (sole (at b.rows p) ≡ true) × (last (Strong p) b ≡ true)
sole_last b p k a e z =
    let m = at b.rows p in
    let t = and_parts (is_cell m) (ltb m.loose_strong m.strong) a in
    let l = ltb-true m.loose_strong m.strong t.1 in
    let s : k.strong ≡ m.strong - 1 = ap (λ (k : Counts). k.strong) e in
    let one : m.strong ≡ 1 = omega arith in
    let none : m.loose_strong ≡ 0 = omega arith in
    let o : owner m ≡ 1 = ap (owns m.state) one ∙ owned m.state (and_parts (taken m.state) _ t.0).0 in (
      and_from _ _ t.0 (and_from _ _ (eq-eqb (owner m) 1 o) (and_from _ _ (le-leb m.strong 1 (omega arith)) (eq-eqb m.loose_strong 0 none))),
      and_from _ _ a (eq-eqb m.strong 1 one),
    )

-- and nothing dies where others are
pub fewer : (b : Books) (p : ℕ) (k : Counts) → k ≡ with_strong (at b.rows p) ((at b.rows p).strong - 1) → (k.strong ≡ 0 → ⊥) → last (Strong p) b ≡ false
fewer b p k e n =
    let s : k.strong ≡ (at b.rows p).strong - 1 = ap (λ (k : Counts). k.strong) e in
    and_right _ _ (ne_eqb (at b.rows p).strong 1 (λ z. n (omega arith)))

-- the last one: the disposal begins
pub last_begun : (r : Reference) (b : Books) → last r b ≡ true → (released r b ≡ begun b (target r)) × ((at b.rows (target r)).strong ≡ 1)
last_begun Empty b e = absurd (both_ways false refl e)
last_begun (Strong q) b e =
    let t = and_parts (admits_strong (at b.rows q)) (eqb (at b.rows q).strong 1) e in
    (cond-true _ _ _ t.0 ∙ cond-true _ _ _ t.1, eqb-true _ _ t.1)
last_begun (Weak q) b e = absurd (both_ways false refl e)

pub strong_within : (rows : List Counts) (q : ℕ) → (at rows q).strong ≡ 1 → q < length rows
strong_within rows q e = within none rows q (λ z. let s : (at rows q).strong ≡ 0 = ap (λ (k : Counts). k.strong) z in omega arith)
