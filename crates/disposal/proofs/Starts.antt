-- The first cell under disposal, and the release of a handle: what is then left to do ends it.
use Rattle.std.proofs.Common.{◌≡◌, ℕ, ◌+◌, ◌<◌, ◌≤◌, Bool, true, false, cond, List, [], length, set, MatchBool, sym, refl, ap, ◌∙◌, subst, ⊎_elim, Some, None, Option, arith}
use mathlib.Core.Path.{subst₃}
use Rattle.std.proofs.lemmas.List.{get_or-set_same, append-nil}
use Rattle.std.proofs.lemmas.Bool.{and_parts, cases_Bool, cond-true, cond-false, both_ways}
use Rattle.blocks.specs.Meaning.{Meaning}
use Rattle.element.specs.declared.reference.Reference.{Reference}
use Rattle.cells.specs.Counts.{none, is_cell, last_owner, dying}
use Rattle.cells.specs.Rows.{at, at_rest}
use Rattle.cells.specs.Tables.{counts_in, links_in}
use Rattle.cells.specs.declared.row.Counts.{Counts}
use Rattle.cells.specs.declared.row.Link.{Link}
use Rattle.disposal.specs.Books.{Books, none_yet, sole, begun}
use Rattle.disposal.specs.Disposal.{World, Abandons, Release, with_books}
use Rattle.disposal.specs.Stores.{books_of, world_of, Resting}
use Rattle.disposal.specs.Walks.{stack_of, released, last, target, entered, onto, Does, disposal, Chain, Idle, todo, pending, fresh, tally}
use Rattle.disposal.specs.declared.store.Receipt.{Receipt}
use Rattle.disposal.specs.declared.store.Store.{Store}
use Rattle.disposal.proofs.Chains.{idle_link}
use Rattle.disposal.proofs.Pending.{pending_fresh}
use Rattle.disposal.proofs.Places.{rows_full, links_full, cell_here, standing_short}
use Rattle.disposal.proofs.Quiet.{quiet_released}
use Rattle.disposal.proofs.Splits.{does_disposal, one_release, last_release}
use Rattle.disposal.proofs.Strong.{last_begun, strong_within}

-- from the world w, whose links are `links`: a walk from here on ends in a world v with R v
pub record Started {E : Type 0} (refs : E → List Reference) (mem : List E) (R : World E → Type 0) (w : World E) (links : List (Option Link))
    (b : Books) (ls : List (Option Link)) (from : Option ℕ) : Type 0 where
  pub chain : Chain b.rows ls from (stack_of from)
  pub ends : (v : World E) → Does refs mem (todo refs mem ls (stack_of from)) (with_books w b) v → R v
  pub idle : Resting links → Idle ls (stack_of from)
  pub counted : tally b.receipt ≤ tally w.books.receipt + 1

-- in a full table, with cells of as many elements as 16 bits hold
module _ {E : Type 0} (refs : E → List Reference) (few : (x : E) → length (refs x) ≤ 4) (mem : List E)
    (w : World E) (links : List (Option Link)) (lr : length w.books.rows ≡ 1024) (ll : length links ≡ 1024) (short : (q : ℕ) → (at w.books.rows q).standing ≤ 65535) where
  -- the disposal of the cell at p has begun, and it is the only one
  first : (R : World E → Type 0) (p : ℕ) → p < 1024
      → ((v : World E) → Does refs mem (disposal refs mem p (at w.books.rows p).standing) (with_books w (begun w.books p)) v → R v)
      → Started refs mem R w links (begun w.books p) (set links p (Some (fresh p (at w.books.rows p).standing None))) (Some p)
  first R p h ends =
      let n = (at w.books.rows p).standing in
      let l : p < length links = omega arith in
      let m : p < length w.books.rows = omega arith in
      let s = short p in
      let k = fresh p n None in
      let here = get_or-set_same links p (Some k) at_rest l in
      let dead : (at (begun w.books p).rows p).strong ≡ 0 =
      ap (λ (z : Counts). z.strong) (get_or-set_same w.books.rows p (dying (at w.books.rows p)) none m) in
      let work = append-nil _ ∙ ap (pending refs mem p) here ∙ pending_fresh refs few mem p n None in
      record {
        chain = (k, refl, record { here = here; dead = dead; open_still = omega arith; short = omega arith }, tt, refl);
        ends = λ v d. ends v (subst (λ z. Does refs mem z (with_books w (begun w.books p)) v) work d);
        idle = λ rest. idle_link links p (Some k) [] (λ q _. rest q);
        counted = omega arith;
      }

  abbrev Releasing : Reference → Books → List (Option Link) → Option ℕ → Type 0
  Releasing r = Started refs mem (Release refs mem r w) w links

  released_from : (r : Reference) → Releasing r (released r w.books) (entered r w.books links None) (onto r w.books None)
  released_from r =
      ⊎_elim
      (λ e.
      let q = target r in
      let b = last_begun r w.books e in
      let within = strong_within w.books.rows q b.1 in
      let here : q < 1024 = omega arith in
      let ends = λ (v : World E) (d : Does refs mem (disposal refs mem q (at w.books.rows q).standing) (with_books w (begun w.books q)) v).
      last_release refs mem r w v e (subst (λ z. Does refs mem (disposal refs mem q (at w.books.rows q).standing) (with_books w z) v) (sym b.0) d) in
      subst₃ (Releasing r) (sym b.0) (sym (cond-true _ _ _ e)) (sym (cond-true _ _ _ e)) (first (Release refs mem r w) q here ends))
      (λ e.
      subst₃ (Releasing r) refl (sym (cond-false _ _ _ e)) (sym (cond-false _ _ _ e))
      (record {
        chain = refl;
        ends = λ v d. subst (Release refs mem r w) (sym d) (one_release refs mem r w e);
        idle = λ rest q _. rest q;
        counted = (quiet_released r w.books).counted;
      }))
      (cases_Bool (last r w.books))

when_from : (t : Bool) (P Q : Type 0) → t ≡ true → P → MatchBool t P Q
when_from true P Q e h = h
when_from false P Q e h = absurd (both_ways false refl e)

begun_some : {A : Type 0} (t : Bool) (x y : A) → Some x ≡ cond t (Some y) None → t ≡ true
begun_some true x y e = refl
begun_some false x y e = absurd (cc)

-- what `default` answers
pub nothing : (t : Receipt) → (t.listed ≡ 0) × ((t.cells ≡ 0) × ((t.blocks ≡ 0) × (t.strays ≡ 0))) → t ≡ none_yet
nothing t z = λ i. record { listed = z.0 i; cells = z.1.0 i; blocks = z.1.1.0 i; strays = z.1.1.1 i }

-- the disposal of a cell on its own, where it begins
pub alone : {A E : Type 0} (m : A → Meaning) (refs : E → List Reference) (few : (x : E) → length (refs x) ≤ 4) (mem xs : List E)
    (p q : ℕ) (s s' : Store A) (t t' : Receipt)
    → let only = sole (at (counts_in s.table) p) in
    books_of m s' t' ≡ cond only (begun (books_of m s t) p) (books_of m s t)
    → links_in s'.table ≡ cond only (set (links_in s.table) p (Some (fresh p (at (counts_in s.table) p).standing None))) (links_in s.table)
    → Some q ≡ cond only (Some p) None
    → let w = world_of m s t xs in
    Started refs mem (Abandons refs mem p w) w (links_in s.table) (books_of m s' t') (links_in s'.table) (Some q)
alone m refs few mem xs p q s s' t t' eb el ep =
    let w = world_of m s t xs in
    let k = at (counts_in s.table) p in
    let only = begun_some (sole k) q p ep in
    let here = cell_here s.table p k refl (and_parts (is_cell k) (last_owner k) only).0 in
    subst₃ (Started refs mem (Abandons refs mem p w) w (links_in s.table))
    (sym (eb ∙ cond-true _ _ _ only)) (sym (el ∙ cond-true _ _ _ only)) (sym (ep ∙ cond-true _ _ _ only))
    (first refs few mem w (links_in s.table) (rows_full s.table) (links_full s.table) (standing_short s.table) (Abandons refs mem p w) p here
    (λ v d. when_from (sole k) _ _ only (does_disposal refs mem p w v d)))

-- the release of a reference
pub started : {A E : Type 0} (m : A → Meaning) (refs : E → List Reference) (few : (x : E) → length (refs x) ≤ 4) (mem xs : List E)
    (r : Reference) (s s' : Store A) (t t' : Receipt) (from : Option ℕ)
    → books_of m s' t' ≡ released r (books_of m s t)
    → links_in s'.table ≡ entered r (books_of m s t) (links_in s.table) None
    → from ≡ onto r (books_of m s t) None
    → let w = world_of m s t xs in
    Started refs mem (Release refs mem r w) w (links_in s.table) (books_of m s' t') (links_in s'.table) from
started m refs few mem xs r s s' t t' from eb el ep =
    let w = world_of m s t xs in
    subst₃ (Started refs mem (Release refs mem r w) w (links_in s.table)) (sym eb) (sym el) (sym ep)
    (released_from refs few mem w (links_in s.table) (rows_full s.table) (links_full s.table) (standing_short s.table) r)
