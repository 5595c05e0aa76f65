-- A disposal and a release end in some world, and in one only.
use Rattle.std.proofs.Common.{◌≡◌, ℕ, zero, suc, ◌≤◌, true, false, eqb, List, [], ◌∷◌, take, drop, sym, refl, ap, subst, ⊎_elim, arith}
use Rattle.std.specs.List.{sum_by}
use Rattle.std.proofs.lemmas.Bool.{cases_Bool, and_parts, both_ways, eqb-true}
use Rattle.cells.specs.Rows.{at}
use Rattle.cells.specs.Counts.{admits_strong}
use Rattle.disposal.specs.Books.{begun, closed}
use Rattle.disposal.specs.Disposal.{World, OneOutcome, Disposes, Lists, Releases, Release, listing, with_books}
use Rattle.disposal.specs.Disposal.Disposes.{disposes}
use Rattle.disposal.specs.Disposal.Lists.{lists_none, lists_next}
use Rattle.disposal.specs.Disposal.Releases.{releases_none, releases_next}
use Rattle.disposal.specs.Disposal.Release.{empty, strong_stray, strong_lowered, strong_last, weak}
use Rattle.disposal.specs.Walks.{released, last, strong_of}
use Rattle.element.specs.declared.reference.Reference.{Reference}
use Rattle.element.specs.declared.reference.Reference.TheVariants.{Empty, Strong, Weak}
use Rattle.disposal.proofs.Quiet.{quiet_released, quiet_closed, begun_falls}
use Rattle.disposal.proofs.Splits.{one_release}

mutual
  one_disposes : {E : Type 0} {refs : E → List Reference} {mem : List E} {p : ℕ} {w v u : World E} → Disposes refs mem p w v → Disposes refs mem p w u → v ≡ u
  one_disposes {p = p} (disposes h) (disposes k) = ap (λ (z : World _). with_books z (closed z.books p)) (one_lists h k)

  one_lists : {E : Type 0} {refs : E → List Reference} {mem : List E} {xs : List E} {w v u : World E} → Lists refs mem xs w v → Lists refs mem xs w u → v ≡ u
  one_lists lists_none lists_none = refl
  one_lists {refs = refs} {mem = mem} {u = u} (lists_next {xs = xs} h t) (lists_next h' t') = one_lists t (subst (λ (z : World _). Lists refs mem xs z u) (sym (one_releases h h')) t')

  one_releases : {E : Type 0} {refs : E → List Reference} {mem : List E} {rs : List Reference} {w v u : World E} → Releases refs mem rs w v → Releases refs mem rs w u → v ≡ u
  one_releases releases_none releases_none = refl
  one_releases {refs = refs} {mem = mem} {u = u} (releases_next {rs = rs} h t) (releases_next h' t') = one_releases t (subst (λ (z : World _). Releases refs mem rs z u) (sym (one_way h h')) t')

  one_way : {E : Type 0} {refs : E → List Reference} {mem : List E} {r : Reference} {w v u : World E} → Release refs mem r w v → Release refs mem r w u → v ≡ u
  one_way empty empty = refl
  one_way (strong_stray a) (strong_stray b) = refl
  one_way (strong_stray a) (strong_lowered b m) = absurd (both_ways _ a b)
  one_way (strong_stray a) (strong_last b m d) = absurd (both_ways _ a b)
  one_way (strong_lowered a n) (strong_stray b) = absurd (both_ways _ b a)
  one_way (strong_lowered a n) (strong_lowered b m) = refl
  one_way (strong_lowered a n) (strong_last b m d) = absurd (n m)
  one_way (strong_last a n c) (strong_stray b) = absurd (both_ways _ b a)
  one_way (strong_last a n c) (strong_lowered b m) = absurd (m n)
  one_way (strong_last a n c) (strong_last b m d) = one_disposes c d
  one_way weak weak = refl

abbrev counts : {E : Type 0} → World E → ℕ
counts w = sum_by strong_of w.books.rows

module _ {E : Type 0} (refs : E → List Reference) (mem : List E) where
  abbrev Below : ℕ → Type 0
  Below n = (p : ℕ) (w : World E) → (at w.books.rows p).strong ≡ 1 → counts w ≤ n → (v : World E) × Disposes refs mem p w v × (counts v ≤ counts w)

  ends_release : (n : ℕ) → Below n → (r : Reference) (w : World E) → counts w ≤ n → (v : World E) × Release refs mem r w v × (counts v ≤ counts w)
  ends_release n below r w h =
      ⊎_elim (λ e. by_last r e) (λ e. (with_books w (released r w.books), one_release refs mem r w e, (quiet_released r w.books).less)) (cases_Bool (last r w.books))
    where
      by_last : (r : Reference) → last r w.books ≡ true → (v : World E) × Release refs mem r w v × (counts v ≤ counts w)
      by_last Empty e = absurd (both_ways false refl e)
      by_last (Strong q) e =
          let t = and_parts (admits_strong (at w.books.rows q)) (eqb (at w.books.rows q).strong 1) e in
          let one = eqb-true _ _ t.1 in
          let d = below q w one h in
          (d.0, strong_last t.0 one d.1, d.2)
      by_last (Weak q) e = absurd (both_ways false refl e)

  ends_releases : (n : ℕ) → Below n → (rs : List Reference) (w : World E) → counts w ≤ n → (v : World E) × Releases refs mem rs w v × (counts v ≤ counts w)
  ends_releases n below [] w h = (w, releases_none, omega arith)
  ends_releases n below (r ∷ rs) w h =
      let a = ends_release n below r w h in
      let a2 = a.2 in
      let l : counts a.0 ≤ n = omega arith in
      let b = ends_releases n below rs a.0 l in
      let b2 = b.2 in
      (b.0, releases_next a.1 b.1, omega arith)

  ends_lists : (n : ℕ) → Below n → (xs : List E) (w : World E) → counts w ≤ n → (v : World E) × Lists refs mem xs w v × (counts v ≤ counts w)
  ends_lists n below [] w h = (w, lists_none, omega arith)
  ends_lists n below (x ∷ xs) w h =
      let a = ends_releases n below (refs x) (listing x w) h in
      let a2 = a.2 in
      let l : counts a.0 ≤ n = omega arith in
      let b = ends_lists n below xs a.0 l in
      let b2 = b.2 in
      (b.0, lists_next a.1 b.1, omega arith)

  ends_disposes : (n : ℕ) → Below n → (p : ℕ) (w : World E) → counts (with_books w (begun w.books p)) ≤ n → (v : World E) × Disposes refs mem p w v × (counts v ≤ counts (with_books w (begun w.books p)))
  ends_disposes n below p w h =
      let a = ends_lists n below (take (at w.books.rows p).standing (drop p mem)) (with_books w (begun w.books p)) h in
      let a2 = a.2 in
      let c = (quiet_closed a.0.books p).less in
      (with_books a.0 (closed a.0.books p), disposes a.1, omega arith)

  below_all : (n : ℕ) → Below n
  below_all zero p w e h = absurd (let f = begun_falls w.books p e in omega arith)
  below_all (suc n) p w e h =
      let f = begun_falls w.books p e in
      let l : counts (with_books w (begun w.books p)) ≤ n = omega arith in
      let d = ends_disposes n (below_all n) p w l in
      let d2 = d.2 in
      (d.0, d.1, omega arith)

  pub disposal_outcome : (p : ℕ) → OneOutcome (Disposes refs mem p)
  disposal_outcome p =
      record {
        some = λ w.
            let n = counts (with_books w (begun w.books p)) in
            let d = ends_disposes n (below_all n) p w (omega arith) in
            (d.0, d.1);
        only = λ w v u h k. one_disposes h k;
      }

  pub release_outcome : (r : Reference) → OneOutcome (Release refs mem r)
  release_outcome r =
      record {
        some = λ w.
            let d = ends_release (counts w) (below_all (counts w)) r w (omega arith) in
            (d.0, d.1);
        only = λ w v u h k. one_way h k;
      }
