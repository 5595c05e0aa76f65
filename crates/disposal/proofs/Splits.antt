-- From what is done in order to the disposal of a cell.
use Rattle.std.proofs.Common.{◌≡◌, ℕ, true, false, eqb, List, [], ◌∷◌, ◌++◌, map, take, drop, sym, refl, ◌∙◌, subst, ⊎_elim}
use Rattle.std.specs.List.{flat_map}
use Rattle.std.proofs.lemmas.Bool.{cases_Bool, and_parts, and_cases, cond-true, cond-false, both_ways, eqb-true, eqb-false}
use Rattle.cells.specs.Rows.{at}
use Rattle.cells.specs.Counts.{admits_strong}
use Rattle.disposal.specs.Books.{begun}
use Rattle.disposal.specs.Disposal.{World, Disposes, Lists, Releases, Release, with_books}
use Rattle.disposal.specs.Disposal.Disposes.{disposes}
use Rattle.disposal.specs.Disposal.Lists.{lists_none, lists_next}
use Rattle.disposal.specs.Disposal.Releases.{releases_none, releases_next}
use Rattle.disposal.specs.Disposal.Release.{empty, strong_stray, strong_lowered, strong_last, weak}
use Rattle.disposal.specs.Walks.{Work, Does, works, disposal, released, last, target}
use Rattle.disposal.specs.Walks.Work.{release, close}
use Rattle.element.specs.declared.reference.Reference.{Reference}
use Rattle.element.specs.declared.reference.Reference.TheVariants.{Empty, Strong, Weak}

module _ {E : Type 0} (refs : E → List Reference) (mem : List E) where
  pub split : (xs ys : List (Work E)) (w v : World E) → Does refs mem (xs ++ ys) w v → (u : World E) × Does refs mem xs w u × Does refs mem ys u v
  split [] ys w v h = (w, refl, h)
  split (x ∷ xs) ys w v h = let t = split xs ys h.0 v h.2 in (t.0, (h.0, h.1, t.1), t.2)

  pub does_releases : (rs : List Reference) (w v : World E) → Does refs mem (map release rs) w v → Releases refs mem rs w v
  does_releases [] w v h = subst (λ z. Releases refs mem [] w z) (sym h) releases_none
  does_releases (r ∷ rs) w v h = releases_next h.1 (does_releases rs h.0 v h.2)

  pub does_lists : (xs : List E) (w v : World E) → Does refs mem (flat_map (works refs) xs) w v → Lists refs mem xs w v
  does_lists [] w v h = subst (λ z. Lists refs mem [] w z) (sym h) lists_none
  does_lists (x ∷ xs) w v h =
      let t = split (map release (refs x)) (flat_map (works refs) xs) h.0 v h.2 in
      lists_next (subst (λ z. Releases refs mem (refs x) z t.0) h.1 (does_releases (refs x) h.0 t.0 t.1)) (does_lists xs t.0 v t.2)

  -- the works of a disposal are the disposal
  pub does_disposal : (p : ℕ) (w v : World E) → Does refs mem (disposal refs mem p (at w.books.rows p).standing) (with_books w (begun w.books p)) v → Disposes refs mem p w v
  does_disposal p w v h =
      let t = split (flat_map (works refs) (take (at w.books.rows p).standing (drop p mem))) (close p ∷ []) (with_books w (begun w.books p)) v h in
      subst (Disposes refs mem p w) (sym (t.2.2 ∙ t.2.1)) (disposes (does_lists _ _ t.0 t.1))

  pub one_release : (r : Reference) (w : World E) → last r w.books ≡ false → Release refs mem r w (with_books w (released r w.books))
  one_release Empty w e = empty
  one_release (Strong q) w e =
      let b = w.books in
      let m = at b.rows q in
      ⊎_elim
      (λ a.
      let f : eqb m.strong 1 ≡ false = ⊎_elim (λ z. absurd (both_ways _ z a)) (λ z. z) (and_cases (admits_strong m) (eqb m.strong 1) e) in
      subst (λ z. Release refs mem (Strong q) w (with_books w z)) (sym (cond-true _ _ _ a ∙ cond-false _ _ _ f)) (strong_lowered a (eqb-false _ _ f)))
      (λ a. subst (λ z. Release refs mem (Strong q) w (with_books w z)) (sym (cond-false _ _ _ a)) (strong_stray a))
      (cases_Bool (admits_strong m))
  one_release (Weak q) w e = weak

  pub last_release : (r : Reference) (w v : World E) → last r w.books ≡ true
      → Does refs mem (disposal refs mem (target r) (at w.books.rows (target r)).standing) (with_books w (released r w.books)) v → Release refs mem r w v
  last_release Empty w v e h = absurd (both_ways false refl e)
  last_release (Strong q) w v e h =
      let m = at w.books.rows q in
      let t = and_parts (admits_strong m) (eqb m.strong 1) e in
      strong_last t.0 (eqb-true _ _ t.1)
      (does_disposal q w v (subst (λ z. Does refs mem (disposal refs mem q m.standing) (with_books w z) v) (cond-true _ _ _ t.0 ∙ cond-true _ _ _ t.1) h))
  last_release (Weak q) w v e h = absurd (both_ways false refl e)
