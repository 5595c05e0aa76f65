-- A disposal and a release list at most what stood, and dispose of each cell at most once.
use Rattle.std.proofs.Common.{◌≡◌, ℕ, zero, suc, ◌+◌, ◌≤◌, min, ◌⊎◌, List, [], ◌∷◌, length, drop, set, refl, ap, subst, inl, inr, ⊎_elim, arith}
use Rattle.std.proofs.lemmas.List.{length-take}
use Rattle.std.proofs.lemmas.Bool.{cases_eq, eq-eqb, ne_eqb, cond-true, cond-false}
use Rattle.element.specs.declared.reference.Reference.{Reference}
use Rattle.element.specs.declared.reference.Reference.TheVariants.{Weak}
use Rattle.cells.specs.Counts.{dying}
use Rattle.cells.specs.Rows.{at}
use Rattle.cells.specs.declared.row.Counts.{Counts}
use Rattle.disposal.specs.Books.{Books, begun}
use Rattle.disposal.specs.Disposal.{World, Disposes, Lists, Releases, Release}
use Rattle.disposal.specs.Disposal.Disposes.{disposes}
use Rattle.disposal.specs.Disposal.Lists.{lists_none, lists_next}
use Rattle.disposal.specs.Disposal.Releases.{releases_none, releases_next}
use Rattle.disposal.specs.Disposal.Release.{empty, strong_stray, strong_lowered, strong_last, weak}
use Rattle.disposal.specs.Laws.{listed_or_standing, one_at, ListsAtMost, OnceEach, times_in_disposal, times_in_lists, times_in_releases, times_in_release}
use Rattle.disposal.proofs.Quiet.{Quiet, quiet_lowered, quiet_begun, quiet_closed, quiet_released}
use Rattle.disposal.proofs.Totals.{standing_falls}

mutual
  disposal_lists : {E : Type 0} {refs : E → List Reference} {mem : List E} {p : ℕ} {w v : World E} → Disposes refs mem p w v → listed_or_standing v ≤ listed_or_standing w
  disposal_lists {mem = mem} {p = p} {w = w} (disposes {v = v} h) =
      let rows = w.books.rows in
      let few = length-take (at rows p).standing (drop p mem) in
      let falls = standing_falls rows p (dying (at rows p)) (at rows p).standing (omega arith) in
      let q = quiet_closed v.books p in
      omega (arith, lists_list h)

  lists_list : {E : Type 0} {refs : E → List Reference} {mem : List E} {xs : List E} {w v : World E} → Lists refs mem xs w v → listed_or_standing v ≤ listed_or_standing w + length xs
  lists_list lists_none = omega arith
  lists_list (lists_next h t) = omega (arith, releases_list h, lists_list t)

  releases_list : {E : Type 0} {refs : E → List Reference} {mem : List E} {rs : List Reference} {w v : World E} → Releases refs mem rs w v → listed_or_standing v ≤ listed_or_standing w
  releases_list releases_none = omega arith
  releases_list (releases_next h t) = omega (arith, release_lists h, releases_list t)

  release_lists : {E : Type 0} {refs : E → List Reference} {mem : List E} {r : Reference} {w v : World E} → Release refs mem r w v → listed_or_standing v ≤ listed_or_standing w
  release_lists empty = omega arith
  release_lists (strong_stray a) = omega arith
  release_lists (strong_lowered {q = q} {w = w} a n) = omega (arith, quiet_lowered w.books q)
  release_lists (strong_last a n d) = disposal_lists d
  release_lists (weak {q = q} {w = w}) = omega (arith, quiet_released (Weak q) w.books)

-- 1 where a strong count stands at q
abbrev alive : Books → ℕ → ℕ
alive b q = min (at b.rows q).strong 1

alive_falls : {b b' : Books} → Quiet b b' → (q : ℕ) → alive b' q ≤ alive b q
alive_falls {b} {b'} h q = go (at b.rows q).strong (h.dead q)
  where
    go : (n : ℕ) → (n ≡ 0 → (at b'.rows q).strong ≡ 0) → alive b' q ≤ min n 1
    go zero f = omega (arith, f refl)
    go (suc n) f = omega arith

gone : (rows : List Counts) (q : ℕ) (k : Counts) → k.strong ≡ 0 → (at (set rows q k) q).strong ≡ 0
gone [] q k e = refl
gone (j ∷ rows) zero k e = e
gone (j ∷ rows) (suc q) k e = gone rows q k e

-- a disposal that begins is of the place q, or of another
begins : (b : Books) (p q : ℕ)
    → ((one_at p q ≡ 1) × ((at b.rows p).strong ≡ (at b.rows q).strong) × ((at (begun b p).rows q).strong ≡ 0))
    ⊎ ((one_at p q ≡ 0) × (alive (begun b p) q ≤ alive b q))
begins b p q =
    ⊎_elim
    (λ (e : p ≡ q). inl (
      cond-true _ 1 0 (eq-eqb p q e),
      ap (λ (n : ℕ). (at b.rows n).strong) e,
      subst (λ (n : ℕ). (at (begun b p).rows n).strong ≡ 0) e (gone b.rows p _ refl),
    ))
    (λ (n : p ≡ q → ⊥). inr (cond-false _ 1 0 (ne_eqb p q n), alive_falls (quiet_begun b p) q))
    (cases_eq p q)

mutual
  disposal_once : {E : Type 0} {refs : E → List Reference} {mem : List E} {p : ℕ} {w v : World E} (q : ℕ) (d : Disposes refs mem p w v)
      → times_in_disposal q d + alive v.books q ≤ one_at p q + alive (begun w.books p) q
  disposal_once {p = p} q (disposes {v = v} h) = omega (arith, lists_once q h, alive_falls (quiet_closed v.books p) q)

  lists_once : {E : Type 0} {refs : E → List Reference} {mem : List E} {xs : List E} {w v : World E} (q : ℕ) (d : Lists refs mem xs w v)
      → times_in_lists q d + alive v.books q ≤ alive w.books q
  lists_once q lists_none = omega arith
  lists_once q (lists_next h t) = omega (arith, releases_once q h, lists_once q t)

  releases_once : {E : Type 0} {refs : E → List Reference} {mem : List E} {rs : List Reference} {w v : World E} (q : ℕ) (d : Releases refs mem rs w v)
      → times_in_releases q d + alive v.books q ≤ alive w.books q
  releases_once q releases_none = omega arith
  releases_once q (releases_next h t) = omega (arith, release_once q h, releases_once q t)

  release_once : {E : Type 0} {refs : E → List Reference} {mem : List E} {r : Reference} {w v : World E} (q : ℕ) (d : Release refs mem r w v)
      → times_in_release q d + alive v.books q ≤ alive w.books q
  release_once q empty = omega arith
  release_once q (strong_stray a) = omega arith
  release_once q (strong_lowered {q = p} {w = w} a n) = omega (arith, alive_falls (quiet_lowered w.books p) q)
  release_once q (strong_last {q = p} {w = w} a n d) = omega (arith, disposal_once q d, begins w.books p q)
  release_once q (weak {q = p} {w = w}) = omega (arith, alive_falls (quiet_released (Weak p) w.books) q)

module _ {E : Type 0} (refs : E → List Reference) (mem : List E) where
  pub lists_at_most : ListsAtMost refs mem
  lists_at_most = record { disposals = λ p w v d. disposal_lists d; releases = λ r w v d. release_lists d }

  pub once_each : OnceEach refs mem
  once_each =
      record {
        disposals = λ p w v d q. omega (arith, disposal_once q d, begins w.books p q);
        releases = λ r w v d q. omega (arith, release_once q d);
      }
