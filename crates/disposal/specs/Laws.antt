-- What holds of every disposal and of every release, from any world.
use Rattle.std.specs.Prelude.{ℕ, ◌+◌, ◌≤◌, cond, List, ◌==◌}
use Rattle.element.specs.declared.reference.Reference.{Reference}
use Rattle.cells.specs.Rows.{standing_in}
use Rattle.disposal.specs.Disposal.{World, Disposes, Lists, Releases, Release}
use Rattle.disposal.specs.Disposal.Disposes.{disposes}
use Rattle.disposal.specs.Disposal.Lists.{lists_none, lists_next}
use Rattle.disposal.specs.Disposal.Releases.{releases_none, releases_next}
use Rattle.disposal.specs.Disposal.Release.{empty, strong_stray, strong_lowered, strong_last, weak}

-- the elements listed so far, and those that stand in cells
abbrev pub listed_or_standing : {E : Type 0} → World E → ℕ
listed_or_standing w = w.books.receipt.listed + standing_in w.books.rows

-- at most the elements that stood are listed
pub record ListsAtMost {E : Type 0} (refs : E → List Reference) (mem : List E) : Type 0 where
  pub disposals : (p : ℕ) (w v : World E) → Disposes refs mem p w v → listed_or_standing v ≤ listed_or_standing w
  pub releases : (r : Reference) (w v : World E) → Release refs mem r w v → listed_or_standing v ≤ listed_or_standing w

-- 1 where p is q
abbrev pub one_at : ℕ → ℕ → ℕ
one_at p q = cond (p == q) 1 0

-- how often the cell at q is disposed of
abbrev mutual
  pub times_in_disposal : {E : Type 0} {refs : E → List Reference} {mem : List E} {p : ℕ} {w v : World E} → ℕ → Disposes refs mem p w v → ℕ
  times_in_disposal {p = p} q (disposes h) = one_at p q + times_in_lists q h

  pub times_in_lists : {E : Type 0} {refs : E → List Reference} {mem : List E} {xs : List E} {w v : World E} → ℕ → Lists refs mem xs w v → ℕ
  times_in_lists q lists_none = 0
  times_in_lists q (lists_next h t) = times_in_releases q h + times_in_lists q t

  pub times_in_releases : {E : Type 0} {refs : E → List Reference} {mem : List E} {rs : List Reference} {w v : World E} → ℕ → Releases refs mem rs w v → ℕ
  times_in_releases q releases_none = 0
  times_in_releases q (releases_next h t) = times_in_release q h + times_in_releases q t

  pub times_in_release : {E : Type 0} {refs : E → List Reference} {mem : List E} {r : Reference} {w v : World E} → ℕ → Release refs mem r w v → ℕ
  times_in_release q empty = 0
  times_in_release q (strong_stray a) = 0
  times_in_release q (strong_lowered a n) = 0
  times_in_release q (strong_last a n d) = times_in_disposal q d
  times_in_release q weak = 0

-- each cell is disposed of at most once
pub record OnceEach {E : Type 0} (refs : E → List Reference) (mem : List E) : Type 0 where
  pub disposals : (p : ℕ) (w v : World E) (d : Disposes refs mem p w v) (q : ℕ) → times_in_disposal q d ≤ 1
  pub releases : (r : Reference) (w v : World E) (d : Release refs mem r w v) (q : ℕ) → times_in_release q d ≤ 1
