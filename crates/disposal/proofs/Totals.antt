-- A sum over a list, as one place of it changes.
use Rattle.std.proofs.Common.{◌≡◌, ℕ, ◌+◌, ◌≤◌, List, length, get_or, set, refl, ap, ⊎_elim, arith}
use Rattle.std.specs.List.{sum_by}
use Rattle.std.proofs.lemmas.Bool.{cases_lt}
use Rattle.std.proofs.lemmas.List.{get_or_past, set_past}
use Rattle.std.proofs.lemmas.List.Sums.{sum_by-set}
use Rattle.cells.specs.Counts.{none}
use Rattle.cells.specs.Rows.{at, standing_in}
use Rattle.cells.specs.declared.row.Counts.{Counts}

-- one place falls by n
pub total_falls : {X : Type 0} (f : X → ℕ) (d : X) (xs : List X) (q : ℕ) (y : X) (n : ℕ)
    → f d ≡ 0 → f y + n ≤ f (get_or xs q d) → sum_by f (set xs q y) + n ≤ sum_by f xs
total_falls f d xs q y n e h =
    ⊎_elim
    (λ l. omega (arith, sum_by-set f xs q y d l))
    (λ m. omega (arith, ap f (get_or_past xs q d m), ap (sum_by f) (set_past xs q y m)))
    (cases_lt q (length xs))

-- one place rises
pub total_rises : {X : Type 0} (f : X → ℕ) (xs : List X) (q : ℕ) (y : X) → sum_by f (set xs q y) ≤ sum_by f xs + f y
total_rises f xs q y =
    ⊎_elim (λ l. omega (arith, sum_by-set f xs q y y l)) (λ m. omega (arith, ap (sum_by f) (set_past xs q y m))) (cases_lt q (length xs))

-- the elements that stand in one place fall by n
pub standing_falls : (ks : List Counts) (q : ℕ) (k : Counts) (n : ℕ) → k.standing + n ≤ (at ks q).standing → standing_in (set ks q k) + n ≤ standing_in ks
unfolding standing_in
standing_falls ks q k n h = total_falls (λ (k : Counts). k.standing) none ks q k n refl h
