-- What the loop keeps: whatever ends what is left to do now, ends what there was to do at first.
use Rattle.std.proofs.Common.{◌≡◌, ℕ, ◌+◌, ◌*◌, ◌≤◌, List, [], ◌∷◌, length, get_or, sym, refl, ap, subst, Some, None, Option, arith}
use Rattle.std.specs.List.{sum_by}
use Rattle.std.proofs.lemmas.List.Sums.{sum_by-le}
use Rattle.element.specs.declared.reference.Reference.{Reference}
use Rattle.cells.specs.Rows.{link_at}
use Rattle.cells.specs.declared.row.Counts.{Counts}
use Rattle.cells.specs.declared.row.Link.{Link}
use Rattle.disposal.specs.Disposal.{World}
use Rattle.disposal.specs.Stores.{Resting}
use Rattle.disposal.specs.Walks.{Does, Walk, Chain, Idle, todo, strong_of, effort_of, effort, tally}

pub record Within {E : Type 0} (refs : E → List Reference) (mem : List E) (s : Walk E) (st : List ℕ) (s' : Walk E) : Type 0 where
  pub stack : List ℕ
  pub chain : Chain s'.world.books.rows s'.links s'.place stack
  pub runs : (v : World E) → Does refs mem (todo refs mem s'.links stack) s'.world v → Does refs mem (todo refs mem s.links st) s.world v
  pub rests : Idle s.links st → Idle s'.links stack
  pub bounded : tally s'.world.books.receipt + effort s'.world.books.rows s'.links ≤ 30000000000000

effort_few : (k : Option Link) → effort_of k ≤ 327680
effort_few None = omega arith
effort_few (Some k) = omega arith

pub effort_bound : (rows : List Counts) (links : List (Option Link)) → length rows ≡ 1024 → length links ≡ 1024 → effort rows links ≤ 22000000000000
effort_bound rows links lr ll =
    let a = sum_by-le strong_of 65535 rows (λ i d l. omega arith) in
    let b = sum_by-le effort_of 327680 links (λ i d l. effort_few (get_or links i d)) in
    let a' = subst (λ (n : ℕ). sum_by strong_of rows ≤ n * 65535) lr a in
    let b' = subst (λ (n : ℕ). sum_by effort_of links ≤ n * 327680) ll b in
    omega arith

-- there is a link at the cell in hand
pub no_gap : (rows : List Counts) (links : List (Option Link)) (from : Option ℕ) (p : ℕ) → from ≡ Some p → link_at links p ≡ None
    → (st : List ℕ) → Chain rows links from st → ⊥
no_gap rows links from p e h [] c = cc
no_gap rows links from p e h (q ∷ st) c = let e : p ≡ q = cc c.1 in cc (ap (link_at links) e, c.2.here)

stack_empty : (rows : List Counts) (links : List (Option Link)) (from : Option ℕ) → from ≡ None → (st : List ℕ) → Chain rows links from st → st ≡ []
stack_empty rows links from h [] c = refl
stack_empty rows links from h (q ∷ st) c = let e = c.1 in absurd (cc)

-- no cell is left
pub record Ended {E : Type 0} (refs : E → List Reference) (mem : List E) (s : Walk E) (st : List ℕ) (s' : Walk E) : Type 0 where
  pub does : Does refs mem (todo refs mem s.links st) s.world s'.world
  pub rests : Idle s.links st → Resting s'.links

pub ended : {E : Type 0} (refs : E → List Reference) (mem : List E) (s s' : Walk E) (st : List ℕ) → s'.place ≡ None
    → Within refs mem s st s' → Ended refs mem s st s'
ended refs mem s s' st h w =
    let e = stack_empty s'.world.books.rows s'.links s'.place h w.stack w.chain in
    record {
      does = w.runs s'.world (subst (λ (z : List ℕ). Does refs mem (todo refs mem s'.links z) s'.world s'.world) (sym e) refl);
      rests = λ idle p. subst (Idle s'.links) e (w.rests idle) p tt;
    }
