-- The stack of the cells under disposal, as links and rows change.
use Rattle.std.proofs.Common.{◌≡◌, ℕ, zero, suc, ◌<◌, ◌≤◌, ◌≢◌, List, [], ◌∷◌, ◌++◌, length, set, sym, refl, ap, ◌∙◌, subst, subst₂, ⊎_elim, Some, Option, arith}
use Rattle.std.proofs.lemmas.List.{get_or-set_other, get_or-set_same}
use Rattle.std.proofs.lemmas.Bool.{cases_eq}
use Rattle.cells.specs.Rows.{at, link_at, at_rest}
use Rattle.disposal.proofs.Places.{within}
use Rattle.disposal.specs.Walks.{Chain, Away, Held, Idle, todo, pending}
use Rattle.cells.specs.declared.row.Counts.{Counts}
use Rattle.cells.specs.declared.row.Link.{Link}
use Rattle.element.specs.declared.reference.Reference.{Reference}

-- a place that has no strong count keeps none
pub dead_set : (rows : List Counts) (q p : ℕ) (r : Counts) → r.strong ≤ (at rows q).strong → (at rows p).strong ≡ 0 → (at (set rows q r) p).strong ≡ 0
dead_set [] q p r le e = e
dead_set (x ∷ xs) zero zero r le e = omega arith
dead_set (x ∷ xs) zero (suc p) r le e = e
dead_set (x ∷ xs) (suc q) zero r le e = e
dead_set (x ∷ xs) (suc q) (suc p) r le e = dead_set xs q p r le e

pub link_other : (links : List (Option Link)) (p q : ℕ) (k : Option Link) → q ≢ p → link_at (set links p k) q ≡ link_at links q
link_other links p q k ne = get_or-set_other links p q k at_rest ne

pub link_within : (links : List (Option Link)) (p : ℕ) (k : Link) → link_at links p ≡ Some k → p < length links
link_within links p k here = within at_rest links p (λ z. cc)

pub chain_link : (rows : List Counts) (links : List (Option Link)) (p : ℕ) (k : Option Link) (from : Option ℕ) (st : List ℕ)
    → Away p st → Chain rows links from st → Chain rows (set links p k) from st
chain_link rows links p k from [] a c = c
chain_link rows links p k from (q ∷ st) a c = (
  c.0,
  c.1,
  record { here = link_other links p q k a.0 ∙ c.2.here; dead = c.2.dead; open_still = c.2.open_still; short = c.2.short },
  c.3,
  chain_link rows links p k c.0.back st a.1 c.4,
)

pub chain_rows : (rows rows' : List Counts) (links : List (Option Link)) → ((p : ℕ) → (at rows p).strong ≡ 0 → (at rows' p).strong ≡ 0)
    → (from : Option ℕ) (st : List ℕ) → Chain rows links from st → Chain rows' links from st
chain_rows rows rows' links f from [] c = c
chain_rows rows rows' links f from (q ∷ st) c = (
  c.0,
  c.1,
  record { here = c.2.here; dead = f q c.2.dead; open_still = c.2.open_still; short = c.2.short },
  c.3,
  chain_rows rows rows' links f c.0.back st c.4,
)

-- a cell with a strong count is not on the stack
pub away : (rows : List Counts) (links : List (Option Link)) (p : ℕ) → 0 < (at rows p).strong
    → (from : Option ℕ) (st : List ℕ) → Chain rows links from st → Away p st
away rows links p h from [] c = tt
away rows links p h from (q ∷ st) c = (
  (λ e. let z : (at rows p).strong ≡ 0 = subst (λ (n : ℕ). (at rows n).strong ≡ 0) e c.2.dead in omega arith),
  away rows links p h c.0.back st c.4,
)

pub todo_link : {E : Type 0} (refs : E → List Reference) (mem : List E) (links : List (Option Link)) (p : ℕ) (k : Option Link) (st : List ℕ)
    → Away p st → todo refs mem (set links p k) st ≡ todo refs mem links st
todo_link refs mem links p k [] a = refl
todo_link refs mem links p k (q ∷ st) a =
    λ i. pending refs mem q (link_other links p q k a.0 i) ++ todo_link refs mem links p k st a.1 i

-- the stack begins with the cell in hand, whose link is k
pub from_top : (P : List ℕ → Type 0) (rows : List Counts) (links : List (Option Link)) (p : ℕ) (k : Link) → link_at links p ≡ Some k
    → ((rest : List ℕ) → Held rows links p k → Away p rest → Chain rows links k.back rest → P (p ∷ rest))
    → (st : List ℕ) → Chain rows links (Some p) st → P st
from_top P rows links p k here f [] c = absurd (cc)
from_top P rows links p k here f (q ∷ st) c =
    let e : q ≡ p = cc in
    let j : c.0 ≡ k = cc (ap (link_at links) e, c.2.here) in
    subst₂ (λ (z : ℕ) (j : Link). ((rest : List ℕ) → Held rows links z j → Away z rest → Chain rows links j.back rest → P (z ∷ rest)) → P (q ∷ st))
    e j (λ f. f st c.2 c.3 c.4) f

-- Cells that are not on the stack

pub idle_link : (links : List (Option Link)) (p : ℕ) (k : Option Link) (st : List ℕ) → Idle links (p ∷ st) → Idle (set links p k) (p ∷ st)
idle_link links p k st idle q a = link_other links p q k (λ e. a.0 (sym e)) ∙ idle q a

pub idle_close : (links : List (Option Link)) (p : ℕ) (st : List ℕ) → p < length links → Idle links (p ∷ st) → Idle (set links p at_rest) st
idle_close links p st l idle q a =
    ⊎_elim
    (λ (e : q ≡ p). ap (link_at (set links p at_rest)) e ∙ get_or-set_same links p at_rest at_rest l)
    (λ (n : q ≡ p → ⊥). link_other links p q at_rest n ∙ idle q ((λ e. n (sym e)), a))
    (cases_eq q p)
