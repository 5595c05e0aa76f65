-- References counted once more, one after the other, and taken back.
use Rattle.std.proofs.Common.{◌≡◌, ℕ, zero, suc, ◌+◌, ◌<◌, ◌≤◌, true, false, ◌||◌, Some, None, Option, List, length, refl, ap, ◌∙◌}
use Rattle.std.proofs.Common.{⊎_elim, add-one, arith}
use Rattle.std.proofs.lemmas.List.{get_or-set_same, get_or_past, set-set, set-get_or}
use Rattle.std.proofs.lemmas.Bool.{cases_lt, or_left}
use Rattle.std.proofs.lemmas.Bool.Decides.{nat_tests}
use Rattle.cells.specs.Counts.{owns, none, admits, one_more, one_less}
use Rattle.cells.specs.Rows.{at}
use Rattle.cells.specs.declared.row.Counts.{Counts}
use Rattle.cells.specs.declared.row.State.{State}
use Rattle.cells.specs.declared.row.State.TheVariants.{Free, Counted, Unique, Cyclic, Building, Disposing}
use Rattle.element.specs.Handles.{handle_of}
use Rattle.element.specs.declared.reference.Reference.{Reference}
use Rattle.element.specs.declared.reference.Sort.{Sort}
use Rattle.element.specs.declared.reference.Sort.TheVariants.{Strong, Weak}
use Rattle.references.specs.References.{changed, raised, full, lowered, raised_upto, overflows}

pub upto_none : (f : ℕ → Reference) (rows : List Counts) → raised_upto f 0 rows ≡ rows
unfolding raised_upto
upto_none f rows = refl

pub upto_more : (f : ℕ → Reference) (j : ℕ) (rows : List Counts) → raised_upto f (j + 1) rows ≡ raised (raised_upto f j rows) (f j)
unfolding raised_upto
upto_more f j rows = rw add-one refl

pub overflows_none : (f : ℕ → Reference) (rows : List Counts) → overflows f 0 rows ≡ false
unfolding overflows
overflows_none f rows = refl

pub overflows_more : (f : ℕ → Reference) (j : ℕ) (rows : List Counts)
    → overflows f (j + 1) rows ≡ (overflows f j rows || full (raised_upto f j rows) (f j))
unfolding overflows
overflows_more f j rows = rw add-one refl

-- what stops early stops the whole
pub overflows_up : (f : ℕ → Reference) (j : ℕ) (rows : List Counts) (n : ℕ) → overflows f j rows ≡ true → j ≤ n
    → overflows f n rows ≡ true
unfolding overflows
overflows_up f j rows zero e h = grind arith
overflows_up f j rows (suc n) e h =
    ⊎_elim
    (λ l. or_left (overflows f n rows) _ (overflows_up f j rows n e (omega arith)))
    (λ l. let z : suc n ≡ j = omega arith in ap (λ (k : ℕ). overflows f k rows) z ∙ e)
    (cases_lt j (suc n))

-- a cell that admits one handle more admits it still once it is counted
pub owns_still : (s : State) (n : ℕ) → 0 < n → owns s (n + 1) ≡ owns s n
owns_still Free n h = refl
owns_still Counted n h = grind (arith, nat_tests)
owns_still Unique n h = refl
owns_still Cyclic n h = refl
owns_still Building n h = refl
owns_still Disposing n h = refl

still : (s : Sort) (k : Counts) → admits s k ≡ true → admits s (one_more s k) ≡ true
still Strong k h = grind (arith, nat_tests, owns_still k.state k.strong)
still Weak k h = grind (arith, nat_tests)

back : (s : Sort) (k : Counts) → one_less s (one_more s k) ≡ k
back Strong k = grind arith
back Weak k = grind arith

admits_none : (s : Sort) → admits s none ≡ false
admits_none Strong = refl
admits_none Weak = refl

undone_at : (rows : List Counts) (o : Option (Sort × ℕ)) → changed admits one_less (changed admits one_more rows o) o ≡ rows
undone_at rows None = refl
undone_at rows (Some (s, p)) =
    let k = at rows p in
    let up = one_more s k in
    let here = get_or-set_same rows p up none in
    let past = get_or_past rows p none in
    grind (arith, still s k, back s k, admits_none s, here, past, set-set rows p up k, set-get_or rows p none, cases_lt p (length rows))

-- a reference that was counted is taken back
pub undone : (rows : List Counts) (r : Reference) → lowered (raised rows r) r ≡ rows
undone rows r = undone_at rows (handle_of r)

-- what the loops over the references are proved with
pub ruleset upto_steps = (upto_none, upto_more, overflows_none, overflows_more, overflows_up, undone)
