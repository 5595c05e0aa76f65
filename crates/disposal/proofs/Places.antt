-- Places of a table: its rows and links are 1024, and a cell stands at one of them.
use Rattle.std.proofs.Common.{◌≡◌, ℕ, ◌<◌, ◌≤◌, true, leb, List, length, get_or, sym, refl, ap, ◌∙◌, ⊎_elim, arith}
use Rattle.std.proofs.lemmas.List.{get_or_past}
use Rattle.std.proofs.lemmas.List.Sums.{AllPass-from_list_all}
use Rattle.std.proofs.lemmas.Bool.{cases_lt, both_ways, leb-true}
use Rattle.cells.proofs.Rows.{counts_length, links_length}
use Rattle.cells.specs.Counts.{none, is_cell}
use Rattle.cells.specs.Rows.{at, small}
use Rattle.cells.specs.Tables.{counts_in, links_in}
use Rattle.cells.specs.declared.row.Counts.{Counts}
use Rattle.cells.specs.declared.table.Table.{Table}

pub rows_full : (t : Table) → length (counts_in t) ≡ 1024
rows_full t = counts_length t.rows ∙ t.full

pub links_full : (t : Table) → length (links_in t) ≡ 1024
links_full t = links_length t.rows ∙ t.full

-- what stands nowhere past the end stands at a place
pub within : {X : Type 0} (d : X) (xs : List X) (p : ℕ) → (get_or xs p d ≡ d → ⊥) → p < length xs
within d xs p n = ⊎_elim (λ h. h) (λ h. absurd (n (get_or_past xs p d h))) (cases_lt p (length xs))

-- a row of the table that is a cell
pub cell_here : (t : Table) (p : ℕ) (k : Counts) → k ≡ at (counts_in t) p → is_cell k ≡ true → p < 1024
cell_here t p k e h =
    let full = rows_full t in
    let l = within none (counts_in t) p (λ z. both_ways (is_cell none) refl (sym (ap is_cell (e ∙ z)) ∙ h)) in
    omega arith

-- 16 bits hold the elements of each cell
pub standing_short : (t : Table) (p : ℕ) → (at (counts_in t) p).standing ≤ 65535
unfolding small
standing_short t p =
    let all = AllPass-from_list_all (λ (k : Counts). leb k.standing 65535) (counts_in t) t.few in
    ⊎_elim
    (λ l. leb-true _ _ (all p none l))
    (λ m. omega (arith, ap (λ (k : Counts). k.standing) (get_or_past (counts_in t) p none m)))
    (cases_lt p (length (counts_in t)))
