-- The counts and links of rows, place by place, and the sum of the elements standing.
use Rattle.std.proofs.Common.{◌≡◌, ℕ, ◌+◌, ◌*◌, ◌<◌, ◌≤◌, true, leb, List, length, get_or, set, sym, ap, ◌∙◌, arith}
use Rattle.std.proofs.lemmas.Bool.{le-leb, leb-true}
use Rattle.std.proofs.lemmas.List.{length-map, get_or-map, map-set, set-get_or}
use Rattle.std.proofs.lemmas.List.Elements.{All-set}
use Rattle.std.proofs.lemmas.List.Sums.{sum_by-le, sum_by-set, get_or-le-sum_by, AllPass-from_list_all, list_all-from_AllPass}
use Rattle.cells.specs.Counts.{none}
use Rattle.cells.specs.Rows.{at, counts_of, links_of, standing_in, small}
use Rattle.cells.specs.declared.row.Counts.{Counts}
use Rattle.cells.specs.declared.row.Row.{Row}

-- Places

pub counts_length : (rs : List Row) → length (counts_of rs) ≡ length rs
unfolding counts_of
counts_length rs = length-map rs _

pub links_length : (rs : List Row) → length (links_of rs) ≡ length rs
unfolding links_of
links_length rs = length-map rs _

counts_here : (rs : List Row) (p : ℕ) (d : Row) → p < length rs → (get_or rs p d).counts ≡ at (counts_of rs) p
unfolding counts_of
counts_here rs p d h = sym (get_or-map (λ (r : Row). r.counts) rs p d none h)

pub counts_set : (rs : List Row) (p : ℕ) (r : Row) → counts_of (set rs p r) ≡ set (counts_of rs) p r.counts
unfolding counts_of
counts_set rs p r = map-set (λ (r : Row). r.counts) rs p r

pub links_set : (rs : List Row) (p : ℕ) (r : Row) → links_of (set rs p r) ≡ set (links_of rs) p r.link
unfolding links_of
links_set rs p r = map-set (λ (r : Row). r.link) rs p r

pub counts_same : (rs : List Row) (p : ℕ) (d r : Row) → p < length rs → r.counts ≡ (get_or rs p d).counts → counts_of (set rs p r) ≡ counts_of rs
counts_same rs p d r h e = counts_set rs p r ∙ ap (set (counts_of rs) p) (e ∙ counts_here rs p d h) ∙ set-get_or (counts_of rs) p none

-- The elements standing

pub standing_here : (rs : List Row) (p : ℕ) (d : Row) → p < length rs → (get_or rs p d).counts.standing ≤ standing_in (counts_of rs)
unfolding standing_in
standing_here rs p d h =
    let l : p < length (counts_of rs) = omega (arith, counts_length rs) in
    omega (arith, get_or-le-sum_by (λ (k : Counts). k.standing) (counts_of rs) p none l, ap (λ (k : Counts). k.standing) (counts_here rs p d h))

pub standing_set : (rs : List Row) (p : ℕ) (d : Row) (k : Counts) → p < length rs
    → standing_in (set (counts_of rs) p k) + (get_or rs p d).counts.standing ≡ standing_in (counts_of rs) + k.standing
unfolding standing_in
standing_set rs p d k h =
    let l : p < length (counts_of rs) = omega (arith, counts_length rs) in
    omega (arith, sum_by-set (λ (k : Counts). k.standing) (counts_of rs) p k none l, ap (λ (k : Counts). k.standing) (counts_here rs p d h))

pub standing_bound : (rs : List Row) → small (counts_of rs) ≡ true → standing_in (counts_of rs) ≤ length rs * 65535
unfolding small standing_in
standing_bound rs h =
    let all = AllPass-from_list_all (λ (k : Counts). leb k.standing 65535) (counts_of rs) h in
    omega (arith, counts_length rs, sum_by-le (λ (k : Counts). k.standing) 65535 (counts_of rs) (λ i d l. leb-true _ _ (all i d l)))

pub small_set : (rs : List Row) (p : ℕ) (r : Row) → small (counts_of rs) ≡ true → r.counts.standing ≤ 65535 → small (counts_of (set rs p r)) ≡ true
unfolding small
small_set rs p r h l =
    let fits = λ (k : Counts). leb k.standing 65535 in
    let all = AllPass-from_list_all fits (counts_of rs) h in
    let all' = All-set (λ (k : Counts). fits k ≡ true) (counts_of rs) p r.counts (le-leb r.counts.standing 65535 l) all in
    ap small (counts_set rs p r) ∙ list_all-from_AllPass fits (set (counts_of rs) p r.counts) all'

-- what a table's own functions are proved with
pub ruleset row_steps = (counts_set, links_set, counts_same, standing_here, standing_bound)
