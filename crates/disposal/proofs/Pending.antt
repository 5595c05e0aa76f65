-- What is left to do of one cell, step by step.
use Rattle.std.proofs.Common.{◌≡◌, ℕ, zero, suc, ◌+◌, ◌-◌, ◌<◌, ◌≤◌, List, [], ◌∷◌, ◌++◌, map, length, get_or, take, drop, sym, refl, ap, ◌∙◌, ap₂, ⊎_elim, append_assoc, Some, Option, arith}
use Rattle.std.proofs.lemmas.Bool.{cases_lt}
use Rattle.std.specs.List.{flat_map}
use Rattle.std.proofs.lemmas.List.{drop_all, drop_more, get_or_past}
use Rattle.disposal.specs.Walks.Work.{write, release, close}
use Rattle.disposal.specs.Walks.{works, disposal, pending, fresh, reference_done, element_done, next_reference}
use Rattle.cells.specs.declared.row.Link.{Link}
use Rattle.element.specs.declared.reference.Reference.{Reference}
use Rattle.element.specs.declared.reference.Reference.TheVariants.{Empty}

pub refs_few : {E : Type 0} (refs : E → List Reference) → ((x : E) → length (refs x) ≤ 4) → (mem : List E) (j : ℕ) → length (get_or (map refs mem) j []) ≤ 4
refs_few refs few [] j = omega arith
refs_few refs few (x ∷ mem) zero = few x
refs_few refs few (x ∷ mem) (suc j) = refs_few refs few mem j

pub refs_here : {E : Type 0} (refs : E → List Reference) (mem : List E) (n : ℕ) (x : E) (t : List E) → drop n mem ≡ x ∷ t → get_or (map refs mem) n [] ≡ refs x
refs_here refs [] zero x t e = let z : ◌≡◌ {A = ℕ} 0 1 = cc in absurd (omega arith)
refs_here refs [] (suc n) x t e = let z : ◌≡◌ {A = ℕ} 0 1 = cc in absurd (omega arith)
refs_here refs (y ∷ mem) zero x t e = let z : y ≡ x = cc in ap refs z
refs_here refs (y ∷ mem) (suc n) x t e = refs_here refs mem n x t e

-- no reference is left
pub pending_refs : {E : Type 0} (refs : E → List Reference) (few : (x : E) → length (refs x) ≤ 4) (mem : List E) (p : ℕ) (k : Link) → 4 ≤ k.reference
    → pending refs mem p (Some k) ≡ flat_map (works refs) (take (k.end - k.next) (drop k.next mem)) ++ (close p ∷ [])
pending_refs refs few mem p k h =
    let f = refs_few refs few mem (k.next - 1) in
    let l : length (get_or (map refs mem) (k.next - 1) []) ≤ k.reference = omega arith in
    ap (λ rs. map release rs ++ (flat_map (works refs) (take (k.end - k.next) (drop k.next mem)) ++ (close p ∷ []))) (drop_all k.reference _ l)

pub pending_fresh : {E : Type 0} (refs : E → List Reference) (few : (x : E) → length (refs x) ≤ 4) (mem : List E) (q n : ℕ) (back : Option ℕ)
    → pending refs mem q (Some (fresh q n back)) ≡ disposal refs mem q n
pending_fresh refs few mem q n back =
    let e : q + n - q ≡ n = omega arith in
    pending_refs refs few mem q (fresh q n back) (omega arith) ∙ ap (λ m. flat_map (works refs) (take m (drop q mem)) ++ (close q ∷ [])) e

take_none : {E : Type 0} (n : ℕ) → take {A = E} n [] ≡ []
take_none zero = refl
take_none (suc n) = refl

none_left : {E : Type 0} (mem : List E) (k : Link) → (k.next < k.end → k.next < length mem → ⊥) → take (k.end - k.next) (drop k.next mem) ≡ []
none_left mem k over =
    ⊎_elim
    (λ l. ⊎_elim (λ m. absurd (over l m)) (λ m. ap (take (k.end - k.next)) (drop_all k.next mem m) ∙ take_none (k.end - k.next)) (cases_lt k.next (length mem)))
    (λ l. let z : k.end - k.next ≡ 0 = omega arith in ap (λ n. take n (drop k.next mem)) z)
    (cases_lt k.next k.end)

-- nothing but the close is left
pub pending_end : {E : Type 0} (refs : E → List Reference) (few : (x : E) → length (refs x) ≤ 4) (mem : List E) (p : ℕ) (k : Link) → 4 ≤ k.reference
    → (k.next < k.end → k.next < length mem → ⊥) → pending refs mem p (Some k) ≡ close p ∷ []
pending_end refs few mem p k h over = pending_refs refs few mem p k h ∙ ap (λ xs. flat_map (works refs) xs ++ (close p ∷ [])) (none_left mem k over)

pub pending_element : {E : Type 0} (refs : E → List Reference) (few : (x : E) → length (refs x) ≤ 4) (mem : List E) (p : ℕ) (k : Link) (x : E) → 4 ≤ k.reference
    → k.next < k.end → drop k.next mem ≡ x ∷ drop (k.next + 1) mem → pending refs mem p (Some k) ≡ write x ∷ pending refs mem p (Some (element_done k))
pending_element refs few mem p k x h l e =
    let m = k.end - (k.next + 1) in
    let n : k.end - k.next ≡ suc (k.end - (k.next + 1)) = omega arith in
    let o : k.next ≡ k.next + 1 - 1 = omega arith in
    let j = flat_map (works refs) (take m (drop (k.next + 1) mem)) in
    pending_refs refs few mem p k h
    ∙ ap₂ (λ a b. flat_map (works refs) (take a b) ++ (close p ∷ [])) n e
    ∙ ap (λ z. write x ∷ z) (append_assoc (map release (refs x)) j (close p ∷ []))
    ∙ ap (λ rs. write x ∷ (map release rs ++ (j ++ (close p ∷ [])))) (sym (refs_here refs mem k.next x _ e) ∙ ap (λ i. get_or (map refs mem) i []) o)

-- one reference more, where there is one
pub pending_reference : {E : Type 0} (refs : E → List Reference) (mem : List E) (p : ℕ) (k : Link) → k.reference < length (get_or (map refs mem) (k.next - 1) [])
    → pending refs mem p (Some k) ≡ release (next_reference refs mem k) ∷ pending refs mem p (Some (reference_done k))
pending_reference refs mem p k l =
    ap (λ rs. map release rs ++ (flat_map (works refs) (take (k.end - k.next) (drop k.next mem)) ++ (close p ∷ []))) (drop_more (get_or (map refs mem) (k.next - 1) []) k.reference Empty l)

-- and where there is none
pub pending_none : {E : Type 0} (refs : E → List Reference) (mem : List E) (p : ℕ) (k : Link) → length (get_or (map refs mem) (k.next - 1) []) ≤ k.reference
    → (pending refs mem p (Some k) ≡ pending refs mem p (Some (reference_done k))) × (next_reference refs mem k ≡ Empty)
pending_none refs mem p k l =
    let rs = get_or (map refs mem) (k.next - 1) [] in
    let l' : length (get_or (map refs mem) (k.next - 1) []) ≤ k.reference + 1 = omega arith in (
      ap (λ zs. map release zs ++ (flat_map (works refs) (take (k.end - k.next) (drop k.next mem)) ++ (close p ∷ []))) (drop_all k.reference rs l ∙ sym (drop_all (k.reference + 1) rs l')),
      get_or_past rs k.reference Empty l,
    )
