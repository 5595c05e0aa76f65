-- The references of elements, one more at a time.
use Rattle.std.proofs.Common.{◌≡◌, ℕ, ◌+◌, ◌<◌, ◌≤◌, Bool, false, ltb, List, [], ◌∷◌, length, get_or, take, refl, ap, ◌∙◌, arith}
use Rattle.std.proofs.lemmas.List.{take_more}
use Rattle.std.proofs.lemmas.Grind.{fold-append}
use Rattle.cells.specs.declared.row.Counts.{Counts}
use Rattle.element.specs.Handles.{handle_of}
use Rattle.element.specs.declared.reference.Reference.{Reference}
use Rattle.element.specs.declared.reference.Reference.TheVariants.{Empty, Strong, Weak}
use Rattle.element.specs.declared.reference.Sort.{Sort}
use Rattle.references.specs.References.{padded, same, named, loose, lacking, some_lacking, changed, each}

pub each_more : (f : List Counts → Reference → List Counts) (rows : List Counts) (rs : List Reference) (i : ℕ) (d : Reference)
    → i < length rs
    → each f rows (take (i + 1) rs) ≡ f (each f rows (take i rs)) (get_or rs i d)
each_more f rows rs i d h = rw (take_more rs i d h, fold-append f rows (take i rs) (get_or rs i d ∷ [])) refl

-- The missing references are empty, and an empty one changes nothing.

pub each_padded : (test : Sort → Counts → Bool) (f : Sort → Counts → Counts) (rows : List Counts) (rs : List Reference) → length rs ≤ 4
    → each (λ ks r. changed test f ks (handle_of r)) rows (padded rs) ≡ each (λ ks r. changed test f ks (handle_of r)) rows rs
each_padded test f rows [] h = refl
each_padded test f rows (a ∷ []) h = refl
each_padded test f rows (a ∷ b ∷ []) h = refl
each_padded test f rows (a ∷ b ∷ c ∷ []) h = refl
each_padded test f rows (a ∷ b ∷ c ∷ d ∷ []) h = refl
each_padded test f rows (a ∷ b ∷ c ∷ d ∷ q ∷ rs) h = absurd (omega arith)

named_padded : (r : Reference) (rs : List Reference) → same r Empty ≡ false → length rs ≤ 4 → named r (padded rs) ≡ named r rs
named_padded r [] e h = grind arith
named_padded r (a ∷ []) e h = grind arith
named_padded r (a ∷ b ∷ []) e h = grind arith
named_padded r (a ∷ b ∷ c ∷ []) e h = grind arith
named_padded r (a ∷ b ∷ c ∷ d ∷ []) e h = refl
named_padded r (a ∷ b ∷ c ∷ d ∷ q ∷ rs) e h = absurd (omega arith)

lacking_padded : (rows : List Counts) (rs : List Reference) (r : Reference) → length rs ≤ 4
    → lacking rows (padded rs) r ≡ lacking rows rs r
lacking_padded rows rs Empty h = refl
lacking_padded rows rs (Strong p) h = ap (ltb (loose rows (Strong p))) (named_padded (Strong p) rs refl h)
lacking_padded rows rs (Weak p) h = ap (ltb (loose rows (Weak p))) (named_padded (Weak p) rs refl h)

-- empty ones at the end lack nothing
lacking_front : (rows : List Counts) (rs qs : List Reference) → length qs ≤ 4 → some_lacking rows rs (padded qs) ≡ some_lacking rows rs qs
lacking_front rows rs [] h = refl
lacking_front rows rs (a ∷ []) h = refl
lacking_front rows rs (a ∷ b ∷ []) h = refl
lacking_front rows rs (a ∷ b ∷ c ∷ []) h = refl
lacking_front rows rs (a ∷ b ∷ c ∷ d ∷ []) h = refl
lacking_front rows rs (a ∷ b ∷ c ∷ d ∷ q ∷ qs) h = absurd (omega arith)

some_lacking_padded : (rows : List Counts) (rs qs : List Reference) → length rs ≤ 4
    → some_lacking rows (padded rs) qs ≡ some_lacking rows rs qs
some_lacking_padded rows rs [] h = refl
some_lacking_padded rows rs (q ∷ qs) h = rw (lacking_padded rows rs q h, some_lacking_padded rows rs qs h) refl

-- what is told of the padded list is told of the references
pub lacks_told : (rows : List Counts) (rs qs : List Reference) (b : Bool) → b ≡ some_lacking rows qs qs → qs ≡ padded rs → length rs ≤ 4
    → b ≡ some_lacking rows rs rs
lacks_told rows rs qs b h e l = h ∙ rw e (some_lacking_padded rows rs (padded rs) l ∙ lacking_front rows rs rs l)
