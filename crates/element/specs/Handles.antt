-- The handles that references are.
use Rattle.std.specs.Prelude.{ℕ, Some, None, Option}
use Rattle.element.specs.declared.reference.Reference.{Reference}
use Rattle.element.specs.declared.reference.Reference.TheVariants as reference
use Rattle.element.specs.declared.reference.Sort.{Sort}
use Rattle.element.specs.declared.reference.Sort.TheVariants as sort

-- the sort and the place of a reference that is not empty
abbrev pub handle_of : Reference → Option (Sort × ℕ)
handle_of reference.Empty = None
handle_of (reference.Strong p) = Some (sort.Strong, p)
handle_of (reference.Weak p) = Some (sort.Weak, p)

-- the reference that a handle is; the empty one where there is none
abbrev pub refers_to : Option (Sort × ℕ) → Reference
refers_to None = reference.Empty
refers_to (Some (sort.Strong, p)) = reference.Strong p
refers_to (Some (sort.Weak, p)) = reference.Weak p
