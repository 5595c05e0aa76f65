-- What the allocator and the notes of a drive mean.
use Rattle.std.specs.Prelude.{List}
use Rattle.blocks.specs.FirstFit as first_fit
use Rattle.blocks.specs.Meaning.{Meaning}
use Rattle.blocks.specs.declared.first_fit.FirstFit.{FirstFit}
use Rattle.element.specs.declared.note.Note.{Note}
use Rattle.element.specs.declared.reference.Reference.{Reference}

-- the meaning of the allocator
abbrev pub meaning_of : FirstFit → Meaning
meaning_of f = first_fit.meaning_of f

-- the references of a note
abbrev pub references_of : Note → List Reference
references_of n = n.references
