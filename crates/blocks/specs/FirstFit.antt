-- What a first fit means to its callers.
use Rattle.blocks.specs.Kinds.{first_fit_with}
use Rattle.blocks.specs.Meaning.{Meaning}
use Rattle.blocks.specs.declared.first_fit.FirstFit.{FirstFit}

abbrev pub meaning_of : FirstFit → Meaning
meaning_of f = first_fit_with f.extent f.table.items
