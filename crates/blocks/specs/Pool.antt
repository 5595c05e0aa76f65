-- What a pool means to its callers.
use Rattle.blocks.specs.Kinds.{pool_with}
use Rattle.blocks.specs.Meaning.{Meaning}
use Rattle.blocks.specs.Slots.{slots_out}
use Rattle.blocks.specs.declared.pool.Pool.{Pool}

abbrev pub meaning_of : Pool → Meaning
meaning_of p = pool_with p.extent p.unit (slots_out p.unit 0 p.slots.lens)
