use Rattle.blocks.proofs.Slotted.{get_or-zeros, slots_none}
use Rattle.blocks.proofs.slots.Slots.new.Goals as goal

pub returns : goal.returns
returns c = record { free = get_or-zeros 1024; out = λ unit at. slots_none unit at 1024 }
