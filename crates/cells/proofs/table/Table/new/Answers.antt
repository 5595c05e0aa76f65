use Rattle.std.proofs.Common.{refl}
use Rattle.cells.specs.Rows.{counts_of, standing_in, small}
use Rattle.cells.proofs.table.Table.new.Goals as goal

pub invariant_of-result : goal.invariant_of-result
unfolding counts_of standing_in small
invariant_of-result c = record { full = refl; few = refl; sum = refl }
