-- Cells whose blocks are out.
use Rattle.std.specs.Prelude.{◌≡◌, ℕ, suc, Bool, true, not, ◌&&◌, ◌||◌, List, [], ◌∷◌, nat_lt}
use Rattle.blocks.specs.Blocks.{block, member}
use Rattle.blocks.specs.declared.block.Block.{Block}
use Rattle.cells.specs.Counts.{taken}
use Rattle.cells.specs.declared.row.Counts.{Counts}
use Rattle.rc.specs.Worlds.{World}

-- a cell with these counts at p has a block that is out, of one place or more
abbrev pub housed_at : List Block → ℕ → Counts → Bool
housed_at out p k = not (taken k.state) || (member (block p k.size) out && nat_lt 0 k.size)

-- so has each cell of these rows, the first of which is at p
unfoldable pub housed_from : ℕ → List Counts → List Block → Bool
housed_from p [] out = true
housed_from p (k ∷ rows) out = housed_at out p k && housed_from (suc p) rows out

-- each cell has a block that is out
abbrev pub housed : List Counts → List Block → Bool
housed rows out = housed_from 0 rows out

-- each cell of a census
abbrev pub AllHoused : World → Type 0
AllHoused w = housed w.rows w.meaning.out ≡ true
