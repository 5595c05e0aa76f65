-- The books of a store: the counts of every place, the meaning of the allocator, and a receipt.
use Rattle.std.specs.Prelude.{ℕ, ◌+◌, ◌-◌, Bool, cond, ◌&&◌, List, nat_lt, slice_set}
use Rattle.blocks.specs.Blocks.{block, member, remove}
use Rattle.blocks.specs.Meaning.{Meaning, with_out}
use Rattle.cells.specs.Counts.{none, is_cell, admits_weak, with_weak, last_owner, dying, ownerless}
use Rattle.cells.specs.Rows.{at}
use Rattle.cells.specs.declared.row.Counts.{Counts}
use Rattle.disposal.specs.declared.store.Receipt.{Receipt}

pub record Books : Type 0 where
  pub rows : List Counts
  pub meaning : Meaning
  pub receipt : Receipt

abbrev pub none_yet : Receipt
none_yet = record { listed = 0; cells = 0; blocks = 0; strays = 0 }

abbrev pub one_listed : Receipt → Receipt
one_listed t = record { listed = t.listed + 1; cells = t.cells; blocks = t.blocks; strays = t.strays }

abbrev pub one_cell : Receipt → Receipt
one_cell t = record { listed = t.listed; cells = t.cells + 1; blocks = t.blocks; strays = t.strays }

abbrev pub one_block : Receipt → Receipt
one_block t = record { listed = t.listed; cells = t.cells; blocks = t.blocks + 1; strays = t.strays }

abbrev pub one_stray : Receipt → Receipt
one_stray t = record { listed = t.listed; cells = t.cells; blocks = t.blocks; strays = t.strays + 1 }

-- a reference that no cell admits is passed over
abbrev pub stray : Books → Books
stray b = record { rows = b.rows; meaning = b.meaning; receipt = one_stray b.receipt }

abbrev pub with_row : Books → ℕ → Counts → Books
with_row b p k = record { rows = slice_set b.rows p k; meaning = b.meaning; receipt = b.receipt }

-- the block at p goes back, if it is out, and no cell stands there
abbrev pub returned : Books → ℕ → Books
returned b p =
    record {
      rows = slice_set b.rows p none;
      meaning = with_out b.meaning (remove (block p (at b.rows p).size) b.meaning.out);
      receipt = cond (member (block p (at b.rows p).size) b.meaning.out) (one_block b.receipt) b.receipt;
    }

-- a cell that only its last owner keeps
abbrev pub sole : Counts → Bool
sole k = is_cell k && last_owner k

-- the disposal of the cell at p begins
abbrev pub begun : Books → ℕ → Books
begun b p = record { rows = slice_set b.rows p (dying (at b.rows p)); meaning = b.meaning; receipt = one_cell b.receipt }

-- the cell at p is left with the counts k, or without a weak count its block goes back
abbrev pub left_with : Books → ℕ → Counts → Books
left_with b p k = cond (nat_lt 0 k.weak) (with_row b p k) (returned b p)

-- the last owner at p goes, with its weak count
abbrev pub closed : Books → ℕ → Books
closed b p = cond (sole (at b.rows p)) (left_with b p (ownerless (at b.rows p))) b

-- a weak handle at p goes
abbrev pub weak_released : Books → ℕ → Books
weak_released b p =
    cond (admits_weak (at b.rows p)) (left_with b p (with_weak (at b.rows p) ((at b.rows p).weak - 1))) (stray b)
