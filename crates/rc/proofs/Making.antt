-- A new cell, from the steps that make it.
use Rattle.std.proofs.Common.{◌≡◌, ℕ, ◌+◌, List, drop, set, sym, refl, ap, subst, add-one}
use Rattle.blocks.specs.Meaning.{HandsOut}
use Rattle.cells.specs.declared.row.Counts.{Counts}
use Rattle.rc.specs.Calls.{Made}
use Rattle.rc.specs.Ends.{copied, put_first}
use Rattle.rc.specs.Worlds.{World, with_row}

-- a block is taken, the rows are changed, and the cell is written there
pub made : (w u v : World) (n : ℕ) (rows : List Counts) (k : Counts) (p : ℕ) → HandsOut w.meaning n p u.meaning → u.number ≡ w.number
    → u.rows ≡ rows
    → v ≡ with_row u p k → Made w n rows k p v
made w u v n rows k p b e r h =
    subst (Made w n rows k p) (sym h) (record { block = b; number = e; table = ap (λ (ks : List Counts). set ks p k) r })

-- one element copied more
pub copied_more : {E : Type 0} (memory : List E) (p q n : ℕ)
    → copied memory p q (n + 1) ≡ put_first (drop (p + n) (copied memory p q n)) (copied memory p q n) (q + n)
unfolding copied
copied_more memory p q n = rw add-one refl
