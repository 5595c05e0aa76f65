-- A block that is not out, and does not go back.
use Rattle.std.proofs.Common.{◌≡◌, ℕ, true, false, List, [], ◌∷◌, is_ok, Ok, Err, Result, refl, ap, ◌∙◌}
use Rattle.std.proofs.lemmas.Bool.{or_parts, both_ways, cond-false}
use Rattle.blocks.specs.Blocks.{block, same, member, remove}
use Rattle.blocks.specs.Meaning.{Meaning, Deallocates}
use Rattle.blocks.specs.declared.block.Block.{Block}
use Rattle.blocks.specs.declared.block.Decline.{Decline}
use Rattle.cells.specs.Counts.{none}
use Rattle.cells.specs.Rows.{at}
use Rattle.disposal.specs.Books.{Books, with_row, returned, one_block}

remove_absent : (x : Block) (bs : List Block) → member x bs ≡ false → remove x bs ≡ bs
remove_absent x [] e = refl
remove_absent x (b ∷ bs) e =
    let t = or_parts (same x b) (member x bs) e in
    cond-false _ _ _ t.0 ∙ ap (λ ys. b ∷ ys) (remove_absent x bs t.1)

pub returned_absent : (b : Books) (p : ℕ) → member (block p (at b.rows p).size) b.meaning.out ≡ false → returned b p ≡ with_row b p none
returned_absent b p e =
    let x = block p (at b.rows p).size in
    λ i. record {
      rows = (with_row b p none).rows;
      meaning = record { extent = b.meaning.extent; fits = b.meaning.fits; out = remove_absent x b.meaning.out e i };
      receipt = cond-false (member x b.meaning.out) (one_block b.receipt) b.receipt e i;
    }

-- where `deallocate` declines
pub declined : {S R : Type 0} (m : S → Meaning) (s t : S) (x : Block) (r : Result R Decline) → Deallocates m s x r t → is_ok r ≡ false
    → (member x (m s).out ≡ false) × (t ≡ s)
declined m s t x (Ok _) d e = absurd (both_ways true e refl)
declined m s t x (Err z) d e = (d.1, d.2)
