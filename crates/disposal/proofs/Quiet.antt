-- What one release or one close does to the strong counts and the receipt.
use Rattle.std.proofs.Common.{◌≡◌, ℕ, ◌+◌, ◌-◌, ◌≤◌, Bool, true, false, cond, eqb, ltb, set, refl, arith}
use Rattle.std.specs.List.{sum_by}
use Rattle.blocks.specs.Meaning.{Meaning}
use Rattle.element.specs.declared.reference.Reference.{Reference}
use Rattle.element.specs.declared.reference.Reference.TheVariants.{Empty, Strong, Weak}
use Rattle.cells.specs.Counts.{none, admits_strong, admits_weak, with_strong, with_weak, ownerless}
use Rattle.cells.specs.Rows.{at, standing_in}
use Rattle.cells.specs.declared.row.Counts.{Counts}
use Rattle.disposal.specs.Books.{Books, with_row, left_with, closed, begun, returned, sole, one_block, one_stray}
use Rattle.disposal.specs.Walks.{released, strong_of, tally}
use Rattle.disposal.specs.declared.store.Receipt.{Receipt}
use Rattle.disposal.proofs.Totals.{total_falls, standing_falls}
use Rattle.disposal.proofs.Chains.{dead_set}

-- no strong count rises, no element comes to stand or is listed, and one thing more is counted at most
pub record Quiet (b b' : Books) : Type 0 where
  pub dead : (p : ℕ) → (at b.rows p).strong ≡ 0 → (at b'.rows p).strong ≡ 0
  pub less : sum_by strong_of b'.rows ≤ sum_by strong_of b.rows
  pub standing : standing_in b'.rows ≤ standing_in b.rows
  pub listed : b'.receipt.listed ≡ b.receipt.listed
  pub counted : tally b'.receipt ≤ tally b.receipt + 1

abbrev Lower : Counts → Counts → Type 0
Lower k j = (k.strong ≤ j.strong) × (k.standing ≤ j.standing)

abbrev OneMore : Receipt → Receipt → Type 0
OneMore t s = (t.listed ≡ s.listed) × (tally t ≤ tally s + 1)

quiet_set : (b : Books) (q : ℕ) (k : Counts) (m : Meaning) (t : Receipt) → Lower k (at b.rows q)
    → OneMore t b.receipt → Quiet b (record { rows = set b.rows q k; meaning = m; receipt = t })
quiet_set b q k m t le c =
    let h : strong_of k + 0 ≤ strong_of (at b.rows q) = omega arith in
    let s : k.standing + 0 ≤ (at b.rows q).standing = omega arith in
    record {
      dead = λ p e. dead_set b.rows q p k le.0 e;
      less = omega (arith, total_falls strong_of none b.rows q k 0 refl h);
      standing = omega (arith, standing_falls b.rows q k 0 s);
      listed = c.0;
      counted = c.1;
    }

quiet_same : (b : Books) (t : Receipt) → OneMore t b.receipt → Quiet b (record { rows = b.rows; meaning = b.meaning; receipt = t })
quiet_same b t c = record { dead = λ p e. e; less = omega arith; standing = omega arith; listed = c.0; counted = c.1 }

quiet_cond : (b x y : Books) (t : Bool) → Quiet b x → Quiet b y → Quiet b (cond t x y)
quiet_cond b x y true h k = h
quiet_cond b x y false h k = k

maybe_block : (t : Bool) (x : Receipt) → OneMore (cond t (one_block x) x) x
maybe_block true x = (refl, omega arith)
maybe_block false x = (refl, omega arith)

quiet_returned : (b : Books) (p : ℕ) → Quiet b (returned b p)
quiet_returned b p = quiet_set b p none _ (returned b p).receipt (omega arith) (maybe_block _ b.receipt)

quiet_left : (b : Books) (p : ℕ) (k : Counts) → Lower k (at b.rows p) → Quiet b (left_with b p k)
quiet_left b p k le = quiet_cond b _ _ (ltb 0 k.weak) (quiet_set b p k _ _ le (omega arith)) (quiet_returned b p)

pub quiet_closed : (b : Books) (p : ℕ) → Quiet b (closed b p)
quiet_closed b p =
    quiet_cond b _ _ (sole (at b.rows p)) (quiet_left b p (ownerless (at b.rows p)) (omega arith)) (quiet_same b b.receipt (omega arith))

pub quiet_begun : (b : Books) (p : ℕ) → Quiet b (begun b p)
quiet_begun b p = quiet_set b p _ _ _ (omega arith) (omega arith)

pub quiet_lowered : (b : Books) (q : ℕ) → Quiet b (with_row b q (with_strong (at b.rows q) ((at b.rows q).strong - 1)))
quiet_lowered b q = quiet_set b q _ _ _ (omega arith) (omega arith)

pub quiet_released : (r : Reference) (b : Books) → Quiet b (released r b)
quiet_released Empty b = quiet_same b b.receipt (omega arith)
quiet_released (Strong q) b =
    quiet_cond b _ _ (admits_strong (at b.rows q))
    (quiet_cond b _ _ (eqb (at b.rows q).strong 1) (quiet_begun b q) (quiet_lowered b q))
    (quiet_same b (one_stray b.receipt) (omega arith))
quiet_released (Weak q) b =
    quiet_cond b _ _ (admits_weak (at b.rows q))
    (quiet_left b q (with_weak (at b.rows q) ((at b.rows q).weak - 1)) (omega arith))
    (quiet_same b (one_stray b.receipt) (omega arith))

-- the disposal of a cell with one strong count
pub begun_falls : (b : Books) (q : ℕ) → (at b.rows q).strong ≡ 1 → sum_by strong_of (begun b q).rows + 1 ≤ sum_by strong_of b.rows
begun_falls b q e =
    let h : 0 + 1 ≤ strong_of (at b.rows q) = omega arith in
    total_falls strong_of none b.rows q _ 1 refl h
