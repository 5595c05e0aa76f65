-- New cells: their handles are admitted, and each cell keeps a block that is out.
use Rattle.std.proofs.Common.{◌≡◌, ℕ, zero, suc, ◌+◌, ◌-◌, ◌*◌, ◌<◌, ◌≤◌, Bool, true, false, ◌≢◌, List, [], ◌∷◌, length, drop, Some, None}
use Rattle.std.proofs.Common.{Ok, Option, refl, ap, ◌∙◌, arith}
use Rattle.std.proofs.lemmas.List.{length-set, get_or-set_same, get_or-set_other}
use Rattle.std.proofs.lemmas.Grind.{common_steps}
use Rattle.blocks.specs.Meaning.{Meaning}
use Rattle.cells.specs.Counts.{none, taken, is_cell, handles, loose, admits, has_loose, one_more, one_less, one_held, admits_strong}
use Rattle.cells.specs.Counts.{shared, ownerless}
use Rattle.cells.specs.Rows.{at}
use Rattle.cells.proofs.Rows.{counts_length}
use Rattle.cells.specs.declared.row.Counts.{Counts}
use Rattle.cells.specs.declared.row.Shape.{Shape}
use Rattle.cells.specs.declared.row.Shape.TheVariants.{Single}
use Rattle.disposal.specs.Books.{Books, none_yet, closed}
use Rattle.element.specs.Handles.{handle_of}
use Rattle.element.specs.declared.reference.Reference.{Reference}
use Rattle.element.specs.declared.reference.Reference.TheVariants.{Strong}
use Rattle.element.specs.declared.reference.Sort.{Sort}
use Rattle.element.specs.declared.reference.Sort.TheVariants as sort
use Rattle.rc.specs.Calls.{Made, New, lacking_references, unfit}
use Rattle.rc.specs.Checks.{wrong_memory}
use Rattle.rc.specs.Ends.{Copied, Moved, put_first, copied}
use Rattle.references.specs.References.{changed, each, held, lowered, raised_upto, nth}
use Rattle.rc.specs.Housed.{AllHoused}
use Rattle.rc.specs.Worlds.{World, world, books}
use Rattle.rc.specs.declared.census.Census.{Census}
use Rattle.rc.specs.Handles.{Rc}
use Rattle.rc.proofs.Chains.{head_passed}
use Rattle.rc.proofs.Housed.{Housed, each_housed, changed_housed, loose_homes, counted_homes, spread, made_housed, closed_housed}
use Rattle.rc.proofs.Housed.{upto_housed, home, clear_apart}

-- Lengths

length_changed : (test : Sort → Counts → Bool) (f : Sort → Counts → Counts) (rows : List Counts) (o : Option (Sort × ℕ))
    → length (changed test f rows o) ≡ length rows
length_changed test f rows None = refl
length_changed test f rows (Some (s, p)) = grind (arith, common_steps)

pub length_each_held : (rows : List Counts) (rs : List Reference) → length (each held rows rs) ≡ length rows
length_each_held rows [] = refl
length_each_held rows (r ∷ rs) = length_each_held (held rows r) rs ∙ length_changed has_loose one_held rows (handle_of r)

length_upto : (f : ℕ → Reference) (n : ℕ) (rows : List Counts) → length (raised_upto f n rows) ≡ length rows
unfolding raised_upto
length_upto f zero rows = refl
length_upto f (suc n) rows = length_changed admits one_more _ (handle_of (f n)) ∙ length_upto f n rows

length_put_first : {E : Type 0} (xs memory : List E) (q : ℕ) → length (put_first xs memory q) ≡ length memory
length_put_first [] memory q = refl
length_put_first (x ∷ xs) memory q = length-set memory q x

pub length_copied : {E : Type 0} (memory : List E) (p q n : ℕ) → length (copied memory p q n) ≡ length memory
unfolding copied
length_copied memory p q zero = refl
length_copied memory p q (suc n) = length_put_first (drop (p + n) (copied memory p q n)) _ (q + n) ∙ length_copied memory p q n

-- a memory of the same length, for the same extent
same_fit : {E : Type 0} (w v : World) (memory memory' : List E) → length memory' ≡ length memory → v.meaning.extent ≡ w.meaning.extent
    → (wrong_memory w memory).0 ≡ false → (wrong_memory v memory').0 ≡ false
same_fit w v memory memory' l x e = rw (l, x) e

-- A cell at a new place

-- the table has a row for each place of the extent, and each cell has its block
pub record Ready (w : World) : Type 0 where
  pub full : length w.rows ≡ 1024
  pub small : w.meaning.extent ≤ 1024
  pub homes : Housed w.rows w.meaning.out

-- which holds of every census
pub ready : {A : Type 0} (m : A → Meaning) (c : Census A) → (m c.store.alloc).extent ≤ 1024 → AllHoused (world m c) → Ready (world m c)
ready m c small h =
    let w = world m c in
    record { full = counts_length c.store.table.rows ∙ c.store.table.full; small = small; homes = spread w.rows w.meaning.out h }

pub fresh_within : {w v : World} {n : ℕ} {rows : List Counts} {k : Counts} {p : ℕ} → Ready w → Made w n rows k p v → 0 < n
    → length rows ≡ length w.rows → p < length rows
fresh_within {w} {n = n} {p = p} ready made l e =
    let i = made.block.inside in
    let f = ready.full in
    let s = ready.small in
    omega arith

fresh_extent : {w v : World} {n : ℕ} {rows : List Counts} {k : Counts} {p : ℕ} → Made w n rows k p v → v.meaning.extent ≡ w.meaning.extent
fresh_extent made = ap (λ (m : Meaning). m.extent) made.block.after

fresh_housed : {w v : World} {rows : List Counts} {s : Shape} {n m p : ℕ} → Made w n rows (shared s n m) p v → 0 < n
    → Housed rows w.meaning.out → Housed v.rows v.meaning.out
fresh_housed {w} {v} {rows} {s} {n} {m} {p} made l H =
    rw (made.block.after, made.table) (made_housed rows w.meaning.out p (shared s n m) l H)

-- the new cell has one `Rc`, which is admitted
pub record Fresh {E : Type 0} (w v : World) (memory' : List E) (q : ℕ) : Type 0 where
  pub fits : (wrong_memory v memory').0 ≡ false
  pub number : v.number ≡ w.number
  pub strong : admits_strong (at v.rows q) ≡ true
  pub homes : Housed v.rows v.meaning.out

-- another place than the one that changes
closed_other : (b : Books) (p q : ℕ) → q ≢ p → at (closed b p).rows q ≡ at b.rows q
closed_other b p q n =
    grind (arith, get_or-set_other b.rows p q (ownerless (at b.rows p)) none n, get_or-set_other b.rows p q none none n)

closed_extent : (b : Books) (p : ℕ) → (closed b p).meaning.extent ≡ b.meaning.extent
closed_extent b p = grind arith

lowered_other : (rows : List Counts) (p q : ℕ) → q ≢ p → at (lowered rows (Strong p)) q ≡ at rows q
lowered_other rows p q n = grind (arith, get_or-set_other rows p q (one_less sort.Strong (at rows p)) none n)

pub made_fresh : {E : Type 0} (w v : World) (memory memory' : List E) (q : ℕ) (rows : List Counts) (n m : ℕ) (s : Shape) → Ready w
    → (wrong_memory w memory).0 ≡ false
    → 0 < n → length rows ≡ length w.rows → Housed rows w.meaning.out → Made w n rows (shared s n m) q v → length memory' ≡ length memory
    → Fresh w v memory' q
made_fresh w v memory memory' q rows n m s ready fit l e H made same =
    record {
      fits = same_fit w v memory memory' same (fresh_extent made) fit;
      number = made.number;
      strong = rw (made.table, get_or-set_same rows q (shared s n m) none (fresh_within ready made l e)) refl;
      homes = fresh_housed made l H;
    }

-- what `new` makes
pub new_fresh : {E : Type 0} (refs : E → List Reference) (w v : World) (memory memory' : List E) (x : E) (rc : Rc) → Ready w
    → New refs w memory x (Ok rc) v memory' → Fresh w v memory' rc.ticket.place
new_fresh refs w v memory memory' x rc can new =
    let out = w.meaning.out in
    made_fresh w v memory memory' rc.ticket.place (each held w.rows (refs x)) 1 1 Single can
    (head_passed (wrong_memory w memory).0 1 (lacking_references w (refs x) ∷ unfit w 1 ∷ []) (omega arith) new.0)
    (omega arith) (length_each_held w.rows (refs x))
    (each_housed has_loose one_held out (loose_homes out (λ s k. loose s k - 1)) w.rows (refs x) can.homes)
    new.1.1 (ap length new.1.2 ∙ length-set memory rc.ticket.place x)

taken_cell : (k : Counts) → is_cell k ≡ true → taken k.state ≡ true
taken_cell k h = grind arith

module _ {E : Type 0} (w : World) (memory memory' : List E) (p q : ℕ) (v : World) (ready : Ready w) (cell : is_cell (at w.rows p) ≡ true)
    (fit : (wrong_memory w memory).0 ≡ false) where
  -- the block that the cell has keeps the new one apart
  new_apart : {rows : List Counts} {k : Counts} {u : World} → Made w (at w.rows p).size rows k q u → (0 < (at w.rows p).size) × (q ≢ p)
  new_apart made =
      let k = at w.rows p in
      let h = home w.meaning.out p k (taken_cell k cell) (ready.homes p) in
      (h.1, clear_apart q k.size p k.size w.meaning.out h.1 h.1 made.block.apart h.0)

  pub copied_fresh : (refs : E → List Reference) → Copied refs w memory p q v memory' → Fresh w v memory' q
  copied_fresh refs c =
      let k = at w.rows p in
      let u = c.between in
      let f = nth refs memory p in
      let rows = raised_upto f (4 * k.standing) w.rows in
      let far = new_apart c.made in
      let long = length_upto f (4 * k.standing) w.rows in
      record {
        fits = same_fit w v memory memory' (ap length c.memory_after ∙ length_copied memory p q k.standing)
            (ap (λ (z : World). z.meaning.extent) c.fallen ∙ fresh_extent c.made) fit;
        number = ap (λ (z : World). z.number) c.fallen ∙ c.made.number;
        strong =
            rw (
              c.fallen,
              lowered_other u.rows p q far.1,
              c.made.table,
              get_or-set_same rows q (shared k.shape k.size k.standing) none
                  (fresh_within ready c.made far.0 long),
            )
            refl;
        homes =
            rw c.fallen
            (changed_housed admits one_less u.meaning.out (counted_homes u.meaning.out (λ s k. handles s k - 1)) u.rows (Strong p)
            (fresh_housed c.made far.0 (upto_housed f (4 * k.standing) w.rows w.meaning.out ready.homes)));
      }

  pub moved_fresh : Moved w memory p q v memory' → Fresh w v memory' q
  moved_fresh c =
      let k = at w.rows p in
      let u = c.between in
      let b = books u none_yet in
      let far = new_apart c.made in
      record {
        fits = same_fit w v memory memory' (ap length c.memory_after ∙ length_copied memory p q k.standing)
            (ap (λ (z : World). z.meaning.extent) c.left ∙ closed_extent b p ∙ fresh_extent c.made) fit;
        number = ap (λ (z : World). z.number) c.left ∙ c.made.number;
        strong =
            rw (
              c.left,
              closed_other b p q far.1,
              c.made.table,
              get_or-set_same w.rows q (shared k.shape k.size k.standing) none
                  (fresh_within ready c.made far.0 refl),
            )
            refl;
        homes = rw c.left (closed_housed b p (fresh_housed c.made far.0 ready.homes));
      }
