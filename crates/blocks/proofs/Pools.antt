-- A pool: what holds of it, and what a slot more or less in use makes of it.
use Rattle.std.proofs.Common.{◌≡◌, ℕ, suc, ◌+◌, ◌*◌, ◌/◌, ◌%◌, ◌<◌, ◌≤◌, true, false, eqb, List, Some, None, length, get_or, set, sym, ap, ◌∙◌, subst, ⊎_elim, suc-mul, zero-add, arith}
use Rattle.std.proofs.lemmas.Nat.{div-add-mod', mul-le, div-mul-add, mod-mul-add}
use Rattle.std.proofs.lemmas.List.{get_or_past}
use Rattle.std.proofs.lemmas.Bool.{cases_lt, eq-eqb, ne_eqb}
use Rattle.std.proofs.lemmas.Grind.{common_steps}
use Rattle.blocks.specs.declared.block.Block.{Block}
use Rattle.blocks.specs.declared.pool.Pool.{Pool}
use Rattle.blocks.specs.Blocks.{block, total, member, insert, remove, clear}
use Rattle.blocks.specs.Meaning.{HandsOut, TakesBack}
use Rattle.blocks.specs.Rules.{pool_fits}
use Rattle.blocks.specs.Kinds.{pool_with}
use Rattle.blocks.specs.Slots.{slots_out, LowestFree, SlotOf}
use Rattle.blocks.specs.Edits.{total_insert, total_remove, total_le, clear_shorter}
use Rattle.blocks.specs.Fits.{free_slot_at, free_slot_none}
use Rattle.blocks.specs.Soundness.{pool_slots_apart}
use Rattle.blocks.proofs.Slotted.{slot_clear, slot_insert, slot_remove, slot_member, slot_stranger}

-- a slot of which there are `extent / unit` lies inside
slot_inside : (extent unit k : ℕ) → k < extent / unit → k * unit + unit ≤ extent
slot_inside extent unit k l =
    omega (arith, suc-mul k unit, div-add-mod' extent unit, mul-le (suc k) unit (extent / unit) unit l (omega arith))

module _ (p : Pool) where
  abbrev out : List Block
  out = slots_out p.unit 0 p.slots.lens

  pub pool_used : p.used ≤ p.extent
  pool_used =
      let c = p.counted in
      omega (arith, total_le p.extent 0 out (pool_slots_apart p.unit p.extent p.slots.lens p.held p.inside))

  clear_at : (k : ℕ) → clear (k * p.unit) p.unit out ≡ eqb (get_or p.slots.lens k 0) 0
  clear_at k = rw zero-add at (slot_clear p.unit 0 k p.slots.lens p.sizes.0 p.held)

  taken_at : (k : ℕ) → 0 < get_or p.slots.lens k 0 → clear (k * p.unit) p.unit out ≡ false
  taken_at k l = clear_at k ∙ ne_eqb (get_or p.slots.lens k 0) 0 (omega arith)

  pub pool_full : (n : ℕ) → LowestFree (p.extent / p.unit) p.slots.lens None → pool_fits p.extent p.unit out n ≡ false
  pool_full n h =
      let full = free_slot_none p.extent p.unit out (λ k l. taken_at k (h k l)) in grind (arith, common_steps)

  module _ (ls : List ℕ) (n i : ℕ) (some : 0 < n) (short : n ≤ p.unit)
      (found : LowestFree (p.extent / p.unit) p.slots.lens (Some i)) (put : ls ≡ set p.slots.lens i n) where
    pub pool_lowest : (k : ℕ) → k * p.unit < i * p.unit → clear (k * p.unit) p.unit out ≡ false
    pool_lowest k less =
        ⊎_elim
        (λ (a : k < i). taken_at k (found.2 k a))
        (λ (a : i ≤ k). absurd (omega (arith, mul-le i p.unit k p.unit a (omega arith))))
        (cases_lt k i)

    inside_at : i * p.unit + p.unit ≤ p.extent
    inside_at = slot_inside p.extent p.unit i found.0

    place_at : i < length p.slots.lens
    place_at =
        let f = p.slots.full in
        let s = p.sizes in
        omega (arith, inside_at, mul-le i 1 i p.unit (omega arith) p.sizes.0)

    after : slots_out p.unit 0 ls ≡ insert (block (i * p.unit) n) out
    after =
        ap (slots_out p.unit 0) put
        ∙ sym (rw zero-add at (slot_insert p.unit 0 i n p.slots.lens p.sizes.0 some place_at found.1))

    pub pool_hands_out : HandsOut (pool_with p.extent p.unit out) n (i * p.unit)
        (pool_with p.extent p.unit (slots_out p.unit 0 ls))
    pool_hands_out =
        let clean : clear (i * p.unit) p.unit out ≡ true = clear_at i ∙ eq-eqb (get_or p.slots.lens i 0) 0 found.1 in
        let free = free_slot_at p.extent p.unit i out found.0 clean in
        record {
          fitted = grind (arith, common_steps);
          inside = omega (arith, inside_at);
          apart = clear_shorter (i * p.unit) n p.unit out short clean;
          after = ap (pool_with p.extent p.unit) after;
        }

    pub pool_more : p.used + n ≡ total (slots_out p.unit 0 ls)
    pool_more = let c = p.counted in omega (arith, total_insert (block (i * p.unit) n) out, ap total after)

    pub pool_more_held : (k : ℕ) → get_or ls k 0 ≤ p.unit
    pool_more_held k = let h = p.held k in let l = place_at in grind (arith, common_steps)

    pub pool_more_inside : (k : ℕ) → 0 < get_or ls k 0 → k * p.unit + p.unit ≤ p.extent
    pool_more_inside k some = let h = p.inside k in let l = place_at in let i = inside_at in grind (arith, common_steps)

  -- a length above 0 is that of a slot
  pub pool_place : (k : ℕ) → 0 < get_or p.slots.lens k 0 → k < length p.slots.lens
  pool_place k some = grind (arith, common_steps, get_or_past p.slots.lens k 0)

  pub pool_stranger : (offset n : ℕ)
      → (0 < n → offset % p.unit ≡ 0 → get_or p.slots.lens (offset / p.unit) 0 ≡ n → ⊥)
      → member (block offset n) out ≡ false
  pool_stranger offset n f =
      slot_stranger p.unit 0 (block offset n) p.slots.lens
      (λ k some at len.
      let place : offset ≡ k * p.unit + 0 = omega arith in
      let m : offset % p.unit ≡ 0 = ap (λ (o : ℕ). o % p.unit) place ∙ mod-mul-add k p.unit 0 p.sizes.0 in
      let d : offset / p.unit ≡ k = ap (λ (o : ℕ). o / p.unit) place ∙ div-mul-add k p.unit 0 p.sizes.0 in
      f (omega arith) m (ap (λ (j : ℕ). get_or p.slots.lens j 0) d ∙ sym len))

  module _ (ls : List ℕ) (offset n i : ℕ) (found : SlotOf p.unit p.slots.lens offset n (Some i))
      (put : ls ≡ set p.slots.lens i 0) where
    was_out : member (block offset n) out ≡ true
    was_out =
        subst (λ (o : ℕ). member (block o n) out ≡ true) (omega (arith, found.1))
        (slot_member p.unit 0 i n p.slots.lens found.0 found.2)

    without : slots_out p.unit 0 ls ≡ remove (block offset n) out
    without =
        ap (slots_out p.unit 0) put
        ∙ sym (subst (λ (o : ℕ). remove (block o n) out ≡ slots_out p.unit 0 (set p.slots.lens i 0))
        (omega (arith, found.1))
        (slot_remove p.unit 0 i n p.slots.lens p.sizes.0 found.0 found.2))

    pub pool_takes_back : TakesBack (pool_with p.extent p.unit out) (block offset n)
        (pool_with p.extent p.unit (slots_out p.unit 0 ls))
    pool_takes_back = record { was_out = was_out; after = ap (pool_with p.extent p.unit) without }

    pub pool_less : total (slots_out p.unit 0 ls) + n ≡ p.used
    pool_less = let c = p.counted in omega (arith, total_remove (block offset n) out was_out, ap total without)

    place : i < length p.slots.lens
    place = pool_place i (omega (arith, found.0, found.2))

    pub pool_less_held : (k : ℕ) → get_or ls k 0 ≤ p.unit
    pool_less_held k = let h = p.held k in let l = place in grind (arith, common_steps)

    pub pool_less_inside : (k : ℕ) → 0 < get_or ls k 0 → k * p.unit + p.unit ≤ p.extent
    pool_less_inside k some = let h = p.inside k in let l = place in grind (arith, common_steps)
