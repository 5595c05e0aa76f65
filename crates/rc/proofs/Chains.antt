-- A chain of checks, one check at a time.
use Rattle.std.proofs.Common.{◌≡◌, ℕ, ◌<◌, Bool, true, false, List, [], ◌∷◌, ◌++◌, arith}
use Rattle.std.proofs.lemmas.Bool.Decides.{nat_tests}
use Rattle.cells.specs.Counts.{admits}
use Rattle.cells.specs.Rows.{at}
use Rattle.element.specs.declared.reference.Sort.{Sort}
use Rattle.rc.specs.Checks.{first, wrong_memory, no_handle}
use Rattle.rc.specs.Declines.{number_of}
use Rattle.rc.specs.Worlds.{World}
use Rattle.rc.specs.declared.handle.Ticket.{Ticket}
use Rattle.rc.specs.declared.decline.Decline.{Decline}
use Rattle.rc.specs.declared.decline.Decline.TheVariants.{Memory, List as ListTooShort, Handle, Loose, Slice, Index, References, Shared}
use Rattle.rc.specs.declared.decline.Decline.TheVariants.{Count, Allocator}
use Rattle.blocks.specs.declared.block.Decline.TheVariants.{Unfit, NotOut}

pub numbered : (d : Decline) → 0 < number_of d
numbered Memory = omega arith
numbered ListTooShort = omega arith
numbered Handle = omega arith
numbered Loose = omega arith
numbered Slice = omega arith
numbered Index = omega arith
numbered References = omega arith
numbered Shared = omega arith
numbered Count = omega arith
numbered (Allocator Unfit) = omega arith
numbered (Allocator NotOut) = omega arith

-- checks that decline decide, whatever comes after
pub stopped : (checks more : List (Bool × ℕ)) (d : Decline) → first checks ≡ number_of d → first (checks ++ more) ≡ number_of d
stopped [] more d e = let h = numbered d in absurd (omega arith)
stopped ((true, n) ∷ checks) more d e = e
stopped ((false, n) ∷ checks) more d e = stopped checks more d e

-- a check that does not decline does not apply
pub head_passed : (applies : Bool) (n : ℕ) (checks : List (Bool × ℕ)) → 0 < n → first ((applies, n) ∷ checks) ≡ 0 → applies ≡ false
head_passed applies n checks h e = grind arith

-- two checks that do not decline are passed
pub past_two : (a b : Bool) (m n : ℕ) (checks : List (Bool × ℕ)) → 0 < m → 0 < n → first ((a, m) ∷ (b, n) ∷ []) ≡ 0
    → first ((a, m) ∷ (b, n) ∷ checks) ≡ first checks
past_two a b m n checks h k e = grind arith

-- what the checks of an admitted handle say
pub record HandleStands {E : Type 0} (s : Sort) (w : World) (memory : List E) (t : Ticket) : Type 0 where
  pub memory_fits : (wrong_memory w memory).0 ≡ false
  pub own : t.census ≡ w.number
  pub admitted : admits s (at w.rows t.place) ≡ true

handle_told : {E : Type 0} (s : Sort) (w : World) (memory : List E) (t : Ticket)
    → first (wrong_memory w memory ∷ no_handle s w t ∷ []) ≡ 0
    → ((wrong_memory w memory).0 ≡ false) × (t.census ≡ w.number) × (admits s (at w.rows t.place) ≡ true)
handle_told s w memory t e = grind (arith, nat_tests)

pub handle_stands : {E : Type 0} (s : Sort) (w : World) (memory : List E) (t : Ticket)
    → first (wrong_memory w memory ∷ no_handle s w t ∷ []) ≡ 0
    → HandleStands s w memory t
handle_stands s w memory t e = let h = handle_told s w memory t e in record { memory_fits = h.0; own = h.1; admitted = h.2 }
