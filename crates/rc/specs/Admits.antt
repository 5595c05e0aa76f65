-- Handles that a census admits: no call that takes one is declined for it.
use Rattle.std.specs.Prelude.{◌≡◌, List, [], ◌∷◌, Option}
use Rattle.rc.specs.Checks.{first, wrong_memory, no_rc, no_weak}
use Rattle.rc.specs.Worlds.{World}
use Rattle.rc.specs.declared.handle.Ticket.{Ticket}

-- neither the memory nor the `Rc` is declined
abbrev pub AdmitsRc : {E : Type 0} → World → List E → Ticket → Type 0
AdmitsRc w memory t = first (wrong_memory w memory ∷ no_rc w t ∷ []) ≡ 0

-- neither the memory nor the `Weak` is declined
abbrev pub AdmitsWeak : {E : Type 0} → World → List E → Option Ticket → Type 0
AdmitsWeak w memory t = first (wrong_memory w memory ∷ no_weak w t ∷ []) ≡ 0
