-- Handles, as tokens of the tickets that they bear.
use Rattle.std.specs.Prelude.{◌≡◌, Ok, Err, Option, Result}
use Rattle.rc.specs.declared.decline.Decline.{Decline}
use Rattle.rc.specs.declared.decline.Refused.{Refused}
use Rattle.rc.specs.declared.handle.Handle.{Handle}
use Rattle.rc.specs.declared.handle.Ticket.{Ticket}

abbrev pub Rc : Type 0
Rc = Handle Ticket

abbrev pub Weak : Type 0
Weak = Handle (Option Ticket)

-- a call that goes through answers, and one that is declined hands the handle back
abbrev pub SpentOn : {H R : Type 0} → H → Result R Decline → Result R (Refused H) → Type 0
SpentOn h (Ok x) r = r ≡ Ok x
SpentOn h (Err why) r = r ≡ Err (record { handle = h; why = why })
