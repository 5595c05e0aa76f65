-- Tickets and the places that they are of.
use Rattle.std.specs.Prelude.{ℕ, Some, None, Option}
use Rattle.rc.specs.declared.handle.Ticket.{Ticket}

abbrev pub place_of : Option Ticket → Option ℕ
place_of None = None
place_of (Some t) = Some t.place

-- the ticket of a place in a census
abbrev pub ticket_of : ℕ → ℕ → Ticket
ticket_of number p = record { census = number; place = p }

abbrev pub weak_at : ℕ → Option ℕ → Option Ticket
weak_at number None = None
weak_at number (Some p) = Some (ticket_of number p)
