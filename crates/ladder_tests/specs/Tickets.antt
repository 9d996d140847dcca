-- Tickets in their order.
use Rattle.std.specs.Prelude.{ℕ, ◌+◌, ◌*◌, nat_lt}
use Rattle.ladders.specs.Orders.{Order}
use Rattle.ladder_tests.specs.declared.ticket.Ticket.{Ticket}

-- the most tickets on a ladder
abbrev pub most_tickets : ℕ
most_tickets = 3

-- a number of two bytes: the period, and then the party
abbrev pub ticket_number : Ticket → ℕ
ticket_number t = t.period * 256 + t.party

-- the lowest number stands first
abbrev pub ticket_order : Order Ticket
ticket_order = record { number = ticket_number; is_before = λ x y. nat_lt (ticket_number x) (ticket_number y) }
