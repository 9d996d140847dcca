-- The order of tickets is strict, and goes by their numbers.
use Rattle.std.proofs.Common.{true, refl, arith}
use Rattle.std.proofs.lemmas.Bool.Decides.{nat_tests}
use Rattle.ladders.specs.Orders.{GoesByNumber, IsStrict}
use Rattle.ladder_tests.specs.Tickets.{ticket_order}

pub tickets_are_strict : IsStrict ticket_order
tickets_are_strict = record { irreflexive = λ x. grind (arith, nat_tests); transitive = λ x y z a b. grind (arith, nat_tests); never_tie = λ x y e a. grind (arith, nat_tests) }

pub tickets_go_by_number : GoesByNumber true ticket_order
tickets_go_by_number said x y = refl
