-- The merit orders are strict, and bids of different numbers never tie.
use Rattle.std.specs.Prelude.{◌≡◌, ◌≢◌, true, false}
use Rattle.std.proofs.Common.{arith}
use Rattle.std.proofs.lemmas.Bool.Decides.{nat_tests}
use borrow.Author.Differences.{ints}
use Rattle.source.specs.declared.direction.Direction.{Direction}
use Rattle.source.specs.declared.direction.Direction.TheVariants.{Up, Down}
use Rattle.ladders.specs.Orders.{IsStrict}
use Rattle.bids.specs.Merit.{down_order, stands_before, up_order}
use Rattle.bids.specs.declared.row.BidRow.{BidRow}

irreflexive : (d : Direction) (x : BidRow) → stands_before d x x ≡ false
irreflexive Up x = grind (arith, ints, nat_tests)
irreflexive Down x = grind (arith, ints, nat_tests)

transitive : (d : Direction) (x y z : BidRow) → stands_before d x y ≡ true → stands_before d y z ≡ true → stands_before d x z ≡ true
transitive Up x y z a b = grind (arith, ints, nat_tests)
transitive Down x y z a b = grind (arith, ints, nat_tests)

never_tie : (d : Direction) (x y : BidRow) → x.number ≢ y.number → stands_before d x y ≡ false → stands_before d y x ≡ true
never_tie Up x y e a = grind (arith, ints, nat_tests)
never_tie Down x y e a = grind (arith, ints, nat_tests)

pub up_is_strict : IsStrict up_order
up_is_strict = record { irreflexive = λ x. irreflexive Up x.0; transitive = λ x y z. transitive Up x.0 y.0 z.0; never_tie = λ x y. never_tie Up x.0 y.0 }

pub down_is_strict : IsStrict down_order
down_is_strict = record { irreflexive = λ x. irreflexive Down x.0; transitive = λ x y z. transitive Down x.0 y.0 z.0; never_tie = λ x y. never_tie Down x.0 y.0 }
