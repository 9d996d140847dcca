-- The merit order of bids in each direction.
use Rattle.std.specs.Prelude.{Bool, ℤ, nat_lt, int_lt, if◌then◌else◌}
use Rattle.std.specs.Ordering.{int_eq}
use Rattle.source.specs.declared.direction.Direction.{Direction}
use Rattle.source.specs.declared.direction.Direction.TheVariants.{Up, Down}
use Rattle.ladders.specs.Orders.{Order}
use Rattle.bids.specs.declared.row.BidRow.{BidRow}
use Rattle.bids.specs.declared.kinds.UpBid.{UpBid}
use Rattle.bids.specs.declared.kinds.DownBid.{DownBid}

-- up, the lower price is the better one; down, the higher
abbrev pub is_better : Direction → ℤ → ℤ → Bool
is_better Up p q = int_lt p q
is_better Down p q = int_lt q p

-- the better price stands first, equal prices by lower number
abbrev pub stands_before : Direction → BidRow → BidRow → Bool
stands_before d x y = if int_eq x.cents y.cents then nat_lt x.number y.number else is_better d x.cents y.cents

-- up bids: the cheapest first
abbrev pub up_order : Order UpBid
up_order = record { number = λ x. x.0.number; is_before = λ x y. stands_before Up x.0 y.0 }

-- down bids: the dearest first
abbrev pub down_order : Order DownBid
down_order = record { number = λ x. x.0.number; is_before = λ x y. stands_before Down x.0 y.0 }
