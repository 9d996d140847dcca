-- The sums over the slots that were read so far, one slot at a time.
use Rattle.std.specs.Prelude.{◌≡◌, ℕ, ◌+◌, ◌*◌, ◌≤◌, pos, ◌+ℤ◌, ◌*ℤ◌, Some, None, Option, unsigned_abs}
use Rattle.source.specs.Slots.{formed}
use Rattle.source.specs.declared.direction.Direction.{Direction}
use Rattle.source.specs.declared.direction.Direction.TheVariants.{Up, Down}
use Rattle.units.specs.declared.price.Price.{Price}
use Rattle.figures.specs.Counting.{counted}
use Rattle.figures.specs.Sides.{Slots, net_to, formed_to, totals_to, no_totals, volume_of}
use Rattle.figures.specs.Spans.{greater, lesser}
use Rattle.units.specs.declared.bounds.TheConstants.{MOST_CENTS}
use Rattle.figures.specs.steps.Bounds.{most_volume}
use Rattle.figures.specs.steps.Spans.{highest_of, lowest_of, span_between}
use Rattle.figures.specs.declared.side.Activation.{Activation}
use Rattle.figures.specs.declared.side.Manual.{Manual}
use Rattle.figures.specs.declared.side.Totals.{Totals}
use Rattle.figures.specs.declared.span.Span.{Span}
use Rattle.figures.specs.declared.tally.DirectionTally.{DirectionTally}
use Rattle.figures.specs.declared.tally.Tally.{Tally}
use Rattle.figures.specs.declared.weighed.Weighed.{Weighed}

-- the tally of a direction that has these totals of the cycles and these formed prices
abbrev pub tally_of : Totals → Option Span → DirectionTally
tally_of c f = record {
  volume = c.volume;
  turnover = c.turnover;
  lowest_counting = lowest_of c.span;
  highest_counting = highest_of c.span;
  lowest_formed = lowest_of f;
  highest_formed = highest_of f;
}

-- the totals of the cycles again
abbrev pub cycles_of : DirectionTally → Totals
cycles_of t = record { volume = t.volume; turnover = t.turnover; span = span_between t.lowest_counting t.highest_counting }

-- there is room for one cycle more
abbrev pub Room : DirectionTally → Type 0
Room t = (t.volume ≤ most_volume) × (unsigned_abs t.turnover ≤ MOST_CENTS * t.volume)

-- a manual slot in a direction: its volume, 0 unless it counts, and its formed price
abbrev pub manual : Direction → Weighed → Manual
manual d w = record { volume = volume_of (counted d w.weight w.reading); price = formed d w.reading }

-- before the first slot
abbrev pub blank : Tally
blank = record { net = pos 0; up = tally_of no_totals None; down = tally_of no_totals None }

-- one price more, where it is formed
abbrev pub noting_in : Option Price → DirectionTally → DirectionTally
noting_in None t = t
noting_in (Some p) t = record {
  volume = t.volume;
  turnover = t.turnover;
  lowest_counting = t.lowest_counting;
  highest_counting = t.highest_counting;
  lowest_formed = lesser p t.lowest_formed;
  highest_formed = greater p t.highest_formed;
}

-- one cycle more, where it counts
abbrev pub counting_in : Option Activation → DirectionTally → DirectionTally
counting_in None t = t
counting_in (Some a) t = record {
  volume = t.volume + a.volume;
  turnover = t.turnover +ℤ (pos a.volume *ℤ a.price.cents);
  lowest_counting = lesser a.price t.lowest_counting;
  highest_counting = greater a.price t.highest_counting;
  lowest_formed = t.lowest_formed;
  highest_formed = t.highest_formed;
}

-- one cycle more in a direction: the price formed there, and what it counts
abbrev pub with_in : Direction → Weighed → DirectionTally → DirectionTally
with_in d w t = counting_in (counted d w.weight w.reading) (noting_in (formed d w.reading) t)

-- the demand and the formed prices of one slot more
abbrev pub noting : Weighed → Tally → Tally
noting w t = record {
  net = t.net +ℤ (pos w.weight *ℤ w.reading.demand.kw);
  up = noting_in w.reading.up t.up;
  down = noting_in w.reading.down t.down;
}

-- what one cycle more counts in each direction
abbrev pub counting : Weighed → Tally → Tally
counting w t = record {
  net = t.net;
  up = counting_in (counted Up w.weight w.reading) t.up;
  down = counting_in (counted Down w.weight w.reading) t.down;
}

-- the first n slots are noted, and the first c of them counted
pub record Tallied (m : Slots) (n c : ℕ) (t : Tally) : Type 0 where
  pub nets : t.net ≡ net_to m n
  pub ups : t.up ≡ tally_of (totals_to Up m c) (formed_to Up m n)
  pub downs : t.down ≡ tally_of (totals_to Down m c) (formed_to Down m n)
