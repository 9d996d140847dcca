-- One slot more.
use Rattle.std.proofs.Common.{◌≡◌, ℕ, zero, suc, ◌+◌, ◌*◌, ◌≤◌, ℤ, ◌≤ℤ◌, nat_abs, IsSome, Some, None, Option, refl, sym, ap, ◌∙◌, subst, add-one, arith}
use borrow.Author.Differences.{ints}
use Rattle.source.specs.Meanings.{Meaning}
use Rattle.source.specs.Products.{weight}
use Rattle.source.specs.declared.direction.Direction.{Direction}
use Rattle.source.specs.declared.direction.Direction.TheVariants.{Up, Down}
use Rattle.units.proofs.Made.{price_same}
use Rattle.units.specs.Quantities.{lowest_price, highest_price}
use Rattle.units.specs.declared.price.Price.{Price}
use Rattle.units.specs.declared.zone_net.ZoneNet.{ZoneNet}
use Rattle.units.specs.declared.bounds.TheConstants.{MOST_CENTS}
use Rattle.figures.specs.steps.Bounds.{most_net, most_volume}
use Rattle.figures.specs.Counting.{counted_of, formed_of}
use Rattle.figures.specs.Sides.{SourceGives, ReportedTo, Slots, net_to, formed_to, totals_to, totals_with, manual_at}
use Rattle.figures.specs.steps.Gathering.{side_from}
use Rattle.figures.specs.Spans.{greater, lesser, lowest_cents, highest_cents, span_with, widened}
use Rattle.figures.specs.steps.Spans.{highest_of, lowest_of, span_between}
use Rattle.figures.specs.steps.Tallies.{Room, Tallied, blank, counting, counting_in, manual, noting, noting_in, tally_of}
use Rattle.figures.specs.declared.side.Activation.{Activation}
use Rattle.figures.specs.declared.gathering.ManualSlots.{ManualSlots}
use Rattle.figures.specs.declared.side.Side.{Side}
use Rattle.figures.specs.declared.side.Totals.{Totals}
use Rattle.figures.specs.declared.span.Span.{Span}
use Rattle.figures.specs.declared.tally.DirectionTally.{DirectionTally}
use Rattle.figures.specs.declared.tally.Tally.{Tally}
use Rattle.figures.specs.declared.weighed.Weighed.{Weighed}
use Rattle.figures.proofs.Gathered.{cycles_sound, weight_bounds}
use Rattle.figures.proofs.Products.{product_within}
use Rattle.figures.proofs.Sound.{CyclesAre}

-- w is the slot k of m
abbrev pub Is : Slots → ℕ → Weighed → Type 0
Is m k w = (m k ≡ Some w.reading) × (w.weight ≡ weight k)

-- ---- one price more, and one activation more
-- no price lies beyond the bounds of a price
under_highest : (p : Price) → lesser p highest_price ≡ p
under_highest p = grind (arith, ints, p.bounded, price_same)

above_lowest : (p : Price) → greater p lowest_price ≡ p
above_lowest p = grind (arith, ints, p.bounded, price_same)

lowest_reached : (p : Price) (o : Option Span) → lesser p (lowest_of o) ≡ lowest_of (Some (widened p o))
lowest_reached p None = under_highest p
lowest_reached p (Some s) = refl

highest_reached : (p : Price) (o : Option Span) → greater p (highest_of o) ≡ highest_of (Some (widened p o))
highest_reached p None = above_lowest p
highest_reached p (Some s) = refl

-- where there is a price, the least is not above the greatest
abbrev Ordered : Option Span → Type 0
Ordered None = Unit {0}
Ordered (Some s) = s.lowest.cents ≤ℤ s.highest.cents

widened_ordered : (p : Price) (o : Option Span) → Ordered (Some (widened p o))
widened_ordered p None = omega (arith, ints)
widened_ordered p (Some s) = grind (arith, ints)

noted_ordered : (p : Option Price) (o : Option Span) → Ordered o → Ordered (span_with p o)
noted_ordered None o h = h
noted_ordered (Some p) o h = widened_ordered p o

joined_ordered : (a : Option Activation) (t : Totals) → Ordered t.span → Ordered (totals_with a t).span
joined_ordered None t h = h
joined_ordered (Some a) t h = widened_ordered a.price t.span

formed_ordered : (d : Direction) (m : Slots) (n : ℕ) → Ordered (formed_to d m n)
unfolding formed_to
formed_ordered d m zero = tt
formed_ordered d m (suc k) = noted_ordered (formed_of d (m k)) (formed_to d m k) (formed_ordered d m k)

counting_ordered : (d : Direction) (m : Slots) (n : ℕ) → Ordered (totals_to d m n).span
unfolding totals_to
counting_ordered d m zero = tt
counting_ordered d m (suc k) = joined_ordered (counted_of d (weight k) (m k)) (totals_to d m k) (counting_ordered d m k)

span_again : (s : Option Span) → Ordered s → span_between (lowest_of s) (highest_of s) ≡ s
span_again None h = grind arith
span_again (Some s) h = grind (arith, ints)

formed_again : (d : Direction) (m : Slots) (n : ℕ) → span_between (lowest_of (formed_to d m n)) (highest_of (formed_to d m n)) ≡ formed_to d m n
formed_again d m n = span_again (formed_to d m n) (formed_ordered d m n)

counting_again : (d : Direction) (m : Slots) (n : ℕ) → span_between (lowest_of (totals_to d m n).span) (highest_of (totals_to d m n).span) ≡ (totals_to d m n).span
counting_again d m n = span_again (totals_to d m n).span (counting_ordered d m n)

tally_noted : (p : Option Price) (c : Totals) (f : Option Span) → noting_in p (tally_of c f) ≡ tally_of c (span_with p f)
tally_noted None c f = refl
tally_noted (Some p) c f = grind (arith, lowest_reached p f, highest_reached p f)

tally_joined : (a : Option Activation) (c : Totals) (f : Option Span) → counting_in a (tally_of c f) ≡ tally_of (totals_with a c) f
tally_joined None c f = refl
tally_joined (Some a) c f = grind (arith, lowest_reached a.price c.span, highest_reached a.price c.span)

pub blank_tallied : (m : Slots) → Tallied m 0 0 blank
unfolding net_to formed_to totals_to
blank_tallied m = grind arith

module _ (m : Slots) (k : ℕ) (w : Weighed) (is : Is m k w) where
  noted_tallied : (c : ℕ) (t : Tally) → Tallied m k c t → Tallied m (k + 1) c (noting w t)
  unfolding net_to formed_to
  noted_tallied c t h = rw add-one (record {
    nets = grind arith;
    ups = ap (noting_in w.reading.up) h.ups ∙ tally_noted w.reading.up (totals_to Up m c) (formed_to Up m k) ∙ ap (λ s. tally_of (totals_to Up m c) (span_with (formed_of Up s) (formed_to Up m k))) (sym is.0);
    downs = ap (noting_in w.reading.down) h.downs ∙ tally_noted w.reading.down (totals_to Down m c) (formed_to Down m k) ∙ ap (λ s. tally_of (totals_to Down m c) (span_with (formed_of Down s) (formed_to Down m k))) (sym is.0);
  })

  counted_tallied : (n : ℕ) (t : Tally) → Tallied m n k t → Tallied m n (k + 1) (counting w t)
  unfolding totals_to
  counted_tallied n t h = rw add-one (grind (arith, tally_joined))

  pub cycle_tallied : (t : Tally) → Tallied m k k t → Tallied m (k + 1) (k + 1) (counting w (noting w t))
  cycle_tallied t h = counted_tallied (k + 1) (noting w t) (noted_tallied k t h)

  pub manual_is : (d : Direction) → manual d w ≡ manual_at d m k
  manual_is d = grind arith

  pub is_reported : IsSome (m k)
  is_reported = grind arith

-- ---- room
pub net_within : (m : Slots) (n : ℕ) → n ≤ 228 → nat_abs (net_to m n) ≤ most_volume * n
unfolding net_to
net_within m zero h = omega arith
net_within m (suc k) h =
    let w = weight_bounds k h in
    grind (arith, ints, net_within m k (omega arith), product_within)

low_within : (s : Option Span) → (nat_abs (lowest_cents s) ≤ MOST_CENTS) × (nat_abs (highest_cents s) ≤ MOST_CENTS)
low_within s = grind (arith, ints)

pub turnover_within : (most : ℕ) (f : Option Span) (v : ℕ) (x : ℤ) (o : Option Span) → CyclesAre most f v x o → nat_abs x ≤ MOST_CENTS * v
turnover_within most f v x o s = grind (arith, ints, low_within o, product_within v MOST_CENTS (lowest_cents o), product_within v MOST_CENTS (highest_cents o))

pub cycles_room : (d : Direction) (m : Slots) (n : ℕ) (t : DirectionTally) (f : Option Span) → n ≤ 225 → t ≡ tally_of (totals_to d m n) f → Room t
cycles_room d m n t f h e =
    let s = cycles_sound d m n h in
    grind (arith, turnover_within _ _ (totals_to d m n).volume (totals_to d m n).turnover (totals_to d m n).span s)

pub net_room : (m : Slots) (n c : ℕ) (t : Tally) → n ≤ 228 → Tallied m n c t → nat_abs t.net ≤ most_net
net_room m n c t h s = grind (arith, net_within m n)

-- the whole quarter, of its cycles and its three manual slots
module _ (M : Meaning) (t a b e : Tally) (s : ManualSlots) (cycles : Tallied M.slots 225 225 t × ReportedTo M.slots 225)
    (is : Is M.slots 225 s.scheduled) (iu : Is M.slots 226 s.direct_up) (iw : Is M.slots 227 s.direct_down)
    (ea : a ≡ noting s.scheduled t) (eb : b ≡ noting s.direct_up a) (ee : e ≡ noting s.direct_down b) where
  first_tallied : Tallied M.slots 226 225 a
  first_tallied = subst (Tallied M.slots 226 225) (sym ea) (noted_tallied M.slots 225 s.scheduled is 225 t cycles.0)

  second_tallied : Tallied M.slots 227 225 b
  second_tallied = subst (Tallied M.slots 227 225) (sym eb) (noted_tallied M.slots 226 s.direct_up iu 225 a first_tallied)

  all_tallied : Tallied M.slots 228 225 e
  all_tallied = subst (Tallied M.slots 228 225) (sym ee) (noted_tallied M.slots 227 s.direct_down iw 225 b second_tallied)

  all_reported : ReportedTo M.slots 228
  all_reported k h = grind arith

  pub first_room : nat_abs a.net ≤ most_net
  first_room = net_room M.slots 226 225 a (omega arith) first_tallied

  pub second_room : nat_abs b.net ≤ most_net
  second_room = net_room M.slots 227 225 b (omega arith) second_tallied

  pub quarter_given : (net : ℤ) (zone : ZoneNet) (o : Option Price) (above below : Side) → net ≡ e.net → zone ≡ M.zone → o ≡ M.avoided
      → above ≡ side_from Up e.up s → below ≡ side_from Down e.down s → SourceGives M net zone o above below
  quarter_given net zone o above below n z v x y = grind (arith, all_tallied, all_reported, manual_is, formed_again, counting_again)
