-- What lies within the formed prices lies within them and the avoided value too; and the incentive component keeps the laws
-- wherever the rulebook below does.
use Rattle.std.specs.Prelude.{◌≡◌, ℕ, Bool, true, false, if◌then◌else◌, ℤ, ◌≤ℤ◌, Some, None, Option, ◌≢◌, refl}
use Rattle.std.proofs.Common.{sym, subst, arith}
use borrow.Author.Differences.{ints}
use Rattle.figures.proofs.Gathered.{scaled}
use Rattle.figures.specs.Components.{extreme_of_span, no_more_extreme, side_in, turnover, volume}
use Rattle.figures.specs.Spans.{greater, lesser}
use Rattle.figures.specs.declared.quarter_figures.Figures.{Figures}
use Rattle.figures.specs.declared.span.Span.{Span}
use Rattle.source.specs.declared.direction.Direction.{Direction}
use Rattle.source.specs.declared.direction.Direction.TheVariants.{Up, Down}
use Rattle.units.specs.Exact.{Exact, exact_of_price}
use Rattle.units.specs.declared.price.Price.{Price}
use Rattle.pricing.specs.FourLaws.{IsFromFormed, IsFromFormedOrAvoided, IsInNetsDirection, KeepsLaws, LiesWithin, outer_span, reaching}
use Rattle.pricing.specs.Incentives.{with_incentive}
use Rattle.pricing.specs.Outcomes.{Outcome, avoided, directed, net_of, outcome_at}
use Rattle.pricing.specs.declared.ruling.Net.{Net}
use Rattle.pricing.specs.laws.Fits.{price_within}
use Rattle.pricing.specs.laws.Reach.{Reach, reach_trans, reach_true}

-- the greater and the lesser of two prices are no less and no more than both
greater_bounds : (p q : Price) → (p.cents ≤ℤ (greater p q).cents) × (q.cents ≤ℤ (greater p q).cents)
greater_bounds p q = grind (arith, ints)

lesser_bounds : (p q : Price) → ((lesser p q).cents ≤ℤ p.cents) × ((lesser p q).cents ≤ℤ q.cents)
lesser_bounds p q = grind (arith, ints)

-- ---- from the formed prices to the wider law
lies_wider : (s t : Span) (q : Exact) → t.lowest.cents ≤ℤ s.lowest.cents → s.highest.cents ≤ℤ t.highest.cents → LiesWithin (Some s) q → LiesWithin (Some t) q
lies_wider s t q l g h = record {
  formed = refl;
  divides = h.divides;
  bounded_denominator = h.bounded_denominator;
  low = omega (arith, ints, h.low, scaled t.lowest.cents s.lowest.cents q.d l);
  high = omega (arith, ints, h.high, scaled s.highest.cents t.highest.cents q.d g);
}

within_reaching : (d : Direction) (v : Price) (s : Span) (q : Exact) → LiesWithin (Some s) q → LiesWithin (Some (reaching d v s)) q
within_reaching Up v s q h = lies_wider s (reaching Up v s) q (omega (arith, ints)) (greater_bounds v s.highest).1 h
within_reaching Down v s q h = lies_wider s (reaching Down v s) q (lesser_bounds v s.lowest).1 (omega (arith, ints)) h

widens : (d : Direction) (v : Option Price) (f : Option Span) (q : Exact) → LiesWithin f q → LiesWithin (outer_span d v f) q
widens d None f q h = h
widens d (Some v) None q h = absurd (let z : ◌≡◌ {A = ℕ} 0 1 = cc in omega arith)
widens d (Some v) (Some s) q h = within_reaching d v s q h

pub formed_or_avoided : (f : Figures) (o : Outcome) → IsFromFormed f o → IsFromFormedOrAvoided f o
formed_or_avoided f avoided h = tt
formed_or_avoided f (directed d q) h = widens d f.avoided (side_in d f).formed q h

-- ---- the layer, where the avoided value is more extreme than the exact price below
same_direction : (z : ℤ) (d : Direction) (q r : Exact) → IsInNetsDirection z (directed d q) → IsInNetsDirection z (directed d r)
same_direction z Up q r h = h
same_direction z Down q r h = h

reached : (d : Direction) (v : Price) (s : Span) → Reach d (exact_of_price v) (extreme_of_span d (reaching d v s))
reached Up v s = omega (arith, ints, (greater_bounds v s.highest).0)
reached Down v s = omega (arith, ints, (lesser_bounds v s.lowest).0)

value_within : (d : Direction) (v : Price) (f : Option Span) (q : Exact) → LiesWithin (outer_span d (Some v) f) q → Reach d q (exact_of_price v) → LiesWithin (outer_span d (Some v) f) (exact_of_price v)
value_within d v None q h g = absurd (let z : ◌≡◌ {A = ℕ} 0 1 = cc in omega arith)
value_within d v (Some s) q h g = price_within d (reaching d v s) q v h g (reached d v s)

is_directed : (d : Direction) (q : Exact) → directed d q ≢ avoided
is_directed d q x = let z : ◌≡◌ {A = ℕ} 0 1 = cc in omega arith

value_keeps : (net : Net) (f : Figures) (d : Direction) (q : Exact) (v : Price) → f.avoided ≡ Some v → Reach d q (exact_of_price v) → KeepsLaws net f (directed d q) → KeepsLaws net f (directed d (exact_of_price v))
value_keeps net f d q v e g h =
    let outer = λ (w : Option Price). LiesWithin (outer_span d w (side_in d f).formed) in
    record {
      direction = same_direction (net_of net f) d q (exact_of_price v) h.direction;
      counting = λ m c given t s. is_directed d (exact_of_price v);
      formed = subst (λ w. outer w (exact_of_price v)) (sym e) (value_within d v (side_in d f).formed q (subst (λ w. outer w q) e h.formed) g);
      mean = reach_trans d (record { n = turnover (side_in d f); d = volume (side_in d f) }) q (exact_of_price v) h.formed.divides h.mean g;
    }

chosen_keeps : (net : Net) (f : Figures) (d : Direction) (q : Exact) (v : Price) (t : Bool) → f.avoided ≡ Some v → (t ≡ true → Reach d q (exact_of_price v)) → KeepsLaws net f (directed d q)
    → KeepsLaws net f (outcome_at d (if t then Some (exact_of_price v) else Some q))
chosen_keeps net f d q v true e g h = value_keeps net f d q v e (g refl) h
chosen_keeps net f d q v false e g h = h

layer_keeps : (net : Net) (f : Figures) (v : Option Price) (o : Outcome) → f.avoided ≡ v → KeepsLaws net f o → KeepsLaws net f (with_incentive v o)
layer_keeps net f v avoided e h = h
layer_keeps net f None (directed d q) e h = h
layer_keeps net f (Some v) (directed d q) e h = chosen_keeps net f d q v (no_more_extreme d q (exact_of_price v)) e (reach_true d q (exact_of_price v)) h

-- the four laws of the layer, from those of the rulebook below
pub incentive_keeps : (net : Net) (f : Figures) (o : Outcome) → KeepsLaws net f o → KeepsLaws net f (with_incentive f.avoided o)
incentive_keeps net f o h = layer_keeps net f f.avoided o refl h
