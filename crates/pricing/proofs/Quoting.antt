-- Quotes of the figures that a source gives are the source's.
use Rattle.std.proofs.Common.{ℕ, None, Ok, Err, Option, subst, arith}
use Rattle.figures.specs.Gathering.{AreFiguresOf}
use Rattle.figures.specs.declared.fault.UnreportedSlot.{UnreportedSlot}
use Rattle.figures.specs.declared.quarter_figures.Figures.{Figures}
use Rattle.source.specs.Meanings.{Meaning}
use Rattle.units.specs.declared.price.Price.{Price}
use Rattle.pricing.specs.Bounds.{IsBoundedQuote, IsBoundedQuoteOfSource}
use Rattle.pricing.specs.FiveQuotes.{AreBoundedQuotesOfSource, AreQuotesOfSource, beyond_formed, code_under, ruling_under}
use Rattle.pricing.specs.Incentives.{code_above, incentive}
use Rattle.pricing.specs.Rulings.{PriceRule, automatic_or_manual, by_net, extreme_counting, finnish_price, mean_or_manual, mean_price}
use Rattle.pricing.specs.laws.Lawful.{IsLawfulRule, automatic_lawful, combined_lawful, extreme_lawful, finnish_lawful, mean_lawful, rule_from_formed, rulebook_keeps}
use Rattle.pricing.specs.laws.Outer.{incentive_keeps}
use Rattle.pricing.proofs.Bounding.{quote_in_bounds}
use Rattle.pricing.specs.steps.FiveQuotes.{AreQuotesOfFigures}
use Rattle.pricing.specs.Outcomes.{Outcome}
use Rattle.pricing.specs.Quotes.{Answer, IsQuote, IsQuoteOfFigures, IsQuoteOfSource}
use Rattle.pricing.specs.declared.codes.FiveQuotes.{FiveQuotes}
use Rattle.pricing.specs.declared.codes.Terms.{Terms}
use Rattle.pricing.specs.declared.codes.Terms.TheVariants.{Alone, WithIncentive}
use Rattle.pricing.specs.declared.ruling.Net.{Net}
use Rattle.pricing.specs.declared.ruling.Net.TheVariants.{Local, Zone}
use Rattle.pricing.specs.declared.fault.QuoteFault.TheVariants.{NoAvoidedValue, Unreported}

never : (code : ℕ) (o : Outcome) (a : Option Price) (e : UnreportedSlot) → IsQuote code o a (Err (Unreported e)) → ⊥
never code o a e h = grind arith

gives_figures : (m : Meaning) (code : ℕ) (ruling : Figures → Outcome) (f : Figures) (r : Answer) → AreFiguresOf m f → IsQuote code (ruling f) f.avoided r → IsQuoteOfFigures m code ruling r
gives_figures m code ruling f r g h = record { figures = f; gives = g; quotes = grind (arith, g.avoided_is, h) }

pub from_figures : (m : Meaning) (code : ℕ) (ruling : Figures → Outcome) (f : Figures) (r : Answer) → AreFiguresOf m f → IsQuote code (ruling f) f.avoided r → IsQuoteOfSource m code ruling r
from_figures m code ruling f (Err (Unreported e)) g h = absurd (never code (ruling f) f.avoided e h)
from_figures m code ruling f (Err NoAvoidedValue) g h = gives_figures m code ruling f (Err NoAvoidedValue) g h
from_figures m code ruling f (Ok q) g h = gives_figures m code ruling f (Ok q) g h

pub from_bounds : (v : Option Price) (m : Meaning) (f : Figures) (r : Answer) → AreFiguresOf m f → IsBoundedQuote v f r → IsBoundedQuoteOfSource v m r
from_bounds v m f (Ok q) g h = record { figures = f; gives = g; bounded = h }
from_bounds v m f (Err e) g h = tt

-- as far as the avoided value of the figures is as far as the source's
pub from_avoided : (m : Meaning) (f : Figures) (r : Answer) → AreFiguresOf m f → IsBoundedQuote f.avoided f r → IsBoundedQuoteOfSource m.avoided m r
from_avoided m f r g h = from_bounds m.avoided m f r g (subst (λ v. IsBoundedQuote v f r) g.avoided_is h)

pub from_five : (t : Terms) (m : Meaning) (f : Figures) (q : FiveQuotes) → AreFiguresOf m f → AreQuotesOfFigures t f q → AreQuotesOfSource t m q
from_five t m f q g h = record {
  weighted_average = from_figures m _ _ f q.weighted_average g h.weighted_average;
  combined_automatic = from_figures m _ _ f q.combined_automatic g h.combined_automatic;
  combined_all = from_figures m _ _ f q.combined_all g h.combined_all;
  max_min = from_figures m _ _ f q.max_min g h.max_min;
  finnish = from_figures m _ _ f q.finnish g h.finnish;
}

-- a quote under a rulebook keeps the bounds that the terms allow
module _ (m : Meaning) (f : Figures) (g : AreFiguresOf m f) (net : Net) (price : PriceRule) (lawful : IsLawfulRule price) where
  bounded_under : (t : Terms) (code : ℕ) (r : Answer) → IsQuote (code_under t code) (ruling_under t (by_net net price) f) f.avoided r → IsBoundedQuoteOfSource (beyond_formed t m.avoided) m r
  bounded_under Alone code r h = from_bounds None m f r g (quote_in_bounds None code f (by_net net price f) r (rule_from_formed net price lawful f) (rulebook_keeps net price lawful f).mean h)
  bounded_under WithIncentive code r h =
      let laws = incentive_keeps net f (by_net net price f) (rulebook_keeps net price lawful f) in
      from_avoided m f r g (quote_in_bounds f.avoided (code_above code) f (incentive (by_net net price) f) r laws.formed laws.mean h)

pub bounds_from_five : (t : Terms) (m : Meaning) (f : Figures) (q : FiveQuotes) → AreFiguresOf m f → AreQuotesOfFigures t f q → AreBoundedQuotesOfSource t m q
bounds_from_five t m f q g h = record {
  weighted_average = bounded_under m f g Local mean_price mean_lawful t 1 q.weighted_average h.weighted_average;
  combined_automatic = bounded_under m f g Local automatic_or_manual automatic_lawful t 2 q.combined_automatic h.combined_automatic;
  combined_all = bounded_under m f g Local mean_or_manual combined_lawful t 3 q.combined_all h.combined_all;
  max_min = bounded_under m f g Local extreme_counting extreme_lawful t 4 q.max_min h.max_min;
  finnish = bounded_under m f g Zone finnish_price finnish_lawful t 5 q.finnish h.finnish;
}
