-- A source has at most one set of figures, and so at most one quote under a rulebook.
use Rattle.std.proofs.Common.{◌≡◌, ℕ, ◌<◌, Some, None, Option, Ok, Err, Result, arith}
use mathlib.Core.HLevel.{is_prop→PathP}
use mathlib.Core.Logic.{∥∥₁_prop}
use Rattle.figures.specs.Gathering.{FirstUnreported, AreFiguresOf}
use Rattle.figures.specs.Sides.{SourceGives, ReportedTo, Slots}
use Rattle.figures.specs.declared.quarter_figures.Figures.{Figures}
use Rattle.source.specs.Meanings.{Meaning}
use Rattle.units.proofs.Made.{price_same}
use Rattle.units.specs.declared.price.Price.{Price}
use Rattle.pricing.specs.FiveQuotes.{AreQuotesOfSource, AreQuotesUnlessFault}
use Rattle.pricing.specs.Outcomes.{Outcome, avoided, directed}
use Rattle.pricing.specs.Quotes.{Answer, IsQuote, IsQuoteOfFigures, IsQuoteOfSource}
use Rattle.pricing.specs.declared.codes.FiveQuotes.{FiveQuotes}
use Rattle.pricing.specs.declared.codes.Terms.{Terms}

-- the evidence that figures carry is a proposition
figures_same : (f g : Figures) → f.local_net ≡ g.local_net → f.zone_net ≡ g.zone_net → f.avoided ≡ g.avoided → f.up ≡ g.up → f.down ≡ g.down → f ≡ g
figures_same f g n z a u d = λ i. record {
  local_net = n i;
  zone_net = z i;
  avoided = a i;
  up = u i;
  down = d i;
  given = is_prop→PathP (λ j. ∥ ((m : Meaning) × SourceGives m (n j) (z j) (a j) (u j) (d j)) ∥₁) (λ j. ∥∥₁_prop) f.given g.given i;
}

only_figures : (m : Meaning) (f g : Figures) → AreFiguresOf m f → AreFiguresOf m g → f ≡ g
only_figures m f g p q = grind (arith, figures_same f g)

-- a slot that is not reported is not among the reported
clash : (m : Slots) (n k : ℕ) → ReportedTo m n → k < n → m k ≡ None → ⊥
clash m n k all l e = grind (arith, all k)

only_first : (m : Slots) (j k : ℕ) → FirstUnreported m j → FirstUnreported m k → j ≡ k
only_first m j k p q = grind (arith, p.before k, q.before j)

-- one outcome has one answer
pub only_answer : (code : ℕ) (o : Outcome) (v : Option Price) (a b : Answer) → IsQuote code o v a → IsQuote code o v b → a ≡ b
only_answer code (directed d q) v a b s t = grind (arith, price_same s.price t.price)
only_answer code avoided (Some p) a b s t = cc
only_answer code avoided None a b s t = cc

both_reported : (m : Meaning) (code : ℕ) (ruling : Figures → Outcome) (a b : Answer) → IsQuoteOfFigures m code ruling a → IsQuoteOfFigures m code ruling b → a ≡ b
both_reported m code ruling a b s t = grind (arith, only_figures m s.figures t.figures s.gives t.gives, only_answer code (ruling t.figures) m.avoided a b)

pub only_quote : (m : Meaning) (code : ℕ) (ruling : Figures → Outcome) (a b : Answer) → IsQuoteOfSource m code ruling a → IsQuoteOfSource m code ruling b → a ≡ b
only_quote m code ruling a b s t = grind (arith, only_first m.slots, clash m.slots 228, both_reported m code ruling a b)

pub only_five : (t : Terms) (m : Meaning) (a b : FiveQuotes) → AreQuotesOfSource t m a → AreQuotesOfSource t m b → a ≡ b
only_five t m a b p q =
    grind (
      arith,
      only_quote m _ _ a.weighted_average b.weighted_average p.weighted_average q.weighted_average,
      only_quote m _ _ a.combined_automatic b.combined_automatic p.combined_automatic q.combined_automatic,
      only_quote m _ _ a.combined_all b.combined_all p.combined_all q.combined_all,
      only_quote m _ _ a.max_min b.max_min p.max_min q.max_min,
      only_quote m _ _ a.finnish b.finnish p.finnish q.finnish,
    )

pub only_unless_fault : {F : Type 0} (r : Result (Unit {0}) F) (t : Terms) (m : Meaning) (a b : Result FiveQuotes F) → AreQuotesUnlessFault r t m a → AreQuotesUnlessFault r t m b → a ≡ b
only_unless_fault (Err f) t m a b p q = cc
only_unless_fault (Ok u) t m (Ok a) (Ok b) p q = grind (arith, only_five t m a b p q)
only_unless_fault (Ok u) t m (Ok a) (Err f) p q = absurd q
only_unless_fault (Ok u) t m (Err e) b p q = absurd p
