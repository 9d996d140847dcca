-- The quote of a lawful rulebook is within half a cent of its exact price, and within its bounds.
use Rattle.std.proofs.Common.{◌≡◌, ℕ, ℤ, Some, None, Ok, Option, sym, ap, ◌∙◌, subst, arith}
use borrow.Author.Differences.{ints}
use Rattle.figures.specs.Gathering.{AreFiguresOf}
use Rattle.figures.specs.Sides.{side_of}
use Rattle.figures.specs.declared.quarter_figures.Figures.{Figures}
use Rattle.figures.specs.declared.side.Side.{Side}
use Rattle.pricing.proofs.Bounding.{quote_in_bounds}
use Rattle.pricing.specs.Bounds.{IsBounded, IsBoundedTo}
use Rattle.pricing.specs.FourLaws.{KeepsLaws}
use Rattle.pricing.specs.Outcomes.{Outcome, avoided, directed}
use Rattle.pricing.specs.Quotes.{IsQuote, IsQuoteOfSource, quoted_direction}
use Rattle.pricing.specs.declared.quote.Quote.{Quote}
use Rattle.pricing.specs.declared.quote.QuoteDirection.{QuoteDirection}
use Rattle.pricing.specs.declared.quote.QuoteDirection.TheVariants.{Up, Down, Avoided}
use Rattle.pricing.specs.declared.ruling.Net.{Net}
use Rattle.source.specs.Meanings.{Meaning}
use Rattle.source.specs.declared.direction.Direction.{Direction}
use Rattle.source.specs.declared.direction.Direction.TheVariants as dir
use Rattle.units.proofs.Rounds.{nearest_rounded}
use Rattle.units.specs.Exact.{Exact}
use Rattle.units.specs.Rounding.{rounded}
use Rattle.units.specs.declared.price.Price.{Price}
use Rattle.settlement.specs.Answers.{IsLawfulRulebook, Rules}
use Rattle.settlement.specs.Promises.{RightPrice, StandsFor, WithinBounds}
use Rattle.settlement.specs.Runs.{Filing}
use Rattle.settlement.specs.Standings.{quote_in}
use Rattle.settlement.specs.declared.quarter.Quarter.{Quarter}
use Rattle.settlement.specs.declared.quarter.Quarter.TheVariants.{Priced}
use Rattle.settlement.proofs.Checks.{never}

code_of : (code : ℕ) (o : Outcome) (a : Option Price) (q : Quote) → IsQuote code o a (Ok q) → q.code ≡ code
code_of code (directed d x) a q h = let i = h.is in cc
code_of code avoided (Some v) q h = cc
code_of code avoided None q h = never q _ h

-- the price is the exact one, rounded
rounds : (code : ℕ) (d : Direction) (x : Exact) (a : Option Price) (q : Quote) → IsQuote code (directed d x) a (Ok q) → (q.direction ≡ quoted_direction d) × (q.price.cents ≡ rounded x.n x.d)
rounds code d x a q h =
    let i = h.is in
    let e : q.price ≡ h.price = cc in
    (cc, ap (λ (p : Price). p.cents) e ∙ h.at)

stands_for : (code : ℕ) (net : Net) (f : Figures) (o : Outcome) (a : Option Price) (q : Quote) → KeepsLaws net f o → IsQuote code o a (Ok q) → StandsFor o a q
stands_for code net f (directed d x) a q laws h =
    let s = rounds code d x a q h in
    let some = laws.formed.divides in
    (s.0, record { divides = some; close = rw s.1 (nearest_rounded x.n x.d some).close })
stands_for code net f avoided (Some v) q laws h =
    let e : q.price ≡ v = cc in
    (cc, record { divides = omega arith; close = rw e (omega (arith, ints)) })
stands_for code net f avoided None q laws h = never q _ h

bounded_same : (d : Direction) (s t : Side) (v w : Option Price) (p : ℤ) → t ≡ s → w ≡ v → IsBounded d t w p → IsBounded d s v p
bounded_same d s t v w p e f b = subst (λ x. IsBounded d x v p) e (subst (λ x. IsBounded d t x p) f b)

-- the bounds for the figures are those by what the source means
by_meaning : (m : Meaning) (f : Figures) (d : QuoteDirection) (p : Price) → AreFiguresOf m f → IsBoundedTo f.avoided d f p → WithinBounds d m p.cents
by_meaning m f Up p g b = bounded_same dir.Up (side_of dir.Up m.slots) f.up m.avoided f.avoided p.cents g.up_is g.avoided_is b
by_meaning m f Down p g b = bounded_same dir.Down (side_of dir.Down m.slots) f.down m.avoided f.avoided p.cents g.down_is g.avoided_is b
by_meaning m f Avoided p g b = tt

abbrev pub filed : Meaning → Rules → Quarter → Filing
filed m r x = record { source = m; rules = r; quarter = x }

pub right : (m : Meaning) (r : Rules) (x : Quarter) (q : Quote) → IsLawfulRulebook r → x ≡ Priced q → IsQuoteOfSource m r.code r.ruling (Ok q) → RightPrice (filed m r x) x
right m r x q laws e h = record {
  quote = q;
  filed = ap quote_in e;
  code = code_of r.code (r.ruling h.figures) m.avoided q h.quotes;
  figures = h.figures;
  gives = h.gives;
  stands = stands_for r.code r.net h.figures (r.ruling h.figures) m.avoided q (laws h.figures) h.quotes;
}

pub within_bounds : (m : Meaning) (r : Rules) (q : Quote) → IsLawfulRulebook r → IsQuoteOfSource m r.code r.ruling (Ok q) → WithinBounds q.direction m q.price.cents
within_bounds m r q laws h =
    let f = h.figures in
    by_meaning m f q.direction q.price h.gives
    (quote_in_bounds f.avoided r.code f (r.ruling f) (Ok q) (laws f).formed (laws f).mean (subst (λ v. IsQuote r.code (r.ruling f) v (Ok q)) (sym h.gives.avoided_is) h.quotes))
