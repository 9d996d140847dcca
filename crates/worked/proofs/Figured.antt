-- The figures of a quarter whose slots are all reported, and the quote of what a rulebook gives for them.
use Rattle.std.proofs.Common.{arith, ◌≡◌, ℕ, Some, None, Ok, sym, refl, subst}
use Rattle.figures.specs.Sides.{SourceGives, ReportedTo, net_to, side_of}
use Rattle.figures.specs.declared.quarter_figures.Figures.{Figures}
use Rattle.pricing.specs.Outcomes.{Outcome, avoided, directed}
use Rattle.pricing.specs.Quotes.{IsQuote, quoted_direction}
use Rattle.pricing.specs.declared.quote.Quote.{Quote}
use Rattle.pricing.specs.declared.quote.QuoteDirection.TheVariants.{Avoided}
use Rattle.source.specs.Meanings.{Meaning}
use Rattle.source.specs.declared.direction.Direction.{Direction}
use Rattle.source.specs.declared.direction.Direction.TheVariants.{Up, Down}
use Rattle.source.specs.declared.slot.TheConstants.{SLOTS}
use Rattle.units.specs.Exact.{Exact}
use Rattle.units.specs.Rounding.{rounded}
use Rattle.units.specs.declared.price.Price.{Price}
use Rattle.worked.specs.Cases.{LacksAvoidedValue, IsDecidedUp, IsQuotedAs}

abbrev pub Reports : Meaning → Type 0
Reports m = ReportedTo m.slots SLOTS

pub given : (m : Meaning) → Reports m → SourceGives m (net_to m.slots SLOTS) m.zone m.avoided (side_of Up m.slots) (side_of Down m.slots)
given m h = record { reported_all = h; local_net_is = refl; zone_net_is = refl; avoided_is = refl; up_is = refl; down_is = refl }

abbrev pub figured : (m : Meaning) → Reports m → Figures
figured m h = record {
  local_net = net_to m.slots SLOTS;
  zone_net = m.zone;
  avoided = m.avoided;
  up = side_of Up m.slots;
  down = side_of Down m.slots;
  given = ∣ (m, given m h) ∣₁;
}

pub decided_up : (m : Meaning) (h : Reports m) (ruling : Figures → Outcome) (x : Exact) → ruling (figured m h) ≡ directed Up x → IsDecidedUp m ruling x
decided_up m h ruling x e = (figured m h, given m h, e)

pub by_direction : (m : Meaning) (h : Reports m) (code : ℕ) (ruling : Figures → Outcome) (d : Direction) (x : Exact) (p : Price) → ruling (figured m h) ≡ directed d x → p.cents ≡ rounded x.n x.d → IsQuotedAs m code ruling (quoted_direction d) p.cents
by_direction m h code ruling d x p e r =
    let q : Quote = record { code = code; direction = quoted_direction d; price = p } in (
      q,
      record { figures = figured m h; gives = given m h; quotes = subst (λ o. IsQuote code o m.avoided (Ok q)) (sym e) (record { price = p; is = refl; at = r }) },
      refl,
      refl,
    )

pub by_value : (m : Meaning) (h : Reports m) (code : ℕ) (ruling : Figures → Outcome) (p : Price) → ruling (figured m h) ≡ avoided → m.avoided ≡ Some p → IsQuotedAs m code ruling Avoided p.cents
by_value m h code ruling p e v =
    let q : Quote = record { code = code; direction = Avoided; price = p } in (
      q,
      record { figures = figured m h; gives = given m h; quotes = grind (arith, e) },
      refl,
      refl,
    )

pub no_value : (m : Meaning) (h : Reports m) (code : ℕ) (ruling : Figures → Outcome) → ruling (figured m h) ≡ avoided → m.avoided ≡ None → LacksAvoidedValue m code ruling
no_value m h code ruling e v =
    record { figures = figured m h; gives = given m h; quotes = grind (arith, e) }
