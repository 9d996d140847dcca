-- What the definitions give for the quarters, payments and numbers worked by hand.
use Rattle.std.specs.Prelude.{◌≡◌, ℕ, List, [], ◌∷◌, ℤ, pos, negsuc, Some, None, Ok, Err}
use Rattle.figures.specs.Gathering.{AreFiguresOf}
use Rattle.figures.specs.declared.quarter_figures.Figures.{Figures}
use Rattle.pricing.specs.Incentives.{code_above, incentive}
use Rattle.pricing.specs.Outcomes.{Outcome, directed}
use Rattle.pricing.specs.Quotes.{IsQuoteOfSource}
use Rattle.pricing.specs.Rulings.{combined_all, combined_automatic, finnish, max_min, weighted_average}
use Rattle.pricing.specs.declared.fault.QuoteFault.TheVariants.{NoAvoidedValue}
use Rattle.pricing.specs.declared.quote.Quote.{Quote}
use Rattle.pricing.specs.declared.quote.QuoteDirection.{QuoteDirection}
use Rattle.pricing.specs.declared.quote.QuoteDirection.TheVariants.{Up, Down, Avoided}
use Rattle.settlement.specs.Answers.{Rules}
use Rattle.settlement.specs.Events.{settling}
use Rattle.sheet.specs.Faults.{number_number}
use Rattle.sheet.specs.Numbers.{quantity}
use Rattle.sheet.specs.declared.fault.NumberFault.{NumberFault}
use Rattle.sheet.specs.declared.fault.Spot.{Spot}
use Rattle.source.specs.Meanings.{Meaning}
use Rattle.source.specs.declared.direction.Direction.TheVariants as dir
use Rattle.units.specs.Exact.{Exact}
use Rattle.units.specs.Quantities.{zone_net_of}
use Rattle.writing.specs.Bytes.{number_bytes}
use Rattle.worked.specs.Quarters.{balanced, half_cent, manual_activated, manual_activated_down, manual_formed, three_levels, three_levels_with}
use Rattle.worked.specs.Runs.{PaysNext, metered_at}
use Rattle.worked.specs.declared.by_hand.IncentivePrices.{IncentivePrices}
use Rattle.worked.specs.declared.by_hand.WorkedFigures.{WorkedFigures}

-- quoted under a rulebook, the source has this direction and this price in cents
abbrev pub IsQuotedAs : Meaning → ℕ → (Figures → Outcome) → QuoteDirection → ℤ → Type 0
IsQuotedAs m code ruling d z = (q : Quote) × IsQuoteOfSource m code ruling (Ok q) × (q.direction ≡ d) × (q.price.cents ≡ z)

-- for the figures that the source gives an up price of this exact price is decided
abbrev pub IsDecidedUp : Meaning → (Figures → Outcome) → Exact → Type 0
IsDecidedUp m ruling x = (f : Figures) × AreFiguresOf m f × (ruling f ≡ directed dir.Up x)

-- the quote is refused for want of the avoided value
abbrev pub LacksAvoidedValue : Meaning → ℕ → (Figures → Outcome) → Type 0
LacksAvoidedValue m code ruling = IsQuoteOfSource m code ruling (Err NoAvoidedValue)

-- a number read at the front of the bytes is refused with this number
abbrev pub IsRefusedWith : List ℕ → ℕ → Type 0
IsRefusedWith s n = (p : Spot) → (f : NumberFault) × (quantity zone_net_of p s 0 ≡ Err f) × (number_number f ≡ n)

-- each price with the incentive component is what the definitions give
pub record IncentiveByHand (f : IncentivePrices) : Type 0 where
  -- its code is ten above, also over another layer
  pub code_11 : code_above 1 ≡ 11
  pub code_14 : code_above 4 ≡ 14
  pub code_15 : code_above 5 ≡ 15
  pub code_21 : code_above 11 ≡ 21
  -- the exact price is 346 2/3: an avoided value of 346.66 is less extreme and changes nothing, one of 346.67 is more extreme
  pub exact_price_unchanged : IsDecidedUp (three_levels_with (pos 34_666)) (incentive weighted_average) (record { n = pos 3_900_000_000_000; d = 112_500_000 })
  pub unchanged_11_by_346_66 : IsQuotedAs (three_levels_with (pos 34_666)) 11 (incentive weighted_average) Up f.unchanged_by_346_66
  pub exact_price_lifted : IsDecidedUp (three_levels_with (pos 34_667)) (incentive weighted_average) (record { n = pos 34_667; d = 1 })
  pub lifted_11_to_346_67 : IsQuotedAs (three_levels_with (pos 34_667)) 11 (incentive weighted_average) Up f.lifted_to_346_67
  -- 500.00 lies beyond the weighted mean, and not beyond the extreme of all counting prices
  pub lifted_11_to_500 : IsQuotedAs (three_levels_with (pos 50_000)) 11 (incentive weighted_average) Up f.lifted_to_500
  pub unchanged_14_by_500 : IsQuotedAs (three_levels_with (pos 50_000)) 14 (incentive max_min) Up f.max_min_unchanged_by_500
  pub lifted_21_to_500 : IsQuotedAs (three_levels_with (pos 50_000)) 21 (incentive (incentive weighted_average)) Up f.lifted_to_500_by_two_layers
  -- the down price of 15.71 and an avoided value of -5.00
  pub lowered_15 : IsQuotedAs (manual_activated_down (negsuc 499)) 15 (incentive finnish) Down f.lowered_to_minus_5
  pub balanced_11 : IsQuotedAs (balanced (Some (pos 700))) 11 (incentive weighted_average) Avoided f.balanced
  pub no_value_11 : LacksAvoidedValue (balanced None) 11 (incentive weighted_average)

-- each figure is what the definitions give
pub record WorkedByHand (f : WorkedFigures) : Type 0 where
  pub three_levels_1 : IsQuotedAs three_levels 1 weighted_average Up f.three_levels.weighted_average
  pub three_levels_2 : IsQuotedAs three_levels 2 combined_automatic Up f.three_levels.combined_automatic
  pub three_levels_3 : IsQuotedAs three_levels 3 combined_all Up f.three_levels.combined_all
  pub three_levels_4 : IsQuotedAs three_levels 4 max_min Up f.three_levels.max_min
  pub three_levels_5 : IsQuotedAs three_levels 5 finnish Up f.three_levels.finnish
  pub manual_activated_5 : IsQuotedAs manual_activated 5 finnish Up f.manual_activated_finnish
  pub manual_activated_down_5 : IsQuotedAs (manual_activated_down (negsuc 499)) 5 finnish Down f.manual_activated_down_finnish
  pub manual_formed_5 : IsQuotedAs manual_formed 5 finnish Up f.manual_formed_finnish
  pub manual_formed_1 : IsQuotedAs manual_formed 1 weighted_average Up f.manual_formed_weighted_average
  pub half_a_cent : IsQuotedAs (half_cent (pos 1)) 1 weighted_average Up f.half_a_cent
  pub half_a_cent_below : IsQuotedAs (half_cent (negsuc 0)) 1 weighted_average Up f.half_a_cent_below_zero
  pub balanced_1 : IsQuotedAs (balanced (Some (pos 700))) 1 weighted_average Avoided f.balanced
  pub balanced_2 : IsQuotedAs (balanced (Some (pos 700))) 2 combined_automatic Avoided f.balanced
  pub balanced_3 : IsQuotedAs (balanced (Some (pos 700))) 3 combined_all Avoided f.balanced
  pub balanced_4 : IsQuotedAs (balanced (Some (pos 700))) 4 max_min Avoided f.balanced
  pub no_value_1 : LacksAvoidedValue (balanced None) 1 weighted_average
  pub no_value_2 : LacksAvoidedValue (balanced None) 2 combined_automatic
  pub no_value_3 : LacksAvoidedValue (balanced None) 3 combined_all
  pub no_value_4 : LacksAvoidedValue (balanced None) 4 max_min
  pub incentive : IncentiveByHand f.incentive
  -- 1 kWh at 5.00 in period 0; then the same in period 1, once the first is settled
  pub first_half_cent : (m : Meaning) (r : Rules) → PaysNext (metered_at m r 0 (pos 500) (pos 1) []) f.first_half_cent
  pub second_half_cent : (m : Meaning) (r : Rules) → PaysNext (metered_at m r 1 (pos 500) (pos 1) (settling 0 (Ok (record { cents = f.first_half_cent })) ∷ metered_at m r 0 (pos 500) (pos 1) [])) f.second_half_cent
  pub surplus : (m : Meaning) (r : Rules) → PaysNext (metered_at m r 0 (pos 5_000) (pos 3_750) []) f.surplus
  pub deficit : (m : Meaning) (r : Rules) → PaysNext (metered_at m r 0 (pos 7_000) (negsuc 24_999) []) f.deficit
  pub stored_0 : number_bytes (pos 0) ≡ f.stored_0
  pub stored_minus_1 : number_bytes (negsuc 0) ≡ f.stored_minus_1
  pub stored_64 : number_bytes (pos 64) ≡ f.stored_64
  pub not_shortest : IsRefusedWith (128 ∷ 0 ∷ []) f.not_shortest
