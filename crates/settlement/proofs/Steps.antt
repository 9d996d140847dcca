-- Each answer of the code is the one that what is known gives.
use Rattle.std.proofs.Common.{◌≡◌, ℕ, ◌<◌, ◌≤◌, true, false, ℤ, ◌-ℤ◌, nat_abs, Some, None, Ok, Err, Option, Result, sym, refl, ap, ◌∙◌, subst, arith, w64, to_z, of_z}
use borrow.Author.Differences.{ints}
use Rattle.std.specs.Prelude.{if◌then◌else◌}
use Rattle.std.specs.Option.{option_map, option_map_or, option_or}
use Rattle.metering.specs.Imbalances.{Values, imbalance, imbalance_of, kwh_of, metering_fault}
use Rattle.metering.specs.declared.fault.MeteringFault.{MeteringFault}
use Rattle.metering.specs.declared.imbalance.Imbalance.{Imbalance}
use Rattle.pricing.specs.Quotes.{Answer, IsQuoteOfSource}
use Rattle.source.specs.Meanings.{Meaning}
use Rattle.settlement.specs.Answers.{IsPricingAnswer, Rules, closed_fault, closing_answer, metering_call_fault, party_fault, period_fault, pricing_fault}
use Rattle.settlement.specs.Known.{Known, payable}
use Rattle.settlement.specs.Standings.{is_closed}
use Rattle.settlement.specs.steps.Turns.{meets}
use Rattle.settlement.specs.declared.fault.BookFault.{BookFault}
use Rattle.settlement.specs.declared.fault.BookFault.TheVariants.{PeriodOutOfRange, PartyOutOfRange, QuarterClosed, Metering}
use Rattle.settlement.specs.declared.party.TheConstants.{MOST_PAID}
use Rattle.settlement.specs.declared.quarter.Call.TheVariants.{Price, Meter, Close}
use Rattle.settlement.specs.declared.quarter.Quarter.{Quarter}
use Rattle.settlement.specs.declared.quarter.Quarter.TheVariants.{Blank, Priced, Closed}
use Rattle.settlement.proofs.Checks.{never, party_past, party_within, period_past, period_within}

-- PRICING

pub price_past : (k : Known) (p : ℕ) (m : Meaning) (r : Rules) → k.periods ≤ p → IsPricingAnswer (pricing_fault k p) p m r (Err (PeriodOutOfRange p))
price_past k p m r l = subst (λ o. IsPricingAnswer (option_or o (closed_fault k p)) p m r (Err (PeriodOutOfRange p))) (sym (period_past k p l)) refl

meets_price : (p : ℕ) (m : Meaning) (r : Rules) (a : Result Quarter BookFault) (x : Answer) (y : Quarter) → IsQuoteOfSource m r.code r.ruling x → a ≡ meets p y (Price x) → IsPricingAnswer (if is_closed y then Some (QuarterClosed p) else None) p m r a
meets_price p m r a x Blank h e = record { quote = x; quoted = h; answer = e }
meets_price p m r a x (Priced q) h e = record { quote = x; quoted = h; answer = e }
meets_price p m r a x (Closed q) h e = e

pub price_answered : (k : Known) (p : ℕ) (m : Meaning) (r : Rules) (a : Result Quarter BookFault) (x : Answer) → p < k.periods → IsQuoteOfSource m r.code r.ruling x → a ≡ meets p (k.quarter p) (Price x) → IsPricingAnswer (pricing_fault k p) p m r a
price_answered k p m r a x l h e = subst (λ o. IsPricingAnswer (option_or o (closed_fault k p)) p m r a) (sym (period_within k p l)) (meets_price p m r a x (k.quarter p) h e)

-- CLOSING

pub close_past : (k : Known) (p : ℕ) → k.periods ≤ p → Err (PeriodOutOfRange p) ≡ option_map_or Err (period_fault k p) (closing_answer p (k.quarter p))
close_past k p l = ap (λ o. option_map_or Err o (closing_answer p (k.quarter p))) (sym (period_past k p l))

meets_close : (p : ℕ) (y : Quarter) → meets p y Close ≡ closing_answer p y
meets_close p Blank = refl
meets_close p (Priced q) = refl
meets_close p (Closed q) = refl

pub close_answered : (k : Known) (p : ℕ) (a : Result Quarter BookFault) → p < k.periods → a ≡ meets p (k.quarter p) Close → a ≡ option_map_or Err (period_fault k p) (closing_answer p (k.quarter p))
close_answered k p a l e = e ∙ meets_close p (k.quarter p) ∙ ap (λ o. option_map_or Err o (closing_answer p (k.quarter p))) (sym (period_within k p l))

-- METERING

refused : {X F : Type 0} (o : Option F) (f : F) (x : X) → o ≡ Some f → Err f ≡ option_map_or Err o (Ok x)
refused o f x e = ap (λ w. option_map_or Err w (Ok x)) (sym e)

-- the fault of meter values inside the book's
abbrev pub carried : Result Imbalance MeteringFault → Result Imbalance BookFault
carried (Ok i) = Ok i
carried (Err f) = Err (Metering f)

-- a quarter that takes an imbalance is not closed
pub takes_values : (p : ℕ) (y x : Quarter) → Ok x ≡ meets p y Meter → is_closed y ≡ false
takes_values p Blank x e = refl
takes_values p (Priced q) x e = refl
takes_values p (Closed q) x e = never x _ e

-- one that refuses it is
pub refuses_values : (p : ℕ) (y : Quarter) (f : BookFault) → Err f ≡ meets p y Meter → (is_closed y ≡ true) × (f ≡ QuarterClosed p)
refuses_values p Blank f e = never Blank f (sym e)
refuses_values p (Priced q) f e = never (Priced q) f (sym e)
refuses_values p (Closed q) f e = (refl, cc)

module _ (k : Known) (p q : ℕ) (v : Values) where
  after_period : p < k.periods → metering_call_fault k p q v ≡ option_or (party_fault k q) (option_or (closed_fault k p) (option_map Metering (metering_fault v)))
  after_period l = ap (λ o. option_or o (option_or (party_fault k q) (option_or (closed_fault k p) (option_map Metering (metering_fault v))))) (period_within k p l)

  after_party : p < k.periods → q < k.parties → metering_call_fault k p q v ≡ option_or (closed_fault k p) (option_map Metering (metering_fault v))
  after_party l m = after_period l ∙ ap (λ o. option_or o (option_or (closed_fault k p) (option_map Metering (metering_fault v)))) (party_within k q m)

  after_closed : p < k.periods → q < k.parties → is_closed (k.quarter p) ≡ false → metering_call_fault k p q v ≡ option_map Metering (metering_fault v)
  after_closed l m e = after_party l m ∙ ap (λ t. option_or (if t then Some (QuarterClosed p) else None) (option_map Metering (metering_fault v))) e

  pub meter_past_period : k.periods ≤ p → Err (PeriodOutOfRange p) ≡ option_map_or Err (metering_call_fault k p q v) (Ok (imbalance v))
  meter_past_period l = refused _ _ _ (ap (λ o. option_or o (option_or (party_fault k q) (option_or (closed_fault k p) (option_map Metering (metering_fault v))))) (period_past k p l))

  pub meter_past_party : p < k.periods → k.parties ≤ q → Err (PartyOutOfRange q) ≡ option_map_or Err (metering_call_fault k p q v) (Ok (imbalance v))
  meter_past_party l m = refused _ _ _ (after_period l ∙ ap (λ o. option_or o (option_or (closed_fault k p) (option_map Metering (metering_fault v)))) (party_past k q m))

  pub meter_closed : p < k.periods → q < k.parties → is_closed (k.quarter p) ≡ true → Err (QuarterClosed p) ≡ option_map_or Err (metering_call_fault k p q v) (Ok (imbalance v))
  meter_closed l m e = refused _ _ _ (after_party l m ∙ ap (λ t. option_or (if t then Some (QuarterClosed p) else None) (option_map Metering (metering_fault v))) e)

  by_values : (o : Option MeteringFault) (z : ℤ) (a : Result Imbalance MeteringFault) (r : Result Imbalance BookFault) → kwh_of a ≡ option_map_or Err o (Ok z) → r ≡ carried a → kwh_of r ≡ option_map_or Err (option_map Metering o) (Ok z)
  by_values None z (Ok i) r e s = ap kwh_of s ∙ (let w : i.kwh ≡ z = cc in ap Ok w)
  by_values None z (Err f) r e s = never z f (sym e)
  by_values (Some f) z (Ok i) r e s = never i.kwh f e
  by_values (Some f) z (Err g) r e s = ap kwh_of s ∙ (let w : g ≡ f = cc in ap (λ h. Err (Metering h)) w)

  pub meter_answered : (a : Result Imbalance MeteringFault) (r : Result Imbalance BookFault) → p < k.periods → q < k.parties → is_closed (k.quarter p) ≡ false → kwh_of a ≡ imbalance_of v → r ≡ carried a → kwh_of r ≡ option_map_or Err (metering_call_fault k p q v) (Ok (imbalance v))
  meter_answered a r l m c e s = by_values (metering_fault v) (imbalance v) a r e s ∙ ap (λ o. option_map_or Err o (Ok (imbalance v))) (sym (after_closed l m c))

-- SETTLING

pub settle_past : (k : Known) (q : ℕ) → k.parties ≤ q → Err (PartyOutOfRange q) ≡ option_map_or Err (party_fault k q) (Ok (payable k q))
settle_past k q l = refused (party_fault k q) _ (payable k q) (party_past k q l)

pub settle_answered : (k : Known) (q : ℕ) (z : ℤ) → q < k.parties → z ≡ payable k q → Ok z ≡ option_map_or Err (party_fault k q) (Ok (payable k q))
settle_answered k q z l e = ap Ok e ∙ ap (λ o. option_map_or Err o (Ok (payable k q))) (sym (party_within k q l))

-- a difference of two amounts of cents, as the machine makes it
pub less_is : (r p : ℤ) → nat_abs r ≤ MOST_PAID → nat_abs p ≤ MOST_PAID → to_z w64 (of_z w64 (to_z w64 (of_z w64 r) -ℤ to_z w64 (of_z w64 p))) ≡ r -ℤ p
less_is r p a b = omega (arith, ints)
