-- Exactly one answer fits each call.
use Rattle.std.proofs.Common.{◌≡◌, ℕ, ℤ, Some, None, Ok, Err, Option, Result, sym, ap, ◌∙◌}
use Rattle.metering.proofs.Made.{imbalance_same}
use Rattle.metering.specs.Imbalances.{kwh_of}
use Rattle.metering.specs.declared.imbalance.Imbalance.{Imbalance}
use Rattle.pricing.proofs.Only.{only_quote}
use Rattle.source.specs.Meanings.{Meaning}
use Rattle.units.specs.declared.euros.Amount.{Amount}
use Rattle.settlement.specs.Answers.{IsPricingAnswer, Rules, cents_of, pricing_answer, pricing_fault}
use Rattle.settlement.specs.Events.{Answered, Event, OnlyAnswer, closing, metering, pricing, settling}
use Rattle.settlement.specs.Known.{Known}
use Rattle.settlement.specs.declared.fault.BookFault.{BookFault}
use Rattle.settlement.specs.declared.quarter.Quarter.{Quarter}
use Rattle.settlement.proofs.Checks.{never}

only_pricing : (o : Option BookFault) (p : ℕ) (m : Meaning) (r : Rules) (a x : Result Quarter BookFault) → IsPricingAnswer o p m r a → IsPricingAnswer o p m r x → x ≡ a
only_pricing (Some f) p m r a x s t = t ∙ sym s
only_pricing None p m r a x s t =
    t.answer ∙ ap (pricing_answer p) (only_quote m r.code r.ruling t.quote s.quote t.quoted s.quoted) ∙ sym s.answer

kwh_same : (a x : Result Imbalance BookFault) → kwh_of x ≡ kwh_of a → x ≡ a
kwh_same (Ok i) (Ok j) e = let w : j.kwh ≡ i.kwh = cc in ap Ok (imbalance_same j i w)
kwh_same (Ok i) (Err f) e = never i.kwh f (sym e)
kwh_same (Err f) (Ok j) e = never j.kwh f e
kwh_same (Err f) (Err g) e = let w : g ≡ f = cc in ap Err w

cents_same : (a x : Result Amount BookFault) → cents_of x ≡ cents_of a → x ≡ a
cents_same (Ok i) (Ok j) e = let w : j.cents ≡ i.cents = cc in ap (λ (z : ℤ). Ok (record { cents = z })) w
cents_same (Ok i) (Err f) e = never i.cents f (sym e)
cents_same (Err f) (Ok j) e = never j.cents f e
cents_same (Err f) (Err g) e = let w : g ≡ f = cc in ap Err w

pub only : (k : Known) (e : Event) → Answered k e → OnlyAnswer k e
only k (pricing p m r a) s = λ x t. only_pricing (pricing_fault k p) p m r a x s t
only k (metering p q v a) s = λ x t. kwh_same a x (t ∙ sym s)
only k (closing p a) s = λ x t. t ∙ sym s
only k (settling q a) s = λ x t. cents_same a x (t ∙ sym s)
