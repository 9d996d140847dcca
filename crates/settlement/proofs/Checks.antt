-- Checks that are passed, and answers that are accepted or refused by them.
use Rattle.std.proofs.Common.{◌≡◌, ℕ, ◌<◌, ◌≤◌, Bool, true, false, Some, None, Ok, Err, Option, Result, refl, ap, arith}
use Rattle.std.proofs.lemmas.Bool.{ltb-true, lt-ltb, le-ltb}
use Rattle.std.specs.Prelude.{if◌then◌else◌}
use Rattle.std.specs.Option.{option_map_or, option_or}
use Rattle.pricing.specs.Quotes.{Answer, IsQuoteOfSource}
use Rattle.pricing.specs.declared.quote.Quote.{Quote}
use Rattle.source.specs.Meanings.{Meaning}
use Rattle.settlement.specs.Answers.{IsPricingAnswer, QuotedAt, Rules, closed_fault, closing_answer, party_fault, period_fault, pricing_answer, pricing_fault}
use Rattle.settlement.specs.Known.{Known}
use Rattle.settlement.specs.Standings.{is_closed}
use Rattle.settlement.specs.declared.fault.BookFault.{BookFault}
use Rattle.settlement.specs.declared.fault.BookFault.TheVariants.{PeriodOutOfRange, PartyOutOfRange}
use Rattle.settlement.specs.declared.quarter.Quarter.{Quarter}
use Rattle.settlement.specs.declared.quarter.Quarter.TheVariants.{Blank, Priced, Closed}

pub never : {X F P : Type 0} (x : X) (f : F) → ◌≡◌ {A = Result X F} (Ok x) (Err f) → P
never x f e = let z : ◌≡◌ {A = ℕ} 0 1 = cc in absurd (omega arith)

pub or_none : {F : Type 0} (a b : Option F) → option_or a b ≡ None → (a ≡ None) × (b ≡ None)
or_none None b e = (refl, e)
or_none (Some f) b e = let z : ◌≡◌ {A = ℕ} 0 1 = cc in absurd (omega arith)

-- a check that is passed
passed : {F : Type 0} (t : Bool) (f : F) → (if t then None else Some f) ≡ None → t ≡ true
passed true f e = refl
passed false f e = let z : ◌≡◌ {A = ℕ} 0 1 = cc in absurd (omega arith)

-- what is refused where it holds, and is passed
fails : {F : Type 0} (t : Bool) (f : F) → (if t then Some f else None) ≡ None → t ≡ false
fails true f e = let z : ◌≡◌ {A = ℕ} 0 1 = cc in absurd (omega arith)
fails false f e = refl

pub taken : {X F : Type 0} (o : Option F) (a : Result X F) (z : X) → Ok z ≡ option_map_or Err o a → (o ≡ None) × (Ok z ≡ a)
taken None a z e = (refl, e)
taken (Some f) a z e = never z f e

-- an answer that is given, of a call whose checks are then all passed
pub all_passed : {X F : Type 0} (o : Option F) (x z : X) → Ok z ≡ option_map_or Err o (Ok x) → (o ≡ None) × (z ≡ x)
all_passed None x z e = (refl, cc)
all_passed (Some f) x z e = never z f e

pub period_within : (k : Known) (p : ℕ) → p < k.periods → period_fault k p ≡ None
period_within k p l = ap (λ t. if t then None else Some (PeriodOutOfRange p)) (lt-ltb p k.periods l)

pub period_past : (k : Known) (p : ℕ) → k.periods ≤ p → period_fault k p ≡ Some (PeriodOutOfRange p)
period_past k p l = ap (λ t. if t then None else Some (PeriodOutOfRange p)) (le-ltb p k.periods l)

pub period_known : (k : Known) (p : ℕ) → period_fault k p ≡ None → p < k.periods
period_known k p e = ltb-true p k.periods (passed _ _ e)

pub party_within : (k : Known) (q : ℕ) → q < k.parties → party_fault k q ≡ None
party_within k q l = ap (λ t. if t then None else Some (PartyOutOfRange q)) (lt-ltb q k.parties l)

pub party_past : (k : Known) (q : ℕ) → k.parties ≤ q → party_fault k q ≡ Some (PartyOutOfRange q)
party_past k q l = ap (λ t. if t then None else Some (PartyOutOfRange q)) (le-ltb q k.parties l)

pub party_known : (k : Known) (q : ℕ) → party_fault k q ≡ None → q < k.parties
party_known k q e = ltb-true q k.parties (passed _ _ e)

pub open_quarter : (k : Known) (p : ℕ) → closed_fault k p ≡ None → is_closed (k.quarter p) ≡ false
open_quarter k p e = fails _ _ e

-- an accepted pricing: the quarter is not closed, and is priced by the quote
pub record Accepted (k : Known) (p : ℕ) (m : Meaning) (r : Rules) (x : Quarter) : Type 0 where
  pub within : p < k.periods
  pub unclosed : is_closed (k.quarter p) ≡ false
  pub quote : Quote
  pub is : x ≡ Priced quote
  pub quoted : IsQuoteOfSource m r.code r.ruling (Ok quote)

quote_of : (p : ℕ) (m : Meaning) (r : Rules) (x : Quarter) (a : Answer) → IsQuoteOfSource m r.code r.ruling a → Ok x ≡ pricing_answer p a → (q : Quote) × (x ≡ Priced q) × IsQuoteOfSource m r.code r.ruling (Ok q)
quote_of p m r x (Ok q) h e = (q, cc, h)
quote_of p m r x (Err f) h e = never x _ e

pricing_parts : (o : Option BookFault) (p : ℕ) (m : Meaning) (r : Rules) (x : Quarter) → IsPricingAnswer o p m r (Ok x) → (o ≡ None) × QuotedAt p m r (Ok x)
pricing_parts None p m r x d = (refl, d)
pricing_parts (Some f) p m r x e = never x f e

pub pricing_accepted : (k : Known) (p : ℕ) (m : Meaning) (r : Rules) (x : Quarter) → IsPricingAnswer (pricing_fault k p) p m r (Ok x) → Accepted k p m r x
pricing_accepted k p m r x d =
    let s = pricing_parts (pricing_fault k p) p m r x d in
    let n = or_none (period_fault k p) (closed_fault k p) s.0 in
    let q = quote_of p m r x s.1.quote s.1.quoted s.1.answer in
    record { within = period_known k p n.0; unclosed = open_quarter k p n.1; quote = q.0; is = q.1; quoted = q.2 }

closing_of : (p : ℕ) (y x : Quarter) → Ok x ≡ closing_answer p y → (q : Quote) × (y ≡ Priced q) × (x ≡ Closed q)
closing_of p Blank x e = never x _ e
closing_of p (Priced q) x e = (q, refl, cc)
closing_of p (Closed q) x e = never x _ e

-- an accepted closing: the quarter was priced, and is closed at its quote
pub record Shut (k : Known) (p : ℕ) (x : Quarter) : Type 0 where
  pub within : p < k.periods
  pub quote : Quote
  pub was : k.quarter p ≡ Priced quote
  pub is : x ≡ Closed quote

pub closing_accepted : (k : Known) (p : ℕ) (x : Quarter) → Ok x ≡ option_map_or Err (period_fault k p) (closing_answer p (k.quarter p)) → Shut k p x
closing_accepted k p x e =
    let s = taken (period_fault k p) (closing_answer p (k.quarter p)) x e in
    let q = closing_of p (k.quarter p) x s.1 in
    record { within = period_known k p s.0; quote = q.0; was = q.1; is = q.2 }
