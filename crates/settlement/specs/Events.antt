-- A call with its arguments and its answer is an event: which answer it has by what is known, and what it changes.
use Rattle.std.specs.Prelude.{◌≡◌, ℕ, ◌+ℤ◌, Ok, Err, Result}
use Rattle.std.specs.Option.{option_map_or}
use Rattle.metering.specs.Imbalances.{Values, imbalance, kwh_of}
use Rattle.metering.specs.declared.imbalance.Imbalance.{Imbalance}
use Rattle.source.specs.Meanings.{Meaning}
use Rattle.units.specs.declared.euros.Amount.{Amount}
use Rattle.settlement.specs.Answers.{IsLawfulRulebook, IsPricingAnswer, Rules, cents_of, closing_answer, metering_call_fault, party_fault, period_fault, pricing_fault}
use Rattle.settlement.specs.Books.{in_book, paid_to}
use Rattle.settlement.specs.Changes.{FiledAs, Metered, Paid}
use Rattle.settlement.specs.Known.{Known, payable}
use Rattle.settlement.specs.declared.book.Book.{Book}
use Rattle.settlement.specs.declared.fault.BookFault.{BookFault}
use Rattle.settlement.specs.declared.quarter.Quarter.{Quarter}

-- a call with its arguments, what its source and its rulebook meant, and its answer
pub data Event : Type 0 where
  pricing : (period : ℕ) → Meaning → Rules → Result Quarter BookFault → Event
  metering : (period party : ℕ) → Values → Result Imbalance BookFault → Event
  closing : (period : ℕ) → Result Quarter BookFault → Event
  settling : (party : ℕ) → Result Amount BookFault → Event

-- how each call is answered by what is known before it: its first fault, or else what follows from what is known
abbrev pub Answered : Known → Event → Type 0
Answered k (pricing p m r a) = IsPricingAnswer (pricing_fault k p) p m r a
Answered k (metering p q v a) = kwh_of a ≡ option_map_or Err (metering_call_fault k p q v) (Ok (imbalance v))
Answered k (closing p a) = a ≡ option_map_or Err (period_fault k p) (closing_answer p (k.quarter p))
Answered k (settling q a) = cents_of a ≡ option_map_or Err (party_fault k q) (Ok (payable k q))

-- exactly one answer fits a call on what is known
abbrev pub OnlyAnswer : Known → Event → Type 0
OnlyAnswer k (pricing p m r a) = (x : Result Quarter BookFault) → Answered k (pricing p m r x) → x ≡ a
OnlyAnswer k (metering p q v a) = (x : Result Imbalance BookFault) → Answered k (metering p q v x) → x ≡ a
OnlyAnswer k (closing p a) = (x : Result Quarter BookFault) → Answered k (closing p x) → x ≡ a
OnlyAnswer k (settling q a) = (x : Result Amount BookFault) → Answered k (settling q x) → x ≡ a

-- what a call that was answered so changes in the book; one that was refused changes nothing
abbrev pub Changes : Event → Book → Book → Type 0
Changes (pricing p m r a) b b' = FiledAs b b' p a
Changes (metering p q v (Ok i)) b b' = Metered b b' p q i
Changes (metering p q v (Err f)) b b' = b' ≡ b
Changes (closing p a) b b' = FiledAs b b' p a
Changes (settling q (Ok x)) b b' = Paid b b' q (record { cents = (paid_to b q).cents +ℤ x.cents })
Changes (settling q (Err f)) b b' = b' ≡ b

-- a rulebook that prices keeps its laws
abbrev pub ByLaw : Event → Type 0
ByLaw (pricing p m r a) = IsLawfulRulebook r
ByLaw (metering p q v a) = Unit {0}
ByLaw (closing p a) = Unit {0}
ByLaw (settling q a) = Unit {0}

-- the call e makes b' of b
pub record Did (e : Event) (b b' : Book) : Type 0 where
  pub lawful : ByLaw e
  pub answered : Answered (in_book b) e
  pub changes : Changes e b b'
