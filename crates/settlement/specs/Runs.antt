-- The calls of a run, the latest first: what they come to, and the book that they lead to.
use Rattle.std.specs.Prelude.{ℕ, Bool, false, ◌&&◌, ◌||◌, List, [], ◌∷◌, ℤ, pos, ◌+ℤ◌, Some, None, Ok, Err, Option, ◌==◌, if◌then◌else◌}
use Rattle.std.specs.Option.{option_map_or, option_or, unwrap_or}
use Rattle.metering.specs.Imbalances.{imbalance}
use Rattle.source.specs.Meanings.{Meaning}
use Rattle.settlement.specs.Answers.{Rules}
use Rattle.settlement.specs.Books.{IsFresh}
use Rattle.settlement.specs.Events.{Did, Event, pricing, metering, closing, settling}
use Rattle.settlement.specs.Known.{Known}
use Rattle.settlement.specs.Standings.{closed_as}
use Rattle.settlement.specs.declared.book.Book.{Book}
use Rattle.settlement.specs.declared.quarter.Quarter.{Quarter}
use Rattle.settlement.specs.declared.quarter.Quarter.TheVariants.{Blank}

-- WHAT ONE CALL GIVES

-- an accepted pricing: what its source and its rulebook meant, and how it left the quarter
pub record Filing : Type 0 where
  pub source : Meaning
  pub rules : Rules
  pub quarter : Quarter

-- the accepted pricing of the period, if the call is one
abbrev pub pricing_of : ℕ → Event → Option Filing
pricing_of p (pricing k m r (Ok x)) = if k == p then Some (record { source = m; rules = r; quarter = x }) else None
pricing_of p (pricing k m r (Err e)) = None
pricing_of p (metering k q v a) = None
pricing_of p (closing k a) = None
pricing_of p (settling q a) = None

-- the imbalance of an accepted metering of the party in the period, if the call is one
abbrev pub metering_of : ℕ → ℕ → Event → Option ℤ
metering_of p q (pricing k m r a) = None
metering_of p q (metering k j v (Ok i)) = if k == p && j == q then Some (imbalance v) else None
metering_of p q (metering k j v (Err e)) = None
metering_of p q (closing k a) = None
metering_of p q (settling j a) = None

-- whether the call is an accepted closing of the period
abbrev pub closes : ℕ → Event → Bool
closes p (pricing k m r a) = false
closes p (metering k j v a) = false
closes p (closing k (Ok x)) = k == p
closes p (closing k (Err e)) = false
closes p (settling j a) = false

-- what an accepted settling of the party answered, if the call is one
abbrev pub payment_of : ℕ → Event → Option ℤ
payment_of q (pricing k m r a) = None
payment_of q (metering k j v a) = None
payment_of q (closing k a) = None
payment_of q (settling j (Ok x)) = if j == q then Some x.cents else None
payment_of q (settling j (Err e)) = None

-- WHAT ALL CALLS COME TO

-- the latest of what the calls of a run gave
abbrev pub latest : {X : Type 0} → (Event → Option X) → List Event → Option X
latest f [] = None
latest f (e ∷ h) = option_or (f e) (latest f h)

-- the last accepted pricing of the period
abbrev pub last_pricing : List Event → ℕ → Option Filing
last_pricing h p = latest (pricing_of p) h

-- whether a closing of the period was accepted
abbrev pub was_closed : List Event → ℕ → Bool
was_closed [] p = false
was_closed (e ∷ h) p = closes p e || was_closed h p

-- blank until a pricing is accepted, then as the last one left it, and closed at that once a closing is accepted
abbrev pub stands_as : Option Filing → Bool → Quarter
stands_as None c = Blank
stands_as (Some f) c = if c then closed_as f.quarter else f.quarter

-- how the quarter of the period stands after the calls
abbrev pub quarter_after : List Event → ℕ → Quarter
quarter_after h p = stands_as (last_pricing h p) (was_closed h p)

-- the party's latest imbalance in the period: that of its last accepted metering there, or 0
abbrev pub imbalance_after : List Event → ℕ → ℕ → ℤ
imbalance_after h p q = unwrap_or (latest (metering_of p q) h) (pos 0)

-- the party's payments since the start: the sum of what its accepted settlings answered
abbrev pub payments_since : List Event → ℕ → ℤ
payments_since [] q = pos 0
payments_since (e ∷ h) q = option_map_or (λ x. x +ℤ payments_since h q) (payment_of q e) (payments_since h q)

-- what a run says of a book that was started with these counts
abbrev pub after_run : ℕ → ℕ → List Event → Known
after_run n m h = record {
  periods = n;
  parties = m;
  quarter = quarter_after h;
  imbalance = imbalance_after h;
  paid = payments_since h;
}

-- WHERE THEY LEAD

-- the calls h, the latest first, lead from a started book to b
pub data Run : List Event → Book → Type 0 where
  begun : (b : Book) → IsFresh b → Run [] b
  after : (h : List Event) (e : Event) (b b' : Book) → Run h b → Did e b b' → Run (e ∷ h) b'
