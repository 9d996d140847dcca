-- What is promised of every run: of any number of calls, in any order, refused ones included, each pricing with a source
-- and a rulebook of its own.
use Rattle.std.specs.Prelude.{◌≡◌, ℕ, ◌*◌, ◌≤◌, List, [], ◌∷◌, ℤ, pos, ◌-ℤ◌, ◌*ℤ◌, Some, None, Ok, Err, Option, is_some, unsigned_abs}
use Rattle.figures.specs.Gathering.{AreFiguresOf}
use Rattle.figures.specs.Sides.{side_of}
use Rattle.figures.specs.declared.quarter_figures.Figures.{Figures}
use Rattle.pricing.specs.Bounds.{IsBounded}
use Rattle.pricing.specs.Outcomes.{Outcome, avoided, directed}
use Rattle.pricing.specs.Quotes.{quoted_direction}
use Rattle.pricing.specs.declared.quote.Quote.{Quote}
use Rattle.pricing.specs.declared.quote.QuoteDirection.{QuoteDirection}
use Rattle.pricing.specs.declared.quote.QuoteDirection.TheVariants.{Up, Down, Avoided}
use Rattle.source.specs.Meanings.{Meaning}
use Rattle.source.specs.declared.direction.Direction.TheVariants as dir
use Rattle.units.specs.Exact.{Exact, exact_of_price}
use Rattle.units.specs.declared.price.Price.{Price}
use Rattle.settlement.specs.Books.{imbalance_at, in_book, paid_to, quarter_at}
use Rattle.settlement.specs.Events.{Answered, Did, Event, OnlyAnswer, pricing, metering, closing, settling}
use Rattle.settlement.specs.Known.{imbalance_amount}
use Rattle.settlement.specs.Runs.{Filing, Run, after_run, imbalance_after, last_pricing, payments_since, quarter_after, was_closed}
use Rattle.settlement.specs.Standings.{is_closed, quote_in}
use Rattle.settlement.specs.declared.book.Book.{Book}
use Rattle.settlement.specs.declared.quarter.Quarter.{Quarter}

-- p is at most half a cent from n / d
pub record HalfCent (p : ℤ) (x : Exact) : Type 0 where
  pub divides : 1 ≤ x.d
  pub close : 2 * unsigned_abs (p *ℤ pos x.d -ℤ x.n) ≤ x.d

-- the direction and the exact price that an outcome gives; where it is avoided, the avoided value is the exact price
abbrev pub StandsFor : Outcome → Option Price → Quote → Type 0
StandsFor (directed d x) v q = (q.direction ≡ quoted_direction d) × HalfCent q.price.cents x
StandsFor avoided (Some v) q = (q.direction ≡ Avoided) × HalfCent q.price.cents (exact_of_price v)
StandsFor avoided None q = ⊥

-- x stands at a quote that is right by what the rulebook of the pricing f gave for what its source told
pub record RightPrice (f : Filing) (x : Quarter) : Type 0 where
  pub quote : Quote
  pub filed : quote_in x ≡ Some quote
  pub code : quote.code ≡ f.rules.code
  pub figures : Figures
  pub gives : AreFiguresOf f.source figures
  pub stands : StandsFor (f.rules.ruling figures) f.source.avoided quote

-- up: at most half a cent below the weighted mean of what counts, not above the greatest of the prices formed and the avoided value; down mirrors it
abbrev pub WithinBounds : QuoteDirection → Meaning → ℤ → Type 0
WithinBounds Up m p = IsBounded dir.Up (side_of dir.Up m.slots) m.avoided p
WithinBounds Down m p = IsBounded dir.Down (side_of dir.Down m.slots) m.avoided p
WithinBounds Avoided m p = Unit {0}

-- an accepted settling left its party's payments within half a cent of its latest imbalances at the standing prices
abbrev pub FairlyPaid : ℕ → ℕ → List Event → Type 0
FairlyPaid n m [] = Unit {0}
FairlyPaid n m (pricing p s r a ∷ h) = Unit {0}
FairlyPaid n m (metering p q v a ∷ h) = Unit {0}
FairlyPaid n m (closing p a ∷ h) = Unit {0}
FairlyPaid n m (settling q (Err f) ∷ h) = Unit {0}
FairlyPaid n m (settling q (Ok x) ∷ h) =
    HalfCent (payments_since (settling q (Ok x) ∷ h) q)
    (record { n = imbalance_amount (after_run n m (settling q (Ok x) ∷ h)) q; d = 1000 })

-- each settling, when it was the last call, left its party fairly paid
abbrev pub AllFairlyPaid : ℕ → ℕ → List Event → Type 0
AllFairlyPaid n m [] = Unit {0}
AllFairlyPaid n m (e ∷ h) = FairlyPaid n m (e ∷ h) × AllFairlyPaid n m h

-- each call was answered by what the calls before it say
abbrev pub AllAnswered : ℕ → ℕ → List Event → Type 0
AllAnswered n m [] = Unit {0}
AllAnswered n m (e ∷ h) = Answered (after_run n m h) e × AllAnswered n m h

-- what is promised after the calls h
pub record Sound (h : List Event) (b : Book) : Type 0 where
  -- a quarter stands as the run says
  pub standings : (p : ℕ) → quarter_at b p ≡ quarter_after h p
  -- it is closed exactly where a closing of it was accepted
  pub closings : (p : ℕ) → is_closed (quarter_at b p) ≡ was_closed h p
  -- it has a standing price exactly where a pricing of it was accepted
  pub price_stands : (p : ℕ) → is_some (quote_in (quarter_at b p)) ≡ is_some (last_pricing h p)
  -- its direction is what the rulebook of the last one gave, and its price at most half a cent from the exact one
  pub prices : (p : ℕ) (f : Filing) → last_pricing h p ≡ Some f → RightPrice f (quarter_at b p)
  -- the price lies between the weighted mean and the extreme of the formed prices and the avoided value, by what was told at the last one
  pub bounds : (p : ℕ) (f : Filing) (q : Quote) → last_pricing h p ≡ Some f → quote_in (quarter_at b p) ≡ Some q → WithinBounds q.direction f.source q.price.cents
  -- a party's imbalance is the latest
  pub imbalances : (p q : ℕ) → (imbalance_at b p q).kwh ≡ imbalance_after h p q
  -- what a party was paid is the sum of its settlings
  pub payments : (q : ℕ) → (paid_to b q).cents ≡ payments_since h q
  -- each call was accepted or refused as the calls before it say, and answered so
  pub answers : AllAnswered b.period_count b.party_count h
  -- a party that was settled had then what it was due, to half a cent
  pub fair : AllFairlyPaid b.period_count b.party_count h

-- e made b' of b as it says, no other answer was open to it, and each run that led to b goes on with e and is sound
pub record IsSoundCall (e : Event) (b b' : Book) : Type 0 where
  pub did : Did e b b'
  pub only : OnlyAnswer (in_book b) e
  pub run : (h : List Event) → Run h b → Run (e ∷ h) b'
  pub sound : (h : List Event) → Run h b → Sound (e ∷ h) b'
