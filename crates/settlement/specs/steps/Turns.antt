-- A quarter's standing and a call, matched together.
use Rattle.std.specs.Prelude.{◌≡◌, ℕ, Ok, Err, Result}
use Rattle.settlement.specs.Answers.{closing_answer, pricing_answer}
use Rattle.settlement.specs.Changes.{FiledAs}
use Rattle.settlement.specs.declared.book.Book.{Book}
use Rattle.settlement.specs.declared.fault.BookFault.{BookFault}
use Rattle.settlement.specs.declared.fault.BookFault.TheVariants.{QuarterClosed}
use Rattle.settlement.specs.declared.quarter.Call.{Call}
use Rattle.settlement.specs.declared.quarter.Call.TheVariants.{Price, Meter, Close}
use Rattle.settlement.specs.declared.quarter.Quarter.{Quarter}
use Rattle.settlement.specs.declared.quarter.Quarter.TheVariants.{Blank, Priced, Closed}

-- how a quarter meets a call
abbrev pub meets : ℕ → Quarter → Call → Result Quarter BookFault
meets p Blank (Price a) = pricing_answer p a
meets p (Priced q) (Price a) = pricing_answer p a
meets p (Closed q) (Price a) = Err (QuarterClosed p)
meets p Blank Meter = Ok Blank
meets p (Priced q) Meter = Ok (Priced q)
meets p (Closed q) Meter = Err (QuarterClosed p)
meets p x Close = closing_answer p x

-- what a quarter's meeting with a call changes in the book; a metering changes no standing
abbrev pub Turned : Book → Book → ℕ → Call → Result Quarter BookFault → Type 0
Turned b b' p (Price a) r = FiledAs b b' p r
Turned b b' p Meter r = b' ≡ b
Turned b b' p Close r = FiledAs b b' p r
