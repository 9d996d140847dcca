-- The answer to the bytes that decide a sheet is the sheet's.
use Rattle.std.proofs.Common.{ℕ, List, subst}
use Rattle.pricing.specs.FiveQuotes.{AreQuotesUnlessFault}
use Rattle.pricing.specs.declared.codes.Terms.{Terms}
use Rattle.sheet.specs.Laws.{DecideSheet}
use Rattle.sheet.specs.Sheets.{first_fault, sheet_meaning}
use Rattle.lines.specs.Answers.{IsAnswer}
use Rattle.lines.specs.declared.quarter_lines.QuarterLines.{QuarterLines}

pub answers_decided : (terms : Terms) (t s : List ℕ) (l : QuarterLines) → IsAnswer terms t l → DecideSheet t s → IsAnswer terms s l
answers_decided terms t s l a d = record {
  terms = a.terms;
  quotes = subst (λ x. AreQuotesUnlessFault (first_fault s) terms x l.answer) d.told (subst (λ x. AreQuotesUnlessFault x terms (sheet_meaning t) l.answer) d.fault a.quotes);
}
