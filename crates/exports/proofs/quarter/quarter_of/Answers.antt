use Rattle.std.proofs.Common.{Ok, Err, refl, subst, ap, ◌∙◌}
use Rattle.pricing.specs.FiveQuotes.{AreQuotesUnlessFault}
use Rattle.sheet.specs.Sheets.{first_fault, sheet_meaning}
use Rattle.exports.proofs.Only.{only_plain}
use Rattle.exports.specs.Quarters.{every_code}
use Rattle.exports.proofs.quarter.quarter_of.Goals as goal

pub returns-in-Ok-clause-answer_in_plain_numbers : goal.returns-in-Ok-clause-answer_in_plain_numbers
returns-in-Ok-clause-answer_in_plain_numbers c =
    let quotes = Ok c.five_quotes.result in
    record {
      answer = quotes;
      quotes = subst (λ s. AreQuotesUnlessFault (first_fault s) c.args.terms (sheet_meaning s) quotes) c.read-sheet.ensures
          (subst (λ r. AreQuotesUnlessFault r c.args.terms (sheet_meaning c.read-sheet.result.bytes.now) quotes) c.in-Ok.ensures.first c.five_quotes.ensures.quotes_of_the_source);
      is = c.from.ensures;
    }

pub returns-in-Ok-clause-only_answer : goal.returns-in-Ok-clause-only_answer
returns-in-Ok-clause-only_answer c = λ r h. only_plain c.args.terms c.args.bytes.now r _ h (returns-in-Ok-clause-answer_in_plain_numbers c)

pub returns-in-Err-clause-answer_in_plain_numbers : goal.returns-in-Err-clause-answer_in_plain_numbers
returns-in-Err-clause-answer_in_plain_numbers c = record {
  answer = Err c.in-Err.fault;
  quotes = subst (λ s. AreQuotesUnlessFault (first_fault s) c.args.terms (sheet_meaning s) (Err c.in-Err.fault)) c.read-sheet.ensures
      (subst (λ r. AreQuotesUnlessFault r c.args.terms (sheet_meaning c.read-sheet.result.bytes.now) (Err c.in-Err.fault)) c.in-Err.ensures.first refl);
  is = c.every_code.ensures ∙ ap every_code c.refused_as.ensures;
}
