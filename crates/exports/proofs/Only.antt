-- A sheet has at most one answer in plain numbers under the terms.
use Rattle.std.proofs.Common.{◌≡◌, ℕ, List, ap, sym, ◌∙◌}
use Rattle.pricing.proofs.Only.{only_unless_fault}
use Rattle.pricing.specs.declared.codes.Terms.{Terms}
use Rattle.sheet.specs.Sheets.{first_fault, sheet_meaning}
use Rattle.exports.specs.Quarters.{IsPlainQuarter, plain_quarter}
use Rattle.exports.specs.declared.plain.PlainQuarter.{PlainQuarter}

pub only_plain : (t : Terms) (s : List ℕ) (a b : PlainQuarter) → IsPlainQuarter t s a → IsPlainQuarter t s b → a ≡ b
only_plain t s a b p q =
    p.is ∙ ap plain_quarter (only_unless_fault (first_fault s) t (sheet_meaning s) p.answer q.answer p.quotes q.quotes) ∙ sym q.is
