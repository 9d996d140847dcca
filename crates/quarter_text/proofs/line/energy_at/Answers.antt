use Rattle.std.proofs.Common.{◌∙◌}
use Rattle.words.specs.Lines.{number_at, words_in}
use Rattle.words.specs.Numerals.{number_of}
use Rattle.quarter_text.specs.declared.fault.Part.TheVariants as part
use Rattle.quarter_text.specs.declared.fault.Problem.TheVariants.{Expected}
use Rattle.quarter_text.proofs.Powers.{power_read}
use Rattle.quarter_text.proofs.line.energy_at.Goals as goal

pub returns : goal.returns
returns c =
    c.power.ensures
    ∙ power_read c.args.at c.args.range (number_of c.in_ok-energy.energy) (number_at (words_in c.args.line.now) c.args.at 3 (Expected part.Demand)) c.requires c.in_ok-energy.ensures
