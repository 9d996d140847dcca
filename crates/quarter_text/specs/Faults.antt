-- What is read of a quarter's text, or the fault in it.
use Rattle.std.specs.Prelude.{ℕ, Result}
use Rattle.units.specs.Chains.{result_map_err}
use Rattle.units.specs.declared.bounds.OutOfBounds.{OutOfBounds}
use Rattle.words.specs.Faults.{fault_at}
use Rattle.words.specs.declared.fault.TextFault.{TextFault as FaultOfText}
use Rattle.words.specs.declared.fault.WordFault.{WordFault as FaultOfWord}
use Rattle.quarter_text.specs.declared.fault.Problem.{Problem}
use Rattle.quarter_text.specs.declared.fault.Problem.TheVariants.{Bounds}

-- a word of a line that is refused
abbrev pub WordFault : Type 0
WordFault = FaultOfWord Problem

-- a word of the text that is refused
abbrev pub TextFault : Type 0
TextFault = FaultOfText Problem

-- what is read of words, or the first of them that is refused
abbrev pub ReadOrFault : Type 0 → Type 0
ReadOrFault X = Result X WordFault

-- the quantity that the word at k writes, unless it is out of bounds
abbrev pub in_bounds : {Q : Type 0} → ℕ → Result Q OutOfBounds → ReadOrFault Q
in_bounds k made = result_map_err made (λ e. fault_at k (Bounds e))
