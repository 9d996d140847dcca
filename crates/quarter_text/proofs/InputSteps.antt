-- One line more of an input.
use Rattle.std.proofs.Common.{◌≡◌, ℕ, ◌+◌, ◌<◌, Bool, true, List, [], ◌∷◌, ◌++◌, length, None, Some, IfSome, Ok, Err, Option, Result, slice_get, sym, refl, ap, ap₂, ◌∙◌, subst, append_assoc, arith}
use Rattle.std.proofs.lemmas.List.{length-append}
use Rattle.std.specs.Io.BufRead.{drop_through}
use Rattle.words.specs.Faults.{in_line}
use Rattle.words.specs.Inputs.{IsNextLine, lines_after}
use Rattle.words.specs.Marks.{line_end}
use Rattle.words.specs.Words.{lines_of, word_in, words_of}
use Rattle.quarter_text.specs.Drafts.{quarter_of, quarter_of_lines, with_line}
use Rattle.quarter_text.specs.Faults.{ReadOrFault, TextFault}
use Rattle.quarter_text.specs.Readers.{GoesOn, HasRead, HasWordOf, accepted, read_so_far, with_next}
use Rattle.quarter_text.specs.declared.draft.Draft.{Draft}
use Rattle.quarter_text.specs.declared.reader.TextReader.{TextReader}
use Rattle.quarter_text.specs.declared.reader.TheConstants.{MOST_LINES}
use Rattle.quarter_text.proofs.LineSteps.{joined_refused, refusal}

-- WHAT A LOOP OVER AN INPUT HAS READ

-- k lines of the text were given; what is left of the input are the others, if there are more
pub record Given (text : List ℕ) (left : Option (List ℕ)) (r : TextReader) (k : ℕ) (more : Bool) : Type 0 where
  pub lines : List (List ℕ)
  pub rest : List ℕ
  pub known : left ≡ Some rest
  pub read : HasRead r lines
  pub whole : lines_of text ≡ lines ++ lines_after more rest
  pub count : length lines ≡ k

-- the same, of an input whose bytes are known
abbrev pub Stands : Option (List ℕ) → Option (List ℕ) → TextReader → ℕ → Bool → Type 0
Stands known left r k more = IfSome known (λ text. Given text left r k more)

pub stands_first : (known : Option (List ℕ)) (r : TextReader) → HasRead r [] → Stands known known r 0 true
stands_first None r h = tt
stands_first (Some text) r h = record { lines = []; rest = text; known = refl; read = h; whole = refl; count = refl }

pub stands_next : (known now left : Option (List ℕ)) (a b : TextReader) (k : ℕ) (line : List ℕ) (more : Bool) → Stands known now a k true → IsNextLine now line more left → GoesOn a line b → k < MOST_LINES → Stands known left b (k + 1) more
stands_next None now left a b k line more s n g below = tt
stands_next (Some text) now left a b k line more s n g below =
    let next = subst (λ o. IsNextLine o line more left) s.known n in
    record {
      lines = s.lines ++ (line ∷ []);
      rest = drop_through line_end s.rest;
      known = next.1;
      read = g s.lines s.read (omega (arith, s.count, below));
      whole = s.whole ∙ ap (λ x. s.lines ++ x) next.0 ∙ sym (append_assoc s.lines (line ∷ []) (lines_after more (drop_through line_end s.rest)));
      count = omega (arith, s.count, length-append s.lines (line ∷ []));
    }

-- a line is refused, and so is the text
pub stands_refused : (known left : Option (List ℕ)) (r : TextReader) (k : ℕ) (more : Bool) (e : TextFault) → Stands known left r k more → Err e ≡ accepted (read_so_far r) → IfSome known (λ text. Err e ≡ quarter_of text)
stands_refused None left r k more e s h = tt
stands_refused (Some text) left r k more e s h = sym (ap quarter_of_lines s.whole ∙ joined_refused s.lines (lines_after more s.rest) e (sym s.read.0 ∙ refusal (read_so_far r) e h))

-- THE LINE AT HAND

after_front : (ls others : List (List ℕ)) (line : List ℕ) → slice_get (ls ++ line ∷ others) (length ls) ≡ Some line
after_front [] others line = refl
after_front (l ∷ ls) others line = after_front ls others line

fault_line : (n : ℕ) (x : ReadOrFault Draft) (e : TextFault) → in_line n x ≡ Err e → e.line ≡ n
fault_line n (Ok d) e h = cc
fault_line n (Err f) e h = cc

going : (r : Result Draft TextFault) → accepted r ≡ Ok tt → (d : Draft) × (r ≡ Ok d)
going (Ok d) h = (d, refl)
going (Err f) h = absurd cc

-- a line is refused, and it is at hand
pub hand_refused : (known now left : Option (List ℕ)) (a b : TextReader) (k : ℕ) (line : List ℕ) (more : Bool) (e : TextFault) → Stands known now a k true → IsNextLine now line more left → accepted (read_so_far a) ≡ Ok tt → read_so_far b ≡ with_next (read_so_far a) a.lines line → Err e ≡ accepted (read_so_far b)
    → IfSome known (λ text. HasWordOf line text e)
hand_refused None now left a b k line more e s n so_far read h = tt
hand_refused (Some text) now left a b k line more e s n so_far read h =
    let next = subst (λ o. IsNextLine o line more left) s.known n in
    let d = going (read_so_far a) so_far in
    let at : e.line ≡ a.lines = fault_line a.lines (with_line a.lines d.0 (words_of line)) e (sym (ap (λ r. with_next r a.lines line) d.1) ∙ sym read ∙ refusal (read_so_far b) e h) in
    let whole : lines_of text ≡ s.lines ++ line ∷ lines_after more (drop_through line_end s.rest) = s.whole ∙ ap (λ x. s.lines ++ x) next.0 in
    let there : slice_get (lines_of text) e.line ≡ Some line = ap₂ slice_get whole (at ∙ s.read.1) ∙ after_front s.lines (lines_after more (drop_through line_end s.rest)) line in
    sym (ap (λ o. word_in o e.word) there)
