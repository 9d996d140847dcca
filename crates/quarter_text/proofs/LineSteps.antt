-- One line more of a text.
use Rattle.std.proofs.Common.{◌≡◌, ℕ, suc, ◌+◌, ◌≤◌, ◌==◌, List, [], ◌∷◌, ◌++◌, length, map, take, drop, min, Bor, Some, None, Ok, Err, Option, Result, sym, refl, ap, ◌∙◌, subst, take-append-drop, arith}
use Rattle.std.proofs.Math.Seq.{take-suc}
use Rattle.std.proofs.lemmas.Iterator.{YieldsList}
use Rattle.std.proofs.lemmas.Iterator.Consumers.{YieldsList-end, YieldsList-so_far, YieldsList-turn}
use Rattle.std.proofs.lemmas.List.{length-append, length-map}
use Rattle.std.proofs.lemmas.List.Splits.{length-slice_split}
use Rattle.std.proofs.lemmas.List.Sums.{count_by-le-length}
use Rattle.std.specs.Iterator.{Yields}
use Rattle.units.specs.Chains.{result_and_then}
use Rattle.words.specs.Faults.{in_line}
use Rattle.words.specs.Marks.{line_end}
use Rattle.words.specs.Words.{lines_of, words_of}
use Rattle.quarter_text.specs.Faults.{TextFault}
use Rattle.quarter_text.specs.Drafts.{blank, finished, quarter_of_lines, with_line, with_lines}
use Rattle.quarter_text.specs.Readers.{GoesOn, HasRead, accepted, read_so_far, with_next}
use Rattle.quarter_text.specs.declared.draft.Draft.{Draft}
use Rattle.quarter_text.specs.declared.reader.TextReader.{TextReader}
use Rattle.quarter_text.specs.declared.reader.TheConstants.{MOST_LINES}

-- a line, and then others
line_first : (r : Result Draft TextFault) (xs ys : List (List ℕ)) (n : ℕ) → ((e : Draft) → with_lines n e (xs ++ ys) ≡ result_and_then (with_lines n e xs) (λ f. with_lines (n + length xs) f ys))
    → result_and_then r (λ e. with_lines n e (xs ++ ys)) ≡ result_and_then (result_and_then r (λ e. with_lines n e xs)) (λ e. with_lines (n + length xs) e ys)
line_first (Ok e) xs ys n h = h e
line_first (Err f) xs ys n h = refl

-- lines, and then others
pub lines_joined : (xs ys : List (List ℕ)) (n : ℕ) (d : Draft) → with_lines n d (xs ++ ys) ≡ result_and_then (with_lines n d xs) (λ e. with_lines (n + length xs) e ys)
lines_joined [] ys n d = let z : n + 0 ≡ n = omega arith in rw z refl
lines_joined (x ∷ xs) ys n d =
    let z : n + 1 + length xs ≡ n + length (x ∷ xs) = omega arith in
    subst (λ k. with_lines n d (x ∷ xs ++ ys) ≡ result_and_then (with_lines n d (x ∷ xs)) (λ e. with_lines k e ys)) z
    (line_first (in_line n (with_line n d (words_of x))) xs ys (n + 1) (λ e. lines_joined xs ys (n + 1) e))

one_line : (n : ℕ) (r : Result Draft TextFault) → (l : List ℕ) → result_and_then r (λ d. with_lines n d (l ∷ [])) ≡ with_next r n l
one_line n (Ok d) l = by (in_line n (with_line n d (words_of l)))
  where
    by : (r : Result Draft TextFault) → result_and_then r (λ e. Ok e) ≡ r
    by (Ok e) = refl
    by (Err f) = refl
one_line n (Err f) l = refl

-- a reader goes on from the lines that it was given
pub goes_on : (r : TextReader) (l : List ℕ) (s : TextReader) → read_so_far s ≡ with_next (read_so_far r) r.lines l → s.lines ≡ min (r.lines + 1) MOST_LINES → GoesOn r l s
goes_on r l s read counted ls h below =
    let at : r.lines ≡ 0 + length ls = omega (arith, h.1) in (
      read ∙ ap (λ x. with_next x r.lines l) h.0 ∙ ap (λ n. with_next (with_lines 0 blank ls) n l) at ∙ sym (lines_joined ls (l ∷ []) 0 blank ∙ one_line (0 + length ls) (with_lines 0 blank ls) l),
      omega (arith, counted, h.1, below, length-append ls (l ∷ [])),
    )

-- a fault of the first lines is the fault of all
pub joined_refused : (ls others : List (List ℕ)) (e : TextFault) → with_lines 0 blank ls ≡ Err e → quarter_of_lines (ls ++ others) ≡ Err e
joined_refused ls others e h =
    let read : with_lines 0 blank (ls ++ others) ≡ Err e = lines_joined ls others 0 blank ∙ rw h refl in
    ap (λ r. result_and_then r (λ d. finished (length (ls ++ others)) d.named d.others d.zone_net d.avoided)) read

first_refused : (ls all : List (List ℕ)) (e : TextFault) → with_lines 0 blank ls ≡ Err e → ls ≡ take (length ls) all → quarter_of_lines all ≡ Err e
first_refused ls all e h front =
    let whole : all ≡ ls ++ drop (length ls) all = sym (take-append-drop (length ls) all) ∙ ap (λ l. l ++ drop (length ls) all) (sym front) in
    ap quarter_of_lines whole ∙ joined_refused ls (drop (length ls) all) e h

-- WHAT A LOOP OVER LINES HAS READ

pub lines_few : (text : List ℕ) → length (lines_of text) ≤ length text + 1
lines_few text = omega (arith, length-slice_split (λ b. b == line_end) text, count_by-le-length (λ b. b == line_end) text)

-- the bytes of each line
abbrev bytes : List (Bor (List ℕ)) → List (List ℕ)
bytes ls = map (λ l. l.now) ls

pub refusal : (r : Result Draft TextFault) (e : TextFault) → Err e ≡ accepted r → r ≡ Err e
refusal (Ok d) e h = cc
refusal (Err f) e h = cc

module _ {S : Type 0} {steps : S → Option (Bor (List ℕ)) → S → Type 0} {s : S} (t u : S) (xs : List (Bor (List ℕ))) (r : Option (Bor (List ℕ))) (y : Yields steps s xs t) (step : steps t r u) (all : List (List ℕ)) where
  -- after the last line the reader was given all
  pub all_given : r ≡ None → YieldsList steps (λ l. l.now) s all → bytes xs ≡ all
  all_given is road = (YieldsList-end road xs t y r u is step).0

  -- a line is refused, and so are all
  pub refused_given : (l : Bor (List ℕ)) → r ≡ Some l → (a b : TextReader) → GoesOn a l.now b → HasRead a (bytes xs) → (e : TextFault) → Err e ≡ accepted (read_so_far b) → length all ≤ MOST_LINES → YieldsList steps (λ l. l.now) s all → quarter_of_lines all ≡ Err e
  refused_given l is a b more read e h few road =
      let turn = YieldsList-turn road xs t y r u l is step in
      let long : length (bytes xs) ≡ length xs = length-map xs (λ (l : Bor (List ℕ)). l.now) in
      let next = more (bytes xs) read (omega (arith, few, turn.0, long)) in
      let front : bytes xs ++ (l.now ∷ []) ≡ take (suc (length xs)) all = ap (λ ls. ls ++ (l.now ∷ [])) (YieldsList-so_far road xs t y) ∙ ap (λ z. take (length xs) all ++ (z ∷ [])) turn.1 ∙ sym (take-suc all (length xs) l.now turn.0) in
      let whole : length (bytes xs ++ (l.now ∷ [])) ≡ suc (length xs) = omega (arith, long, length-append (bytes xs) (l.now ∷ [])) in
      first_refused (bytes xs ++ (l.now ∷ [])) all e (sym next.0 ∙ refusal (read_so_far b) e h) (front ∙ ap (λ n. take n all) (sym whole))
