-- The lines of a printed text are read as what they were printed of.
use Rattle.std.proofs.Common.{◌≡◌, ℕ, ◌+◌, ◌^◌, ◌<◌, ◌≤◌, Bool, true, false, ◌==◌, nat_lt, List, [], ◌∷◌, ◌++◌, length, drop, ℤ, nat_abs, Some, None, Ok, Option, slice_get, sym, refl, ap, ◌∙◌, subst, decimal, length-append, ⊎_elim, codes, arith}
use Rattle.std.proofs.Math.Seq.{take-append_seam, drop-append-add}
use Rattle.std.proofs.lemmas.Bool.Decides.{nat_tests}
use Rattle.std.proofs.lemmas.Bool.{and_from, cases_eq, eqb-true, le-leb, lt-ltb}
use Rattle.std.proofs.lemmas.Slice.Eq.{bytes_eq-Decides}
use Rattle.std.specs.Fmt.{signed_decimal}
use Rattle.std.specs.List.{position}
use Rattle.std.specs.Str.{bytes_eq}
use Rattle.source.specs.Slots.{Slot}
use Rattle.source.specs.declared.product.TheConstants.{CYCLES, SCHEDULED, DIRECT_UP, DIRECT_DOWN}
use Rattle.units.proofs.Made.{demand_made, price_made, zone_net_made}
use Rattle.units.specs.Quantities.{demand_of, price_of, zone_net_of}
use Rattle.units.specs.Text.{euros}
use Rattle.units.specs.declared.demand.Demand.{Demand}
use Rattle.units.specs.declared.price.Price.{Price}
use Rattle.units.specs.declared.zone_net.ZoneNet.{ZoneNet}
use Rattle.source.specs.declared.slot.TheConstants.{SLOTS}
use Rattle.words.specs.Lines.{Words}
use Rattle.words.specs.Numerals.{numeral, integer_of}
use Rattle.words.specs.Words.{words_of}
use Rattle.words.proofs.Decimals.{Writes, decimal_writes, digits_plain, digits_read, no_place, place_after, word_of_digits}
use Rattle.words.proofs.Numbers.{Reads, digits_first, euros_read, no_letter, number, signed_read, value_number}
use Rattle.words.proofs.Tokens.{Word, inline, inline_joined, inline_word, plain_joined, word_first, word_last}
use Rattle.quarter_text.specs.Ranges.{numbered, slot_of, slots_from_to}
use Rattle.quarter_text.specs.Lines.{avoided_line, price_at, range_line, told_by, zone_net_line}
use Rattle.quarter_text.specs.Texts.{price_text, slots_text, told_text}
use Rattle.quarter_text.specs.declared.fault.Part.{Part}
use Rattle.quarter_text.specs.declared.fault.Part.TheVariants as part
use Rattle.quarter_text.specs.declared.range.Range.{Range}

-- PRICES

price_fits : (p : Price) → nat_abs p.cents < 2 ^ 63
price_fits p = omega (arith, p.bounded)

dash_case : (w : List ℕ) (n : _) (t : Bool) → bytes_eq w (45 ∷ []) ≡ t → numeral 2 w ≡ Some n → t ≡ false
dash_case w n true e h =
    let same : w ≡ 45 ∷ [] = (bytes_eq-Decides w (45 ∷ [])).0 e in
    let none : None ≡ Some n = ap (numeral 2) (sym same) ∙ h in
    cc
dash_case w n false e h = refl

no_dash : (z : ℤ) (w : List ℕ) → Reads 2 z w → bytes_eq w (45 ∷ []) ≡ false
no_dash z w r = dash_case w (number z) (bytes_eq w (45 ∷ [])) refl r.value

price_again : (p : Price) → price_of (integer_of (number p.cents)) ≡ Ok p
price_again p = ap price_of (value_number p.cents) ∙ sym (price_made p.cents p refl)

pub price_there : (p : Option Price) (ws : Words) (k : ℕ) (t : Part) → slice_get ws k ≡ Some (price_text p) → price_at ws k t ≡ Ok p
price_there None ws k t e = rw e refl
price_there (Some p) ws k t e =
    let r = euros_read p.cents (price_fits p) in
    rw (e, no_dash p.cents (euros p.cents) r, r.value, price_again p) refl

price_word : (p : Option Price) → Word (price_text p)
price_word None = record { bytes = refl; some = omega arith }
price_word (Some p) = (euros_read p.cents (price_fits p)).word

price_letter : (p : Option Price) (c : ℕ) (v : List ℕ) → 65 ≤ c → bytes_eq (price_text p) (c ∷ v) ≡ false
price_letter None c v l = let ne : (45 == c) ≡ false = grind (arith, nat_tests) in rw ne refl
price_letter (Some p) c v l = (euros_read p.cents (price_fits p)).first c v l

-- WHOLE NUMBERS

demand_fits : (d : Demand) → nat_abs d.kw < 2 ^ 63
demand_fits d = omega (arith, d.bounded)

demand_again : (d : Demand) → demand_of (integer_of (number d.kw)) ≡ Ok d
demand_again d = ap demand_of (value_number d.kw) ∙ sym (demand_made d.kw d refl)

net_fits : (z : ZoneNet) → nat_abs z.kw < 2 ^ 63
net_fits z = omega (arith, z.bounded)

net_again : (z : ZoneNet) → zone_net_of (integer_of (number z.kw)) ≡ Ok z
net_again z = ap zone_net_of (value_number z.kw) ∙ sym (zone_net_made z.kw z refl)

-- THE HEAD

pub net_there : (z : ZoneNet) → zone_net_line (codes "net" ∷ signed_decimal z.kw ∷ []) ≡ Ok z
net_there z = let r = signed_read z.kw (net_fits z) in rw (r.value, net_again z) refl

pub avoided_there : (p : Option Price) → avoided_line (codes "avoided" ∷ price_text p ∷ []) ≡ Ok p
avoided_there p = rw (price_there p (codes "avoided" ∷ price_text p ∷ []) 1 part.AvoidedValue refl) refl

-- WHAT IS TOLD OF SLOTS

abbrev pub told_words : Slot → Words
told_words None = codes "unreported" ∷ []
told_words (Some r) = signed_decimal r.demand.kw ∷ price_text r.up ∷ price_text r.down ∷ []

pub told_there : (w : List ℕ) (s : Slot) (r : Range) → told_by (w ∷ told_words s) r ≡ Ok s
told_there w None r = refl
told_there w (Some d) r =
    let k = signed_read d.demand.kw (demand_fits d.demand) in
    let ws : Words = w ∷ told_words (Some d) in
    let unreported : bytes_eq (signed_decimal d.demand.kw) (codes "unreported") ≡ false = k.first 117 (codes "nreported") (omega arith) in
    let mwh : bytes_eq (price_text d.up) (codes "MWh") ≡ false = price_letter d.up 77 (codes "Wh") (omega arith) in
    rw (unreported, mwh, k.value, demand_again d.demand, price_there d.up ws 2 part.UpPrice refl, price_there d.down ws 3 part.DownPrice refl) refl

pub told_split : (s : Slot) → words_of (told_text s) ≡ told_words s
told_split None = refl
told_split (Some d) =
    let k = signed_read d.demand.kw (demand_fits d.demand) in
    word_first (signed_decimal d.demand.kw) _ k.word
    ∙ ap (λ l. signed_decimal d.demand.kw ∷ l) (word_first (price_text d.up) (price_text d.down) (price_word d.up)
    ∙ ap (λ l. price_text d.up ∷ l) (word_last (price_text d.down) (price_word d.down)))

pub told_inline : (s : Slot) → inline (told_text s) ≡ true
told_inline None = refl
told_inline (Some d) =
    let k = signed_read d.demand.kw (demand_fits d.demand) in
    inline_joined (signed_decimal d.demand.kw) _ (inline_word (signed_decimal d.demand.kw) k.word.bytes)
    (and_from true _ refl (inline_joined (price_text d.up) _ (inline_word (price_text d.up) (price_word d.up).bytes)
    (and_from true _ refl (inline_word (price_text d.down) (price_word d.down).bytes))))

-- SLOTS

-- slots that stand on one line: cycles, or one manual slot
pub record OneLine (a b : ℕ) : Type 0 where
  pub order : a ≤ b
  pub within : b < SLOTS
  pub manual : CYCLES ≤ a → b ≡ a

slot_there : (n : ℕ) (w : List ℕ) → n < SLOTS → Writes n w → slot_of w ≡ Ok n
slot_there n w l h = rw (digits_read n w h, lt-ltb n SLOTS l) refl

module _ (a b : ℕ) (l : a ≤ b) (m : b < SLOTS) where
  low : Writes a (decimal a)
  low = decimal_writes a (omega (arith, l, m))

  high : Writes b (decimal b)
  high = decimal_writes b (omega (arith, m))

  one_there : numbered (decimal a) (position (λ x. x == 45) (decimal a)) ≡ Ok (slots_from_to a a)
  one_there = rw (no_place 45 (decimal a) refl low.only, slot_there a (decimal a) (omega (arith, l, m)) low) refl

  both_there : numbered (decimal a ++ (45 ∷ decimal b)) (position (λ x. x == 45) (decimal a ++ (45 ∷ decimal b))) ≡ Ok (slots_from_to a b)
  both_there =
      let rest : drop (length (decimal a) + 1) (decimal a ++ (45 ∷ decimal b)) ≡ decimal b = drop-append-add (decimal a) (45 ∷ decimal b) 1 in
      rw (place_after 45 (decimal a) (decimal b) refl low.only, take-append_seam (decimal a) (45 ∷ decimal b), rest, slot_there a (decimal a) (omega (arith, l, m)) low, slot_there b (decimal b) m high, le-leb a b l) refl

  range_word : Word (decimal a ++ (45 ∷ decimal b))
  range_word = record {
    bytes = plain_joined (decimal a) (45 ∷ decimal b) (digits_plain (decimal a) low.only) (and_from true _ refl (digits_plain (decimal b) high.only));
    some = omega (arith, low.some, length-append (decimal a) (45 ∷ decimal b));
  }

-- the word of slots is read as them, and not as that of the others
pub record SlotsRead (a b : ℕ) : Type 0 where
  pub word : Word (slots_text a b)
  pub no_others : bytes_eq (slots_text a b) (codes "others") ≡ false
  pub range : (ws : Words) → range_line (slots_text a b ∷ ws) ≡ Ok (slots_from_to a b)

manual_read : (a b : ℕ) → b ≡ a → Word (slots_text a a) → bytes_eq (slots_text a a) (codes "others") ≡ false → ((ws : Words) → range_line (slots_text a a ∷ ws) ≡ Ok (slots_from_to a a)) → SlotsRead a b
manual_read a b e w n r = subst (λ x. SlotsRead a x) (sym e) (record { word = w; no_others = n; range = r })

cycles_read : (a b : ℕ) (t : Bool) → (a == b) ≡ t → nat_lt a CYCLES ≡ true → a ≤ b → b < SLOTS → SlotsRead a b
cycles_read a b true e c l m =
    let same : a ≡ b = eqb-true a b e in
    let h = decimal_writes a (omega (arith, l, m)) in
    record {
      word = rw (c, e) (word_of_digits a (decimal a) h);
      no_others = rw (c, e) (digits_first a (decimal a) h 111 (codes "thers") (omega arith));
      range = λ ws. rw (c, e, digits_first a (decimal a) h 115 (codes "cheduled") (omega arith), digits_first a (decimal a) h 117 (codes "p") (omega arith), digits_first a (decimal a) h 100 (codes "own") (omega arith)) (one_there a b l m ∙ ap (λ n. Ok (slots_from_to a n)) same);
    }
cycles_read a b false e c l m =
    let h = decimal_writes a (omega (arith, l, m)) in
    let no : (x : ℕ) (v : List ℕ) → 65 ≤ x → bytes_eq (decimal a ++ (45 ∷ decimal b)) (x ∷ v) ≡ false = no_letter (decimal a) (45 ∷ decimal b) h.only h.some in
    record {
      word = rw (c, e) (range_word a b l m);
      no_others = rw (c, e) (no 111 (codes "thers") (omega arith));
      range = λ ws. rw (c, e, no 115 (codes "cheduled") (omega arith), no 117 (codes "p") (omega arith), no 100 (codes "own") (omega arith)) (both_there a b l m);
    }

pub slots_read : (a b : ℕ) → OneLine a b → SlotsRead a b
slots_read a b o =
    ⊎_elim
    (λ (e : a ≡ SCHEDULED). manual_read a b (o.manual (omega (arith, e))) (rw e (record { bytes = refl; some = omega arith })) (rw e refl) (λ ws. rw e refl))
    (λ (x : a ≡ SCHEDULED → ⊥). ⊎_elim
    (λ (e : a ≡ DIRECT_UP). manual_read a b (o.manual (omega (arith, e))) (rw e (record { bytes = refl; some = omega arith })) (rw e refl) (λ ws. rw e refl))
    (λ (y : a ≡ DIRECT_UP → ⊥). ⊎_elim
    (λ (e : a ≡ DIRECT_DOWN). manual_read a b (o.manual (omega (arith, e))) (rw e (record { bytes = refl; some = omega arith })) (rw e refl) (λ ws. rw e refl))
    (λ (z : a ≡ DIRECT_DOWN → ⊥). cycles_read a b (a == b) refl (lt-ltb a CYCLES (omega (arith, x, y, z, o.order, o.within))) o.order o.within)
    (cases_eq a DIRECT_DOWN))
    (cases_eq a DIRECT_UP))
    (cases_eq a SCHEDULED)

-- THE WORDS OF THE HEAD

pub net_words : (z : ZoneNet) → words_of (codes "net " ++ signed_decimal z.kw) ≡ codes "net" ∷ signed_decimal z.kw ∷ []
net_words z = word_first (codes "net") (signed_decimal z.kw) (record { bytes = refl; some = omega arith }) ∙ ap (λ w. codes "net" ∷ w) (word_last (signed_decimal z.kw) (signed_read z.kw (net_fits z)).word)

pub avoided_words : (p : Option Price) → words_of (codes "avoided " ++ price_text p) ≡ codes "avoided" ∷ price_text p ∷ []
avoided_words p = word_first (codes "avoided") (price_text p) (record { bytes = refl; some = omega arith }) ∙ ap (λ w. codes "avoided" ∷ w) (word_last (price_text p) (price_word p))

pub head_inline : (z : ZoneNet) (p : Option Price) → (inline (codes "net " ++ signed_decimal z.kw) ≡ true) × (inline (codes "avoided " ++ price_text p) ≡ true)
head_inline z p = (
  inline_joined (codes "net ") (signed_decimal z.kw) refl (inline_word (signed_decimal z.kw) (signed_read z.kw (net_fits z)).word.bytes),
  inline_joined (codes "avoided ") (price_text p) refl (inline_word (price_text p) (price_word p).bytes),
)
