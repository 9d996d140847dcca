-- A quarter, read line by line.
use Rattle.std.specs.Prelude.{ℕ, zero, suc, ◌+◌, ◌-◌, List, [], ◌∷◌, length, replicate, is_some, Some, None, Ok, Option, Result, slice_index_or, slice_set, if◌then◌else◌}
use Rattle.std.specs.Option.{unwrap_or}
use Rattle.units.specs.Chains.{result_and_then}
use Rattle.source.specs.Slots.{Slot}
use Rattle.source.specs.Tables.{idle}
use Rattle.source.specs.declared.slot.TheConstants.{SLOTS}
use Rattle.units.specs.declared.price.Price.{Price}
use Rattle.units.specs.declared.zone_net.ZoneNet.{ZoneNet}
use Rattle.words.specs.Faults.{at_word, in_line}
use Rattle.words.specs.Lines.{Words}
use Rattle.words.specs.Words.{lines_of, words_of}
use Rattle.quarter_text.specs.Faults.{ReadOrFault, TextFault}
use Rattle.quarter_text.specs.Lines.{avoided_line, is_of_others, others_line, range_line, told_by, zone_net_line}
use Rattle.quarter_text.specs.declared.draft.AvoidedValue.{AvoidedValue}
use Rattle.quarter_text.specs.declared.draft.AvoidedValue.TheVariants.{NotYetSaid, Said}
use Rattle.quarter_text.specs.declared.draft.Draft.{Draft}
use Rattle.quarter_text.specs.declared.fault.Part.TheVariants as part
use Rattle.quarter_text.specs.declared.fault.Problem.TheVariants.{Missing, NamedTwice, OthersTwice}
use Rattle.quarter_text.specs.declared.range.Range.{Range}
use Rattle.quarter_text.specs.declared.quarter.TextQuarter.{TextQuarter}

-- before the first line: no slot is named, and nothing is said of the others
abbrev pub blank : Draft
blank = record { zone_net = None; avoided = NotYetSaid; others = None; line_of_others = 0; named = replicate SLOTS None; lines = replicate SLOTS 0 }

-- the n slots from the first on are told so; the first of them that was named before is refused, with the line that named it
abbrev pub name_slots : List (Option Slot) → List ℕ → ℕ → ℕ → Slot → ReadOrFault (List (Option Slot))
name_slots named lines first zero s = Ok named
name_slots named lines first (suc n) s =
    result_and_then (name_slots named lines first n s)
    (λ l. if is_some (slice_index_or l (first + n) None) then at_word 0 (NamedTwice (first + n) (slice_index_or lines (first + n) 0)) else Ok (slice_set l (first + n) (Some s)))

-- the n slots from the first on are named by this line
abbrev pub name_lines : List ℕ → ℕ → ℕ → ℕ → List ℕ
name_lines lines first zero line = lines
name_lines lines first (suc n) line = slice_set (name_lines lines first n line) (first + n) line

-- a draft with these slots named, by these lines
abbrev pub with_slots : Draft → List (Option Slot) → List ℕ → Draft
with_slots d l f = record { zone_net = d.zone_net; avoided = d.avoided; others = d.others; line_of_others = d.line_of_others; named = l; lines = f }

-- a draft after the k-th line of the text, counted from 0, which is of slots
abbrev pub with_range : ℕ → Draft → Words → Range → ReadOrFault Draft
with_range k d ws r =
    result_and_then (told_by ws r)
    (λ told. result_and_then (name_slots d.named d.lines r.first (r.last + 1 - r.first) told)
    (λ named. Ok (with_slots d named (name_lines d.lines r.first (r.last + 1 - r.first) k))))

-- a draft after the k-th line, which says what the slots are that no line names; a second such line is refused, with the first
abbrev pub with_others : ℕ → Draft → Slot → ReadOrFault Draft
with_others k d s =
    if is_some d.others then at_word 0 (OthersTwice d.line_of_others)
    else Ok (record { zone_net = d.zone_net; avoided = d.avoided; others = Some s; line_of_others = k; named = d.named; lines = d.lines })

-- a draft after the k-th line, which is of slots, or of the others
abbrev pub with_slot_line : ℕ → Draft → Words → ReadOrFault Draft
with_slot_line k d ws = if is_of_others ws then result_and_then (others_line ws) (with_others k d) else result_and_then (range_line ws) (with_range k d ws)

-- a draft with this zone net
abbrev pub with_zone_net : Draft → ZoneNet → Draft
with_zone_net d z = record { zone_net = Some z; avoided = d.avoided; others = d.others; line_of_others = d.line_of_others; named = d.named; lines = d.lines }

-- a draft with this avoided value
abbrev pub with_avoided : Draft → Option Price → Draft
with_avoided d p = record { zone_net = d.zone_net; avoided = Said p; others = d.others; line_of_others = d.line_of_others; named = d.named; lines = d.lines }

-- a draft after the k-th line, which is not empty: first the zone net, then the avoided value, then slots
abbrev pub with_words : ℕ → Draft → Option ZoneNet → AvoidedValue → Words → ReadOrFault Draft
with_words k d None v ws = result_and_then (zone_net_line ws) (λ z. Ok (with_zone_net d z))
with_words k d (Some z) NotYetSaid ws = result_and_then (avoided_line ws) (λ p. Ok (with_avoided d p))
with_words k d (Some z) (Said v) ws = with_slot_line k d ws

-- a draft after the k-th line; an empty one says nothing
abbrev pub with_line : ℕ → Draft → Words → ReadOrFault Draft
with_line k d [] = Ok d
with_line k d (w ∷ ws) = with_words k d d.zone_net d.avoided (w ∷ ws)

-- a draft after these lines, of which the first is the n-th of the text; or their first fault
abbrev pub with_lines : ℕ → Draft → List (List ℕ) → Result Draft TextFault
with_lines n d [] = Ok d
with_lines n d (l ∷ ls) = result_and_then (in_line n (with_line n d (words_of l))) (λ e. with_lines (n + 1) e ls)

-- what n lines tell, or the part of the head that they leave out; slots that no line names are idle where no line says what they are
abbrev pub finished : ℕ → List (Option Slot) → Option Slot → Option ZoneNet → AvoidedValue → Result TextQuarter TextFault
finished n named others None v = in_line n (at_word 0 (Missing part.Net))
finished n named others (Some z) NotYetSaid = in_line n (at_word 0 (Missing part.Avoided))
finished n named others (Some z) (Said v) = Ok (record { zone_net = z; avoided = v; others = unwrap_or others idle; named = named })

-- the quarter of these lines, or the first fault; where they end too early, after the last
abbrev pub quarter_of_lines : List (List ℕ) → Result TextQuarter TextFault
quarter_of_lines ls = result_and_then (with_lines 0 blank ls) (λ d. finished (length ls) d.named d.others d.zone_net d.avoided)

-- the quarter of a text
abbrev pub quarter_of : List ℕ → Result TextQuarter TextFault
quarter_of text = quarter_of_lines (lines_of text)
