-- The text of what a source means.
use Rattle.std.specs.Prelude.{ℕ, zero, suc, ◌+◌, Bool, true, false, not, ◌&&◌, ◌||◌, List, [], ◌∷◌, ◌++◌, ℤ, Some, None, Ok, Err, Option, Result, ◌==◌, nat_le, nat_lt, decimal, codes, if◌then◌else◌}
use Rattle.std.specs.Fmt.{signed_decimal}
use Rattle.std.specs.Ordering.{int_eq}
use Rattle.source.specs.Meanings.{Meaning}
use Rattle.source.specs.Products.{product_of}
use Rattle.source.specs.Slots.{Slot}
use Rattle.source.specs.Tables.{idle}
use Rattle.source.specs.declared.product.Product.{Product}
use Rattle.source.specs.declared.product.Product.TheVariants.{Automatic, Manual}
use Rattle.source.specs.declared.product.TheConstants.{CYCLES}
use Rattle.source.specs.declared.slot.NoSuchSlot.{NoSuchSlot}
use Rattle.source.specs.declared.slot.TheConstants.{SLOTS}
use Rattle.units.specs.Text.{euros}
use Rattle.units.specs.declared.price.Price.{Price}
use Rattle.words.specs.Marks.{dash, line_end, space}
use Rattle.quarter_text.specs.Products.{product_word}

-- euros, or a - where there is no price
abbrev pub price_text : Option Price → List ℕ
price_text None = codes "-"
price_text (Some p) = euros p.cents

-- the number of a cycle, or of the first and the last of a range
abbrev pub cycles_text : ℕ → ℕ → List ℕ
cycles_text a b = if a == b then decimal a else (decimal a ++ (dash ∷ decimal b))

-- the slots from a to b, by the product of the first
abbrev pub slots_by : Result Product NoSuchSlot → ℕ → ℕ → List ℕ
slots_by (Ok (Manual p)) a b = product_word p
slots_by (Ok Automatic) a b = cycles_text a b
slots_by (Err e) a b = cycles_text a b

-- the word of a manual slot, or the numbers of cycles
abbrev pub slots_text : ℕ → ℕ → List ℕ
slots_text a b = slots_by (product_of a) a b

-- what is told of a slot
abbrev pub told_text : Slot → List ℕ
told_text None = codes "unreported"
told_text (Some r) = signed_decimal r.demand.kw ++ (space ∷ (price_text r.up ++ (space ∷ price_text r.down)))

-- the line of the slots from a to b
abbrev pub run_text : ℕ → ℕ → Slot → List ℕ
run_text a b s = slots_text a b ++ (space ∷ (told_text s ++ (line_end ∷ [])))

-- whether two prices are the same
abbrev pub same_price : Option Price → Option Price → Bool
same_price None None = true
same_price None (Some q) = false
same_price (Some p) None = false
same_price (Some p) (Some q) = int_eq p.cents q.cents

-- whether the same is told of two slots
abbrev pub same_slot : Slot → Slot → Bool
same_slot None None = true
same_slot None (Some b) = false
same_slot (Some a) None = false
same_slot (Some a) (Some b) = int_eq a.demand.kw b.demand.kw && same_price a.up b.up && same_price a.down b.down

-- whether k is the last slot of its line: equal cycles that follow one another stand on one line
unfoldable pub ends_run : (ℕ → Slot) → ℕ → Bool
ends_run m k = nat_le CYCLES (k + 1) || not (same_slot (m k) (m (k + 1)))

-- the first slot of the run in which k stands
unfoldable pub run_start : (ℕ → Slot) → ℕ → ℕ
run_start m zero = 0
run_start m (suc k) = if ends_run m k then suc k else run_start m k

-- how many runs of slots of which s is told end among the first n slots
unfoldable pub runs_to : (ℕ → Slot) → Slot → ℕ → ℕ
runs_to m s zero = 0
runs_to m s (suc k) = if ends_run m k && same_slot (m k) s then runs_to m s k + 1 else runs_to m s k

-- what the slots that have no line are: unreported where that makes fewer lines, with the one that says so; else idle
abbrev pub others_of : (ℕ → Slot) → Slot
others_of m = if nat_lt (runs_to m idle SLOTS + 1) (runs_to m None SLOTS) then None else idle

-- the line that says that the slots that have no line are unreported; idle ones are not spoken of
abbrev pub others_text : Slot → List ℕ
others_text None = codes "others unreported" ++ (line_end ∷ [])
others_text (Some r) = []

-- the lines before those of slots: the zone net, the avoided value, and what the others are
unfoldable pub head_text : ℤ → Option Price → Slot → List ℕ
head_text net avoided others = codes "net " ++ (signed_decimal net ++ (line_end ∷ (codes "avoided " ++ (price_text avoided ++ (line_end ∷ others_text others)))))

-- the line of the slots from a to b, of which the same is told; there is none where the others are the same
abbrev pub shown_run : Slot → ℕ → ℕ → Slot → List ℕ
shown_run others a b s = if same_slot s others then [] else run_text a b s

-- the line of the run that ends at k, if one does
abbrev pub line_of : Slot → (ℕ → Slot) → ℕ → List ℕ
line_of others m k = if ends_run m k then shown_run others (run_start m k) k (m k) else []

-- the lines of the first n slots
unfoldable pub lines_to : Slot → (ℕ → Slot) → ℕ → List ℕ
lines_to others m zero = []
lines_to others m (suc k) = lines_to others m k ++ line_of others m k

-- the text of what a source means, in which the slots that have no line are these
abbrev pub text_with : Slot → Meaning → List ℕ
text_with others m = head_text m.zone.kw m.avoided others ++ lines_to others m.slots SLOTS

-- the text of what a source means: the zone net, the avoided value, and the slots that are not as the others are
unfoldable pub text_of : Meaning → List ℕ
text_of m = text_with (others_of m.slots) m
