-- The parts of a sheet, put one after another.
use Rattle.std.proofs.Common.{◌≡◌, ℕ, ◌+◌, ◌≤◌, List, ◌++◌, take, Option, ap, ◌∙◌, append_assoc, append-nil, add-one, arith}
use Rattle.std.proofs.lemmas.List.{take_all}
use Rattle.source.specs.declared.slot.TheConstants.{SLOTS}
use Rattle.sheet.specs.Heads.{opening}
use Rattle.source.specs.Meanings.{Meaning}
use Rattle.source.specs.Slots.{Slot}
use Rattle.units.specs.declared.price.Price.{Price}
use Rattle.units.specs.declared.zone_net.ZoneNet.{ZoneNet}
use Rattle.writing.specs.Bytes.{avoided_bytes, head_bytes, number_bytes, slots_bytes, sheet_bytes, slot_bytes}

-- the opening, the net and the avoided value are the head, with no slot after it
pub head_put : (m : Meaning) (i : ℕ) (z : ZoneNet) (o : Option Price) (a b c : List ℕ) → 4 ≤ i → z ≡ m.zone → o ≡ m.avoided
    → a ≡ take i opening → b ≡ a ++ number_bytes z.kw → c ≡ b ++ avoided_bytes o → c ≡ head_bytes m ++ slots_bytes m.slots 0
unfolding head_bytes slots_bytes
head_put m i z o a b c h ez eo x y w = grind (arith, append_assoc, append-nil, take_all i opening)

-- one slot more
pub slot_put : (m : ℕ → Slot) (k : ℕ) (s : Slot) (h a b : List ℕ) → s ≡ m k → a ≡ h ++ slots_bytes m k → b ≡ a ++ slot_bytes s → b ≡ h ++ slots_bytes m (k + 1)
unfolding slots_bytes
slot_put m k s h a b e x y = rw add-one (grind (arith, append_assoc))

pub all_put : (m : Meaning) (k : ℕ) (a : List ℕ) → k ≡ SLOTS → a ≡ head_bytes m ++ slots_bytes m.slots k → a ≡ sheet_bytes m
unfolding sheet_bytes
all_put m k a e x = x ∙ ap (λ n. head_bytes m ++ slots_bytes m.slots n) e
