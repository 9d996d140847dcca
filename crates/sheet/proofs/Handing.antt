-- What a reader hands out, one step after another.
use Rattle.std.proofs.Common.{◌≡◌, ℕ, suc, ◌+◌, ◌-◌, ◌<◌, ◌≤◌, List, drop, ap, arith}
use Rattle.source.specs.declared.slot.TheConstants.{SLOTS}
use Rattle.sheet.specs.Readers.{fault_alone, records_from, in_sheet, record_at, record_and_later}
use Rattle.sheet.specs.Slots.{spot_at}
use Rattle.sheet.specs.Sheets.{nothing_follows}

handed_more : (k j : ℕ) (s : List ℕ) (i at : ℕ) → j ≡ suc k → records_from j s i at ≡ record_and_later (in_sheet (record_at (spot_at at i) (drop at s))) (λ n. records_from k s (i + 1) (at + n))
unfolding records_from
handed_more k j s i at e = ap (λ j. records_from j s i at) e

handed_none : (j : ℕ) (s : List ℕ) (i at : ℕ) → j ≡ 0 → records_from j s i at ≡ fault_alone (nothing_follows s at)
unfolding records_from
handed_none j s i at e = ap (λ j. records_from j s i at) e

-- at a slot: its record, and what follows
pub left_more : (s : List ℕ) (i at : ℕ) → i < SLOTS
    → records_from (SLOTS - i) s i at ≡ record_and_later (in_sheet (record_at (spot_at at i) (drop at s))) (λ n. records_from (SLOTS - (i + 1)) s (i + 1) (at + n))
left_more s i at h = handed_more (SLOTS - (i + 1)) (SLOTS - i) s i at (omega arith)

-- after the last slot: no byte may follow
pub left_last : (s : List ℕ) (i at : ℕ) → SLOTS ≤ i → records_from (SLOTS - i) s i at ≡ fault_alone (nothing_follows s at)
left_last s i at h = handed_none (SLOTS - i) s i at (omega arith)
