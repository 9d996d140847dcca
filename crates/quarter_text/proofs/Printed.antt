-- One slot more of a text that is printed.
use Rattle.std.proofs.Common.{◌≡◌, ℕ, ◌+◌, ◌++◌, true, false, List, sym, refl, ap, ◌∙◌, append-nil, append_assoc, add-one}
use Rattle.source.specs.Meanings.{Meaning}
use Rattle.source.specs.Slots.{Slot}
use Rattle.source.specs.declared.slot.TheConstants.{SLOTS}
use Rattle.quarter_text.specs.Texts.{ends_run, head_text, lines_to, others_of, run_start, runs_to, shown_run, text_of, text_with}

pub all_counted : (m : ℕ → Slot) (s : Slot) (k r : ℕ) → k ≡ SLOTS → r ≡ runs_to m s k → r ≡ runs_to m s SLOTS
all_counted m s k r e x = x ∙ ap (runs_to m s) e

-- before the first slot
pub none_printed : (o : Slot) (m : Meaning) (a : List ℕ) → a ≡ head_text m.zone.kw m.avoided o → (a ≡ head_text m.zone.kw m.avoided o ++ lines_to o m.slots 0) × (0 ≡ run_start m.slots 0)
unfolding lines_to run_start
none_printed o m a e = (e ∙ sym (append-nil (head_text m.zone.kw m.avoided o)), refl)

-- the run goes on
pub run_goes_on : (o : Slot) (m : ℕ → Slot) (k f : ℕ) (h a : List ℕ) → ends_run m k ≡ false → a ≡ h ++ lines_to o m k → f ≡ run_start m k → (a ≡ h ++ lines_to o m (k + 1)) × (f ≡ run_start m (k + 1))
unfolding lines_to run_start
run_goes_on o m k f h a e x y = (rw (add-one, e) (x ∙ ap (λ l. h ++ l) (sym (append-nil (lines_to o m k)))), rw (add-one, e) y)

-- the run is put
pub run_put : (o : Slot) (m : ℕ → Slot) (k f : ℕ) (s : Slot) (h a b : List ℕ) → ends_run m k ≡ true → s ≡ m k → a ≡ h ++ lines_to o m k → f ≡ run_start m k → b ≡ a ++ shown_run o f k s → (b ≡ h ++ lines_to o m (k + 1)) × (k + 1 ≡ run_start m (k + 1))
unfolding lines_to run_start
run_put o m k f s h a b e t x y z =
    let shown : shown_run o f k s ≡ shown_run o (run_start m k) k (m k) = ap (λ p. shown_run o p k s) y ∙ ap (λ q. shown_run o (run_start m k) k q) t in
    let put : b ≡ h ++ (lines_to o m k ++ shown_run o (run_start m k) k (m k)) = z ∙ ap (λ l. l ++ shown_run o f k s) x ∙ ap (λ r. (h ++ lines_to o m k) ++ r) shown ∙ append_assoc h (lines_to o m k) (shown_run o (run_start m k) k (m k)) in
    (rw (add-one, e) put, rw (add-one, e) refl)

pub all_printed : (o : Slot) (m : Meaning) (k : ℕ) (a : List ℕ) → o ≡ others_of m.slots → k ≡ SLOTS → a ≡ head_text m.zone.kw m.avoided o ++ lines_to o m.slots k → a ≡ text_of m
unfolding text_of
all_printed o m k a y e x = x ∙ ap (λ n. head_text m.zone.kw m.avoided o ++ lines_to o m.slots n) e ∙ ap (λ w. text_with w m) y
