-- A slot that is named twice ends the naming.
use Rattle.std.proofs.Common.{◌≡◌, ℕ, zero, suc, ◌+◌, ◌-◌, ◌<◌, ◌≤◌, true, List, length, is_some, None, Ok, Err, Option, slice_index_or, sym, refl, ap, ◌∙◌, subst, arith}
use Rattle.std.proofs.lemmas.List.{get_or_default}
use Rattle.source.specs.Slots.{Slot}
use Rattle.words.specs.Faults.{at_word}
use Rattle.quarter_text.specs.Faults.{WordFault}
use Rattle.quarter_text.specs.Drafts.{name_slots}
use Rattle.quarter_text.specs.declared.fault.Problem.TheVariants.{NamedTwice}

abbrev Refused : List (Option Slot) → List ℕ → ℕ → ℕ → Slot → WordFault → Type 0
Refused l f first n s e = name_slots l f first n s ≡ Err e

refused_on : (l : List (Option Slot)) (f : List ℕ) (first k m : ℕ) (s : Slot) (e : WordFault) → Refused l f first k s e → Refused l f first (m + k) s e
refused_on l f first k zero s e h = let z : k ≡ 0 + k = omega arith in subst (λ n. Refused l f first n s e) z h
refused_on l f first k (suc m) s e h =
    let z : suc (m + k) ≡ suc m + k = omega arith in
    let one : Refused l f first (suc (m + k)) s e = rw (refused_on l f first k m s e h) refl in
    subst (λ n. Refused l f first n s e) z one

pub named_twice : (l g : List (Option Slot)) (f : List ℕ) (first slot n : ℕ) (s : Slot) (d : Option Slot) → first ≤ slot → name_slots l f first (slot - first) s ≡ Ok g → true ≡ is_some (slice_index_or g slot d) → slot < length g → slot < first + n → name_slots l f first n s ≡ at_word 0 (NamedTwice slot (slice_index_or f slot 0))
named_twice l g f first slot n s d low h t len b =
    let k : ℕ = slot - first in
    let at : first + k ≡ slot = omega (arith, low) in
    let t' : is_some (slice_index_or g slot None) ≡ true = ap is_some (get_or_default g slot None d len) ∙ sym t in
    let t'' : is_some (slice_index_or g (first + k) None) ≡ true = subst (λ x. is_some (slice_index_or g x None) ≡ true) (sym at) t' in
    let one : Refused l f first (suc k) s (record { word = 0; problem = NamedTwice (first + k) (slice_index_or f (first + k) 0) }) = rw (h, t'') refl in
    let z : (n - suc k) + suc k ≡ n = omega (arith, b, low) in
    subst (λ x. Refused l f first n s (record { word = 0; problem = NamedTwice x (slice_index_or f x 0) })) at
    (subst (λ m. Refused l f first m s (record { word = 0; problem = NamedTwice (first + k) (slice_index_or f (first + k) 0) })) z (refused_on l f first (suc k) (n - suc k) s _ one))
