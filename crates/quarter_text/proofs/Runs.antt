-- The lines of a printed text, read one after another, name the slots that are not idle.
use Rattle.std.proofs.Common.{◌≡◌, ℕ, zero, suc, ◌+◌, ◌<◌, ◌≤◌, true, false, not, ◌&&◌, nat_le, List, length, get_or, set, Some, None, Ok, Option, sym, refl, ap, ◌∙◌, subst, get_or-set_same, get_or-set_other, ◌⊎◌, inl, inr, ⊎_elim, arith}
use Rattle.std.proofs.lemmas.Bool.Decides.{Decides-int_eq}
use Rattle.std.proofs.lemmas.Bool.{and_parts, or_parts, leb-false, cases_Bool, cases_eq}
use Rattle.std.proofs.lemmas.List.{length-set}
use Rattle.std.specs.Ordering.{int_eq}
use Rattle.source.specs.Slots.{Slot}
use Rattle.source.specs.declared.product.TheConstants.{CYCLES}
use Rattle.units.proofs.Made.{demand_same, price_same}
use Rattle.units.specs.declared.price.Price.{Price}
use Rattle.source.specs.declared.slot.TheConstants.{SLOTS}
use Rattle.quarter_text.specs.Drafts.{name_slots}
use Rattle.quarter_text.specs.Texts.{ends_run, run_start, same_price, same_slot}
use Rattle.quarter_text.proofs.LineTrips.{OneLine}

-- THE SAME SLOT

price_is : (p q : Option Price) → same_price p q ≡ true → p ≡ q
price_is None None e = refl
price_is None (Some q) e = cc
price_is (Some p) None e = cc
price_is (Some p) (Some q) e = ap Some (price_same p q ((Decides-int_eq p.cents q.cents).0 e))

pub slot_is : (s t : Slot) → same_slot s t ≡ true → s ≡ t
slot_is None None e = refl
slot_is None (Some b) e = cc
slot_is (Some a) None e = cc
slot_is (Some a) (Some b) e =
    let x = and_parts (int_eq a.demand.kw b.demand.kw && same_price a.up b.up) (same_price a.down b.down) e in
    let y = and_parts (int_eq a.demand.kw b.demand.kw) (same_price a.up b.up) x.0 in
    let d = demand_same a.demand b.demand ((Decides-int_eq a.demand.kw b.demand.kw).0 y.0) in
    let u = price_is a.up b.up y.1 in
    let v = price_is a.down b.down x.1 in
    ap Some (λ i. record { demand = d i; up = u i; down = v i })

-- A RUN

module _ (m : ℕ → Slot) where
  -- a slot after which the run goes on
  pub goes_on : (k : ℕ) → ends_run m k ≡ false → (m k ≡ m (suc k)) × (k + 1 < CYCLES)
  unfolding ends_run
  goes_on k e =
      let s = or_parts (nat_le CYCLES (k + 1)) (not (same_slot (m k) (m (k + 1)))) e in
      let same : same_slot (m k) (m (k + 1)) ≡ true = grind (arith, s.1) in
      (slot_is (m k) (m (k + 1)) same ∙ ap m (omega arith), leb-false CYCLES (k + 1) s.0)

  pub start_next : (k : ℕ) → ends_run m k ≡ true → run_start m (suc k) ≡ suc k
  unfolding run_start
  start_next k e = rw e refl

  pub start_stays : (k : ℕ) → ends_run m k ≡ false → run_start m (suc k) ≡ run_start m k
  unfolding run_start
  start_stays k e = rw e refl

  pub start_first : run_start m 0 ≡ 0
  unfolding run_start
  start_first = refl

  pub start_low : (k : ℕ) → run_start m k ≤ k
  start_low zero = omega (arith, start_first)
  start_low (suc k) = ⊎_elim
      (λ (e : ends_run m k ≡ true). omega (arith, start_next k e))
      (λ (e : ends_run m k ≡ false). omega (arith, start_stays k e, start_low k))
      (cases_Bool (ends_run m k))

  -- the slots of a run are the same as its last
  pub in_run : (k i : ℕ) → run_start m k ≤ i → i ≤ k → m i ≡ m k
  in_run zero i l h = ap m (omega (arith, h))
  in_run (suc k) i l h = ⊎_elim
      (λ (e : ends_run m k ≡ true). ap m (omega (arith, h, l, start_next k e)))
      (λ (e : ends_run m k ≡ false). ⊎_elim
      (λ (s : i ≡ suc k). ap m s)
      (λ (n : i ≡ suc k → ⊥). in_run k i (omega (arith, l, start_stays k e)) (omega (arith, h, n)) ∙ (goes_on k e).0)
      (cases_eq i (suc k)))
      (cases_Bool (ends_run m k))

  -- manual slots stand alone
  pub one_line : (k : ℕ) → k < SLOTS → OneLine (run_start m k) k
  one_line k l = record { order = start_low k; within = l; manual = alone k }
    where
      alone : (k : ℕ) → CYCLES ≤ run_start m k → k ≡ run_start m k
      alone zero h = omega (arith, h, start_first)
      alone (suc k) h = ⊎_elim
          (λ (e : ends_run m k ≡ true). sym (start_next k e))
          (λ (e : ends_run m k ≡ false). omega (arith, h, start_stays k e, start_low k, (goes_on k e).1))
          (cases_Bool (ends_run m k))

-- NAMING

-- the n slots from a on are told to be s, and the others as before
pub record Named (l : List (Option Slot)) (a n : ℕ) (s : Slot) : Type 0 where
  pub named : List (Option Slot)
  pub is : (f : List ℕ) → name_slots l f a n s ≡ Ok named
  pub long : length named ≡ length l
  pub inside : (i : ℕ) → a ≤ i → i < a + n → get_or named i None ≡ Some s
  pub outside : (i : ℕ) → (i < a) ⊎ (a + n ≤ i) → get_or named i None ≡ get_or l i None

named_more : (l : List (Option Slot)) (a n : ℕ) (s : Slot) → a + suc n ≤ length l → get_or l (a + n) None ≡ None → Named l a n s → Named l a (suc n) s
named_more l a n s h e k =
    let g = k.named in
    let free : get_or g (a + n) None ≡ None = k.outside (a + n) (inr (omega arith)) ∙ e in
    let room : a + n < length g = omega (arith, h, k.long) in
    record {
      named = set g (a + n) (Some s);
      is = λ f. rw (k.is f, free) refl;
      long = length-set g (a + n) (Some s) ∙ k.long;
      inside = λ i x y. ⊎_elim
          (λ (z : i ≡ a + n). subst (λ j. get_or (set g (a + n) (Some s)) j None ≡ Some s) (sym z) (get_or-set_same g (a + n) (Some s) None room))
          (λ (z : i ≡ a + n → ⊥). get_or-set_other g (a + n) i (Some s) None z ∙ k.inside i x (omega (arith, y, z)))
          (cases_eq i (a + n));
      outside = λ i x.
          let z : i ≡ a + n → ⊥ = ⊎_elim (λ (y : i < a) w. omega (arith, y, w)) (λ (y : a + suc n ≤ i) w. omega (arith, y, w)) x in
          let o : (i < a) ⊎ (a + n ≤ i) = ⊎_elim (λ (y : i < a). inl y) (λ (y : a + suc n ≤ i). inr (omega (arith, y))) x in
          get_or-set_other g (a + n) i (Some s) None z ∙ k.outside i o;
    }

pub named_run : (l : List (Option Slot)) (a n : ℕ) (s : Slot) → a + n ≤ length l → ((i : ℕ) → a ≤ i → i < a + n → get_or l i None ≡ None) → Named l a n s
named_run l a zero s h free = record { named = l; is = λ f. refl; long = refl; inside = λ i x y. absurd (omega (arith, x, y)); outside = λ i x. refl }
named_run l a (suc n) s h free = named_more l a n s h (free (a + n) (omega arith) (omega arith)) (named_run l a n s (omega (arith, h)) (λ i x y. free i x (omega (arith, y))))
