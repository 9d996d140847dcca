-- A number is read back as it was written, and was written in the one form that is read.
use Rattle.std.proofs.Common.{◌≡◌, ℕ, ◌+◌, ◌^◌, ◌<◌, ◌≤◌, Bool, true, false, T, leb, List, [], ◌∷◌, ◌++◌, length, drop, ℤ, pos, negsuc, nat_abs, Ok, Err, Result, sym, refl, ap, ◌∙◌, arith}
use Rattle.std.proofs.ByRecursion.{All-drop}
use Rattle.std.proofs.lemmas.List.{drop-drop}
use Rattle.std.proofs.lemmas.Bool.Decides.{nat_tests}
use Rattle.std.specs.List.{AllByRecursion}
use Rattle.units.proofs.Made.{demand_made, price_made, zone_net_made}
use Rattle.units.specs.declared.bounds.OutOfBounds.{OutOfBounds}
use Rattle.units.specs.declared.bounds.OutOfBounds.TheVariants as is
use Rattle.units.specs.declared.demand.Demand.{Demand}
use Rattle.units.specs.declared.price.Price.{Price}
use Rattle.units.specs.declared.zone_net.ZoneNet.{ZoneNet}
use Rattle.units.specs.Quantities.{demand_of, price_of, zone_net_of}
use Rattle.units.specs.declared.bounds.TheConstants.{MOST_CENTS, MOST_KW, MOST_ZONE_KW}
use Rattle.units.specs.steps.Made.{if_t}
use Rattle.sheet.specs.declared.fault.Spot.{Spot}
use Rattle.sheet.specs.Groups.{groups, Groups, unfolded}
use Rattle.sheet.specs.Numbers.{quantity, ahead}
use Rattle.sheet.proofs.Places.{bounded, judged}
use Rattle.writing.specs.Bytes.{folded, groups_of, number_bytes}

-- groups are read back, whatever follows them
groups_back : (u : ℕ) (rest : List ℕ) → u < 2 ^ 28 → ◌≡◌ {A = Groups} (groups (groups_of u ++ rest)) (Ok (u, length (groups_of u)))
groups_back u rest h = grind (arith, nat_tests)

-- and stood in the form that is written
groups_form : (s : List ℕ) (u n : ℕ) → AllByRecursion (λ b. b < 256) s → ◌≡◌ {A = Groups} (groups s) (Ok (u, n)) → s ≡ groups_of u ++ drop n s
groups_form [] u n b e = grind (arith, nat_tests)
groups_form (x ∷ []) u n b e = grind (arith, nat_tests)
groups_form (x ∷ y ∷ []) u n b e = grind (arith, nat_tests)
groups_form (x ∷ y ∷ z ∷ []) u n b e = grind (arith, nat_tests)
groups_form (x ∷ y ∷ z ∷ t ∷ r) u n b e = grind (arith, nat_tests)

unfolded_folded : (z : ℤ) → unfolded (folded z) ≡ z
unfolded_folded (pos n) = grind (arith, nat_tests)
unfolded_folded (negsuc n) = grind (arith, nat_tests)

folded_unfolded : (u : ℕ) → folded (unfolded u) ≡ u
folded_unfolded u = grind (arith, nat_tests)

folded_below : (z : ℤ) → nat_abs z ≤ 100_000_000 → folded z < 2 ^ 28
folded_below (pos n) h = omega arith
folded_below (negsuc n) h = omega arith

module _ {Q : Type 0} (made : ℤ → Result Q OutOfBounds) (p : Spot) (s : List ℕ) (from : ℕ) where
  -- the number z at the place from is read as the quantity made of it
  pub number_back : (q : Q) (z : ℤ) (rest : List ℕ) → drop from s ≡ number_bytes z ++ rest → nat_abs z ≤ 100_000_000 → Ok q ≡ made z
      → quantity made p s from ≡ Ok (q, from + length (number_bytes z))
  unfolding quantity number_bytes
  number_back q z rest e l m =
      ap (λ t. judged made p s from (groups t)) e
      ∙ (ap (judged made p s from) (groups_back (folded z) rest (folded_below z l))
      ∙ (ap (λ w. bounded (ahead p from) (from + length (number_bytes z)) (made w)) (unfolded_folded z)
      ∙ ap (bounded (ahead p from) (from + length (number_bytes z))) (sym m)))

  -- a quantity that was read is made of the number that stood there
  module _ (val : Q → ℤ) (of : (z : ℤ) (q : Q) → made z ≡ Ok q → z ≡ val q) (b : AllByRecursion (λ x. x < 256) s) (q : Q) (end : ℕ) where
    within : (z : ℤ) (n : ℕ) (r : Result Q OutOfBounds) → made z ≡ r → bounded (ahead p from) (from + n) r ≡ Ok (q, end) → (z ≡ val q) × (from + n ≡ end)
    within z n (Ok x) m e = grind (arith, of z q)
    within z n (Err x) m e = cc

    by_groups : (g : Groups) → groups (drop from s) ≡ g → judged made p s from g ≡ Ok (q, end) → drop from s ≡ number_bytes (val q) ++ drop end s
    unfolding number_bytes
    by_groups (Ok g) e h =
        let w = within (unfolded g.0) g.1 (made (unfolded g.0)) refl h in
        grind (arith, groups_form (drop from s) g.0 g.1 (All-drop (λ x. x < 256) from s b) e, folded_unfolded g.0, drop-drop g.1 from s)
    by_groups (Err x) e h = grind (arith, nat_tests)

    pub number_form : quantity made p s from ≡ Ok (q, end) → drop from s ≡ number_bytes (val q) ++ drop end s
    unfolding quantity
    number_form e = by_groups (groups (drop from s)) refl e

-- what is made of a number within its bounds has that number
value_of : {Q : Type 0} (c : Bool) (make : T c → Q) (x : OutOfBounds) (val : Q → ℤ) (z : ℤ) → ((h : T c) → z ≡ val (make h))
    → (q : Q) → if_t c (λ h. Ok (make h)) (Err x) ≡ Ok q → z ≡ val q
value_of true make x val z of q e = grind (arith, of tt)
value_of false make x val z of q e = cc

module _ (p : Spot) (s : List ℕ) (from : ℕ) where
  pub demand_back : (d : Demand) (rest : List ℕ) → drop from s ≡ number_bytes d.kw ++ rest → quantity demand_of p s from ≡ Ok (d, from + length (number_bytes d.kw))
  demand_back d rest e = number_back demand_of p s from d d.kw rest e (omega (arith, d.bounded)) (demand_made d.kw d refl)

  pub price_back : (u : Price) (rest : List ℕ) → drop from s ≡ number_bytes u.cents ++ rest → quantity price_of p s from ≡ Ok (u, from + length (number_bytes u.cents))
  price_back u rest e = number_back price_of p s from u u.cents rest e (omega (arith, u.bounded)) (price_made u.cents u refl)

  pub net_back : (z : ZoneNet) (rest : List ℕ) → drop from s ≡ number_bytes z.kw ++ rest → quantity zone_net_of p s from ≡ Ok (z, from + length (number_bytes z.kw))
  net_back z rest e = number_back zone_net_of p s from z z.kw rest e z.bounded (zone_net_made z.kw z refl)

  module _ (b : AllByRecursion (λ x. x < 256) s) where
    pub demand_form : (g : Demand × ℕ) → quantity demand_of p s from ≡ Ok g → drop from s ≡ number_bytes g.0.kw ++ drop g.1 s
    demand_form g = number_form demand_of p s from (λ d. d.kw) (λ z. value_of (leb (nat_abs z) MOST_KW) _ is.Demand (λ d. d.kw) z (λ h. refl)) b g.0 g.1

    pub price_form : (g : Price × ℕ) → quantity price_of p s from ≡ Ok g → drop from s ≡ number_bytes g.0.cents ++ drop g.1 s
    price_form g = number_form price_of p s from (λ u. u.cents) (λ z. value_of (leb (nat_abs z) MOST_CENTS) _ is.Price (λ u. u.cents) z (λ h. refl)) b g.0 g.1

    pub net_form : (g : ZoneNet × ℕ) → quantity zone_net_of p s from ≡ Ok g → drop from s ≡ number_bytes g.0.kw ++ drop g.1 s
    net_form g = number_form zone_net_of p s from (λ u. u.kw) (λ z. value_of (leb (nat_abs z) MOST_ZONE_KW) _ is.ZoneNet (λ u. u.kw) z (λ h. refl)) b g.0 g.1
