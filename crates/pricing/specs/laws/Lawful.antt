-- Each rule of price of the table keeps the laws, and so does a rulebook that goes by one.
use Rattle.std.specs.Prelude.{◌≡◌, ℕ, zero, suc, ◌≤◌, Bool, true, false, if◌then◌else◌, ◌||◌, ℤ, pos, ◌+ℤ◌, ◌*ℤ◌, ◌<ℤ◌, is_some, Some, None, Option, ◌≢◌, int_lt, nat_lt, refl}
use Rattle.std.proofs.Common.{ap, subst, ◌∙◌, arith}
use Rattle.std.proofs.lemmas.Int.{ints}
use Rattle.std.proofs.lemmas.Bool.{cond_both, cond-true, lt-ltb, ltb-false, or_parts}
use Rattle.std.specs.Option.{option_map}
use Rattle.figures.specs.Components.{Component, automatic_mean, counting_price, cycles_extreme, extreme, extreme_of_span, formed_price, manual_counts, manual_extreme, quotient, side_in, turnover, volume, weighted_mean, manual_turnover}
use Rattle.figures.specs.declared.quarter_figures.Figures.{Figures}
use Rattle.figures.specs.declared.side.Manual.{Manual}
use Rattle.figures.specs.declared.side.Side.{Side}
use Rattle.figures.specs.declared.span.Span.{Span}
use Rattle.figures.proofs.Counted.{by_part, counts_shown}
use Rattle.figures.proofs.Facts.{sound_in}
use Rattle.figures.proofs.Sound.{ManualSound, Sound}
use Rattle.source.specs.declared.direction.Direction.{Direction}
use Rattle.source.specs.declared.direction.Direction.TheVariants.{Up, Down}
use Rattle.units.specs.Exact.{Exact, exact_of_price}
use Rattle.source.specs.Directions.{toward}
use Rattle.pricing.specs.FourLaws.{IsNoLessExtremeThanMean, IsInNetsDirection, IsFromFormed, IsNotAvoidedWhereCounting, KeepsLaws, LiesWithin}
use Rattle.pricing.specs.Outcomes.{avoided, decided, decided_in, net_of, outcome_at}
use Rattle.pricing.specs.Rulings.{PriceRule, automatic_or_manual, by_net, extreme_counting, finnish_price, mean_or_manual, mean_price}
use Rattle.pricing.specs.declared.ruling.Net.{Net}
use Rattle.pricing.specs.laws.Covers.{Covers, covers_add, covers_cycles, covers_manual, covers_none, covers_quotient, no_turnover}
use Rattle.pricing.specs.laws.Fits.{automatic_fits, counting_fits, cycles_fit, formed_fits, mean_fits, over_fits}
use Rattle.pricing.specs.laws.Outer.{formed_or_avoided}
use Rattle.pricing.specs.laws.Reach.{WhereExists, Positive, Tops, extreme_first, extreme_keeps, extreme_second, extreme_tops, tops_parts, tops_self}

-- the price exists where something counts, comes from formed prices, and is as extreme as the weighted mean
pub record IsLawfulRule (price : PriceRule) : Type 0 where
  pub exists : (d : Direction) (s : Side) → Sound s → 1 ≤ volume s → is_some (price d s) ≡ true
  pub fits : (d : Direction) (s : Side) → Sound s → WhereExists (LiesWithin s.formed) (price d s)
  pub covers : (d : Direction) (s : Side) (r : Exact) → Sound s → price d s ≡ Some r → Covers d r (turnover s) (volume s)

-- ---- from a rule of price to its rulebook
true_lt : (x y : ℤ) → int_lt x y ≡ true → x <ℤ y
true_lt x y e = grind (arith, ints)

follows_up : (z : ℤ) (o : Component) → pos 0 <ℤ z → IsInNetsDirection z (outcome_at Up o)
follows_up z None h = tt
follows_up z (Some q) h = h

follows_down : (z : ℤ) (o : Component) → z <ℤ pos 0 → IsInNetsDirection z (outcome_at Down o)
follows_down z None h = tt
follows_down z (Some q) h = h

follows_at : (z : ℤ) (price : Direction → Component) (a b : Bool) → (a ≡ true → pos 0 <ℤ z) → (b ≡ true → z <ℤ pos 0) → IsInNetsDirection z (decided_in (if a then Some Up else if b then Some Down else None) price)
follows_at z price true b h g = follows_up z (price Up) (h refl)
follows_at z price false true h g = follows_down z (price Down) (g refl)
follows_at z price false false h g = tt

follows : (z : ℤ) (price : Direction → Component) → IsInNetsDirection z (decided z price)
follows z price = follows_at z price (int_lt (pos 0) z) (int_lt z (pos 0)) (true_lt (pos 0) z) (true_lt z (pos 0))

outcome_some : (d : Direction) (o : Component) → is_some o ≡ true → outcome_at d o ≢ avoided
outcome_some d None e x = let z : ◌≡◌ {A = ℕ} 0 1 = cc in omega arith
outcome_some d (Some q) e x = let z : ◌≡◌ {A = ℕ} 0 1 = cc in omega arith

outcome_formed : (f : Figures) (d : Direction) (o : Component) → WhereExists (LiesWithin (side_in d f).formed) o → IsFromFormed f (outcome_at d o)
outcome_formed f d None h = tt
outcome_formed f d (Some q) h = h

outcome_beyond : (f : Figures) (d : Direction) (o : Component) → ((r : Exact) → o ≡ Some r → Covers d r (turnover (side_in d f)) (volume (side_in d f))) → IsNoLessExtremeThanMean f (outcome_at d o)
outcome_beyond f d None h = tt
outcome_beyond f d (Some q) h = h q refl

module _ (price : PriceRule) (lawful : IsLawfulRule price) (z : ℤ) (f : Figures) where
  heeds : IsNotAvoidedWhereCounting z f (decided z (λ d. price d (side_in d f)))
  heeds m d g e c x =
      outcome_some d (price d (side_in d f)) (lawful.exists d (side_in d f) (sound_in f d) ((counts_shown m f g d).1 c))
      (subst (λ t. decided_in t (λ d. price d (side_in d f)) ≡ avoided) e x)

  formed_in : (t : Option Direction) → IsFromFormed f (decided_in t (λ d. price d (side_in d f)))
  formed_in None = tt
  formed_in (Some d) = outcome_formed f d (price d (side_in d f)) (lawful.fits d (side_in d f) (sound_in f d))

  from_formed : IsFromFormed f (decided z (λ d. price d (side_in d f)))
  from_formed = formed_in (toward z)

  beyond_in : (t : Option Direction) → IsNoLessExtremeThanMean f (decided_in t (λ d. price d (side_in d f)))
  beyond_in None = tt
  beyond_in (Some d) = outcome_beyond f d (price d (side_in d f)) (λ r e. lawful.covers d (side_in d f) r (sound_in f d) e)

  beyond_mean : IsNoLessExtremeThanMean f (decided z (λ d. price d (side_in d f)))
  beyond_mean = beyond_in (toward z)

pub rulebook_keeps : (net : Net) (price : PriceRule) → IsLawfulRule price → (f : Figures) → KeepsLaws net f (by_net net price f)
rulebook_keeps net price lawful f =
    let z = net_of net f in
    record {
      direction = follows z (λ d. price d (side_in d f));
      counting = heeds price lawful z f;
      formed = formed_or_avoided f (by_net net price f) (from_formed price lawful z f);
      mean = beyond_mean price lawful z f;
    }

-- and its price lies within the formed prices alone
pub rule_from_formed : (net : Net) (price : PriceRule) → IsLawfulRule price → (f : Figures) → IsFromFormed f (by_net net price f)
rule_from_formed net price lawful f = from_formed price lawful (net_of net f) f

-- ---- what the rules share
pub quotient_exists : (x : ℤ) (v : ℕ) → 1 ≤ v → is_some (quotient x v) ≡ true
quotient_exists x v h = ap is_some (cond-true (nat_lt 0 v) (Some (record { n = x; d = v })) None (lt-ltb 0 v h))

mapped_exists : {X : Type 0} (g : X → Exact) (o : Option X) → is_some o ≡ true → is_some (option_map g o) ≡ true
mapped_exists g None e = e
mapped_exists g (Some x) e = refl

counting_exists : (f : Option Span) (m : Manual) → ManualSound f m → 1 ≤ m.volume → is_some (counting_price m) ≡ true
counting_exists f m s h = ap is_some (cond-true (nat_lt 0 m.volume) (formed_price m) None (lt-ltb 0 m.volume h)) ∙ mapped_exists exact_of_price m.price (s.1 h)

positive : (f : Option Span) (o : Component) → WhereExists (LiesWithin f) o → Positive o
positive f None h = tt
positive f (Some q) h = h.divides

-- where a manual slot counts, the extreme of the counting manual prices exists
module _ (d : Direction) (s : Side) (h : Sound s) where
  first_exists : 1 ≤ s.scheduled.volume → is_some (manual_extreme counting_price d s) ≡ true
  first_exists k = extreme_first d (counting_price s.scheduled) _ (counting_exists _ s.scheduled h.1 k)

  second_exists : 1 ≤ s.direct_up.volume → is_some (manual_extreme counting_price d s) ≡ true
  second_exists k = extreme_second d (counting_price s.scheduled) _ (extreme_first d (counting_price s.direct_up) _ (counting_exists _ s.direct_up h.2 k))

  third_exists : 1 ≤ s.direct_down.volume → is_some (manual_extreme counting_price d s) ≡ true
  third_exists k = extreme_second d (counting_price s.scheduled) _ (extreme_second d (counting_price s.direct_up) _ (counting_exists _ s.direct_down h.3 k))

  -- with a component of the cycles beside it
  beside_exists : (c : Component) → (1 ≤ s.cycles.volume → is_some c ≡ true) → 1 ≤ volume s → is_some (extreme d c (manual_extreme counting_price d s)) ≡ true
  beside_exists c e k =
      by_part _ s k (λ v. extreme_first d c _ (e v))
      (λ v. extreme_second d c _ (first_exists v)) (λ v. extreme_second d c _ (second_exists v)) (λ v. extreme_second d c _ (third_exists v))

  beside_fits : (c : Component) → WhereExists (LiesWithin s.formed) c → WhereExists (LiesWithin s.formed) (extreme d c (manual_extreme counting_price d s))
  beside_fits c e = extreme_keeps (LiesWithin s.formed) d c _ e (over_fits counting_price d s (counting_fits s.formed) h)

  -- what covers the cycles and tops the counting manual prices covers all
  manual_all : (r : Exact) → Covers d r s.cycles.turnover s.cycles.volume → Tops d (manual_extreme counting_price d s) r → Covers d r (turnover s) (volume s)
  manual_all r c t =
      let f = s.formed in
      let p1 = positive f _ (counting_fits f s.scheduled h.1) in
      let p2 = positive f _ (counting_fits f s.direct_up h.2) in
      let p3 = positive f _ (counting_fits f s.direct_down h.3) in
      let p23 = extreme_keeps (λ q. 1 ≤ q.d) d (counting_price s.direct_up) (counting_price s.direct_down) p2 p3 in
      let x = tops_parts d (counting_price s.scheduled) (extreme d (counting_price s.direct_up) (counting_price s.direct_down)) r p1 p23 t in
      let y = tops_parts d (counting_price s.direct_up) (counting_price s.direct_down) r p2 p3 x.1 in
      covers_add d r s.cycles.turnover _ s.cycles.volume _ c
      (covers_add d r (manual_turnover s.scheduled) _ s.scheduled.volume _ (covers_manual d r f s.scheduled h.1 x.0)
      (covers_add d r (manual_turnover s.direct_up) (manual_turnover s.direct_down) s.direct_up.volume s.direct_down.volume
      (covers_manual d r f s.direct_up h.2 y.0) (covers_manual d r f s.direct_down h.3 y.1)))

  automatic_covers : (r : Exact) → Tops d (automatic_mean s) r → Covers d r s.cycles.turnover s.cycles.volume
  automatic_covers r t = covers_quotient d r s.cycles.turnover s.cycles.volume (no_turnover _ s.formed s.cycles.volume s.cycles.turnover s.cycles.span h.0) t

times_zero : (v : ℕ) (z : ℤ) → v ≡ 0 → pos v *ℤ z ≡ pos 0
times_zero zero z e = omega (arith, ints)
times_zero (suc v) z e = absurd (omega arith)

idle : (m : Manual) → m.volume ≡ 0 → manual_turnover m ≡ pos 0
idle m e = times_zero m.volume _ e

all_zero : (a b c d : ℤ) → a ≡ pos 0 → b ≡ pos 0 → c ≡ pos 0 → d ≡ pos 0 → a +ℤ (b +ℤ (c +ℤ d)) ≡ pos 0
all_zero a b c d e f g h = omega (arith, ints)

nothing_counts : (s : Side) → Sound s → volume s ≡ 0 → turnover s ≡ pos 0
nothing_counts s h e =
    all_zero s.cycles.turnover (manual_turnover s.scheduled) (manual_turnover s.direct_up) (manual_turnover s.direct_down)
    (no_turnover _ s.formed s.cycles.volume s.cycles.turnover s.cycles.span h.0 (omega arith))
    (idle s.scheduled (omega arith)) (idle s.direct_up (omega arith)) (idle s.direct_down (omega arith))

pub mean_covers : (d : Direction) (s : Side) (r : Exact) → Sound s → Tops d (weighted_mean s) r → Covers d r (turnover s) (volume s)
mean_covers d s r h t = covers_quotient d r (turnover s) (volume s) (nothing_counts s h) t

-- ---- the table
pub mean_lawful : IsLawfulRule mean_price
mean_lawful = record {
  exists = λ d s h k. quotient_exists (turnover s) (volume s) k;
  fits = λ d s h. mean_fits s h;
  covers = λ d s r h e. mean_covers d s r h (tops_self d (weighted_mean s) r e);
}

pub automatic_lawful : IsLawfulRule automatic_or_manual
automatic_lawful = record {
  exists = λ d s h k. beside_exists d s h (automatic_mean s) (quotient_exists s.cycles.turnover s.cycles.volume) k;
  fits = λ d s h. beside_fits d s h (automatic_mean s) (automatic_fits s h);
  covers = λ d s r h e. let t = extreme_tops d (automatic_mean s) (manual_extreme counting_price d s) r e in manual_all d s h r (automatic_covers d s h r t.0) t.1;
}

pub combined_lawful : IsLawfulRule mean_or_manual
combined_lawful = record {
  exists = λ d s h k. extreme_first d (weighted_mean s) _ (quotient_exists (turnover s) (volume s) k);
  fits = λ d s h. beside_fits d s h (weighted_mean s) (mean_fits s h);
  covers = λ d s r h e. mean_covers d s r h (extreme_tops d (weighted_mean s) (manual_extreme counting_price d s) r e).0;
}

pub extreme_lawful : IsLawfulRule extreme_counting
extreme_lawful = record {
  exists = λ d s h k. beside_exists d s h (cycles_extreme d s) (λ v. mapped_exists (extreme_of_span d) s.cycles.span (h.0.1 v)) k;
  fits = λ d s h. beside_fits d s h (cycles_extreme d s) (cycles_fit d s h);
  covers = λ d s r h e.
      let t = extreme_tops d (cycles_extreme d s) (manual_extreme counting_price d s) r e in
      manual_all d s h r (covers_cycles d r _ s.formed s.cycles.volume s.cycles.turnover s.cycles.span h.0 t.0) t.1;
}

-- ---- the Finnish edition
no_manual : (s : Side) → manual_counts s ≡ false → (s.scheduled.volume ≡ 0) × (s.direct_up.volume ≡ 0) × (s.direct_down.volume ≡ 0)
no_manual s e =
    let a = or_parts (nat_lt 0 s.scheduled.volume) (nat_lt 0 s.direct_up.volume || nat_lt 0 s.direct_down.volume) e in
    let b = or_parts (nat_lt 0 s.direct_up.volume) (nat_lt 0 s.direct_down.volume) a.1 in
    (omega (arith, ltb-false 0 s.scheduled.volume a.0), omega (arith, ltb-false 0 s.direct_up.volume b.0), omega (arith, ltb-false 0 s.direct_down.volume b.1))

-- with no manual volume, what covers the cycles covers all
cycles_alone : (d : Direction) (s : Side) (r : Exact) → manual_counts s ≡ false → Covers d r s.cycles.turnover s.cycles.volume → Covers d r (turnover s) (volume s)
cycles_alone d s r e c =
    let n = no_manual s e in
    covers_add d r s.cycles.turnover _ s.cycles.volume _ c
    (covers_add d r (manual_turnover s.scheduled) _ s.scheduled.volume _ (covers_none d r _ _ (idle s.scheduled n.0) n.0)
    (covers_add d r (manual_turnover s.direct_up) (manual_turnover s.direct_down) s.direct_up.volume s.direct_down.volume
    (covers_none d r _ _ (idle s.direct_up n.1) n.1) (covers_none d r _ _ (idle s.direct_down n.2) n.2)))

pub finnish_lawful : IsLawfulRule finnish_price
finnish_lawful = record {
  exists = λ d s h k.
      cond_both (manual_counts s) (weighted_mean s) (extreme d (automatic_mean s) (manual_extreme formed_price d s)) (λ o. is_some o ≡ true)
      (λ e. quotient_exists (turnover s) (volume s) k)
      (λ e. let n = no_manual s e in extreme_first d (automatic_mean s) _ (quotient_exists s.cycles.turnover s.cycles.volume (omega (arith, n.0, n.1, n.2))));
  fits = λ d s h.
      cond_both (manual_counts s) (weighted_mean s) (extreme d (automatic_mean s) (manual_extreme formed_price d s)) (WhereExists (LiesWithin s.formed))
      (λ e. mean_fits s h)
      (λ e. extreme_keeps (LiesWithin s.formed) d (automatic_mean s) _ (automatic_fits s h) (over_fits formed_price d s (formed_fits s.formed) h));
  covers = λ d s r h x.
      cond_both (manual_counts s) (weighted_mean s) (extreme d (automatic_mean s) (manual_extreme formed_price d s)) (λ o. o ≡ Some r → Covers d r (turnover s) (volume s))
      (λ e y. mean_covers d s r h (tops_self d (weighted_mean s) r y))
      (λ e y. cycles_alone d s r e (automatic_covers d s h r (extreme_tops d (automatic_mean s) (manual_extreme formed_price d s) r y).0))
      x;
}
