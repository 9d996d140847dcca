-- Each figure worked by hand follows from the definitions.
use Rattle.std.proofs.Common.{[], ◌∷◌, ℤ, pos, negsuc, Some, None, T, leb→le, refl}
use Rattle.std.specs.Prelude.{nat_le, unsigned_abs}
use Rattle.units.specs.declared.bounds.TheConstants.{MOST_CENTS}
use Rattle.figures.specs.Sides.{totals_to, formed_to, net_to}
use Rattle.pricing.specs.Incentives.{incentive}
use Rattle.pricing.specs.Rulings.{combined_all, combined_automatic, finnish, max_min, weighted_average}
use Rattle.sheet.specs.Numbers.{quantity}
use Rattle.source.specs.declared.direction.Direction.TheVariants.{Up, Down}
use Rattle.units.specs.Exact.{Exact}
use Rattle.units.specs.Rounding.{half_up, rounded}
use Rattle.units.specs.declared.price.Price.{Price}
use Rattle.writing.specs.Bytes.{number_bytes}
use Rattle.worked.specs.Cases.{IncentiveByHand, WorkedByHand}
use Rattle.worked.specs.Quarters.{balanced, half_cent, manual_activated, manual_activated_down, manual_formed, three_levels, three_levels_with}
use Rattle.worked.specs.declared.by_hand.IncentivePrices.{IncentivePrices}
use Rattle.worked.specs.declared.by_hand.WorkedFigures.{WorkedFigures}
use Rattle.worked.proofs.Figured.{by_direction, by_value, decided_up, no_value}

-- a price in its bounds
abbrev cents : (z : ℤ) → T (nat_le (unsigned_abs z) MOST_CENTS) → Price
cents z h = record { cents = z; bounded = leb→le (unsigned_abs z) MOST_CENTS h }

-- what was worked by hand with the incentive component
abbrev pub incentive_by_hand : IncentivePrices
incentive_by_hand = record {
  unchanged_by_346_66 = pos 34_667;
  lifted_to_346_67 = pos 34_667;
  lifted_to_500 = pos 50_000;
  max_min_unchanged_by_500 = pos 100_000;
  lifted_to_500_by_two_layers = pos 50_000;
  lowered_to_minus_5 = negsuc 499;
  balanced = pos 700;
}

-- what was worked by hand
abbrev pub by_hand : WorkedFigures
by_hand = record {
  three_levels = record { weighted_average = pos 34_667; combined_automatic = pos 100_000; combined_all = pos 100_000; max_min = pos 100_000; finnish = pos 34_667 };
  manual_activated_finnish = pos 6_429;
  manual_activated_down_finnish = pos 1_571;
  manual_formed_finnish = pos 10_000;
  manual_formed_weighted_average = pos 5_000;
  half_a_cent = pos 1;
  half_a_cent_below_zero = negsuc 0;
  balanced = pos 700;
  incentive = incentive_by_hand;
  first_half_cent = pos 1;
  second_half_cent = pos 0;
  surplus = pos 18_750;
  deficit = negsuc 174_999;
  stored_0 = 0 ∷ [];
  stored_minus_1 = 1 ∷ [];
  stored_64 = 128 ∷ 1 ∷ [];
  not_shortest = 3;
}

-- each follows by computing
with_incentive : IncentiveByHand incentive_by_hand
unfolding net_to totals_to formed_to rounded half_up
with_incentive =
    let mean : Exact = record { n = pos 3_900_000_000_000; d = 112_500_000 } in
    let five_hundred : Exact = record { n = pos 50_000; d = 1 } in
    record {
      code_11 = refl;
      code_14 = refl;
      code_15 = refl;
      code_21 = refl;
      exact_price_unchanged = decided_up (three_levels_with (pos 34_666)) (λ k l. refl) (incentive weighted_average) mean refl;
      unchanged_11_by_346_66 = by_direction (three_levels_with (pos 34_666)) (λ k l. refl) 11 (incentive weighted_average) Up mean (cents (pos 34_667) tt) refl refl;
      exact_price_lifted = decided_up (three_levels_with (pos 34_667)) (λ k l. refl) (incentive weighted_average) (record { n = pos 34_667; d = 1 }) refl;
      lifted_11_to_346_67 = by_direction (three_levels_with (pos 34_667)) (λ k l. refl) 11 (incentive weighted_average) Up (record { n = pos 34_667; d = 1 }) (cents (pos 34_667) tt) refl refl;
      lifted_11_to_500 = by_direction (three_levels_with (pos 50_000)) (λ k l. refl) 11 (incentive weighted_average) Up five_hundred (cents (pos 50_000) tt) refl refl;
      unchanged_14_by_500 = by_direction (three_levels_with (pos 50_000)) (λ k l. refl) 14 (incentive max_min) Up (record { n = pos 100_000; d = 1 }) (cents (pos 100_000) tt) refl refl;
      lifted_21_to_500 = by_direction (three_levels_with (pos 50_000)) (λ k l. refl) 21 (incentive (incentive weighted_average)) Up five_hundred (cents (pos 50_000) tt) refl refl;
      lowered_15 = by_direction (manual_activated_down (negsuc 499)) (λ k l. refl) 15 (incentive finnish) Down (record { n = negsuc 499; d = 1 }) (cents (negsuc 499) tt) refl refl;
      balanced_11 = by_value (balanced (Some (pos 700))) (λ k l. refl) 11 (incentive weighted_average) (cents (pos 700) tt) refl refl;
      no_value_11 = no_value (balanced None) (λ k l. refl) 11 (incentive weighted_average) refl refl;
    }

-- each follows by computing
pub worked : WorkedByHand by_hand
unfolding net_to totals_to formed_to rounded half_up quantity number_bytes
worked =
    let seven : Price = cents (pos 700) tt in
    record {
      three_levels_1 = by_direction three_levels (λ k l. refl) 1 weighted_average Up (record { n = pos 3_900_000_000_000; d = 112_500_000 }) (cents (pos 34_667) tt) refl refl;
      three_levels_2 = by_direction three_levels (λ k l. refl) 2 combined_automatic Up (record { n = pos 100_000; d = 1 }) (cents (pos 100_000) tt) refl refl;
      three_levels_3 = by_direction three_levels (λ k l. refl) 3 combined_all Up (record { n = pos 100_000; d = 1 }) (cents (pos 100_000) tt) refl refl;
      three_levels_4 = by_direction three_levels (λ k l. refl) 4 max_min Up (record { n = pos 100_000; d = 1 }) (cents (pos 100_000) tt) refl refl;
      three_levels_5 = by_direction three_levels (λ k l. refl) 5 finnish Up (record { n = pos 3_900_000_000_000; d = 112_500_000 }) (cents (pos 34_667) tt) refl refl;
      manual_activated_5 = by_direction manual_activated (λ k l. refl) 5 finnish Up (record { n = pos 405_000_000_000; d = 63_000_000 }) (cents (pos 6_429) tt) refl refl;
      manual_activated_down_5 = by_direction (manual_activated_down (negsuc 499)) (λ k l. refl) 5 finnish Down (record { n = pos 99_000_000_000; d = 63_000_000 }) (cents (pos 1_571) tt) refl refl;
      manual_formed_5 = by_direction manual_formed (λ k l. refl) 5 finnish Up (record { n = pos 10_000; d = 1 }) (cents (pos 10_000) tt) refl refl;
      manual_formed_1 = by_direction manual_formed (λ k l. refl) 1 weighted_average Up (record { n = pos 225_000_000_000; d = 45_000_000 }) (cents (pos 5_000) tt) refl refl;
      half_a_cent = by_direction (half_cent (pos 1)) (λ k l. refl) 1 weighted_average Up (record { n = pos 1; d = 2 }) (cents (pos 1) tt) refl refl;
      half_a_cent_below = by_direction (half_cent (negsuc 0)) (λ k l. refl) 1 weighted_average Up (record { n = negsuc 0; d = 2 }) (cents (negsuc 0) tt) refl refl;
      balanced_1 = by_value (balanced (Some (pos 700))) (λ k l. refl) 1 weighted_average seven refl refl;
      balanced_2 = by_value (balanced (Some (pos 700))) (λ k l. refl) 2 combined_automatic seven refl refl;
      balanced_3 = by_value (balanced (Some (pos 700))) (λ k l. refl) 3 combined_all seven refl refl;
      balanced_4 = by_value (balanced (Some (pos 700))) (λ k l. refl) 4 max_min seven refl refl;
      no_value_1 = no_value (balanced None) (λ k l. refl) 1 weighted_average refl refl;
      no_value_2 = no_value (balanced None) (λ k l. refl) 2 combined_automatic refl refl;
      no_value_3 = no_value (balanced None) (λ k l. refl) 3 combined_all refl refl;
      no_value_4 = no_value (balanced None) (λ k l. refl) 4 max_min refl refl;
      incentive = with_incentive;
      first_half_cent = λ m r. refl;
      second_half_cent = λ m r. refl;
      surplus = λ m r. refl;
      deficit = λ m r. refl;
      stored_0 = refl;
      stored_minus_1 = refl;
      stored_64 = refl;
      not_shortest = λ p. (_, refl, refl);
    }
