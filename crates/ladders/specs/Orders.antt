-- What numbers and orders the items of a kind, and what an order has to keep.
use Rattle.std.specs.Prelude.{◌≡◌, ◌≢◌, ℕ, Bool, true, false, List, nat_lt}
use Rattle.std.specs.List.{AllPairs}

-- an item's number, and whether an item stands before another
pub record Order (T : Type 0) : Type 0 where
  pub number : T → ℕ
  pub is_before : T → T → Bool

-- no item stands before itself, the order carries over, and items of different numbers never tie
pub record IsStrict {T : Type 0} (o : Order T) : Type 0 where
  pub irreflexive : (x : T) → o.is_before x x ≡ false
  pub transitive : (x y z : T) → o.is_before x y ≡ true → o.is_before y z ≡ true → o.is_before x z ≡ true
  pub never_tie : (x y : T) → o.number x ≢ o.number y → o.is_before x y ≡ false → o.is_before y x ≡ true

-- where it is said so, an item stands before another exactly where its number is the lower one
abbrev pub GoesByNumber : {T : Type 0} → Bool → Order T → Type 0
GoesByNumber {T} said o = said ≡ true → (x y : T) → o.is_before x y ≡ nat_lt (o.number x) (o.number y)

-- each item stands before all behind it
abbrev pub IsInOrder : {T : Type 0} → Order T → List T → Type 0
IsInOrder o l = AllPairs (λ x y. o.is_before x y ≡ true) l

-- no two items have one number
abbrev pub HasNumbersOnce : {T : Type 0} → Order T → List T → Type 0
HasNumbersOnce o l = AllPairs (λ x y. o.number x ≢ o.number y) l
