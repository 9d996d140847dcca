-- What stands, as a list with the first item in front: what each question answers of it, and what each call makes of it.
use Rattle.std.specs.Prelude.{ℕ, ◌==◌, Bool, not, List, length, Some, None, Ok, Err, Option, Result, is_some, nat_lt, ok_or, if◌then◌else◌}
use Rattle.std.specs.List.{count_by, filter, find, insert}
use Rattle.std.specs.Option.{option_map_or}
use Rattle.ladders.specs.Orders.{Order}
use Rattle.ladders.specs.declared.fault.LadderFault.{LadderFault}
use Rattle.ladders.specs.declared.fault.LadderFault.TheVariants.{Full, Standing, NotStanding}

-- the item of the number, if one stands
abbrev pub item_of : {T : Type 0} → Order T → ℕ → List T → Option T
item_of o n l = find (λ y. o.number y == n) l

-- whether an item of the number stands
abbrev pub stands : {T : Type 0} → Order T → ℕ → List T → Bool
stands o n l = is_some (item_of o n l)

-- the rank of an item: how many stand before it
abbrev pub rank_of : {T : Type 0} → Order T → T → List T → ℕ
rank_of o x l = count_by (λ y. o.is_before y x) l

-- the items with one more, at its rank
abbrev pub with_item : {T : Type 0} → Order T → T → List T → List T
with_item o x l = insert l (rank_of o x l) x

-- the items of other numbers
abbrev pub without : {T : Type 0} → Order T → ℕ → List T → List T
without o n l = filter (λ y. not (o.number y == n)) l

-- why an item of the number n is not added, by whether an item of the number stands and how many do of those that may: 18 comes before 17
abbrev pub adding_fault : (n places count : ℕ) → (standing : Bool) → Option LadderFault
adding_fault n places count standing = if standing then Some (Standing n) else if nat_lt count places then None else Some (Full count)

-- adding answers the rank at which the item stands then, or its fault
abbrev pub adding_answer : {T : Type 0} → Order T → (places : ℕ) → T → List T → Result ℕ LadderFault
adding_answer o places x l = option_map_or Err (adding_fault (o.number x) places (length l) (stands o (o.number x) l)) (Ok (rank_of o x l))

-- withdrawing answers the item of the number; 19 where none stands
abbrev pub withdrawing_answer : {T : Type 0} → Order T → ℕ → List T → Result T LadderFault
withdrawing_answer o n l = ok_or (item_of o n l) (NotStanding n)

-- what an adding leaves; a refused one changes nothing
abbrev pub after_adding : {T : Type 0} → Order T → T → Result ℕ LadderFault → List T → List T
after_adding o x (Ok rank) l = with_item o x l
after_adding o x (Err fault) l = l

-- what a withdrawing leaves; a refused one changes nothing
abbrev pub after_withdrawing : {T : Type 0} → Order T → ℕ → Result T LadderFault → List T → List T
after_withdrawing o n (Ok x) l = without o n l
after_withdrawing o n (Err fault) l = l
