-- The calls of a run over one ladder, the latest first: what they come to, where they lead, and what is promised of every run.
use Rattle.std.specs.Prelude.{◌≡◌, ◌↔◌, ℕ, ◌+◌, ◌-◌, ◌≤◌, ◌==◌, Bool, true, false, List, [], ◌∷◌, length, Some, None, Ok, Err, Option, Result, is_some, ok_or, if◌then◌else◌}
use Rattle.std.specs.List.{Contains, count_by}
use Rattle.std.specs.Option.{unwrap_or}
use Rattle.ladders.specs.Lists.{adding_answer, adding_fault, after_adding, after_withdrawing, item_of, withdrawing_answer}
use Rattle.ladders.specs.Orders.{HasNumbersOnce, IsInOrder, Order}
use Rattle.ladders.specs.declared.fault.LadderFault.{LadderFault}
use Rattle.ladders.specs.declared.fault.LadderFault.TheVariants.{NotStanding}

-- a call with its argument and its answer
pub data Event (T : Type 0) : Type 0 where
  adding : T → Result ℕ LadderFault → Event T
  withdrawing : ℕ → Result T LadderFault → Event T

-- WHAT ALL CALLS COME TO

-- what an accepted call makes stand under the number, if it is a call for the number: the item that is added, or none
abbrev pub made_of : {T : Type 0} → Order T → ℕ → Event T → Option (Option T)
made_of o n (adding x (Ok rank)) = if o.number x == n then Some (Some x) else None
made_of o n (adding x (Err fault)) = None
made_of o n (withdrawing k (Ok x)) = if k == n then Some None else None
made_of o n (withdrawing k (Err fault)) = None

-- the item of the number whose last accepted adding is not followed by an accepted withdrawing of the number: what the latest accepted call for it made
abbrev pub standing_after : {T : Type 0} → Order T → List (Event T) → ℕ → Option T
standing_after o [] n = None
standing_after o (e ∷ h) n = unwrap_or (made_of o n e) (standing_after o h n)

-- whether the call is an accepted adding
abbrev pub adds : {T : Type 0} → Event T → Bool
adds (adding x (Ok rank)) = true
adds (adding x (Err fault)) = false
adds (withdrawing n a) = false

-- whether the call is an accepted withdrawing
abbrev pub withdraws : {T : Type 0} → Event T → Bool
withdraws (adding x a) = false
withdraws (withdrawing n (Ok x)) = true
withdraws (withdrawing n (Err fault)) = false

-- how many items were added and not withdrawn
abbrev pub count_after : {T : Type 0} → List (Event T) → ℕ
count_after h = count_by adds h - count_by withdraws h

-- WHERE THEY LEAD

-- the call e was answered as what stood says, and left what it says
abbrev pub Did : {T : Type 0} → Order T → (places : ℕ) → Event T → List T → List T → Type 0
Did o places (adding x a) l l' = (a ≡ adding_answer o places x l) × (l' ≡ after_adding o x a l)
Did o places (withdrawing n a) l l' = (a ≡ withdrawing_answer o n l) × (l' ≡ after_withdrawing o n a l)

-- the calls h, the latest first, lead from an empty ladder of so many places to one on which l stands
pub data Run {T : Type 0} (o : Order T) (places : ℕ) : List (Event T) → List T → Type 0 where
  begun : Run o places [] []
  after : (h : List (Event T)) (e : Event T) (l l' : List T) → Run o places h l → Did o places e l l' → Run o places (e ∷ h) l'

-- WHAT IS PROMISED

-- the refusal of an answer, if it is one
abbrev pub fault_of : {X : Type 0} → Result X LadderFault → Option LadderFault
fault_of (Ok x) = None
fault_of (Err fault) = Some fault

-- the call e was accepted or refused as the calls h before it say, and a withdrawing answered the item that was added
abbrev pub IsAnsweredAfter : {T : Type 0} → Order T → (places : ℕ) → List (Event T) → Event T → Type 0
IsAnsweredAfter o places h (adding x a) = fault_of a ≡ adding_fault (o.number x) places (count_after h) (is_some (standing_after o h (o.number x)))
IsAnsweredAfter o places h (withdrawing n a) = a ≡ ok_or (standing_after o h n) (NotStanding n)

-- so was each call
abbrev pub AllAnswered : {T : Type 0} → Order T → (places : ℕ) → List (Event T) → Type 0
AllAnswered o places [] = Unit {0}
AllAnswered o places (e ∷ h) = IsAnsweredAfter o places h e × AllAnswered o places h

-- what is promised of what stands after the calls h
pub record Sound {T : Type 0} (o : Order T) (places : ℕ) (h : List (Event T)) (l : List T) : Type 0 where
  -- an item stands exactly where its last accepted adding is not followed by an accepted withdrawing of its number
  pub exact : (x : T) → Contains l x ↔ (standing_after o h (o.number x) ≡ Some x)
  -- under a number stands what was added and not since withdrawn, and nothing else
  pub under_number : (n : ℕ) → item_of o n l ≡ standing_after o h n
  -- each item stands before all behind it
  pub in_order : IsInOrder o l
  -- each number stands once
  pub numbers_once : HasNumbersOnce o l
  -- as many stand as were added and not withdrawn
  pub counted : length l + count_by withdraws h ≡ count_by adds h
  -- and never more than there are places
  pub within : length l ≤ places
  -- each call was accepted or refused as the calls before it say
  pub answers : AllAnswered o places h
