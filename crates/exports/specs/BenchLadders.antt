-- Up bids on a ladder, for the bench: what is answered as each is added, and then as each is withdrawn.
use Rattle.std.specs.Prelude.{ℕ, List, [], ◌∷◌, Result, count_by}
use Rattle.std.specs.Result.{is_ok, result_unwrap_or}
use Rattle.ladders.specs.Lists.{adding_answer, after_adding, after_withdrawing, withdrawing_answer}
use Rattle.ladders.specs.declared.fault.LadderFault.{LadderFault}
use Rattle.bids.specs.Merit.{up_order}
use Rattle.bids.specs.declared.kinds.TheConstants.{MOST_BIDS}
use Rattle.bids.specs.declared.kinds.UpBid.{UpBid}
use Rattle.exports.specs.declared.plain.PlainBid.{PlainBid}
use Rattle.exports.specs.declared.plain.PlainLadder.{PlainLadder}

-- the bid as it stands on a ladder
abbrev pub up_bid : PlainBid → UpBid
up_bid b = record { 0 = record { cents = b.cents; kw = b.kw; number = b.number } }

-- ADDING

-- what a bid's adding answers, by what stands
abbrev pub one_added : PlainBid → List UpBid → Result ℕ LadderFault
one_added b l = adding_answer up_order MOST_BIDS (up_bid b) l

-- what stands then
abbrev pub after_one_added : PlainBid → List UpBid → List UpBid
after_one_added b l = after_adding up_order (up_bid b) (one_added b l) l

-- what the addings of the bids answer, one after another
abbrev pub adding_answers : List PlainBid → List UpBid → List (Result ℕ LadderFault)
adding_answers [] l = []
adding_answers (b ∷ bs) l = one_added b l ∷ adding_answers bs (after_one_added b l)

-- what stands after all of them
abbrev pub after_adding_all : List PlainBid → List UpBid → List UpBid
after_adding_all [] l = l
after_adding_all (b ∷ bs) l = after_adding_all bs (after_one_added b l)

-- each rank in the place of its bid; the place of a refused one, and those past the bids, keep what stood there
abbrev pub ranks_over : List (Result ℕ LadderFault) → List ℕ → List ℕ
ranks_over [] xs = xs
ranks_over (a ∷ rest) [] = []
ranks_over (a ∷ rest) (x ∷ xs) = result_unwrap_or a x ∷ ranks_over rest xs

-- WITHDRAWING

-- what the withdrawings of the numbers answer, one after another
abbrev pub withdrawing_answers : List ℕ → List UpBid → List (Result UpBid LadderFault)
withdrawing_answers [] l = []
withdrawing_answers (n ∷ ns) l =
    withdrawing_answer up_order n l ∷ withdrawing_answers ns (after_withdrawing up_order n (withdrawing_answer up_order n l) l)

-- THE LADDER

-- how many calls are accepted
abbrev pub count_accepted : {X : Type 0} → List (Result X LadderFault) → ℕ
count_accepted answers = count_by is_ok answers

-- how many bids are added to an empty ladder, and how many of the numbers then withdrawn
abbrev pub laddered : List PlainBid → List ℕ → PlainLadder
laddered bids numbers = record {
  added = count_accepted (adding_answers bids []);
  withdrawn = count_accepted (withdrawing_answers numbers (after_adding_all bids []));
}
