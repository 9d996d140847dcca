-- What stands in a book, and what is read of it.
use Rattle.std.proofs.Common.{◌≡◌, ℕ, zero, suc, ◌<◌, ◌≤◌, List, [], ◌∷◌, length, get_or, map, sym, refl, ap, ◌∙◌, subst, arith}
use Rattle.std.proofs.lemmas.List.{get_or-map, length-map}
use Rattle.metering.specs.Imbalances.{balanced}
use Rattle.metering.specs.declared.imbalance.Imbalance.{Imbalance}
use Rattle.settlement.specs.Books.{imbalance_at, imbalances_in, imbalances_of, paid_to, payments_in, quarter_at}
use Rattle.settlement.specs.Known.{nothing}
use Rattle.settlement.specs.declared.book.Book.{Book}
use Rattle.settlement.specs.declared.book.TheConstants.{MOST_PERIODS}
use Rattle.settlement.specs.declared.party.Party.{Party}
use Rattle.settlement.specs.declared.quarter.Quarter.{Quarter}
use Rattle.settlement.specs.declared.quarter.Quarter.TheVariants.{Blank}

-- THE PLACES OF A BOOK

pub quarter_placed : (b : Book) (p : ℕ) → p < b.period_count → p < length b.quarters
quarter_placed b p l = omega (arith, l, b.counts.1, b.places.0)

pub party_placed : (b : Book) (q : ℕ) → q < b.party_count → q < length b.parties
party_placed b q l = omega (arith, l, b.counts.3, b.places.1)

pub row_placed : (b : Book) (q : ℕ) → q < b.party_count → q < length (imbalances_in b)
row_placed b q l = omega (arith, party_placed b q l, length-map b.parties (λ (party : Party). party.imbalances))

pub amount_placed : (b : Book) (q : ℕ) → q < b.party_count → q < length (payments_in b)
amount_placed b q l = omega (arith, party_placed b q l, length-map b.parties (λ (party : Party). party.paid))

-- each party has a place for each period
rows_long : (ps : List Party) (q : ℕ) → q < length ps → MOST_PERIODS ≤ length (get_or (map (λ (party : Party). party.imbalances) ps) q [])
rows_long [] q l = absurd (omega (arith, l))
rows_long (p ∷ ps) q l =
    subst (λ (row : List Imbalance). MOST_PERIODS ≤ length row) (sym (get_or-map (λ (party : Party). party.imbalances) (p ∷ ps) q p [] l)) (get_or (p ∷ ps) q p).places

pub imbalance_placed : (b : Book) (p q : ℕ) → p < b.period_count → q < b.party_count → p < length (imbalances_of b q)
imbalance_placed b p q l m = omega (arith, l, b.counts.1, rows_long b.parties q (party_placed b q m))

-- WHAT IS READ

-- where a list has an element, it is read whatever would stand past the last
get_or_any : {X : Type 0} (xs : List X) (i : ℕ) (d e : X) → i < length xs → get_or xs i d ≡ get_or xs i e
get_or_any [] i d e l = absurd (omega (arith, l))
get_or_any (x ∷ xs) zero d e l = refl
get_or_any (x ∷ xs) (suc i) d e l = get_or_any xs i d e (omega (arith, l))

-- the party at q, as it is read with whatever would stand past the last
pub row_of : (b : Book) (q : ℕ) (x : Party) → q < b.party_count → (get_or b.parties q x).imbalances ≡ imbalances_of b q
row_of b q x l = sym (get_or-map (λ (p : Party). p.imbalances) b.parties q x [] (party_placed b q l))

pub paid_of : (b : Book) (q : ℕ) (x : Party) → q < b.party_count → (get_or b.parties q x).paid ≡ paid_to b q
paid_of b q x l = sym (get_or-map (λ (p : Party). p.paid) b.parties q x nothing (party_placed b q l))

pub quarter_of : (b : Book) (p : ℕ) (x : Quarter) → p < b.period_count → get_or b.quarters p x ≡ quarter_at b p
quarter_of b p x l = get_or_any b.quarters p x Blank (quarter_placed b p l)

pub imbalance_of : (b : Book) (p q : ℕ) (x : Party) (i : Imbalance) → p < b.period_count → q < b.party_count → get_or (get_or b.parties q x).imbalances p i ≡ imbalance_at b p q
imbalance_of b p q x i l m = ap (λ (row : List Imbalance). get_or row p i) (row_of b q x m) ∙ get_or_any (imbalances_of b q) p i balanced (imbalance_placed b p q l m)
