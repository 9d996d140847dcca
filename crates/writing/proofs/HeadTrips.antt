-- The head of a sheet is read back as it was written, and was written in the one form that is read.
use Rattle.std.proofs.Common.{◌≡◌, ℕ, ◌+◌, ◌<◌, List, [], ◌∷◌, ◌++◌, length, drop, Some, None, Ok, Err, Option, Result, refl, append_assoc, arith, length-append, length-drop}
use Rattle.std.proofs.lemmas.List.{drop_at, drop-drop, drop_more, get_or-drop}
use Rattle.std.proofs.lemmas.Bool.Decides.{nat_tests}
use Rattle.std.specs.List.{AllByRecursion}
use Rattle.units.specs.declared.price.Price.{Price}
use Rattle.units.specs.declared.zone_net.ZoneNet.{ZoneNet}
use Rattle.sheet.specs.declared.fault.SheetFault.{SheetFault}
use Rattle.sheet.specs.Heads.{opening, opens, front, by_flag, avoided_at, head_of}
use Rattle.sheet.specs.declared.head.Head.{Head}
use Rattle.writing.specs.Bytes.{number_bytes, avoided_bytes}
use Rattle.writing.proofs.NumberTrips.{net_back, price_back, net_form, price_form}

abbrev pub bytes_of : ZoneNet → Option Price → List ℕ
bytes_of net avoided = opening ++ (number_bytes net.kw ++ avoided_bytes avoided)

abbrev pub head_with : ZoneNet → Option Price → ℕ → Result Head SheetFault
head_with net avoided end = Ok (record { zone_net = net; avoided = avoided; end = end })

flag_is : (s : List ℕ) (at x : ℕ) (t : List ℕ) → drop at s ≡ x ∷ t → avoided_at s at ≡ by_flag s at x
unfolding avoided_at
flag_is s at x t e = grind (arith, nat_tests, length-drop at s, get_or-drop at s 0)

avoided_back : (s : List ℕ) (at : ℕ) (o : Option Price) (rest : List ℕ) → drop at s ≡ avoided_bytes o ++ rest → avoided_at s at ≡ Ok (o, at + length (avoided_bytes o))
avoided_back s at None rest e = grind (arith, flag_is s at 0)
avoided_back s at (Some p) rest e = grind (arith, flag_is s at 1, drop-drop 1 at s, price_back front s (at + 1) p rest)

-- what was written of the head is read back, whatever follows it
pub head_back : (s : List ℕ) (net : ZoneNet) (o : Option Price) (rest : List ℕ) → s ≡ bytes_of net o ++ rest → head_of s ≡ head_with net o (length (bytes_of net o))
unfolding head_of
head_back s net o rest e =
    let n : ℕ = 4 + length (number_bytes net.kw) in
    grind (arith, nat_tests, append_assoc, length-append, drop_at, drop-drop (length (number_bytes net.kw)) 4 s, net_back front s 4 net (avoided_bytes o ++ rest), avoided_back s n o rest)

-- an opening that was found stands at the front
abbrev Opened : List ℕ → List ℕ → Result (Unit {0}) SheetFault → Type 0
Opened want s (Ok x) = s ≡ want ++ drop (length want) s
Opened want s (Err f) = Unit {0}

opens_opened : (at : ℕ) (want s : List ℕ) → Opened want s (opens at want s)
opens_opened at [] s = refl
opens_opened at (w ∷ want) [] = tt
opens_opened at (w ∷ want) (b ∷ s) = grind (arith, nat_tests, opens_opened (at + 1) want s)

-- an avoided value that was read stood there as it is written
abbrev Valued : List ℕ → ℕ → Result (Option Price × ℕ) SheetFault → Type 0
Valued s at (Ok g) = drop at s ≡ avoided_bytes g.0 ++ drop g.1 s
Valued s at (Err f) = Unit {0}

-- and so the head
abbrev pub HeadedAs : List ℕ → Result Head SheetFault → Type 0
HeadedAs s (Ok h) = s ≡ bytes_of h.zone_net h.avoided ++ drop h.end s
HeadedAs s (Err f) = Unit {0}

module _ (s : List ℕ) (b : AllByRecursion (λ x. x < 256) s) where
  valued : (at : ℕ) → Valued s at (avoided_at s at)
  unfolding avoided_at
  valued at = grind (arith, nat_tests, drop_more s at 0, price_form front s (at + 1) b)

  -- a head that was read stood there in the form that is written
  pub headed_as : HeadedAs s (head_of s)
  unfolding head_of
  headed_as = grind (arith, nat_tests, append_assoc, opens_opened 0 opening s, valued, net_form front s 4 b)
