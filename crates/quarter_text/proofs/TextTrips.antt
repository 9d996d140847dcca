-- A printed text is read back as the source that was printed.
use Rattle.std.proofs.Common.{◌≡◌, ℕ, zero, suc, ◌+◌, ◌-◌, ◌<◌, ◌≤◌, Bool, true, false, nat_lt, if◌then◌else◌, List, [], ◌∷◌, ◌++◌, length, replicate, get_or, Some, None, Ok, Option, Result, sym, refl, ap, ◌∙◌, subst, append-nil, append_assoc, codes, inl, inr, ⊎_elim, arith}
use Rattle.std.proofs.lemmas.Bool.{cases_Bool, cases_lt, and_from}
use Rattle.std.specs.Fmt.{signed_decimal}
use Rattle.std.specs.Option.{unwrap_or}
use Rattle.sheet.specs.Sheets.{sheet_meaning}
use Rattle.source.specs.Meanings.{Meaning}
use Rattle.source.specs.Slots.{Slot}
use Rattle.units.specs.declared.price.Price.{Price}
use Rattle.units.specs.declared.zone_net.ZoneNet.{ZoneNet}
use Rattle.writing.proofs.SheetTrips.{same_bytes}
use Rattle.writing.specs.Bytes.{sheet_bytes}
use Rattle.writing.specs.Trips.{TellsSame}
use Rattle.units.specs.Chains.{result_and_then}
use Rattle.source.specs.declared.slot.TheConstants.{SLOTS}
use Rattle.words.specs.Words.{lines_of, words_of}
use Rattle.words.proofs.Tokens.{inline, inline_joined, inline_word, line_first, word_first}
use Rattle.source.specs.Tables.{idle}
use Rattle.quarter_text.specs.Drafts.{blank, finished, name_lines, with_line, with_lines, with_slots}
use Rattle.quarter_text.specs.Ranges.{slots_from_to}
use Rattle.quarter_text.specs.Quarters.{meaning_of}
use Rattle.quarter_text.specs.Texts.{ends_run, head_text, lines_to, others_text, price_text, run_start, run_text, runs_to, same_slot, slots_text, text_of, text_with, told_text}
use Rattle.quarter_text.specs.Trips.{ReadsBack, SameSheetThroughText}
use Rattle.quarter_text.specs.declared.draft.AvoidedValue.TheVariants.{NotYetSaid, Said}
use Rattle.quarter_text.specs.declared.draft.Draft.{Draft}
use Rattle.quarter_text.specs.declared.quarter.TextQuarter.{TextQuarter}
use Rattle.quarter_text.proofs.LineTrips.{OneLine, avoided_there, avoided_words, head_inline, net_there, net_words, slots_read, told_inline, told_split, told_there, told_words}
use Rattle.quarter_text.proofs.Runs.{Named, in_run, named_run, one_line, slot_is, start_first, start_low, start_next, start_stays}

-- READING ON

-- the lines that name the slots, and the line of the others
abbrev By : Type 0
By = List ℕ × ℕ

-- a draft whose slots are told by these lines
abbrev by_lines : Draft → By → Draft
by_lines d f = record { zone_net = d.zone_net; avoided = d.avoided; others = d.others; line_of_others = f.1; named = d.named; lines = f.0 }

-- whatever follows the text t, and whichever lines tell the slots, its lines lead from the draft d to the draft e
abbrev Leads : List ℕ → Draft → Draft → Type 0
Leads t d e = (n : ℕ) (f : By) (u : List ℕ) → (k : ℕ) × (g : By) × (with_lines n (by_lines d f) (lines_of (t ++ u)) ≡ with_lines k (by_lines e g) (lines_of u))

leads_on : (d : Draft) → Leads [] d d
leads_on d n f u = (n, f, refl)

leads_both : (s t : List ℕ) (d e f : Draft) → Leads s d e → Leads t e f → Leads (s ++ t) d f
leads_both s t d e f p q n g u =
    let a = p n g (t ++ u) in
    let b = q a.0 a.1 u in
    (b.0, b.1, ap (λ x. with_lines n (by_lines d g) (lines_of x)) (append_assoc s t u) ∙ a.2 ∙ b.2)

leads_line : (l : List ℕ) (d e : Draft) (g : ℕ → By → By) → inline l ≡ true → ((n : ℕ) (f : By) → with_line n (by_lines d f) (words_of l) ≡ Ok (by_lines e (g n f))) → Leads (l ++ (10 ∷ [])) d e
leads_line l d e g p h n f u =
    (n + 1, g n f, ap (λ x. with_lines n (by_lines d f) (lines_of x)) (append_assoc l (10 ∷ []) u) ∙ ap (with_lines n (by_lines d f)) (line_first l u p) ∙ rw (h n f) refl)

-- a whole text leads there
leads_whole : (t : List ℕ) (d e : Draft) (f : By) → Leads t d e → (g : By) × (with_lines 0 (by_lines d f) (lines_of t) ≡ Ok (by_lines e g))
leads_whole t d e f p =
    let last = p 0 f [] in
    (last.1, ap (λ x. with_lines 0 (by_lines d f) (lines_of x)) (sym (append-nil t)) ∙ last.2)

-- THE HEAD

abbrev netted : ZoneNet → Draft
netted z = record { zone_net = Some z; avoided = NotYetSaid; others = None; line_of_others = 0; named = replicate SLOTS None; lines = replicate SLOTS 0 }

-- what the slots without a line are, by whether a line says that they are unreported
abbrev others_if : Bool → Slot
others_if t = if t then None else idle

abbrev said_if : Bool → Option Slot
said_if t = if t then Some None else None

others_again : (t : Bool) → unwrap_or (said_if t) idle ≡ others_if t
others_again true = refl
others_again false = refl

abbrev headed : ZoneNet → Option Price → Bool → Draft
headed z v t = record { zone_net = Some z; avoided = Said v; others = said_if t; line_of_others = 0; named = replicate SLOTS None; lines = replicate SLOTS 0 }

others_leads : (z : ZoneNet) (v : Option Price) (t : Bool) → Leads (others_text (others_if t)) (headed z v false) (headed z v t)
others_leads z v true = leads_line (codes "others unreported") (headed z v false) (headed z v true) (λ n f. (f.0, n)) refl (λ n f. refl)
others_leads z v false = leads_on (headed z v false)

abbrev net_line : ZoneNet → List ℕ
net_line z = (codes "net " ++ signed_decimal z.kw) ++ (10 ∷ [])

abbrev avoided_line : Option Price → List ℕ
avoided_line v = (codes "avoided " ++ price_text v) ++ (10 ∷ [])

head_joined : (z : ZoneNet) (v : Option Price) (o : Slot) → (net_line z ++ avoided_line v) ++ others_text o ≡ head_text z.kw v o
unfolding head_text
head_joined z v o =
    append_assoc (net_line z) (avoided_line v) (others_text o)
    ∙ append_assoc (codes "net " ++ signed_decimal z.kw) (10 ∷ []) (avoided_line v ++ others_text o)
    ∙ append_assoc (codes "net ") (signed_decimal z.kw) (10 ∷ (avoided_line v ++ others_text o))
    ∙ ap (λ t. codes "net " ++ (signed_decimal z.kw ++ (10 ∷ t))) (append_assoc (codes "avoided " ++ price_text v) (10 ∷ []) (others_text o) ∙ append_assoc (codes "avoided ") (price_text v) (10 ∷ others_text o))

head_leads : (z : ZoneNet) (v : Option Price) (t : Bool) → Leads (head_text z.kw v (others_if t)) blank (headed z v t)
head_leads z v t =
    let net = leads_line (codes "net " ++ signed_decimal z.kw) blank (netted z) (λ n f. f) (head_inline z v).0 (λ n f. rw (net_words z, net_there z) refl) in
    let value = leads_line (codes "avoided " ++ price_text v) (netted z) (headed z v false) (λ n f. f) (head_inline z v).1 (λ n f. rw (avoided_words v, avoided_there v) refl) in
    let both = leads_both (net_line z) (avoided_line v) blank (netted z) (headed z v false) net value in
    subst (λ x. Leads x blank (headed z v t)) (head_joined z v (others_if t)) (leads_both (net_line z ++ avoided_line v) (others_text (others_if t)) blank (headed z v false) (headed z v t) both (others_leads z v t))

-- THE SLOTS

all_same : (n i : ℕ) (x : Option Slot) → get_or (replicate n x) i x ≡ x
all_same zero i x = refl
all_same (suc n) zero x = refl
all_same (suc n) (suc i) x = all_same n i x

-- a draft after the head, with these slots named
abbrev slotted : ZoneNet → Option Price → Bool → List (Option Slot) → Draft
slotted z v t l = with_slots (headed z v t) l (replicate SLOTS 0)

-- what is named of a slot: nothing, where it is as the others
abbrev told_of : Slot → Slot → Option Slot
told_of o s = if same_slot s o then None else Some s

-- the first j slots are named
record Marked (o : Slot) (m : ℕ → Slot) (j : ℕ) (l : List (Option Slot)) : Type 0 where
  long : length l ≡ SLOTS
  before : (i : ℕ) → i < j → get_or l i None ≡ told_of o (m i)
  after : (i : ℕ) → j ≤ i → get_or l i None ≡ None

-- the line of a run names its slots
run_leads : (z : ZoneNet) (v : Option Price) (t : Bool) (a b : ℕ) (s : Slot) (l : List (Option Slot)) → OneLine a b → (k : Named l a (b + 1 - a) s) → Leads (run_text a b s) (slotted z v t l) (slotted z v t k.named)
run_leads z v t a b s l o k =
    let r = slots_read a b o in
    let words : words_of (slots_text a b ++ (32 ∷ told_text s)) ≡ slots_text a b ∷ told_words s = word_first (slots_text a b) (told_text s) r.word ∙ ap (λ w. slots_text a b ∷ w) (told_split s) in
    let line = leads_line (slots_text a b ++ (32 ∷ told_text s)) (slotted z v t l) (slotted z v t k.named) (λ n f. (name_lines f.0 a (b + 1 - a) n, f.1))
    (inline_joined (slots_text a b) (32 ∷ told_text s) (inline_word (slots_text a b) r.word.bytes) (and_from true (inline (told_text s)) refl (told_inline s)))
    (λ n f. rw (words, r.no_others, r.range (told_words s), told_there (slots_text a b) s (slots_from_to a b), k.is f.0) refl) in
    subst (λ x. Leads x (slotted z v t l) (slotted z v t k.named)) (append_assoc (slots_text a b) (32 ∷ told_text s) (10 ∷ [])) line

-- after the first k slots
record Stood (m : ℕ → Slot) (z : ZoneNet) (v : Option Price) (w : Bool) (k : ℕ) : Type 0 where
  named : List (Option Slot)
  marked : Marked (others_if w) m (run_start m k) named
  leads : Leads (lines_to (others_if w) m k) (headed z v w) (slotted z v w named)

module _ (m : ℕ → Slot) (z : ZoneNet) (v : Option Price) (w : Bool) where
  stood_first : Stood m z v w 0
  unfolding lines_to
  stood_first = record {
    named = replicate SLOTS None;
    marked = record {
      long = refl;
      before = λ i l. absurd (omega (arith, l, start_first m));
      after = λ i l. all_same SLOTS i None;
    };
    leads = leads_on (headed z v w);
  }

  -- the run goes on
  stood_on : (k : ℕ) → ends_run m k ≡ false → Stood m z v w k → Stood m z v w (suc k)
  unfolding lines_to
  stood_on k e s = record {
    named = s.named;
    marked = subst (λ j. Marked (others_if w) m j s.named) (sym (start_stays m k e)) s.marked;
    leads = rw e (subst (λ x. Leads x (headed z v w) (slotted z v w s.named)) (sym (append-nil (lines_to (others_if w) m k))) s.leads);
  }

  -- a run ends that is as the others
  stood_idle : (k : ℕ) → ends_run m k ≡ true → same_slot (m k) (others_if w) ≡ true → Stood m z v w k → Stood m z v w (suc k)
  unfolding lines_to
  stood_idle k e t s = record {
    named = s.named;
    marked = subst (λ j. Marked (others_if w) m j s.named) (sym (start_next m k e)) (record {
      long = s.marked.long;
      before = λ i l. ⊎_elim
          (λ (x : i < run_start m k). s.marked.before i x)
          (λ (x : run_start m k ≤ i). s.marked.after i x ∙ sym (ap (told_of (others_if w)) (in_run m k i x (omega (arith, l))) ∙ rw t refl))
          (cases_lt i (run_start m k));
      after = λ i l. s.marked.after i (omega (arith, l, start_low m k));
    });
    leads = rw (e, t) (subst (λ x. Leads x (headed z v w) (slotted z v w s.named)) (sym (append-nil (lines_to (others_if w) m k))) s.leads);
  }

  -- a run ends that has a line
  stood_named : (k : ℕ) → k < SLOTS → ends_run m k ≡ true → same_slot (m k) (others_if w) ≡ false → Stood m z v w k → Stood m z v w (suc k)
  unfolding lines_to
  stood_named k b e t s =
      let a : ℕ = run_start m k in
      let low = start_low m k in
      let n = named_run s.named a (k + 1 - a) (m k) (omega (arith, b, low, s.marked.long)) (λ i x y. s.marked.after i x) in
      record {
        named = n.named;
        marked = subst (λ j. Marked (others_if w) m j n.named) (sym (start_next m k e)) (record {
          long = n.long ∙ s.marked.long;
          before = λ i l. ⊎_elim
              (λ (x : i < a). n.outside i (inl x) ∙ s.marked.before i x)
              (λ (x : a ≤ i). n.inside i x (omega (arith, l, low)) ∙ sym (ap (told_of (others_if w)) (in_run m k i x (omega (arith, l))) ∙ rw t refl))
              (cases_lt i a);
          after = λ i l. n.outside i (inr (omega (arith, l, low))) ∙ s.marked.after i (omega (arith, l, low));
        });
        leads = rw (e, t) (leads_both (lines_to (others_if w) m k) (run_text a k (m k)) (headed z v w) (slotted z v w s.named) (slotted z v w n.named) s.leads (run_leads z v w a k (m k) s.named (one_line m k b) n));
      }

  stood_next : (k : ℕ) → k < SLOTS → Stood m z v w k → Stood m z v w (suc k)
  stood_next k b s = ⊎_elim
      (λ (e : ends_run m k ≡ true). ⊎_elim
      (λ (t : same_slot (m k) (others_if w) ≡ true). stood_idle k e t s)
      (λ (t : same_slot (m k) (others_if w) ≡ false). stood_named k b e t s)
      (cases_Bool (same_slot (m k) (others_if w))))
      (λ (e : ends_run m k ≡ false). stood_on k e s)
      (cases_Bool (ends_run m k))

  stood : (k : ℕ) → k ≤ SLOTS → Stood m z v w k
  stood zero b = stood_first
  stood (suc k) b = stood_next k (omega (arith, b)) (stood k (omega (arith, b)))

-- THE WHOLE TEXT

last_ends : (m : ℕ → Slot) → run_start m SLOTS ≡ SLOTS
unfolding run_start ends_run
last_ends m = refl

told_again : (o s : Slot) → unwrap_or (told_of o s) o ≡ s
told_again o s = ⊎_elim
    (λ (t : same_slot s o ≡ true). rw t (sym (slot_is s o t)))
    (λ (t : same_slot s o ≡ false). rw t refl)
    (cases_Bool (same_slot s o))

pub reads_back : (m : Meaning) → ReadsBack m
unfolding text_of
reads_back m =
    let t : Bool = nat_lt (runs_to m.slots idle SLOTS + 1) (runs_to m.slots None SLOTS) in
    let o : Slot = others_if t in
    let s = stood m.slots m.zone m.avoided t SLOTS (omega arith) in
    let q : TextQuarter = record { zone_net = m.zone; avoided = m.avoided; others = unwrap_or (said_if t) idle; named = s.named } in
    let leads = leads_both (head_text m.zone.kw m.avoided o) (lines_to o m.slots SLOTS) blank (headed m.zone m.avoided t) (slotted m.zone m.avoided t s.named) (head_leads m.zone m.avoided t) s.leads in
    let text : List ℕ = text_with o m in
    let read = leads_whole text blank (slotted m.zone m.avoided t s.named) (replicate SLOTS 0, 0) leads in
    record {
      quarter = q;
      read = ap (λ r. result_and_then r (λ d. finished (length (lines_of text)) d.named d.others d.zone_net d.avoided)) read.1;
      alike = record {
        slots = λ k l. ap (λ x. unwrap_or (get_or s.named k None) x) (others_again t) ∙ ap (λ x. unwrap_or x o) (s.marked.before k (omega (arith, l, last_ends m.slots))) ∙ told_again o (m.slots k);
        zones = refl;
        values = refl;
      };
    }

ok_same : {p q : TextQuarter} {F : Type 0} → ◌≡◌ {A = Result TextQuarter F} (Ok p) (Ok q) → p ≡ q
ok_same e = cc

pub same_sheet : (m : Meaning) → SameSheetThroughText m
same_sheet m b bytes sound alike q e =
    let r = reads_back m in
    let same : r.quarter ≡ q = ok_same (sym r.read ∙ e) in
    let a : TellsSame (sheet_meaning b) (meaning_of r.quarter) = record {
      slots = λ k l. alike.slots k l ∙ sym (r.alike.slots k l);
      zones = alike.zones ∙ sym r.alike.zones;
      values = alike.values ∙ sym r.alike.values;
    } in
    subst (λ x. sheet_bytes (meaning_of x) ≡ b) same (same_bytes (meaning_of r.quarter) b bytes sound a)
