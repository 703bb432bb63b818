-- The claims of a lap's workers are those of the history: each number of the lap stands once, and
-- flags and packets are those by the whole journal and over the inputs' blocks.
use Rattle.interleavings.proofs.Shapes.{HasShape}
use Rattle.std.proofs.Common.{◌≡◌, ℕ, ◌+◌, ◌-◌, ◌<◌, ◌≤◌, Bool, true, eqb, List, [], ◌∷◌, ◌++◌}
use Rattle.std.proofs.Common.{length, inl, inr, refl, sym, ap, subst, ◌∙◌, arith}
use Rattle.std.specs.Prelude.{count_by, filter}
use Rattle.std.specs.List.{AllByRecursion, AllZip}
use Rattle.std.proofs.lemmas.Bool.{cases_Bool, eqb-true, eq-eqb, ne_eqb, false≢true, ltb-true}
use Rattle.std.proofs.lemmas.Bool.{lt-ltb}
use Rattle.std.proofs.lemmas.List.Elements.{filter-append, recursion_from_All}
use Rattle.map_entry.specs.Setup.{SetupParts}
use Rattle.map_entry.specs.declared.entry.Entry.{Entry}
use Rattle.packet_writer.specs.Packet.{Blocks, tick_of_claim}
use Rattle.book_words.specs.declared.calls.JournalCall.{JournalCall}
use Rattle.book_words.specs.declared.history.ClaimItem.{ClaimItem}
use Rattle.plain_book.specs.Journal.{entries_of}
use Rattle.plain_book.specs.Legal.{IsLegalJournal}
use Rattle.claim_rule.specs.declared.plan.Plan.{Plan}
use Rattle.claim_rule.specs.Rule.{IsGood}
use Rattle.claim_rule.specs.Views.{times}
use Rattle.claim_rule.specs.declared.view.Draw.{Draw}
use Rattle.input_cells.specs.Agreement.{Agrees}
use Rattle.session_laws.specs.Facts.{Gathering, IsEnded, IsItem, IsLap, IsWorked, Lap, Made}
use Rattle.session_laws.specs.Facts.{draws_of, first_claim, form_by, is_packet, items_of}
use Rattle.interleavings.specs.Legal.{IsClaim}
use Rattle.session_laws.proofs.FoundRows.{AreFedAlike, AreRowsAlike, IsWithLater, claim_same}
use Rattle.session_laws.proofs.FoundRows.{rows_found, tick_from, tick_to}
use Rattle.session_laws.proofs.Numbered.{AreCounted, count_passed, count_zip, has_number}
use Rattle.session_laws.proofs.Numbered.{none_passed}
use Rattle.session_laws.proofs.Tabled.{below_is}

-- ---- one claim

-- a claim is one of the history, by its own number
abbrev pub IsClaimed : SetupParts → Gathering → List JournalCall → Blocks → ClaimItem → Type 0
IsClaimed s g last blocks item =
    IsClaim s last blocks (form_by s g (entries_of s last) blocks) item.k item

one_claimed : (s : SetupParts) (g : Gathering) (set blocks : Blocks) (last : List JournalCall)
    (from : ℕ) (d : Draw) (item : ClaimItem)
    → AreRowsAlike s d.found (entries_of s last) (from + d.number)
    → AreFedAlike s g set blocks (from + d.number)
    → IsItem s g set from d item → IsClaimed s g last blocks item
one_claimed s g set blocks last from d item rows fed is =
    let rows_at =
    subst (λ (k : ℕ). AreRowsAlike s d.found (entries_of s last) k) (sym is.number) rows in
    let fed_at = subst (λ (k : ℕ). AreFedAlike s g set blocks k) (sym is.number) fed in
    let own = claim_same s g d.found (entries_of s last) set blocks item.k item.found rows_at
    fed_at is.flags in
    record { number = refl; flags = own.0; packet = is.packet ∙ own.1 }

-- ---- all claims of the workers, by their draws

zip_append : {X Y : Type 0} (R : X → Y → Type 0) (xs xs' : List X) (ys ys' : List Y)
    → AllZip R xs ys → AllZip R xs' ys' → AllZip R (xs ++ xs') (ys ++ ys')
zip_append R [] xs' [] ys' all more = more
zip_append R [] xs' (y ∷ ys) ys' all more = absurd all
zip_append R (x ∷ xs) xs' [] ys' all more = absurd all
zip_append R (x ∷ xs) xs' (y ∷ ys) ys' all more = (all.0, zip_append R xs xs' ys ys' all.1 more)

zip_all : {X Y : Type 0} (R : X → Y → Type 0) (P : X → Type 0) (Q : Y → Type 0) (xs : List X)
    (ys : List Y) → AllZip R xs ys → AllByRecursion P xs → ((x : X) (y : Y) → P x → R x y → Q y)
    → AllByRecursion Q ys
zip_all R P Q [] [] all each gives = tt
zip_all R P Q [] (y ∷ ys) all each gives = absurd all
zip_all R P Q (x ∷ xs) [] all each gives = absurd all
zip_all R P Q (x ∷ xs) (y ∷ ys) all each gives =
    (gives x y each.0 all.0, zip_all R P Q xs ys all.1 each.1 gives)

all_passed : {X : Type 0} (P : X → Type 0) (q : X → Bool) (xs : List X) → AllByRecursion P xs
    → AllByRecursion (λ x. P x × (q x ≡ true)) (filter q xs)
all_passed P q [] all = tt
all_passed P q (x ∷ xs) all = elim (cases_Bool (q x)) [
  | inl hit ↦ rw hit ((all.0, hit), all_passed P q xs all.1)
  | inr miss ↦ rw miss (all_passed P q xs all.1)
]

items_made : (s : SetupParts) (g : Gathering) (set : Blocks) (from packets : ℕ)
    (workers : List Made) → AllByRecursion (IsWorked s g from packets) workers
    → AllByRecursion (λ w. Agrees s.device w.looks w.heard set) workers
    → AllZip (IsItem s g set from) (filter (is_packet packets) (draws_of workers))
    (items_of workers)
items_made s g set from packets [] worked read = tt
items_made s g set from packets (w ∷ ws) worked read =
    rw (filter-append (is_packet packets) w.draws (draws_of ws))
    (zip_append (IsItem s g set from) (filter (is_packet packets) w.draws)
    (filter (is_packet packets) (draws_of ws)) w.items (items_of ws) (worked.0 set read.0)
    (items_made s g set from packets ws worked.1 read.1))

-- ---- their numbers

abbrev pub is_number : ℕ → Draw → Bool
is_number x d = eqb d.number x

pub times_is : (x : ℕ) (ds : List Draw) → times x ds ≡ count_by (is_number x) ds
times_is x ds = refl

same_number : (from x y : ℕ) → eqb (from + x) (from + y) ≡ eqb x y
same_number from x y = elim (cases_Bool (eqb x y)) [
  | inl same ↦ eq-eqb (from + x) (from + y) (omega (arith, eqb-true x y same)) ∙ sym same
  | inr other ↦
      ne_eqb (from + x) (from + y)
      (λ e. false≢true (sym other ∙ eq-eqb x y (omega (arith, e)))) ∙ sym other
]

drawn_once : (plan : Plan) (packets : ℕ) (list : List Entry) (ds : List Draw) (x : ℕ)
    → IsEnded plan packets list ds → x < packets → count_by (is_number x) ds ≡ 1
drawn_once plan packets list ds x ended lt =
    sym (times_is x ds) ∙ ended.once x ∙ below_is x ended.drawn
    ∙ rw (lt-ltb x ended.drawn (omega (arith, lt, ended.full))) refl

items_counted : (s : SetupParts) (g : Gathering) (set : Blocks) (plan : Plan) (from packets : ℕ)
    (list : List Entry) (ds : List Draw) (items : List ClaimItem) → IsEnded plan packets list ds
    → AllZip (IsItem s g set from) (filter (is_packet packets) ds) items
    → AreCounted from (from + packets) items
items_counted s g set plan from packets list ds items ended made =
    let by : (k : ℕ) → count_by (has_number k) items
    ≡ count_by (λ d. eqb (from + d.number) k) (filter (is_packet packets) ds) =
    λ k. count_zip (IsItem s g set from) (λ d. eqb (from + d.number) k) (has_number k)
    (filter (is_packet packets) ds) items made (λ d item is. ap (λ (x : ℕ). eqb x k) is.number)
    in
    record {
      one = λ k low high.
          let x : ℕ = k - from in
          let at : from + x ≡ k = omega (arith, low) in
          by k
          ∙ count_passed (λ (d : Draw). eqb (from + d.number) k) (is_packet packets)
          (is_number x) ds
          (λ d. ap (λ (y : ℕ). eqb (from + d.number) y) (sym at) ∙ same_number from d.number x)
          (λ d hit. lt-ltb d.number packets (omega (arith, eqb-true d.number x hit, at, high)))
          ∙ drawn_once plan packets list ds x ended (omega (arith, at, high));
      none = λ k out.
          by k
          ∙ none_passed (λ (d : Draw). eqb (from + d.number) k) (is_packet packets) ds
          (λ d early.
          let lt : d.number < packets = ltb-true d.number packets early in
          ne_eqb (from + d.number) k
          (λ same. elim out
          [ inl low ↦ omega (arith, same, low) | inr high ↦ omega (arith, same, high, lt) ]));
    }

-- ---- a lap

-- claims of the history, of which each number from one on below another stands once
pub record AreItems (s : SetupParts) (g : Gathering) (blocks : Blocks) (last : List JournalCall)
    (low high : ℕ) (items : List ClaimItem) : Type 0 where
  pub counted : AreCounted low high items
  pub claimed : AllByRecursion (IsClaimed s g last blocks) items

lap_claimed : (s : SetupParts) (g : Gathering) (blocks : Blocks) (m : ℕ) (last : List JournalCall)
    (l : Lap) (d : Draw) (item : ClaimItem) → HasShape s → IsLegalJournal s m last
    → IsWithLater l.journal (first_claim s l + l.made) last
    → (lap : IsLap s g blocks l) → IsGood lap.plan lap.list lap.ended.drawn d
    → d.number < l.made
    → IsItem s g lap.set (first_claim s l) d item → IsClaimed s g last blocks item
lap_claimed s g blocks m last l d item some legal goes lap good early is =
    let n : ℕ = length s.device.outputs in
    let k : ℕ = first_claim s l + d.number in
    let first : s.device.base + l.before ≤ tick_of_claim s k =
    omega (arith, tick_from n l.before d.number some.0) in
    let past : tick_of_claim s k < s.device.base + l.before + l.ticks =
    omega (
      arith,
      tick_to n l.before d.number l.ticks some.0
          (omega (arith, early, lap.most, lap.packets_are)),
    ) in
    one_claimed s g lap.set blocks last (first_claim s l) d item
    (rows_found s lap.plan m l.before l.made lap.ended.drawn lap.list l.journal last d some
    lap.setup_is lap.from_is legal goes lap.rules good (omega (arith, early, lap.most)) early)
    (λ input lt. lap.fed input (tick_of_claim s k) lt first past) is

pub lap_items : (s : SetupParts) (g : Gathering) (blocks : Blocks) (m : ℕ) (last : List JournalCall)
    (l : Lap) → HasShape s → IsLegalJournal s m last
    → IsWithLater l.journal (first_claim s l + l.made) last
    → IsLap s g blocks l
    → AreItems s g blocks last (first_claim s l) (first_claim s l + l.made) (items_of l.workers)
lap_items s g blocks m last l some legal goes lap =
    let from : ℕ = first_claim s l in
    let ds : List Draw = draws_of l.workers in
    let zip = items_made s g lap.set from l.made l.workers
    (recursion_from_All (IsWorked s g from l.made) l.workers lap.worked)
    (recursion_from_All (λ (w : Made). Agrees s.device w.looks w.heard lap.set)
    l.workers lap.read) in
    record {
      counted = items_counted s g lap.set lap.plan from l.made lap.list ds
          (items_of l.workers) lap.ended zip;
      claimed =
          zip_all (IsItem s g lap.set from)
          (λ d. IsGood lap.plan lap.list lap.ended.drawn d × (is_packet l.made d ≡ true))
          (IsClaimed s g last blocks) (filter (is_packet l.made) ds) (items_of l.workers) zip
          (all_passed (IsGood lap.plan lap.list lap.ended.drawn) (is_packet l.made) ds
          (recursion_from_All (IsGood lap.plan lap.list lap.ended.drawn) ds lap.ended.good))
          (λ d item good is.
          lap_claimed s g blocks m last l d item some legal goes lap good.0
          (ltb-true d.number l.made good.1) is);
    }
