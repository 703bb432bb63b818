-- The facts of a session can be met, over blocks that are there: for any answers of a book there is
-- a session with them, in which one worker draws all claims, looks at each input after a closing
-- number above the tick, and hears every sample. So what is said of sessions speaks of something.
use Rattle.std.proofs.Common.{◌≡◌, ℕ, zero, suc, ◌+◌, ◌*◌, ◌<◌, ◌≤◌, ◌⊎◌, Bool, true, false}
use Rattle.std.proofs.Common.{List, [], ◌∷◌, ◌++◌, length, map, Option, Some, None, inl, inr, refl}
use Rattle.std.proofs.Common.{sym, ap, subst, ◌∙◌, zero-add, arith, get_or, ℤ}
use Rattle.std.specs.Prelude.{All, IfSome, ◌&&◌, count_by, filter, is_some, pos}
use Rattle.std.specs.List.{AllZip, Contains, flat_map, range_with_len}
use Rattle.std.proofs.lemmas.Bool.{cases_Bool, cases_lt, eq-eqb, ne_eqb, false≢true, lt-ltb}
use Rattle.std.proofs.lemmas.Bool.{le-ltb}
use Rattle.std.proofs.lemmas.List.{append-nil, ext_get_or}
use Rattle.std.proofs.lemmas.List.Elements.{All-append, All-contains, All-from_recursion, All-map}
use Rattle.std.proofs.lemmas.List.Elements.{All-nil, Contains-append_left, Contains-append_right}
use Rattle.std.proofs.lemmas.List.FromFn.{get_or-map-range_with_len, length-map-range_with_len}
use Rattle.map_entry.specs.declared.entry.Entry.{Entry}
use Rattle.map_entry.specs.Row.{channels_of}
use Rattle.map_entry.specs.Setup.{SetupParts}
use Rattle.packet_writer.specs.Flags.{AreClosed, closed_flags, is_there, names_by}
use Rattle.packet_writer.specs.Heard.{sample_in}
use Rattle.packet_writer.specs.Packet.{Blocks, packet_by, tick_of_claim}
use Rattle.packet_writer.proofs.ClaimLaws.{closed_are_free, closed_flags-closed, packet_by-same}
use Rattle.book_words.specs.declared.calls.JournalCall.{JournalCall}
use Rattle.book_words.specs.declared.given.Given.{Given}
use Rattle.book_words.specs.declared.history.ClaimItem.{ClaimItem}
use Rattle.plain_book.specs.Given.{AreGiven}
use Rattle.book_words.specs.History.{claim_item}
use Rattle.plain_book.specs.Journal.{entries_of}
use Rattle.claim_rule.specs.declared.plan.Plan.{Plan}
use Rattle.claim_rule.specs.Claims.{tick_of}
use Rattle.claim_rule.specs.Rule.{IsGood}
use Rattle.claim_rule.specs.Views.{once_below, times}
use Rattle.claim_rule.specs.declared.view.Draw.{Draw}
use Rattle.input_cells.specs.Agreement.{Agrees}
use Rattle.input_rule.specs.declared.view.HeardSample.{HeardSample}
use Rattle.input_rule.specs.declared.view.Look.{Look}
use Rattle.session_laws.specs.Facts.{Gathering, HasSession, HaveShapes, IsFedAs, IsItem, IsLap}
use Rattle.session_laws.specs.Facts.{IsWorked, Lap, Made, form_by, is_packet}
use Rattle.session_laws.specs.Facts.Gathering.{GatherClosed, GatherFree}
use Rattle.interleavings.specs.Told.{requests_of}
use Rattle.session_laws.proofs.FoundRows.{within}
use Rattle.session_laws.proofs.Lapped.{is_number, times_is}
use Rattle.session_laws.proofs.Numbered.{count_cons, hit, miss}
use Rattle.session_laws.proofs.Tabled.{below_is}

-- ---- what the worker makes

abbrev draw_of : List Entry → ℕ → Draw
draw_of entries x = record { number = x; found = entries }

-- its look at an input for claim k: what is there, after the tick was closed
abbrev look_at : SetupParts → Blocks → ℕ → ℕ → Look
look_at s blocks k input =
    record {
      input = input;
      tick = tick_of_claim s k;
      present = is_there s blocks k input;
      closed = tick_of_claim s k + 1;
    }

-- its looks at all inputs, for a given number of claims
abbrev looks_at : SetupParts → Blocks → ℕ → List Look
looks_at s blocks k = map (look_at s blocks k) (range_with_len 0 (length s.device.inputs))

abbrev all_looks : SetupParts → Blocks → ℕ → List Look
all_looks s blocks m = flat_map (looks_at s blocks) (range_with_len 0 m)

-- a sample of a block, at a place
abbrev sample_of : ℕ → ℕ → List ℤ → ℕ → HeardSample
sample_of input tick samples place =
    record {
      input = input;
      tick = tick;
      place = place;
      value = sample_in (Some samples) place;
    }

-- all samples of a block
abbrev samples_of : ℕ → ℕ → Option (List ℤ) → List HeardSample
samples_of input tick None = []
samples_of input tick (Some samples) =
    map (sample_of input tick samples) (range_with_len 0 (length samples))

-- all samples of all blocks, for a given number of claims
abbrev heard_of : SetupParts → Blocks → ℕ → ℕ → List HeardSample
heard_of s blocks k input =
    samples_of input (tick_of_claim s k) (blocks input (tick_of_claim s k))

abbrev heard_at : SetupParts → Blocks → ℕ → List HeardSample
heard_at s blocks k =
    flat_map (heard_of s blocks k) (range_with_len 0 (length s.device.inputs))

abbrev all_heard : SetupParts → Blocks → ℕ → List HeardSample
all_heard s blocks m = flat_map (heard_at s blocks) (range_with_len 0 m)

-- claim k: its flags in closed form, and its packet
abbrev item_of : SetupParts → List Entry → Blocks → ℕ → ClaimItem
item_of s entries blocks k =
    let flags = closed_flags s entries blocks k in
    claim_item k flags (packet_by s entries blocks flags k)

abbrev made_all : SetupParts → List Entry → Blocks → ℕ → Made
made_all s entries blocks m =
    record {
      draws = map (draw_of entries) (range_with_len 0 m);
      looks = all_looks s blocks m;
      heard = all_heard s blocks m;
      items = map (item_of s entries blocks) (range_with_len 0 m);
    }

-- ---- numbers

count_out : (entries : List Entry) (x a n : ℕ) → (x < a) ⊎ (a + n ≤ x)
    → count_by (is_number x) (map (draw_of entries) (range_with_len a n)) ≡ 0
count_out entries x a zero out = refl
count_out entries x a (suc n) out =
    let rest : List Draw = map (draw_of entries) (range_with_len (a + 1) n) in
    let apart : a ≡ x → ⊥ =
    λ e. elim out [ inl low ↦ omega (arith, e, low) | inr high ↦ omega (arith, e, high) ] in
    let further : (x < a + 1) ⊎ (a + 1 + n ≤ x) =
    elim out [ inl low ↦ inl (omega (arith, low)) | inr high ↦ inr (omega (arith, high)) ] in
    omega (
      arith,
      count_cons (is_number x) (draw_of entries a) rest,
      miss (is_number x (draw_of entries a)) (ne_eqb a x apart),
      count_out entries x (a + 1) n further,
    )

count_in : (entries : List Entry) (x a n : ℕ) → a ≤ x → x < a + n
    → count_by (is_number x) (map (draw_of entries) (range_with_len a n)) ≡ 1
count_in entries x a zero low high = absurd (omega (arith, low, high))
count_in entries x a (suc n) low high =
    let rest : List Draw = map (draw_of entries) (range_with_len (a + 1) n) in
    elim (cases_lt a x) [
      | inl below ↦
          omega (
            arith,
            count_cons (is_number x) (draw_of entries a) rest,
            miss (is_number x (draw_of entries a)) (ne_eqb a x (λ e. omega (arith, e, below))),
            count_in entries x (a + 1) n (omega (arith, below)) (omega (arith, high)),
          )
      | inr at ↦
          let same : a ≡ x = omega (arith, low, at) in
          omega (
            arith,
            count_cons (is_number x) (draw_of entries a) rest,
            hit (is_number x (draw_of entries a)) (eq-eqb a x same),
            count_out entries x (a + 1) n (inl (omega (arith, same))),
          )
    ]

drawn_once : (entries : List Entry) (m x : ℕ)
    → times x (map (draw_of entries) (range_with_len 0 m)) ≡ once_below x m
drawn_once entries m x =
    times_is x (map (draw_of entries) (range_with_len 0 m))
    ∙ elim (cases_lt x m) [
      | inl low ↦ count_in entries x 0 m (omega arith) (omega (arith, low))
          ∙ sym (below_is x m ∙ rw (lt-ltb x m low) refl)
      | inr high ↦ count_out entries x 0 m (inr (omega (arith, high)))
          ∙ sym (below_is x m ∙ rw (le-ltb x m high) refl)
    ]

-- the plan of its table
abbrev plan_for : SetupParts → ℕ → Plan
plan_for s packets =
    record {
      setup = s;
      from = 0 * length s.device.outputs;
      packets = packets;
      workers = 1;
      given = 0;
    }

good_draw : (plan : Plan) (entries : List Entry) (m x : ℕ) → x < m
    → IsGood plan entries m (draw_of entries x)
good_draw plan entries m x lt =
    record {
      below = lt;
      rest = [];
      front = sym (append-nil entries);
      later = λ early. All-nil (λ (e : Entry). tick_of plan x < e.tick);
    }

good_draws : (plan : Plan) (entries : List Entry) (m : ℕ)
    → All (IsGood plan entries m) (map (draw_of entries) (range_with_len 0 m))
good_draws plan entries m i d lt =
    let inside : i < m = omega (arith, lt, length-map-range_with_len (draw_of entries) 0 m) in
    subst (IsGood plan entries m)
    (sym (get_or-map-range_with_len (draw_of entries) 0 m i i d inside (zero-add i)))
    (good_draw plan entries m i inside)

-- ---- lists of lists

in_range : {X : Type 0} (f : ℕ → List X) (a n k : ℕ) (x : X) → a ≤ k → k < a + n → Contains (f k) x
    → Contains (flat_map f (range_with_len a n)) x
in_range f a zero k x low high has = absurd (omega (arith, low, high))
in_range f a (suc n) k x low high has = elim (cases_lt a k) [
  | inl below ↦
      Contains-append_right (f a) (flat_map f (range_with_len (a + 1) n)) x
      (in_range f (a + 1) n k x (omega (arith, below)) (omega (arith, high)) has)
  | inr at ↦
      let same : k ≡ a = omega (arith, low, at) in
      Contains-append_left (f a) (flat_map f (range_with_len (a + 1) n)) x
      (subst (λ (j : ℕ). Contains (f j) x) same has)
]

all_in_range : {X : Type 0} (P : X → Type 0) (f : ℕ → List X) (a n : ℕ) → ((k : ℕ) → All P (f k))
    → All P (flat_map f (range_with_len a n))
all_in_range P f a zero each = All-nil P
all_in_range P f a (suc n) each =
    All-append P (f a) (flat_map f (range_with_len (a + 1) n)) (each a)
    (all_in_range P f (a + 1) n each)

in_map : {X : Type 0} (f : ℕ → X) (n k : ℕ) → k < n → Contains (map f (range_with_len 0 n)) (f k)
in_map f n k lt = (
  k,
  omega (arith, lt, length-map-range_with_len f 0 n),
  get_or-map-range_with_len f 0 n k k (f k) lt (zero-add k),
)

all_in_map : {X : Type 0} (P : X → Type 0) (f : ℕ → X) (n : ℕ) → ((k : ℕ) → P (f k))
    → All P (map f (range_with_len 0 n))
all_in_map P f n each =
    All-map P f (range_with_len 0 n) (λ i d lt. each (get_or (range_with_len 0 n) i d))

-- ---- what the worker sees agrees with the blocks

abbrev IsSeenIn : Blocks → Look → Type 0
IsSeenIn blocks l = l.present ≡ true → is_some (blocks l.input l.tick) ≡ true

abbrev IsMissedIn : Blocks → Look → Type 0
IsMissedIn blocks l = l.present ≡ false → l.tick < l.closed → blocks l.input l.tick ≡ None

abbrev IsReadIn : Blocks → HeardSample → Type 0
IsReadIn blocks h = sample_in (blocks h.input h.tick) h.place ≡ h.value

none_from : {X : Type 0} (o : Option X) → is_some o ≡ false → o ≡ None
none_from None out = refl
none_from (Some x) out = absurd (false≢true (sym out))

samples_read : (blocks : Blocks) (input tick : ℕ) (o : Option (List ℤ)) → blocks input tick ≡ o
    → All (IsReadIn blocks) (samples_of input tick o)
samples_read blocks input tick None e = All-nil (IsReadIn blocks)
samples_read blocks input tick (Some samples) e =
    all_in_map (IsReadIn blocks) (sample_of input tick samples) (length samples)
    (λ place. ap (λ (o : Option (List ℤ)). sample_in o place) e)

all_agrees : (s : SetupParts) (blocks : Blocks) (m : ℕ) → HaveShapes s.device blocks
    → Agrees s.device (all_looks s blocks m) (all_heard s blocks m) blocks
all_agrees s blocks m shapes = record {
  seen = all_in_range (IsSeenIn blocks) (looks_at s blocks) 0 m
      (λ k. all_in_map (IsSeenIn blocks) (look_at s blocks k) (length s.device.inputs)
      (λ input on. on));
  missed = all_in_range (IsMissedIn blocks) (looks_at s blocks) 0 m
      (λ k. all_in_map (IsMissedIn blocks) (look_at s blocks k) (length s.device.inputs)
      (λ input out late. none_from (blocks input (tick_of_claim s k)) out));
  read = all_in_range (IsReadIn blocks) (heard_at s blocks) 0 m
      (λ k. all_in_range (IsReadIn blocks) (heard_of s blocks k) 0 (length s.device.inputs)
      (λ input. samples_read blocks input (tick_of_claim s k)
      (blocks input (tick_of_claim s k)) refl));
  shape = shapes;
}

-- ---- other blocks that agree are the same where the worker looked

abbrev IsLong : ℕ → Option (List ℤ) → Type 0
IsLong n o = IfSome o (λ samples. length samples ≡ n)

same_samples : (n : ℕ) (o p : Option (List ℤ)) → is_some p ≡ is_some o → IsLong n o → IsLong n p
    → ((samples : List ℤ) → o ≡ Some samples → (place : ℕ) → place < length samples
    → sample_in p place ≡ sample_in (Some samples) place) → p ≡ o
same_samples n None None there long other heard = refl
same_samples n None (Some ys) there long other heard = absurd (false≢true (sym there))
same_samples n (Some xs) None there long other heard = absurd (false≢true there)
same_samples n (Some xs) (Some ys) there long other heard =
    ap (λ (samples : List ℤ). Some samples)
    (ext_get_or (pos 0) ys xs (other ∙ sym long)
    (λ i lt. heard xs refl i (omega (arith, lt, long, other))))

same_there : (s : SetupParts) (blocks others : Blocks) (m k input : ℕ)
    → Agrees s.device (all_looks s blocks m) (all_heard s blocks m) others → k < m
    → input < length s.device.inputs → is_there s others k input ≡ is_there s blocks k input
same_there s blocks others m k input is early lt =
    let has : Contains (all_looks s blocks m) (look_at s blocks k input) =
    in_range (looks_at s blocks) 0 m k (look_at s blocks k input) (omega arith)
    (omega (arith, early))
    (in_map (look_at s blocks k) (length s.device.inputs) input lt) in
    elim (cases_Bool (is_there s blocks k input)) [
      | inl on ↦
          All-contains (IsSeenIn others) (all_looks s blocks m) (look_at s blocks k input) is.seen
          has on ∙ sym on
      | inr out ↦
          ap is_some (All-contains (IsMissedIn others) (all_looks s blocks m)
          (look_at s blocks k input) is.missed has out (omega arith)) ∙ sym out
    ]

same_heard : (s : SetupParts) (blocks others : Blocks) (m k input : ℕ)
    → Agrees s.device (all_looks s blocks m) (all_heard s blocks m) others → k < m
    → input < length s.device.inputs
    → (samples : List ℤ) → blocks input (tick_of_claim s k) ≡ Some samples → (place : ℕ)
    → place < length samples
    → sample_in (others input (tick_of_claim s k)) place ≡ sample_in (Some samples) place
same_heard s blocks others m k input is early lt samples e place inside =
    let tick : ℕ = tick_of_claim s k in
    let h : HeardSample = sample_of input tick samples place in
    let own : Contains (heard_of s blocks k input) h =
    subst (λ (o : Option (List ℤ)). Contains (samples_of input tick o) h) (sym e)
    (in_map (sample_of input tick samples) (length samples) place inside) in
    All-contains (IsReadIn others) (all_heard s blocks m) h is.read
    (in_range (heard_at s blocks) 0 m k h (omega arith) (omega (arith, early))
    (in_range (heard_of s blocks k) 0 (length s.device.inputs) input h (omega arith)
    (omega (arith, lt)) own))

-- the blocks of the tick of a claim are the same
abbrev AreSameAt : SetupParts → Blocks → Blocks → ℕ → Type 0
AreSameAt s blocks others k =
    (input : ℕ) → input < length s.device.inputs
    → others input (tick_of_claim s k) ≡ blocks input (tick_of_claim s k)

same_blocks : (s : SetupParts) (blocks others : Blocks) (m k : ℕ) → HaveShapes s.device blocks
    → Agrees s.device (all_looks s blocks m) (all_heard s blocks m) others → k < m
    → AreSameAt s blocks others k
same_blocks s blocks others m k shapes is early input lt =
    let tick : ℕ = tick_of_claim s k in
    same_samples (s.device.rate.frames * channels_of s.device.inputs input)
    (blocks input tick) (others input tick) (same_there s blocks others m k input is early lt)
    (shapes input tick lt) (is.shape input tick lt)
    (same_heard s blocks others m k input is early lt)

-- ---- claims

-- what is taken as seen is there
abbrev IsSightThere : SetupParts → Gathering → Blocks → Type 0
IsSightThere s GatherClosed blocks = Unit {0}
IsSightThere s (GatherFree seen) blocks =
    (k input : ℕ) → seen k input ≡ true → is_there s blocks k input ≡ true

closed_over : (s : SetupParts) (entries : List Entry) (blocks others : Blocks) (k : ℕ)
    → AreSameAt s blocks others k
    → AreClosed s entries others k (closed_flags s entries blocks k)
closed_over s entries blocks others k same =
    let own = closed_flags-closed s entries blocks k in
    record {
      long = own.long;
      each = λ input lt. own.each input lt
          ∙ ap (λ (o : Option (List ℤ)). names_by s entries k input && is_some o)
          (sym (same input lt));
    }

form_over : (s : SetupParts) (g : Gathering) (entries : List Entry) (blocks others : Blocks) (k : ℕ)
    → IsSightThere s g blocks → AreSameAt s blocks others k
    → form_by s g entries others k (closed_flags s entries blocks k)
form_over s GatherClosed entries blocks others k there same =
    closed_over s entries blocks others k same
form_over s (GatherFree seen) entries blocks others k there same =
    closed_are_free s seen entries others k (closed_flags s entries blocks k)
    (λ input lt on. ap is_some (same input lt) ∙ there k input on)
    (closed_over s entries blocks others k same)

is_item : (s : SetupParts) (g : Gathering) (entries : List Entry) (blocks others : Blocks)
    (from k : ℕ) → IsSightThere s g blocks → from ≡ 0 → AreSameAt s blocks others k
    → IsItem s g others from (draw_of entries k) (item_of s entries blocks k)
is_item s g entries blocks others from k there first same =
    let flags : List Bool = closed_flags s entries blocks k in
    let long = (closed_flags-closed s entries blocks k).long in
    record {
      number = omega (arith, first);
      flags = form_over s g entries blocks others k there same;
      packet = packet_by-same s entries entries blocks others flags flags k (λ frame lt. refl)
          (λ input named. refl)
          (λ input named on.
          sym (same input (within (length s.device.inputs) input flags long on)));
    }

are_items : (s : SetupParts) (g : Gathering) (entries : List Entry) (blocks others : Blocks)
    (from m a n : ℕ) → IsSightThere s g blocks → from ≡ 0
    → ((k : ℕ) → k < m → AreSameAt s blocks others k) → a + n ≤ m
    → AllZip (IsItem s g others from)
    (filter (is_packet m) (map (draw_of entries) (range_with_len a n)))
    (map (item_of s entries blocks) (range_with_len a n))
are_items s g entries blocks others from m a zero there first same le = tt
are_items s g entries blocks others from m a (suc n) there first same le =
    rw (lt-ltb a m (omega (arith, le))) (
      is_item s g entries blocks others from a there first (same a (omega (arith, le))),
      are_items s g entries blocks others from m (a + 1) n there first same (omega (arith, le)),
    )

is_worked : (s : SetupParts) (g : Gathering) (entries : List Entry) (blocks : Blocks) (from m : ℕ)
    → IsSightThere s g blocks → HaveShapes s.device blocks → from ≡ 0
    → IsWorked s g from m (made_all s entries blocks m)
is_worked s g entries blocks from m there shapes first others agrees =
    are_items s g entries blocks others from m 0 m there first
    (λ k lt. same_blocks s blocks others m k shapes agrees lt) (omega arith)

-- ---- the session

abbrev one_lap : SetupParts → Blocks → ℕ → List Given → List JournalCall → Lap
one_lap s blocks ticks given journal =
    record {
      before = 0;
      ticks = ticks;
      made = ticks * length s.device.outputs;
      given = given;
      journal = journal;
      workers =
          made_all s (entries_of s journal) blocks (ticks * length s.device.outputs) ∷ [];
    }

fed_itself : (g : Gathering) (o : Option (List ℤ)) → IsFedAs g o o
fed_itself GatherClosed o = refl
fed_itself (GatherFree seen) o = λ on. refl

all_one : {X : Type 0} (P : X → Type 0) (x : X) → P x → All P (x ∷ [])
all_one P x is = All-from_recursion P (x ∷ []) (is, tt)

is_lap : (s : SetupParts) (g : Gathering) (blocks : Blocks) (ticks : ℕ) (given : List Given)
    (journal : List JournalCall) → IsSightThere s g blocks → HaveShapes s.device blocks
    → IsLap s g blocks (one_lap s blocks ticks given journal)
is_lap s g blocks ticks given journal there shapes =
    let m : ℕ = ticks * length s.device.outputs in
    let from : ℕ = 0 * length s.device.outputs in
    let entries : List Entry = entries_of s journal in
    let ds : List Draw = map (draw_of entries) (range_with_len 0 m) in
    record {
      plan = plan_for s m;
      setup_is = refl;
      from_is = refl;
      packets_are = refl;
      most = omega arith;
      list = entries;
      set = blocks;
      ended = record {
        drawn = m;
        good = rw (append-nil ds) (good_draws (plan_for s m) entries m);
        once = λ x. rw (append-nil ds) (drawn_once entries m x);
        full = omega arith;
      };
      rules = λ output key there since. refl;
      worked = all_one (IsWorked s g from m) (made_all s entries blocks m)
          (is_worked s g entries blocks from m there shapes (omega arith));
      read = all_one (λ (w : Made). Agrees s.device w.looks w.heard blocks)
          (made_all s entries blocks m) (all_agrees s blocks m shapes);
      fed = λ input tick lt low high. fed_itself g (blocks input tick);
    }

-- over blocks of their inputs' shapes, and by sights of blocks that are there
pub session_is : (s : SetupParts) (g : Gathering) (blocks : Blocks) (ticks : ℕ)
    (given : List Given) (journal : List JournalCall) → IsSightThere s g blocks
    → HaveShapes s.device blocks → AreGiven s [] 0 given journal (ticks * length s.device.outputs)
    → HasSession s g blocks (ticks * length s.device.outputs) given journal
session_is s g blocks ticks given journal there shapes is =
    let m : ℕ = ticks * length s.device.outputs in
    let none : 0 * length s.device.outputs ≡ 0 = omega arith in (
      one_lap s blocks ticks given journal ∷ [],
      record {
        journal = journal;
        left = λ client. [];
        laps_are = (
          sym none,
          (
            is_lap s g blocks ticks given journal there shapes,
            (
              subst (λ (high : ℕ). AreGiven s [] 0 given journal high) (sym (zero-add m)) is,
              (zero-add m, refl),
            ),
          ),
        );
        late_are = (refl, omega arith);
        shared = λ client. append-nil (requests_of (given ++ []) client)
            ∙ ap (λ (gs : List Given). requests_of gs client) (append-nil given);
        rest = λ client. refl;
      },
    )
