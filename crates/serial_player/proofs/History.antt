-- The history of a capture: what a run leaves is the serial one, and it is legal.
use Rattle.std.proofs.Common.{◌≡◌, ℕ, ◌*◌, ◌^◌, ◌<◌, ◌≤◌, List, [], map, length, refl, sym, ap}
use Rattle.std.proofs.Common.{subst, ◌∙◌, arith, zero-add}
use Rattle.std.specs.Prelude.{All}
use Rattle.std.specs.List.{AllByRecursion, range_with_len, sum_by}
use Rattle.std.proofs.lemmas.List.Elements.{recursion_from_All}
use Rattle.std.proofs.Math.Nat.{mod-lt, mul-le-mul_left, mul-le-mul_right}
use Rattle.std.proofs.lemmas.List.FromFn.{get_or-map-range_with_len, length-map-range_with_len}
use Rattle.io_caps.specs.declared.limits.TheConstants.{CAPTURE_TICKS, MOST_OUTPUTS, TICKS_PAST_BASE}
use Rattle.map_entry.specs.Setup.{SetupParts, IsSetup}
use Rattle.map_entry.specs.declared.entry.Entry.{Entry}
use Rattle.capture_file.specs.Capture.{CaptureParts, IsCapture}
use Rattle.capture_file.specs.Formats.{AllowsGrain}
use Rattle.capture_file.specs.Items.{IsItemThere, claims_of, item}
use Rattle.capture_file.specs.Result.{FitsClaim}
use Rattle.capture_file.specs.declared.format.Format.{Format}
use Rattle.packet_writer.specs.Packet.{Blocks, output_of_claim, tick_of_claim}
use Rattle.book_words.specs.declared.calls.JournalCall.{JournalCall}
use Rattle.book_words.specs.declared.history.ClaimItem.{ClaimItem}
use Rattle.book_words.specs.declared.history.History.{History}
use Rattle.book_words.specs.declared.history.ReplyItem.{ReplyItem}
use Rattle.book_words.specs.History.{history_of, in_order}
use Rattle.plain_book.proofs.Keeping.{has_outputs}
use Rattle.book_words.specs.declared.given.Given.{Given}
use Rattle.plain_book.specs.Given.{AreGiven}
use Rattle.plain_book.specs.Journal.{entries_of}
use Rattle.plain_book.proofs.Giving.{given_legal}
use Rattle.plain_book.proofs.Ordering.{in_order_keeps}
use Rattle.plain_book.proofs.Prefixes.{no_calls}
use Rattle.packet_writer.proofs.ClaimLaws.{closed_flags-closed}
use Rattle.interleavings.specs.Legal.{IsClaim, IsLegalHistory, StandsThere, closed_form}
use Rattle.interleavings.specs.Legal.{first_floor}
use Rattle.interleavings.specs.Serial.{closed_claim}
use Rattle.interleavings.specs.Told.{AreSaid, given_to}
use Rattle.interleavings.proofs.Telling.{AreEachSaid, told_calls, told_replies}
use Rattle.interleavings.proofs.Shown.{rows_fit}
use Rattle.interleavings.proofs.Whole.{claims_legal}
use Rattle.plain_book.proofs.Sound.{entries_are}
use Rattle.plain_book.specs.Legal.{IsLegalJournal}
use Rattle.serial_player.specs.Asks.{asked_by, says_by}
use Rattle.serial_player.specs.Legal.{IsLegalClosed, IsSerial}
use Rattle.serial_player.specs.Run.{AreLeft}
use Rattle.serial_player.specs.Serial.{HasTurns, Played, asks_of, blocks_of, history_by}
use Rattle.serial_player.specs.Serial.{packets_in, play_all, played, serial_history, steps_of}
use Rattle.serial_player.specs.Streams.{Turn}
use Rattle.serial_player.specs.Table.{table_of}
use Rattle.serial_player.specs.declared.asks.Step.{Step}
use Rattle.serial_player.specs.declared.run.RunParts.{RunParts}
use Rattle.serial_player.proofs.Stepping.{all_claims, resolved_claims}
use Rattle.serial_player.proofs.Tables.{table_has, table_is}
use Rattle.serial_player.proofs.Told.{are_given, given_by, said_all, stamps_rise}
use Rattle.serial_player.proofs.Wholes.{history_fits, steps_fit}
use Rattle.serial_player.specs.Claim.{FitsOutput, claim_by}
use Rattle.serial_player.specs.HistoryParts.{AreHistoryParts, capture_by, history_by_parts}
use Rattle.serial_player.specs.declared.player.HistoryParts.{HistoryParts}
use Rattle.serial_player.proofs.PacketLengths.{closed_fits}
use Rattle.serial_player.specs.declared.claims.AllClaims.{AllClaims}
use Rattle.serial_player.specs.OutputEntries.{HaveEntries}
use Rattle.serial_player.proofs.OutputEntries.{own_fit}
use Rattle.serial_player.specs.Made.{AreBy, AreClaimsOf, AreReady, all_made_by}

bounded : (a b c d : ℕ) → a ≤ b → c ≤ d → a * c ≤ b * d
bounded a b c d x y = omega (arith, mul-le-mul_right c x, mul-le-mul_left b y)

-- the claims of a capture are few
pub few_claims : (c : CaptureParts) → IsCapture c → length c.setup.device.outputs ≤ MOST_OUTPUTS
    → sum_by claims_of c.items ≤ TICKS_PAST_BASE
few_claims c is few =
    let n = length c.setup.device.outputs in
    let most : c.ticks * n ≤ CAPTURE_TICKS * MOST_OUTPUTS =
    bounded c.ticks CAPTURE_TICKS n MOST_OUTPUTS is.few few in
    omega (arith, most, is.work)

-- ---- it is legal

closed_is : (s : SetupParts) (journal : List JournalCall) (blocks : Blocks) (k : ℕ)
    → IsClaim s journal blocks (closed_form s journal blocks) k (closed_claim s journal blocks k)
closed_is s journal blocks k =
    record {
      number = refl;
      flags = closed_flags-closed s (entries_of s journal) blocks k;
      packet = refl;
    }

pub legal_is : (c : CaptureParts) (turns : List Turn)
    → (play_all c.setup (steps_of turns)).claims ≡ packets_in c
    → IsLegalClosed c turns (serial_history c turns)
unfolding serial_history
legal_is c turns count =
    let s = c.setup in
    let blocks = blocks_of c in
    let steps = steps_of turns in
    let p : Played = play_all s steps in
    let given : List Given = given_by s (played 0 [] [] []) steps in
    let are : AreGiven s [] 0 given p.journal p.claims = are_given s (played 0 [] [] []) steps in
    let sorted = in_order_keeps p.told (stamps_rise s steps) in
    let said : AreEachSaid (asked_by s.device) (says_by s.device) (asks_of turns) given
    (in_order p.told) =
    λ client. subst (λ (items : List ReplyItem). AreSaid (asked_by s.device)
    (says_by s.device) first_floor (asks_of turns client) (given_to client given) items)
    (sym (sorted.own client)) (said_all s steps client) in
    subst (λ (m : ℕ). IsLegalHistory s (asked_by s.device) (says_by s.device) StandsThere m blocks
    (closed_form s p.journal blocks) (asks_of turns) (history_by c p)) count
    (record {
      journal = given_legal s [] 0 given p.journal p.claims (no_calls s 0) are;
      claimed = claims_legal s p.journal blocks (closed_form s p.journal blocks)
          (closed_claim s p.journal blocks) p.claims (closed_is s p.journal blocks);
      replied = told_replies s (asked_by s.device) (says_by s.device) p.journal p.claims
          (asks_of turns) given (in_order p.told) are said sorted.ordered;
      calls = told_calls s (asked_by s.device) (says_by s.device) p.journal p.claims
          (asks_of turns) given (in_order p.told) are said;
    })

-- ---- what all records did

-- the rows of all claims fit their outputs
pub all_fit : (s : SetupParts) (m : ℕ) (journal : List JournalCall) (k : ℕ) → IsSetup s
    → IsLegalJournal s m journal → FitsOutput s (entries_of s journal) k
all_fit s m journal k checked legal frame within =
    let some = has_outputs s checked in
    rows_fit s (entries_of s journal) (output_of_claim s k) (tick_of_claim s k) frame
    (entries_are s m journal checked some legal) (mod-lt k some) (omega arith)

-- the claims fit the fields of a result
claims_fit : (s : SetupParts) (m : ℕ) (journal : List JournalCall) (blocks : Blocks) (count : ℕ)
    → IsSetup s → IsLegalJournal s m journal → count < 256 ^ 8
    → All (FitsClaim s.device) (map (closed_claim s journal blocks) (range_with_len 0 count))
claims_fit s m journal blocks count is legal few i d within =
    let claims = closed_claim s journal blocks in
    let lt : i < count = omega (arith, within, length-map-range_with_len claims 0 count) in
    rw (get_or-map-range_with_len claims 0 count i i d lt (zero-add i))
    (closed_fits s (entries_of s journal) blocks i is.device (omega (arith, lt, few))
    (all_fit s m journal i is legal))

-- the history that is made of them is the serial one
made_is : (c : CaptureParts) (p : HistoryParts) (q : Played) → packets_in c ≡ q.claims
    → p.journal ≡ q.journal → p.replies ≡ in_order q.told → history_by_parts c p ≡ history_by c q
made_is c p q count journal replies =
    rw (count, journal, replies) refl

-- where all steps were taken
pub parts_are : (c : CaptureParts) (steps : List Step) (left : RunParts) (p : HistoryParts)
    → IsCapture c → HasTurns c.items steps → AreLeft c.setup (play_all c.setup steps) left
    → p.table ≡ table_of c.setup.device c.items c.ticks → p.claims ≡ left.claims
    → HaveEntries (length c.setup.device.outputs) left.entries p.entries → p.journal ≡ left.journal → p.replies ≡ in_order left.replies
    → AreHistoryParts c p
unfolding serial_history
parts_are c steps left p capture of is table number entries journal replies =
    let s = c.setup in
    let blocks = blocks_of c in
    let checked = capture.setup in
    let own : steps ≡ steps_of of.turns = of.steps_are in
    let q : Played = play_all s (steps_of of.turns) in
    let has : AreLeft s q left =
    subst (λ (xs : List Step). AreLeft s (play_all s xs) left) own is in
    let inputs = length s.device.inputs in
    let count : q.claims ≡ packets_in c =
    all_claims s (steps_of of.turns)
    ∙ resolved_claims c.items (steps_of of.turns) of.turns of.items_are refl ∙ capture.work in
    let calls : p.journal ≡ q.journal = journal ∙ has.journal in
    let made : history_by_parts c p ≡ history_by c q =
    made_is c p q (sym count) calls (replies ∙ ap in_order has.replies) in
    let legal : IsLegalClosed c of.turns (serial_history c of.turns) = legal_is c of.turns count in
    let few : packets_in c < 256 ^ 8 =
    omega (arith, few_claims c capture checked.device.bounds.few_outputs, capture.work) in
    record {
      serial = record {
        turns = of.turns;
        items_are = of.items_are;
        streams = of.streams;
        value = made;
        legal = subst (IsLegalClosed c of.turns) (sym made) legal;
      };
      fits = λ fits format allowed.
          let each : AllByRecursion item.Fits (map (λ t. t.item) of.turns) =
          subst (AllByRecursion item.Fits) (sym of.items_are)
          (recursion_from_All item.Fits c.items fits) in
          let there : AllByRecursion (IsItemThere inputs) (map (λ t. t.item) of.turns) =
          subst (AllByRecursion (IsItemThere inputs)) (sym of.items_are)
          (recursion_from_All (IsItemThere inputs) c.items capture.there) in
          let short : q.claims < 256 ^ 8 = rw count few in
          let claims : All (FitsClaim s.device)
          (map (closed_claim s q.journal blocks) (range_with_len 0 q.claims)) =
          claims_fit s q.claims q.journal blocks q.claims checked has.legal short in
          rw made (history_fits format s blocks (steps_of of.turns)
          (map (closed_claim s q.journal blocks) (range_with_len 0 q.claims)) checked allowed
          (steps_fit inputs of.turns each there) short has.few has.held refl claims);
      table = table;
      claims = number ∙ has.claims ∙ count;
      entries = subst (λ es. HaveEntries (length s.device.outputs) es p.entries)
          (has.entries ∙ ap (entries_of s) (sym calls)) entries;
    }

-- the claims can be made
pub are_ready : (c : CaptureParts) (p : HistoryParts) (claims : AllClaims) → IsCapture c
    → AreHistoryParts c p → claims.setup.now ≡ c.setup → claims.count ≡ p.claims
    → claims.entries.now ≡ p.entries → claims.table.now ≡ p.table → AreReady claims
are_ready c p claims capture is setup count entries table = record {
  claims = omega (
    arith,
    count,
    is.claims,
    capture.work,
    few_claims c capture capture.setup.device.bounds.few_outputs,
  );
  device = rw setup capture.setup.device;
  outputs = rw (setup, entries) is.entries.long;
  rows = λ k lt. rw (setup, entries)
      (own_fit c.setup (entries_of c.setup p.journal) p.entries k capture.setup.device.bounds.some_output
      is.entries (all_fit c.setup _ p.journal k capture.setup is.serial.legal.journal));
  table = rw (setup, table ∙ is.table) (table_is c.setup.device c.items c.ticks);
}

-- and are those of the serial history
pub all_made : (c : CaptureParts) (p : HistoryParts) (claims : AllClaims) → IsCapture c
    → AreHistoryParts c p → claims.setup.now ≡ c.setup → claims.count ≡ p.claims
    → claims.entries.now ≡ p.entries → claims.table.now ≡ p.table
    → AreBy claims (entries_of c.setup p.journal) (blocks_of c)
all_made c p claims capture is setup count entries table = (
  rw (setup, entries) is.entries,
  λ k lt. rw (setup, table ∙ is.table)
      (table_has c.setup c.items c.ticks k (has_outputs c.setup capture.setup)
      (omega (arith, lt, count, is.claims))),
)

-- each claim that they make is that of the capture's setup
pub same_setup : (c : CaptureParts) (claims : AllClaims) (entries : List Entry) (blocks : Blocks)
    → claims.setup.now ≡ c.setup
    → all_made_by claims entries blocks ≡ claim_by c.setup entries blocks
same_setup c claims entries blocks setup =
    ap (λ (x : SetupParts). claim_by x entries blocks) setup

-- so is the history that is made of them
pub history_made : (c : CaptureParts) (p : HistoryParts) (claims : AllClaims)
    (made : List ClaimItem) → IsCapture c → AreHistoryParts c p → claims.setup.now ≡ c.setup
    → claims.count ≡ p.claims → claims.entries.now ≡ p.entries → claims.table.now ≡ p.table
    → AreClaimsOf claims made → history_of made p.journal p.replies ≡ history_by_parts c p
history_made c p claims made capture is setup count entries table value =
    let es = entries_of c.setup p.journal in
    ap (λ (xs : List ClaimItem). history_of xs p.journal p.replies)
    (value es (blocks_of c) (all_made c p claims capture is setup count entries table)
    ∙ ap (λ (claim : ℕ → ClaimItem). map claim (range_with_len 0 claims.count))
    (same_setup c claims es (blocks_of c) setup)
    ∙ ap (λ (m : ℕ). map (closed_claim c.setup p.journal (blocks_of c)) (range_with_len 0 m))
    (count ∙ is.claims))

-- ---- its format, and where its records begin, make no difference

-- to what a capture is, where the format can say the grain
pub capture_same : (c : CaptureParts) (format : Format) → IsCapture c
    → AllowsGrain format c.setup.grain → IsCapture (capture_by format c.setup c.items c.ticks)
capture_same c format is allowed = record {
  setup = is.setup;
  grain = allowed;
  work = is.work;
  few = is.few;
  there = is.there;
}

-- to its serial history
pub serial_same : (c : CaptureParts) (format : Format) (h : History)
    → IsSerial (capture_by format c.setup c.items c.ticks) h → IsSerial c h
unfolding serial_history
serial_same c format h is = record {
  turns = is.turns;
  items_are = is.items_are;
  streams = is.streams;
  value = is.value;
  legal = is.legal;
}

-- and to the parts of that
pub parts_same : (c : CaptureParts) (format : Format) (p : HistoryParts)
    → AreHistoryParts (capture_by format c.setup c.items c.ticks) p → AreHistoryParts c p
parts_same c format p are = record {
  serial = serial_same c format (history_by_parts c p) are.serial;
  fits = are.fits;
  table = are.table;
  claims = are.claims;
  entries = are.entries;
}
