-- What the steps of a run do: they keep what its claims and calls are.
use Rattle.std.proofs.Common.{◌≡◌, ℕ, ◌+◌, ◌/◌, ◌^◌, ◌<◌, ◌≤◌, List, [], ◌++◌}
use Rattle.std.proofs.Common.{take, drop, refl, sym, ap, ◌∙◌, arith}
use Rattle.std.proofs.Common.{length, subst}
use Rattle.std.specs.Prelude.{All, replicate, slice_index_or}
use Rattle.std.specs.List.{AllByRecursion}
use Rattle.std.specs.Option.{option_to_list}
use Rattle.std.proofs.Math.Nat.{mul-div_cancel}
use Rattle.std.proofs.lemmas.List.{drop_at, get_or-replicate}
use Rattle.std.proofs.lemmas.List.{length-replicate, take_at}
use Rattle.io_caps.specs.declared.limits.TheConstants.{CLIENTS, TICKS_PAST_BASE}
use Rattle.map_entry.specs.Entry.{selected}
use Rattle.map_entry.specs.Tick.{frame_key}
use Rattle.map_entry.specs.Setup.{IsSetup, SetupParts}
use Rattle.packet_writer.specs.Packet.{output_of_claim, tick_of_claim}
use Rattle.plain_book.specs.Book.{call_of, reply_of}
use Rattle.plain_book.specs.Desk.{DeskParts, desk_parts}
use Rattle.plain_book.specs.Journal.{entries_of}
use Rattle.plain_book.specs.Legal.{IsLegalJournal}
use Rattle.book_words.specs.declared.calls.JournalCall.{JournalCall}
use Rattle.book_words.specs.declared.requests.Request.{Request}
use Rattle.book_words.specs.declared.requests.Stamp.{Stamp}
use Rattle.plain_book.proofs.Commits.{legal_later}
use Rattle.plain_book.proofs.Giving.{with_answer}
use Rattle.plain_book.proofs.Keeping.{has_outputs}
use Rattle.plain_book.proofs.Prefixes.{no_calls}
use Rattle.plain_book.proofs.Steady.{claimed}
use Rattle.serial_player.specs.Legal.{first_of_tick}
use Rattle.interleavings.specs.Legal.{first_floor}
use Rattle.interleavings.specs.Serial.{SerialParts, serial_parts}
use Rattle.serial_player.specs.Asks.{IsAskThere}
use Rattle.serial_player.specs.Run.{AreAll, CanStep, HasAsked, HasPlayed, IsRun, IsRunOf}
use Rattle.serial_player.specs.Run.{IsWritable, StepsOn, floor_at, parts_of}
use Rattle.serial_player.specs.Serial.{IsStepThere, claims_by, play_step, played}
use Rattle.serial_player.specs.declared.asks.ClientAsk.{ClientAsk}
use Rattle.serial_player.specs.declared.asks.Step.{Step}
use Rattle.serial_player.specs.declared.asks.Step.TheVariants.{Claims, Ask}
use Rattle.serial_player.specs.declared.floors.Floors.{Floors}
use Rattle.serial_player.specs.declared.run.Run.{Run}

-- ---- rows stay

-- the first claim of a tick is of the tick
pub first_tick_is : (s : SetupParts) (k : ℕ) → 0 < length s.device.outputs
    → tick_of_claim s (first_of_tick (length s.device.outputs) k) ≡ tick_of_claim s k
first_tick_is s k some = let n =
    length s.device.outputs in ap (λ (q : ℕ). s.device.base + q) (mul-div_cancel (k / n) some)

-- Where all further calls were accepted after a claim of the tick, a claim's rows are the same
-- without them.
pub selected_stays : (s : SetupParts) (m : ℕ) (journal more : List JournalCall) (k frame : ℕ)
    → IsSetup s → IsLegalJournal s m (journal ++ more)
    → All (λ call. first_of_tick (length s.device.outputs) k < call.at) more → frame < 2 ^ 16
    → selected (entries_of s (journal ++ more)) (output_of_claim s k)
    (frame_key (tick_of_claim s k) frame)
    ≡ selected (entries_of s journal) (output_of_claim s k) (frame_key (tick_of_claim s k) frame)
selected_stays s m journal more k frame is legal late few =
    let first = first_of_tick (length s.device.outputs) k in
    let some = has_outputs s is in
    let o = output_of_claim s k in
    let tick = first_tick_is s k some in
    let front : take (length journal) (journal ++ more) ≡ journal =
    take_at journal more (length journal) refl in
    let behind : All (λ (call : JournalCall). first < call.at)
    (drop (length journal) (journal ++ more)) =
    rw (drop_at journal more (length journal) refl) late in
    ap (λ (t : ℕ). selected (entries_of s (journal ++ more)) o (frame_key t frame)) (sym tick)
    ∙ claimed s m (journal ++ more) o first (length journal) frame some legal behind few
    ∙ ap (λ (j : List JournalCall). selected (entries_of s j) o
    (frame_key (tick_of_claim s first) frame)) front
    ∙ ap (λ (t : ℕ). selected (entries_of s journal) o (frame_key t frame)) tick

-- ---- an ask

-- the journal after a request at these claims
abbrev journal_behind : SetupParts → List JournalCall → ℕ → ℕ → Request → List JournalCall
journal_behind s journal client claims request =
    journal ++ option_to_list
    (call_of s journal client claims request (reply_of s journal claims request))

-- what a run has made stays where the book is asked
pub asked_run : (s : SetupParts) (old new : Run) (client : ℕ) (request : Request) → IsRun s old
    → new.setup ≡ old.setup → new.desk.setup ≡ old.desk.setup → new.desk.claims ≡ old.desk.claims
    → new.desk.journal ≡ journal_behind s old.desk.journal client old.desk.claims request
    → AllByRecursion IsWritable new.replies → AreAll new.floors
    → IsRun s new
asked_run s old new client request run own setup same calls held all =
    let journal = old.desk.journal in
    let c = old.desk.claims in
    let reply = reply_of s journal c request in
    let o = call_of s journal client c request reply in
    let more = option_to_list o in
    let legal : IsLegalJournal s c (journal ++ more) =
    with_answer s journal client c request o refl run.legal in
    record {
      own = own ∙ run.own;
      setup = setup ∙ run.setup;
      checked = run.checked;
      legal = rw (same, calls) legal;
      held = held;
      floors = all;
    }

-- and where it is not
pub told_run : (s : SetupParts) (old new : Run) → IsRun s old → new.setup ≡ old.setup
    → new.desk ≡ old.desk → AllByRecursion IsWritable new.replies
    → AreAll new.floors → IsRun s new
told_run s old new run own desk held all = record {
  own = own ∙ run.own;
  setup = ap (λ (d : DeskParts). d.setup) desk ∙ run.setup;
  checked = run.checked;
  legal = rw desk run.legal;
  held = held;
  floors = all;
}

-- ---- claims

-- claims leave all but their number
pub claimed_run : (s : SetupParts) (old new : Run) (count : ℕ) → IsRun s old
    → new.desk ≡ desk_parts old.desk.setup (old.desk.claims + count) old.desk.journal
    → new.replies ≡ old.replies → new.floors ≡ old.floors → new.setup ≡ old.setup → IsRun s new
claimed_run s old new count run desk told floors own =
    let c = old.desk.claims in
    let journal = old.desk.journal in
    let more : new.desk.claims ≡ c + count = ap (λ (d : DeskParts). d.claims) desk in
    let calls : new.desk.journal ≡ journal = ap (λ (d : DeskParts). d.journal) desk in
    record {
      own = own ∙ run.own;
      setup = ap (λ (d : DeskParts). d.setup) desk ∙ run.setup;
      checked = run.checked;
      legal = rw (more, calls) (legal_later s c (c + count) journal (omega arith) run.legal);
      held = rw told run.held;
      floors = rw floors run.floors;
    }

-- ---- nothing done yet

new_run : (s : SetupParts) (run : Run) → IsSetup s → run.setup ≡ s → run.desk ≡ desk_parts s 0 []
    → run.replies ≡ [] → AreAll run.floors → IsRun s run
new_run s run checked own desk replies all = record {
  own = own;
  setup = ap (λ (d : DeskParts). d.setup) desk;
  checked = checked;
  legal = rw (ap (λ (d : DeskParts). d.journal) desk) (no_calls s run.desk.claims);
  held = rw replies tt;
  floors = all;
}

-- a new run has played nothing
pub new_is : (s : SetupParts) (run : Run) → IsSetup s → run.setup ≡ s → run.desk ≡ desk_parts s 0 []
    → run.replies ≡ [] → run.floors.places.items ≡ replicate CLIENTS first_floor
    → IsRunOf s (played 0 [] [] []) run
new_is s run checked own desk replies floors = record {
  kept = new_run s run checked own desk replies
      (ap length floors ∙ length-replicate CLIENTS first_floor);
  played = record {
    claims = ap (λ (d : DeskParts). d.claims) desk;
    journal = ap (λ (d : DeskParts). d.journal) desk;
    told = replies;
    floors = λ client lt. ap (λ (xs : List Stamp). slice_index_or xs client first_floor) floors
        ∙ get_or-replicate CLIENTS client first_floor first_floor lt;
  };
}

-- ---- steps

-- claims are a step
pub claims_step : (old new : Run) (step : Step) (count : ℕ) → step ≡ Claims count
    → IsRun old.setup new
    → parts_of new ≡ serial_parts (old.desk.claims + count) old.desk.journal old.replies
    → new.floors ≡ old.floors → StepsOn old step new
claims_step old new step count is run parts floors s p before = record {
  kept = subst (λ (x : SetupParts). IsRun x new) before.kept.own run;
  played = subst (λ (x : Step). HasPlayed (play_step s p x) new) (sym is) (record {
    claims = ap (λ (x : SerialParts). x.claims) parts
        ∙ ap (λ (n : ℕ). n + count) before.played.claims;
    journal = ap (λ (x : SerialParts). x.journal) parts ∙ before.played.journal;
    told = ap (λ (x : SerialParts). x.given) parts ∙ before.played.told;
    floors = λ client lt. ap (λ (x : Floors). floor_at x client) floors
        ∙ before.played.floors client lt;
  });
}

-- and an ask
pub ask_step : (old new : Run) (step : Step) (client : ℕ) (ask : ClientAsk)
    → step ≡ Ask client ask → HasAsked client ask old new → StepsOn old step new
ask_step old new step client ask is asked s p before = record {
  kept = asked.run s before.kept;
  played = subst (λ (x : Step). HasPlayed (play_step s p x) new) (sym is)
      (asked.does s p before.kept.checked before.kept.setup before.played);
}

-- the run of a step that can be taken
pub can_run : (run : Run) (step : Step) → CanStep run step → IsRun run.setup run
can_run run step (s, p, is, there, few) =
    subst (λ (x : SetupParts). IsRun x run) (sym is.kept.own) is.kept

pub can_claim : (run : Run) (step : Step) (count : ℕ) → step ≡ Claims count → CanStep run step
    → run.desk.claims + count ≤ TICKS_PAST_BASE
can_claim run step count at (s, p, is, there, few) =
    let own = ap claims_by at in omega (arith, own, few, is.played.claims)

pub can_ask : (run : Run) (step : Step) (client : ℕ) (ask : ClientAsk) → step ≡ Ask client ask
    → CanStep run step → (client < CLIENTS) × IsAskThere ask
can_ask run step client ask at (s, p, is, there, few) = let own : IsStepThere (Ask client ask) =
    subst IsStepThere at there in own
