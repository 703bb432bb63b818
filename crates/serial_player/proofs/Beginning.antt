-- A legal history keeps ticks that have begun: calls that were accepted later change nothing there.
use Rattle.std.proofs.Common.{◌≡◌, ℕ, suc, ◌^◌, ◌<◌, ◌≤◌, ◌&&◌, Bool, true, false, not, List, [], ◌∷◌}
use Rattle.std.proofs.Common.{◌++◌, length, get_or, Option, inl, inr, refl, sym, ap, subst, ◌∙◌}
use Rattle.std.proofs.Common.{arith}
use Rattle.std.specs.Prelude.{All, filter, nat_lt}
use Rattle.std.specs.List.{AllByRecursion, AllPairs}
use Rattle.std.specs.Option.{unwrap_or}
use Rattle.std.proofs.lemmas.Bool.{and_parts, cases_lt, false≢true, le-ltb, lt-ltb}
use Rattle.std.proofs.lemmas.List.{get_or_past}
use Rattle.std.proofs.lemmas.List.Elements.{All-cons, recursion_from_All, All-from_recursion}
use Rattle.std.proofs.lemmas.Option.{slice_get-get_or}
use Rattle.map_entry.specs.Entry.{selected}
use Rattle.map_entry.specs.Tick.{frame_key}
use Rattle.plain_book.proofs.Grains.{few_frames}
use Rattle.map_entry.specs.Setup.{IsSetup, SetupParts}
use Rattle.map_entry.specs.declared.cell.Cell.{Cell}
use Rattle.capture_file.specs.Capture.{CaptureParts}
use Rattle.packet_writer.specs.Flags.{Sights, names_by}
use Rattle.packet_writer.specs.Heard.{AreRows}
use Rattle.packet_writer.specs.Packet.{Blocks, claim_rows, flag_of, output_of_claim, tick_of_claim}
use Rattle.packet_writer.proofs.ClaimLaws.{names_by-same, packet_by-same}
use Rattle.plain_book.specs.Journal.{entries_of}
use Rattle.plain_book.specs.Legal.{IsLegalJournal}
use Rattle.book_words.specs.declared.calls.JournalCall.{JournalCall}
use Rattle.book_words.specs.declared.history.ClaimItem.{ClaimItem}
use Rattle.book_words.specs.declared.history.History.{History}
use Rattle.interleavings.specs.Legal.{AreClaims, Form, IsClaim, closed_form, free_form}
use Rattle.serial_player.specs.Legal.{IsByBegin, IsLegalClosed, IsLegalFree, KeepsBegunTicks}
use Rattle.serial_player.specs.Legal.{calls_by_begin, first_of_tick}
use Rattle.serial_player.specs.Serial.{blocks_of}
use Rattle.serial_player.specs.Streams.{Turn}
use Rattle.serial_player.proofs.Running.{selected_stays}

-- ---- the calls of a journal before a number of claims, and those after

record Split (m : ℕ) (journal : List JournalCall) : Type 0 where
  behind : List JournalCall
  parts : journal ≡ filter (λ call. not (nat_lt m call.at)) journal ++ behind
  late : AllByRecursion (λ call. m < call.at) behind

none_before : (m : ℕ) (calls : List JournalCall) → AllByRecursion (λ call. m < call.at) calls
    → filter (λ call. not (nat_lt m call.at)) calls ≡ []
none_before m [] late = refl
none_before m (call ∷ calls) late = rw (lt-ltb m call.at late.0) (none_before m calls late.1)

split : (m : ℕ) (journal : List JournalCall) → AllPairs (λ a b. a.at ≤ b.at) journal
    → Split m journal
split m [] up = record { behind = []; parts = refl; late = tt }
split m (call ∷ calls) up = elim (cases_lt m call.at) [
  | inl after ↦
      let all : All (λ c. m < c.at) (call ∷ calls) =
      All-cons (λ (c : JournalCall). m < c.at) call calls after
      (λ k d lt. let order = up 0 (suc k) d (omega arith) (omega (arith, lt)) in
      omega (arith, after, order)) in
      let late = recursion_from_All (λ (c : JournalCall). m < c.at) (call ∷ calls) all in
      record {
        behind = call ∷ calls;
        parts = ap (λ (xs : List JournalCall). xs ++ call ∷ calls)
            (sym (none_before m (call ∷ calls) late));
        late = late;
      }
  | inr before ↦
      let rest = split m calls
      (λ i j d less lt. up (suc i) (suc j) d (omega (arith, less)) (omega (arith, lt))) in
      record {
        behind = rest.behind;
        parts = rw (le-ltb m call.at before) (ap (λ (xs : List JournalCall). call ∷ xs) rest.parts);
        late = rest.late;
      }
]

-- a claim's rows are by the calls before its tick began
row_by_begin : (s : SetupParts) (m : ℕ) (journal : List JournalCall) (k frame : ℕ) → IsSetup s
    → IsLegalJournal s m journal → frame < 2 ^ 16
    → claim_rows s (entries_of s journal) k frame
    ≡ claim_rows s (entries_of s (calls_by_begin s journal k)) k frame
row_by_begin s m journal k frame is legal few =
    let first = first_of_tick (length s.device.outputs) k in
    let halves = split first journal legal.rises in
    let o = output_of_claim s k in
    let key = frame_key (tick_of_claim s k) frame in
    let whole : IsLegalJournal s m (calls_by_begin s journal k ++ halves.behind) =
    subst (IsLegalJournal s m) halves.parts legal in
    ap (λ (row : Option (List Cell)). unwrap_or row [])
    (ap (λ (j : List JournalCall). selected (entries_of s j) o key) halves.parts
    ∙ selected_stays s m (calls_by_begin s journal k) halves.behind k frame is whole
    (All-from_recursion (λ (c : JournalCall). first < c.at) halves.behind halves.late) few)

-- ---- claims

-- a form that sets flags of named inputs alone
abbrev NamesOnly : SetupParts → List JournalCall → Form → Type 0
NamesOnly s journal Allows =
    (k : ℕ) (found : List Bool) → Allows k found → (input : ℕ) → flag_of found input ≡ true
    → names_by s (entries_of s journal) k input ≡ true

claim_by_begin : (s : SetupParts) (m : ℕ) (journal : List JournalCall) (blocks : Blocks)
    (Allows : Form) (k : ℕ) (claim : ClaimItem) → IsSetup s → IsLegalJournal s m journal
    → NamesOnly s journal Allows
    → IsClaim s journal blocks Allows k claim → IsByBegin s blocks journal claim
claim_by_begin s m journal blocks Allows k claim is legal only claimed =
    let before = calls_by_begin s journal k in
    let rows : AreRows s.device.rate.frames (claim_rows s (entries_of s journal) k)
    (claim_rows s (entries_of s before) k) =
    λ frame lt. row_by_begin s m journal k frame is legal (omega (arith, lt, few_frames s is)) in
    let packet = claimed.packet
    ∙ packet_by-same s (entries_of s journal) (entries_of s before) blocks blocks claim.found
    claim.found k rows (λ input named. refl) (λ input named set. refl) in
    let named : (input : ℕ) → flag_of claim.found input ≡ true
    → names_by s (entries_of s before) k input ≡ true =
    λ input set. sym (names_by-same s (entries_of s journal) (entries_of s before) k rows input)
    ∙ only k claim.found claimed.flags input set in
    rw claimed.number (record { packet = packet; named = named })

all_by_begin : (s : SetupParts) (m n : ℕ) (journal : List JournalCall) (blocks : Blocks)
    (Allows : Form) (claims : List ClaimItem) → IsSetup s → IsLegalJournal s m journal
    → NamesOnly s journal Allows
    → AreClaims s journal blocks Allows n claims → All (IsByBegin s blocks journal) claims
all_by_begin s m n journal blocks Allows claims is legal only all k d lt =
    let claim = get_or claims k d in
    claim_by_begin s m journal blocks Allows k claim is legal only
    (all.each k claim (slice_get-get_or claims k d lt))

-- ---- the forms

flag_named : (named there flag : Bool) → flag ≡ (named && there) → flag ≡ true → named ≡ true
flag_named named there flag is set = (and_parts named there (sym is ∙ set)).0

closed_names : (s : SetupParts) (journal : List JournalCall) (blocks : Blocks)
    → NamesOnly s journal (closed_form s journal blocks)
closed_names s journal blocks k found are input set =
    elim (cases_lt input (length s.device.inputs)) [
      | inl there ↦ flag_named _ _ (flag_of found input) (are.each input there) set
      | inr past ↦ absurd (false≢true
          (sym (get_or_past found input false (omega (arith, past, are.long))) ∙ set))
    ]

free_names : (s : SetupParts) (journal : List JournalCall) (blocks : Blocks) (seen : Sights)
    → NamesOnly s journal (free_form s journal blocks seen)
free_names s journal blocks seen k found are input set =
    elim (cases_lt input (length s.device.inputs)) [
      | inl there ↦ ((are.each input there).only set).0
      | inr past ↦ absurd (false≢true
          (sym (get_or_past found input false (omega (arith, past, are.long))) ∙ set))
    ]

-- THE LAW: a legal history keeps ticks that have begun, in closed form
pub closed_keeps : (c : CaptureParts) (turns : List Turn) (h : History) → IsSetup c.setup
    → IsLegalClosed c turns h → KeepsBegunTicks c h
closed_keeps c turns h is legal =
    all_by_begin c.setup _ _ h.journal (blocks_of c) (closed_form c.setup h.journal (blocks_of c))
    h.claims is legal.journal (closed_names c.setup h.journal (blocks_of c)) legal.claimed

-- and in free form
pub free_keeps : (c : CaptureParts) (turns : List Turn) (h : History) → IsSetup c.setup
    → IsLegalFree c turns h → KeepsBegunTicks c h
free_keeps c turns h is legal =
    let seen : Sights = λ claim input. false in
    all_by_begin c.setup _ _ h.journal (blocks_of c)
    (free_form c.setup h.journal (blocks_of c) seen) h.claims is legal.journal
    (free_names c.setup h.journal (blocks_of c) seen) legal.claimed
