-- What a draw found selects for its tick what the whole journal selects in the end; and flags and
-- packets go over to the journal and to the inputs' blocks.
use Rattle.map_entry.specs.Tick.{frame_key}
use Rattle.interleavings.proofs.Shapes.{HasShape}
use Rattle.std.proofs.Common.{◌^◌}
use Rattle.std.proofs.Common.{◌≡◌, ℕ, ◌+◌, ◌*◌, ◌/◌, ◌<◌, ◌≤◌, Bool, true, false, List, [], ◌++◌}
use Rattle.std.proofs.Common.{length, take, drop, Option, inl, inr, refl, sym, ap, subst, ◌∙◌}
use Rattle.std.proofs.Common.{arith}
use Rattle.std.specs.Prelude.{All, ◌&&◌, is_some, ℤ}
use Rattle.std.specs.Int.{div_ceil}
use Rattle.std.specs.Option.{unwrap_or}
use Rattle.std.proofs.Math.Nat.{add-mul, div-lt_iff_lt-mul, mod-lt, mul-div_cancel}
use Rattle.std.proofs.Math.Seq.{take-append_seam, drop-append_seam}
use Rattle.std.proofs.lemmas.Bool.{cases_lt, false≢true}
use Rattle.std.proofs.lemmas.Grind.{div_ceil_times}
use Rattle.std.proofs.lemmas.List.{get_or_past}
use Rattle.map_entry.specs.Entry.{selected}
use Rattle.map_entry.specs.Setup.{SetupParts}
use Rattle.map_entry.specs.declared.cell.Cell.{Cell}
use Rattle.map_entry.specs.declared.entry.Entry.{Entry}
use Rattle.claim_rule.specs.declared.plan.Plan.{Plan}
use Rattle.claim_rule.specs.Claims.{tick_of}
use Rattle.claim_rule.proofs.Ends.{stays_selected}
use Rattle.packet_writer.specs.Flags.{is_there, names_by}
use Rattle.packet_writer.specs.Heard.{AreRows}
use Rattle.packet_writer.specs.Packet.{Blocks, claim_rows, flag_of, output_of_claim, packet_by}
use Rattle.packet_writer.specs.Packet.{tick_of_claim}
use Rattle.packet_writer.proofs.ClaimLaws.{names_by-same, packet_by-same}
use Rattle.book_words.specs.declared.calls.JournalCall.{JournalCall}
use Rattle.plain_book.specs.Journal.{entries_of}
use Rattle.plain_book.specs.Legal.{IsLegalJournal}
use Rattle.plain_book.specs.Rows.{SelectsAlike}
use Rattle.plain_book.specs.Time.{begin}
use Rattle.plain_book.proofs.Steady.{claimed}
use Rattle.plain_book.proofs.Waiting.{HasOutputs}
use Rattle.claim_rule.specs.Rule.{IsGood}
use Rattle.claim_rule.specs.declared.view.Draw.{Draw}
use Rattle.session_laws.specs.Facts.{Gathering, IsFedAs, form_by}
use Rattle.session_laws.specs.Facts.Gathering.{GatherClosed, GatherFree}

-- ---- ticks

-- a whole number of ticks is no tick more when it is rounded up
ceil_whole : (n b : ℕ) → 0 < n → div_ceil (b * n) n ≤ b
ceil_whole n b some =
    let low : div_ceil (b * n) n * n < b * n + n = (div_ceil_times (b * n) n some).1 in
    let less : div_ceil (b * n) n * n / n < b + 1 =
    (div-lt_iff_lt-mul {x = div_ceil (b * n) n * n} {y = b + 1} some).1
    (omega (arith, low, add-mul b 1 n)) in
    omega (arith, less, mul-div_cancel (div_ceil (b * n) n) some)

pub tick_from : (n before x : ℕ) → 0 < n → before ≤ (before * n + x) / n
tick_from n before x some = elim (cases_lt ((before * n + x) / n) before) [
  | inr here ↦ here
  | inl below ↦
      absurd (let w = (div-lt_iff_lt-mul {x = before * n + x} {y = before} some).0 below in
      omega (arith, w))
]

pub tick_to : (n before x ticks : ℕ) → 0 < n → x < ticks * n → (before * n + x) / n < before + ticks
tick_to n before x ticks some lt =
    (div-lt_iff_lt-mul {x = before * n + x} {y = before + ticks} some).1
    (omega (arith, lt, add-mul before ticks n))

begun_before : (s : SetupParts) (before x f : ℕ) → HasOutputs s
    → begin s (before * length s.device.outputs)
    ≤ frame_key (tick_of_claim s (before * length s.device.outputs + x)) f
begun_before s before x f some =
    omega (
      arith,
      ceil_whole (length s.device.outputs) before some,
      tick_from (length s.device.outputs) before x some,
    )

-- ---- rows

-- a journal goes on by calls that were accepted at a number of claims or later
abbrev pub IsWithLater : List JournalCall → ℕ → List JournalCall → Type 0
IsWithLater before low after = (more : List JournalCall) × (after ≡ before ++ more)
    × All (λ c. low ≤ c.at) more

-- calls after a claim leave its row
later_leave : (s : SetupParts) (m low : ℕ) (journal last : List JournalCall) (o k f : ℕ)
    → HasOutputs s → IsLegalJournal s m last → IsWithLater journal low last → k < low → f < 2 ^ 16
    → selected (entries_of s journal) o (frame_key (tick_of_claim s k) f)
    ≡ selected (entries_of s last) o (frame_key (tick_of_claim s k) f)
later_leave s m low journal last o k f some legal goes lt few =
    let front : take (length journal) last ≡ journal =
    ap (take (length journal)) goes.1 ∙ take-append_seam journal goes.0 in
    let behind : drop (length journal) last ≡ goes.0 =
    ap (drop (length journal)) goes.1 ∙ drop-append_seam journal goes.0 in
    let later : All (λ c. k < c.at) goes.0 =
    λ i d within. (let at = goes.2 i d within in omega (arith, at, lt)) in
    ap (λ (j : List JournalCall). selected (entries_of s j) o (frame_key (tick_of_claim s k) f))
    (sym front)
    ∙ sym (claimed s m last o k (length journal) f some legal
    (subst (λ (calls : List JournalCall). All (λ c. k < c.at) calls) (sym behind) later) few)

-- the rows of the packets of claim k are alike by these entries and by those
abbrev pub AreRowsAlike : SetupParts → List Entry → List Entry → ℕ → Type 0
AreRowsAlike s entries more k =
    AreRows s.device.rate.frames (claim_rows s entries k) (claim_rows s more k)

-- the tick of a number on a table of this setup, which begins with this claim
pub tick_is : (s : SetupParts) (plan : Plan) (from x : ℕ) → plan.setup ≡ s → plan.from ≡ from
    → tick_of plan x ≡ tick_of_claim s (from + x)
tick_is s plan from x setup first =
    ap (λ (z : SetupParts). tick_of_claim z (plan.from + x)) setup
    ∙ ap (λ (f : ℕ). tick_of_claim s (f + x)) first

-- what a draw found selects what the whole list selects
found_list : (s : SetupParts) (plan : Plan) (from drawn : ℕ) (list : List Entry) (d : Draw)
    (o f : ℕ) → plan.setup ≡ s → plan.from ≡ from → IsGood plan list drawn d
    → d.number < plan.packets → f < 2 ^ 16
    → selected d.found o (frame_key (tick_of_claim s (from + d.number)) f)
    ≡ selected list o (frame_key (tick_of_claim s (from + d.number)) f)
found_list s plan from drawn list d o f setup first good early few =
    subst (λ (t : ℕ). selected d.found o (frame_key t f) ≡ selected list o (frame_key t f))
    (tick_is s plan from d.number setup first)
    (sym (stays_selected plan list drawn d good early o f few))

-- the rows that a draw found are those of the whole journal
pub rows_found : (s : SetupParts) (plan : Plan) (m before made drawn : ℕ) (list : List Entry)
    (journal last : List JournalCall) (d : Draw) → HasShape s → plan.setup ≡ s
    → plan.from ≡ before * length s.device.outputs → IsLegalJournal s m last
    → IsWithLater journal (before * length s.device.outputs + made) last
    → SelectsAlike s (before * length s.device.outputs) list journal
    → IsGood plan list drawn d → d.number < plan.packets → d.number < made
    → AreRowsAlike s d.found (entries_of s last) (before * length s.device.outputs + d.number)
rows_found s plan m before made drawn list journal last d some setup first legal goes rules good
    early done frame lt =
    let k : ℕ = before * length s.device.outputs + d.number in
    let o : ℕ = output_of_claim s k in
    let t : ℕ = tick_of_claim s k in
    let few : frame < 2 ^ 16 = omega (arith, lt, some.1) in
    ap (λ (r : Option (List Cell)). unwrap_or r [])
    (found_list s plan (before * length s.device.outputs) drawn list d o frame setup first good
    early few
    ∙ rules o (frame_key t frame) (mod-lt k some.0) (begun_before s before d.number frame some.0)
    ∙ later_leave s m (before * length s.device.outputs + made) journal last o k frame some.0 legal
    goes (omega (arith, done)) few)

-- ---- blocks

-- the blocks of a claim's tick are fed as the way to gather asks
abbrev pub AreFedAlike : SetupParts → Gathering → Blocks → Blocks → ℕ → Type 0
AreFedAlike s g set blocks k = (input : ℕ) → input < length s.device.inputs
    → IsFedAs g (set input (tick_of_claim s k)) (blocks input (tick_of_claim s k))

-- the blocks whose flags are set are the same
abbrev AreFoundAlike : Blocks → Blocks → List Bool → ℕ → Type 0
AreFoundAlike set blocks flags tick = (input : ℕ) → flag_of flags input ≡ true
    → set input tick ≡ blocks input tick

pub within : (n input : ℕ) (flags : List Bool) → length flags ≡ n
    → flag_of flags input ≡ true → input < n
within n input flags long on = elim (cases_lt input n) [
  | inl there ↦ there
  | inr past ↦
      absurd (false≢true (sym (get_or_past flags input false (omega (arith, past, long))) ∙ on))
]

-- what the flags of a claim say by some entries and blocks, they say by entries with the same rows
-- and by the inputs' blocks
form_same : (s : SetupParts) (g : Gathering) (entries more : List Entry) (set blocks : Blocks)
    (k : ℕ) (flags : List Bool) → AreRowsAlike s entries more k → AreFedAlike s g set blocks k
    → form_by s g entries set k flags → form_by s g more blocks k flags
    × AreFoundAlike set blocks flags (tick_of_claim s k)
form_same s GatherClosed entries more set blocks k flags rows same is = (
  record {
    long = is.long;
    each = λ input lt.
        is.each input lt
        ∙ ap (λ (b : Bool). b && is_there s set k input) (names_by-same s entries more k rows input)
        ∙ ap (λ (o : Option (List ℤ)). names_by s more k input && is_some o) (same input lt);
  },
  λ input on. same input (within (length s.device.inputs) input flags is.long on),
)
form_same s (GatherFree seen) entries more set blocks k flags rows same is = (
  record {
    long = is.long;
    each = λ input lt.
        let named = names_by-same s entries more k rows input in
        let flag = is.each input lt in
        record {
          only = λ on. let both = flag.only on in
              (sym named ∙ both.0, ap is_some (sym (same input lt both.1)) ∙ both.1);
          wherever = λ names saw. flag.wherever (named ∙ names) saw;
        };
  },
  λ input on.
      let lt = within (length s.device.inputs) input flags is.long on in
      same input lt ((is.each input lt).only on).1,
)

-- a claim by some entries and blocks is one by entries with the same rows and by the inputs' blocks
pub claim_same : (s : SetupParts) (g : Gathering) (entries more : List Entry) (set blocks : Blocks)
    (k : ℕ) (flags : List Bool) → AreRowsAlike s entries more k → AreFedAlike s g set blocks k
    → form_by s g entries set k flags
    → form_by s g more blocks k flags
    × (packet_by s entries set flags k ≡ packet_by s more blocks flags k)
claim_same s g entries more set blocks k flags rows same is =
    let over = form_same s g entries more set blocks k flags rows same is in (
      over.0,
      packet_by-same s entries more set blocks flags flags k rows (λ input named. refl)
          (λ input named on. over.1 input on),
    )
