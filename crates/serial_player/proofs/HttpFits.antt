-- A request that came over HTTP, and was accepted, fits the fields of a result.
use Rattle.std.proofs.Common.{◌≡◌, ℕ, zero, suc, ◌+◌, ◌^◌, ◌<◌, ◌≤◌, true, false, eqb, List, []}
use Rattle.std.proofs.Common.{◌∷◌, length, map, Option, Some, None, inl, inr, refl, sym, ap, subst}
use Rattle.std.proofs.Common.{◌∙◌, arith}
use Rattle.std.specs.Prelude.{Ok, decimal, nat_lt, option_and_then}
use Rattle.std.specs.List.{AllByRecursion}
use Rattle.std.specs.Option.{option_to_list}
use Rattle.std.specs.Result.{result_ok}
use Rattle.std.proofs.lemmas.Bool.{cases_Bool, lt-ltb, ltb-true, ne_eqb}
use Rattle.std.proofs.lemmas.List.{length-append}
use Rattle.std.proofs.lemmas.List.Elements.{All-from_recursion, recursion_from_All}
use Rattle.serde_json.specs.Data.{Data}
use Rattle.serde_json.specs.Find.{get}
use Rattle.io_caps.specs.Device.{IsDevice}
use Rattle.io_caps.specs.Port.{AreChannels}
use Rattle.io_caps.specs.declared.device.DeviceParts.{DeviceParts}
use Rattle.io_caps.specs.declared.port.Output.{Output}
use Rattle.tai_time.specs.Time.{IsTai, TaiTime, secs_limit, second}
use Rattle.map_entry.specs.Action.{AreAscending, IsAction, IsOutputChange, OutputChangeParts}
use Rattle.map_entry.specs.Action.{output_change as changes_to}
use Rattle.map_entry.specs.Row.{channels_of_output}
use Rattle.map_entry.specs.Setup.{IsSetup, SetupParts}
use Rattle.map_entry.specs.declared.cell.Cell.{Cell}
use Rattle.map_entry.specs.declared.cell.Cell.TheVariants.{Unrouted, From}
use Rattle.map_entry.specs.declared.change.Change.{Change}
use Rattle.plain_book.specs.Book.{bad_channel_at, bad_channel_by, bad_channel_of, call_of, reply_of}
use Rattle.book_words.specs.Calls.{is_activation}
use Rattle.plain_book.specs.Legal.{IsLegalJournal}
use Rattle.book_words.specs.declared.calls.JournalCall.{JournalCall}
use Rattle.book_words.specs.declared.replies.Refusal.TheVariants.{BadChannel}
use Rattle.book_words.specs.declared.requests.Request.{Request}
use Rattle.book_words.specs.declared.requests.Request.TheVariants.{Activate, Delete}
use Rattle.book_words.specs.declared.requests.When.{When}
use Rattle.book_words.specs.declared.requests.When.TheVariants.{Now, At, After}
use Rattle.plain_book.proofs.Accepted.{cases}
use Rattle.plain_book.proofs.Giving.{accepted_by, call_parts}
use Rattle.plain_book.proofs.Lists.{all_append}
use Rattle.plain_book.proofs.Locks.{is_free}
use Rattle.plain_book.proofs.Waiting.{found_waits}
use Rattle.channel_json.specs.Cells.{output_id}
use Rattle.channel_json.specs.Fields.{found_below}
use Rattle.channel_json.specs.Requests.{action_in, cell_in, change_at, changes_in, output_at}
use Rattle.channel_json.proofs.BodyLemmas.{IsCellRead, IsWhen, body_read, cell_read, mapped_some}
use Rattle.channel_json.proofs.BodyLemmas.{ok_some, then_some}
use Rattle.channel_json.proofs.FoundLemmas.{found_ascends}
use Rattle.channel_json.proofs.RequestLemmas.{changes_ascend}
use Rattle.http_wire.specs.declared.request.HttpRequest.{HttpRequest}
use Rattle.api_routes.specs.Plan.{request_asked}
use Rattle.api_routes.proofs.AskLemmas.{MayAsk, http_asks}
use Rattle.capture_file.specs.Requests.{action, cell, change, channels_rise, output_change, request}
use Rattle.capture_file.specs.Requests.{rises_from, time}
use Rattle.capture_file.proofs.Order.{first_rises, ordered_action, ordered_channels, rises_rest}
use Rattle.serial_player.proofs.Tallies.{IsHeld, id_fits}
use Rattle.serial_player.proofs.Refusals.{output_channels}
use Rattle.list_laws.proofs.Options.{option_map-None, option_or-first, option_or-second}

-- ---- an action

one_found : {A : Type 0} (P : A → Type 0) (n : ℕ) (o : Option A)
    → ((x : A) → n < suc n → o ≡ Some x → P x) → AllByRecursion P (option_to_list o)
one_found P n None each = tt
one_found P n (Some x) each = (each x (omega arith) refl, tt)

one_few : {A : Type 0} (o : Option A) → length (option_to_list o) ≤ 1
one_few None = omega arith
one_few (Some x) = omega arith

found_all : {A : Type 0} (P : A → Type 0) (found : ℕ → Option A) (n : ℕ)
    → ((k : ℕ) (x : A) → k < n → found k ≡ Some x → P x) → AllByRecursion P (found_below found n)
unfolding found_below
found_all P found zero each = tt
found_all P found (suc n) each =
    all_append P (found_below found n) (option_to_list (found n))
    (found_all P found n (λ k x lt e. each k x (omega (arith, lt)) e))
    (one_found P n (found n) (each n))

found_few : {A : Type 0} (found : ℕ → Option A) (n : ℕ) → length (found_below found n) ≤ n
unfolding found_below
found_few found zero = omega arith
found_few found (suc n) = let rest =
    found_few found n in
    omega (
      arith,
      length-append (found_below found n) (option_to_list (found n)),
      rest,
      one_few (found n),
    )

cell_fits : (d : DeviceParts) (c : Cell) → IsDevice d → IsCellRead d c → cell.Fits c
unfolding cell
cell_fits d Unrouted is there = ((omega arith, omega arith), refl)
cell_fits d (From input channel) is there =
    let few : input < 16 = omega (arith, there.0, is.bounds.few_inputs) in
    let other : eqb input 255 ≡ false = ne_eqb input 255 (λ e. omega (arith, e, few)) in
    ((omega (arith, few), omega (arith, there.1)), rw other refl)

change_ok : (d : DeviceParts) (of : Data) (channel : ℕ) (c : Change) → IsDevice d → channel < 256
    → change_at d of channel ≡ Some c → change.Fits c
unfolding change
change_ok d of channel c is low e =
    let x = mapped_some (λ (made : Cell). record { channel = channel; cell = made })
    (option_and_then (λ v. result_ok (cell_in d v)) (get (decimal channel) of)) c e in
    let y = then_some (λ v. result_ok (cell_in d v)) (get (decimal channel) of) x.0 x.1 in
    subst (λ (z : Change). (z.channel < 256) × cell.Fits z.cell) x.2
    (low, cell_fits d x.0 is (cell_read d y.0 x.0 (ok_some (cell_in d y.0) x.0 y.1)))

-- the channels of a change are all below a number
abbrev AreBelow : ℕ → List Change → Type 0
AreBelow n changes = AllByRecursion (λ c. c.channel < n) changes

few_rising : (most least : ℕ) (changes : List Change) → least ≤ most → AreBelow most changes
    → rises_from least (map (λ c. c.channel) changes) ≡ true → least + length changes ≤ most
few_rising most least [] low below up = omega (arith, low)
few_rising most least (c ∷ changes) low below up =
    let others = map (λ (x : Change). x.channel) changes in
    let first : least ≤ c.channel = first_rises least c.channel others up in
    let rest = few_rising most (c.channel + 1) changes (omega (arith, below.0)) below.1
    (rises_rest least c.channel others up) in
    omega (arith, first, rest)

none_bad : (n : ℕ) (changes : List Change) → bad_channel_of n changes ≡ None → AreBelow n changes
none_bad n [] e = tt
none_bad n (c ∷ changes) e = elim (cases_Bool (nat_lt c.channel n)) [
  | inl there ↦ (ltb-true c.channel n there, none_bad n changes (rw there at e))
  | inr past ↦ let some : Some c ≡ None = rw past at e in absurd cc
]

-- what the book finds no fault with has channels of its outputs alone
channels_there : (d : DeviceParts) (a : List OutputChangeParts) → bad_channel_by d a ≡ None
    → AllByRecursion (λ c. AreBelow (channels_of_output d c.output) c.changes) a
channels_there d [] e = tt
channels_there d (c ∷ a) e =
    let first = option_or-first (bad_channel_at d c) (bad_channel_by d a) e in
    let others = option_or-second (bad_channel_at d c) (bad_channel_by d a) e in (
      none_bad (channels_of_output d c.output) c.changes
          (option_map-None (λ change. BadChannel c.output change.channel)
          (bad_channel_of (channels_of_output d c.output) c.changes) first),
      channels_there d a others,
    )

-- an output's part of an action that was read
record IsPart (d : DeviceParts) (c : OutputChangeParts) : Type 0 where
  low : c.output < 256
  up : IsOutputChange c
  changes : AllByRecursion change.Fits c.changes

part_read : (d : DeviceParts) (of : Data) (k : ℕ) (c : OutputChangeParts) → IsDevice d
    → k < length d.outputs → output_at d of k ≡ Some c → IsPart d c
part_read d of k c is lt e =
    let x = mapped_some (λ (cells : Data). changes_to k (changes_in d cells))
    (get (output_id d k) of) c e in
    subst (IsPart d) x.2 (record {
      low = omega (arith, lt, is.bounds.few_outputs);
      up = changes_ascend d x.0 k;
      changes = found_all change.Fits (change_at d x.0) 256
          (λ channel one below found. change_ok d x.0 channel one is below found);
    })

part_fits : (d : DeviceParts) (c : OutputChangeParts) → IsDevice d → IsPart d c
    → AreBelow (channels_of_output d c.output) c.changes → output_change.Fits c
unfolding output_change
part_fits d c is part below =
    let most = output_channels d.outputs c.output
    (recursion_from_All (λ (o : Output). AreChannels o.labels) d.outputs is.streams.outputs) in
    let up : channels_rise c ≡ true = ordered_channels c part.up in
    let few = few_rising (channels_of_output d c.output) 0 c.changes (omega arith) below up in
    ((part.low, (omega (arith, few, most), (refl, part.changes))), rw up refl)

parts_fit : (d : DeviceParts) (a : List OutputChangeParts) → IsDevice d
    → AllByRecursion (IsPart d) a
    → AllByRecursion (λ c. AreBelow (channels_of_output d c.output) c.changes) a
    → AllByRecursion output_change.Fits a
parts_fit d [] is parts below = tt
parts_fit d (c ∷ a) is parts below =
    (part_fits d c is parts.0 below.0, parts_fit d a is parts.1 below.1)

output_is : (d : DeviceParts) (of : Data) (k : ℕ) (c : OutputChangeParts)
    → output_at d of k ≡ Some c → c.output ≡ k
output_is d of k c e = let x =
    mapped_some (λ (cells : Data). changes_to k (changes_in d cells))
    (get (output_id d k) of) c e in ap (λ (y : OutputChangeParts). y.output) (sym x.2)

all_same : {X : Type 0} (P Q : X → Type 0) → ((x : X) → P x → Q x) → (xs : List X)
    → AllByRecursion P xs → AllByRecursion Q xs
all_same P Q each [] all = tt
all_same P Q each (x ∷ xs) all = (each x all.0, all_same P Q each xs all.1)

action_fits : (d : DeviceParts) (of : Data) (a : List OutputChangeParts) → IsDevice d
    → action_in d of ≡ a → bad_channel_by d a ≡ None → action.Fits a
unfolding action
action_fits d of a is read free =
    let n = length d.outputs in
    let parts : AllByRecursion (IsPart d) a =
    subst (AllByRecursion (IsPart d)) read
    (found_all (IsPart d) (output_at d of) n (λ k c lt e. part_read d of k c is lt e)) in
    let few : length a ≤ n =
    subst (λ (x : List OutputChangeParts). length x ≤ n) read (found_few (output_at d of) n) in
    let up : IsAction a = record {
      outputs = subst (λ (x : List OutputChangeParts). AreAscending (λ c. c.output) x) read
          (found_ascends (λ (c : OutputChangeParts). c.output) (output_at d of) n
          (λ k c e. output_is d of k c e));
      changes = All-from_recursion IsOutputChange a
          (all_same (IsPart d) IsOutputChange (λ c part. part.up) a parts);
    } in (
      (
        omega (arith, few, is.bounds.few_outputs),
        (refl, parts_fit d a is parts (channels_there d a free)),
      ),
      rw (ordered_action a up) refl,
    )

-- ---- the request

time_fits : (t : TaiTime) → IsTai t → time.Fits t
unfolding time
time_fits t is = (
  (omega (arith, is.0), omega (arith, is.1)),
  rw (lt-ltb t.secs secs_limit is.0, lt-ltb t.nanos second is.1) refl,
)

activation_fits : (w : When) (a : List OutputChangeParts) → IsWhen w → action.Fits a
    → request.Fits (Activate w a)
unfolding request
activation_fits Now a when act = (omega arith, inl (refl, (act, refl)))
activation_fits (At t) a when act =
    (omega arith, inr (λ e. omega (arith, e), inl (refl, ((time_fits t when, act), refl))))
activation_fits (After t) a when act = (
  omega arith,
  inr (
    λ e. omega (arith, e),
    inr (λ e. omega (arith, e), inl (refl, ((time_fits t when, act), refl))),
  ),
)

delete_fits : (id : ℕ) → id < 256 ^ 8 → request.Fits (Delete id)
unfolding request
delete_fits id low = (
  omega arith,
  inr (
    λ e. omega (arith, e),
    inr (λ e. omega (arith, e), inr (λ e. omega (arith, e), inl (refl, (low, refl)))),
  ),
)

activated_fits : (d : DeviceParts) (body : List ℕ) (w : When) (a : List OutputChangeParts)
    (r : Request) → IsDevice d → r ≡ Activate w a → bad_channel_by d a ≡ None → MayAsk d body r
    → request.Fits r
activated_fits d body w a r is same free (inl none) = let no : true ≡ false =
    sym (ap is_activation same) ∙ none in absurd cc
activated_fits d body w a r is same free (inr read) =
    let x = body_read d body w a (read ∙ ap Ok same) in
    subst request.Fits (sym same)
    (activation_fits w a x.when (action_fits d x.of a is x.action_is free))

-- a request of a stream that the book accepts fits
pub http_fits : (s : SetupParts) (journal : List JournalCall) (client claims : ℕ)
    (http : HttpRequest) (r : Request) (call : JournalCall) → IsSetup s
    → IsLegalJournal s claims journal → IsHeld journal
    → request_asked s.device http ≡ Some r
    → call_of s journal client claims r (reply_of s journal claims r) ≡ Some call → request.Fits r
http_fits s journal client claims http r call is legal held asked made =
    let parts = call_parts s journal client claims r (reply_of s journal claims r) call made in
    elim (cases s journal call (accepted_by s journal client claims r call made)) [
      | inl a ↦ activated_fits s.device http.body a.0 a.1 r is.device (sym parts.asks
          ∙ a.2.asks) (is_free s journal call.at a.0 a.1 a.2.free).channels
          (http_asks s.device http r asked)
      | inr d ↦
          let found = found_waits s journal call.at d.0 d.1 d.2.is in
          let low = id_fits s claims journal d.1 legal held found.0 in
          subst request.Fits (sym (sym parts.asks ∙ d.2.asks))
          (delete_fits d.0 (omega (arith, low, found.2)))
    ]
