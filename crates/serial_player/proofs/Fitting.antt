-- What the book replies fits the fields of a result.
use Rattle.std.proofs.Common.{◌≡◌, ℕ, zero, suc, ◌+◌, ◌^◌, ◌<◌, Bool, false, eqb, List}
use Rattle.std.proofs.Common.{[], ◌∷◌, length, map, Option, Some, None, inl, inr, refl, ap, subst}
use Rattle.std.proofs.Common.{◌∙◌, arith}
use Rattle.std.specs.Prelude.{IfSome, filter, nat_lt, slice_get, option_map}
use Rattle.std.specs.List.{AllByRecursion, AllZip, range_with_len}
use Rattle.std.proofs.lemmas.Bool.{cases_Bool, ltb-true, ne_eqb}
use Rattle.std.proofs.lemmas.List.Elements.{recursion_from_All}
use Rattle.std.proofs.lemmas.List.{length-map}
use Rattle.io_caps.specs.Device.{IsDevice}
use Rattle.io_caps.specs.Port.{AreChannels}
use Rattle.io_caps.specs.declared.device.DeviceParts.{DeviceParts}
use Rattle.io_caps.specs.declared.port.Input.{Input}
use Rattle.io_caps.specs.declared.port.Output.{Output}
use Rattle.map_entry.specs.Action.{OutputChangeParts}
use Rattle.map_entry.specs.Row.{IsChannelThere, IsRowOf, channels_of}
use Rattle.map_entry.specs.declared.cell.Cell.{Cell}
use Rattle.map_entry.specs.declared.cell.Cell.TheVariants.{Unrouted, From}
use Rattle.map_entry.proofs.Channels.{passed_there}
use Rattle.book_words.specs.Calls.{action_of, call_due, when_of}
use Rattle.plain_book.specs.Pending.{later, latest}
use Rattle.book_words.specs.Replies.{item_of, shown as shown_call}
use Rattle.book_words.specs.declared.calls.JournalCall.{JournalCall}
use Rattle.book_words.specs.declared.requests.Request.{Request}
use Rattle.book_words.specs.declared.requests.Request.TheVariants.{Activate, Delete}
use Rattle.book_words.specs.declared.requests.Request.TheVariants.{Active as AskActive}
use Rattle.book_words.specs.declared.requests.Request.TheVariants.{Pending as AskPending}
use Rattle.book_words.specs.declared.requests.When.{When}
use Rattle.book_words.specs.declared.requests.When.TheVariants.{Now, At, After}
use Rattle.exact_text.specs.Forms.{counted}
use Rattle.capture_file.specs.Formats.{HoldsOffset}
use Rattle.capture_file.specs.Requests.{action, cell, request}
use Rattle.capture_file.specs.Replies.{FitsWidth, last, pending, rows, shown, when}
use Rattle.capture_file.specs.Result.{widths_of}
use Rattle.capture_file.specs.declared.format.Format.{Format}
use Rattle.capture_file.proofs.FormatLaws.{moment_fits}

-- ---- requests

-- the action and the time of an activation that fits
abbrev AreParts : When → List OutputChangeParts → Type 0
AreParts w a = when.Fits w × action.Fits a

pub request_parts : (w : When) (a : List OutputChangeParts) → request.Fits (Activate w a)
    → AreParts w a
unfolding request when
request_parts Now a (low, inl f) = ((omega arith, inl (refl, refl)), f.1.0)
request_parts Now a (low, inr f) = absurd (f.0 refl)
request_parts (At t) a (low, inl f) = absurd (omega (arith, f.0))
request_parts (At t) a (low, inr (other, inl f)) =
    ((omega arith, inr (other, inl (refl, (f.1.0.0, refl)))), f.1.0.1)
request_parts (At t) a (low, inr (other, inr f)) = absurd (f.0 refl)
request_parts (After t) a (low, inl f) = absurd (omega (arith, f.0))
request_parts (After t) a (low, inr (other, inl f)) = absurd (omega (arith, f.0))
request_parts (After t) a (low, inr (other, inr (next, inl f))) =
    ((omega arith, inr (other, inr (next, inl (refl, (f.1.0.0, refl))))), f.1.0.1)
request_parts (After t) a (low, inr (other, inr (next, inr f))) = absurd (f.0 refl)

now_fits : when.Fits Now
unfolding when
now_fits = (omega arith, inl (refl, refl))

nothing_fits : action.Fits []
unfolding action
nothing_fits = ((omega arith, (refl, tt)), refl)

-- of any request
pub asked_parts : (r : Request) → request.Fits r → AreParts (when_of r) (action_of r)
asked_parts (Activate w a) fits = request_parts w a fits
asked_parts (Delete id) fits = (now_fits, nothing_fits)
asked_parts AskActive fits = (now_fits, nothing_fits)
asked_parts AskPending fits = (now_fits, nothing_fits)

-- ---- calls

-- what is told of a call fits
pub record IsFitCall (format : Format) (call : JournalCall) : Type 0 where
  pub id : call.id < 256 ^ 8
  pub tick : call.tick < 256 ^ 8
  pub offset : HoldsOffset format call.offset
  pub asks : request.Fits call.request

shown_fits : (format : Format) (call : JournalCall) → IsFitCall format call
    → (shown format).Fits (shown_call call)
unfolding shown
shown_fits format call is = (
  is.id,
  (
    (asked_parts call.request is.asks).0,
    moment_fits format call.tick call.offset is.tick is.offset,
  ),
)

last_fits : (format : Format) (o : Option JournalCall) → IfSome o (IsFitCall format)
    → (last format).Fits (option_map shown_call o)
unfolding last
last_fits format None is = (omega arith, inl (refl, refl))
last_fits format (Some call) is =
    (omega arith, inr (λ e. omega (arith, e), inl (refl, (shown_fits format call is, refl))))

item_fits : (format : Format) (call : JournalCall) → IsFitCall format call
    → (pending format).Fits (item_of call)
unfolding pending
item_fits format call is = let parts = asked_parts call.request is.asks in
    (is.id, (parts.0, (moment_fits format call.tick call.offset is.tick is.offset, parts.1)))

-- ---- what is chosen of calls

filter_keeps : {X : Type 0} (P : X → Type 0) (p : X → Bool) (xs : List X) → AllByRecursion P xs
    → AllByRecursion P (filter p xs)
filter_keeps P p [] all = tt
filter_keeps P p (x ∷ xs) all = elim (cases_Bool (p x)) [
  | inl hit ↦ rw hit (all.0, filter_keeps P p xs all.1)
  | inr miss ↦ rw miss (filter_keeps P p xs all.1)
]

later_keeps : (P : JournalCall → Type 0) (call : JournalCall) (o : Option JournalCall) → P call
    → IfSome o P → P (later call o)
later_keeps P call None own rest = own
later_keeps P call (Some next) own rest =
    elim (cases_Bool (nat_lt (call_due next) (call_due call))) [
      | inl hit ↦ rw hit own
      | inr miss ↦ rw miss rest
    ]

latest_keeps : (P : JournalCall → Type 0) (xs : List JournalCall) → AllByRecursion P xs
    → IfSome (latest xs) P
latest_keeps P [] all = tt
latest_keeps P (call ∷ calls) all =
    later_keeps P call (latest calls) all.0 (latest_keeps P calls all.1)

-- the activation that counted last
pub latest_fits : (format : Format) (p : JournalCall → Bool) (journal : List JournalCall)
    → AllByRecursion (IsFitCall format) journal
    → (last format).Fits (option_map shown_call (latest (filter p journal)))
latest_fits format p journal all =
    last_fits format (latest (filter p journal))
    (latest_keeps (IsFitCall format) (filter p journal)
    (filter_keeps (IsFitCall format) p journal all))

items_fit : (format : Format) (calls : List JournalCall) → AllByRecursion (IsFitCall format) calls
    → AllByRecursion (pending format).Fits (map item_of calls)
items_fit format [] all = tt
items_fit format (call ∷ calls) all = (item_fits format call all.0, items_fit format calls all.1)

-- a given number of pending activations
pub pending_fits : (format : Format) (p : JournalCall → Bool) (journal : List JournalCall)
    → AllByRecursion (IsFitCall format) journal → length (filter p journal) < 256
    → (counted (pending format)).Fits (map item_of (filter p journal))
pending_fits format p journal all few = (
  omega (arith, few, length-map (filter p journal) item_of),
  (refl, items_fit format (filter p journal) (filter_keeps (IsFitCall format) p journal all)),
)

-- ---- rows

channel_low : (inputs : List Input) (input channel : ℕ)
    → AllByRecursion (λ i. AreChannels i.labels) inputs → channel < channels_of inputs input
    → channel < 256
channel_low [] input channel all there = absurd (omega (arith, there))
channel_low (i ∷ inputs) zero channel all there = omega (arith, there, all.0.1)
channel_low (i ∷ inputs) (suc k) channel all there = channel_low inputs k channel all.1 there

input_low : (inputs : List Input) (input channel : ℕ) → channel < channels_of inputs input
    → input < length inputs
input_low [] input channel there = absurd (omega (arith, there))
input_low (i ∷ inputs) zero channel there = omega arith
input_low (i ∷ inputs) (suc k) channel there = let rest = input_low inputs k channel there in
    omega (arith, rest)

cell_fits : (d : DeviceParts) (c : Cell) → IsDevice d → IsChannelThere d.inputs c → cell.Fits c
unfolding cell
cell_fits d Unrouted is there = ((omega arith, omega arith), refl)
cell_fits d (From input channel) is there =
    let within : channel < channels_of d.inputs input =
    ltb-true channel (channels_of d.inputs input) there in
    let low = channel_low d.inputs input channel
    (recursion_from_All (λ (i : Input). AreChannels i.labels) d.inputs is.streams.inputs) within in
    let few : input < 16 =
    omega (arith, input_low d.inputs input channel within, is.bounds.few_inputs) in
    let other : eqb input 255 ≡ false = ne_eqb input 255 (λ e. omega (arith, e, few)) in
    ((omega (arith, few), low), rw other refl)

cells_fit : (d : DeviceParts) (row : List Cell) → IsDevice d
    → AllByRecursion (IsChannelThere d.inputs) row → AllByRecursion cell.Fits row
cells_fit d [] is all = tt
cells_fit d (c ∷ row) is all = (cell_fits d c is all.0, cells_fit d row is all.1)

zip_rows : (outputs : List Output) (f : ℕ → List Cell) (a : ℕ)
    → ((i : ℕ) (o : Output) → slice_get outputs i ≡ Some o
    → FitsWidth (length o.labels) (f (a + i)))
    → AllZip FitsWidth (map (λ o. length o.labels) outputs)
    (map f (range_with_len a (length outputs)))
zip_rows [] f a each = tt
zip_rows (o ∷ outputs) f a each = (
  subst (λ (k : ℕ). FitsWidth (length o.labels) (f k)) (omega arith) (each 0 o refl),
  zip_rows outputs f (a + 1)
      (λ i p at. subst (λ (k : ℕ). FitsWidth (length p.labels) (f k)) (omega arith)
      (each (suc i) p at)),
)

within : {X : Type 0} (xs : List X) (k : ℕ) (x : X) → slice_get xs k ≡ Some x → k < length xs
within [] k x e = absurd cc
within (y ∷ ys) zero x e = omega arith
within (y ∷ ys) (suc k) x e = let w = within ys k x e in omega (arith, w)

-- each output's row
pub rows_fit : (d : DeviceParts) (f : ℕ → List Cell) → IsDevice d
    → ((output : ℕ) → output < length d.outputs → IsRowOf d output (f output))
    → (rows (widths_of d)).Fits (map f (range_with_len 0 (length d.outputs)))
unfolding rows
rows_fit d f is each = zip_rows d.outputs f 0 (λ i o at.
    let row : IsRowOf d (0 + i) (f (0 + i)) =
    each (0 + i) (omega (arith, within d.outputs i o at)) in
    let here : slice_get d.outputs (0 + i) ≡ Some o =
    ap (slice_get d.outputs) (omega arith) ∙ at in (
      row.long ∙ rw here refl,
      cells_fit d (f (0 + i)) is
          (recursion_from_All (IsChannelThere d.inputs) (f (0 + i))
          (passed_there d (0 + i) (f (0 + i)) row.passes)),
    ))
