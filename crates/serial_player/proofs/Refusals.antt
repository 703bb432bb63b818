-- The reply to a request that fits is one that fits.
use Rattle.std.proofs.Common.{◌≡◌, ℕ, zero, suc, ◌+◌, ◌^◌, ◌<◌, ◌≤◌, Bool, true, false, not, List}
use Rattle.std.proofs.Common.{[], ◌∷◌, length, map, Option, Some, None, inl, inr, refl, sym, arith}
use Rattle.std.specs.Prelude.{IfSome, find, nat_lt, option_map, slice_get, if◌then◌else◌}
use Rattle.std.specs.List.{AllByRecursion, range_with_len}
use Rattle.std.specs.Option.{option_map_or, option_or}
use Rattle.std.proofs.lemmas.Bool.{cases_Bool, ltb-true, or_parts, false≢true}
use Rattle.std.proofs.lemmas.List.Elements.{recursion_from_All}
use Rattle.tai_time.specs.Time.{nanos_limit}
use Rattle.io_caps.specs.declared.device.DeviceParts.{DeviceParts}
use Rattle.io_caps.specs.declared.port.Output.{Output}
use Rattle.io_caps.specs.Port.{AreChannels}
use Rattle.map_entry.specs.Action.{OutputChangeParts, applied}
use Rattle.map_entry.specs.Row.{channels_of_output, is_allowed, is_channel_there, is_input_there}
use Rattle.map_entry.specs.Row.{lowest_out, ordered_from, routable_of, row_fault, whole_from}
use Rattle.map_entry.specs.Setup.{IsSetup, SetupParts}
use Rattle.map_entry.specs.declared.cell.Cell.{Cell}
use Rattle.map_entry.specs.declared.change.Change.{Change}
use Rattle.map_entry.specs.declared.fault.RowFault.{RowFault}
use Rattle.map_entry.specs.declared.fault.RowFault.TheVariants.{Input as NoInput}
use Rattle.map_entry.specs.declared.fault.RowFault.TheVariants.{Channel as NoChannel, NotRoutable}
use Rattle.map_entry.specs.declared.fault.RowFault.TheVariants.{Block, Order}
use Rattle.map_entry.proofs.Changes.{length-applied}
use Rattle.plain_book.specs.Book.{bad_channel_at, bad_channel_of, bad_row_at, empty_by, first_some}
use Rattle.plain_book.specs.Book.{landing_offset, landing_tick, locked_at, refusal_of, reply_of}
use Rattle.plain_book.specs.Book.{unknown_at}
use Rattle.plain_book.specs.Book.{unknown_by, view_of}
use Rattle.plain_book.specs.Journal.{entries_of, row_from}
use Rattle.plain_book.specs.Legal.{IsLegalJournal}
use Rattle.plain_book.specs.Pending.{is_active, is_pending, next_id, pending_call, pending_of}
use Rattle.book_words.specs.Replies.{accepted, item_of}
use Rattle.plain_book.specs.Time.{is_past, is_sum_over, is_time_over, land, start, tick_after}
use Rattle.book_words.specs.declared.calls.JournalCall.{JournalCall}
use Rattle.book_words.specs.declared.replies.Refusal.{Refusal}
use Rattle.book_words.specs.declared.replies.Refusal.TheVariants.{Empty, Unknown, BadChannel}
use Rattle.book_words.specs.declared.replies.Refusal.TheVariants.{Locked, Row, Time, NotPending}
use Rattle.book_words.specs.declared.replies.Reply.TheVariants.{Deleted, Active, Pending, Refused}
use Rattle.book_words.specs.declared.requests.Request.{Request}
use Rattle.book_words.specs.declared.requests.Request.TheVariants.{Activate, Delete}
use Rattle.book_words.specs.declared.requests.Request.TheVariants.{Active as AskActive}
use Rattle.book_words.specs.declared.requests.Request.TheVariants.{Pending as AskPending}
use Rattle.book_words.specs.declared.requests.When.{When}
use Rattle.book_words.specs.declared.requests.When.TheVariants.{Now, At, After}
use Rattle.plain_book.proofs.Keeping.{has_outputs}
use Rattle.plain_book.proofs.Locks.{is_free}
use Rattle.plain_book.proofs.Sound.{IsSound, row_from_is, sound}
use Rattle.capture_file.specs.Formats.{AllowsGrain, moment}
use Rattle.capture_file.specs.declared.format.Format.{Format}
use Rattle.capture_file.specs.Requests.{action, change as one_change, output_change}
use Rattle.capture_file.specs.Requests.{request}
use Rattle.capture_file.specs.Replies.{refusal as refusal_form, reply as reply_form}
use Rattle.capture_file.specs.Replies.{row_fault as fault_form, view}
use Rattle.capture_file.specs.Result.{widths_of}
use Rattle.capture_file.proofs.FormatLaws.{moment_fits}
use Rattle.serial_player.proofs.Fitting.{IsFitCall, latest_fits, pending_fits, request_parts}
use Rattle.serial_player.proofs.Fitting.{rows_fit}
use Rattle.serial_player.proofs.Offsets.{lands_held}
use Rattle.serial_player.proofs.Pendings.{few_pending}
use Rattle.serial_player.proofs.Tallies.{IsHeld, key_fits, next_few}
use Rattle.list_laws.proofs.Options.{option_or-first, option_or-second}

unflip : (b : Bool) → not b ≡ false → b ≡ true
unflip true e = refl
unflip false e = absurd (false≢true (sym e))

not_past : (nanos : ℕ) → is_past nanos ≡ false → nanos < nanos_limit
not_past nanos is = ltb-true nanos nanos_limit (unflip (nat_lt nanos nanos_limit) is)

not_over : (b : Bool) → (if b then Some Time else None) ≡ None → b ≡ false
not_over true e = absurd cc
not_over false e = refl

-- ---- what is told of the first of some

or_low : {X : Type 0} (P : X → Type 0) (a b : Option X) → IfSome a P → (a ≡ None → IfSome b P)
    → IfSome (option_or a b) P
or_low P None b one other = other refl
or_low P (Some x) b one other = one

first_low : {X Y : Type 0} (P : Y → Type 0) (f : X → Option Y) (xs : List X)
    → AllByRecursion (λ x. IfSome (f x) P) xs → IfSome (first_some f xs) P
first_low P f [] all = tt
first_low P f (x ∷ xs) all = or_low P (f x) (first_some f xs) all.0 (λ none. first_low P f xs all.1)

find_low : {X : Type 0} (P : X → Type 0) (p : X → Bool) (xs : List X) → AllByRecursion P xs
    → IfSome (find p xs) P
find_low P p [] all = tt
find_low P p (x ∷ xs) all = elim (cases_Bool (p x)) [
  | inl hit ↦ rw hit all.0
  | inr miss ↦ rw miss (find_low P p xs all.1)
]

mapped_low : {X Y : Type 0} (P : X → Type 0) (Q : Y → Type 0) (f : X → Y)
    → ((x : X) → P x → Q (f x)) → (o : Option X) → IfSome o P → IfSome (option_map f o) Q
mapped_low P Q f each None is = tt
mapped_low P Q f each (Some x) is = each x is

-- ---- rows that fail the check

-- its channel is a byte
abbrev IsByteFault : RowFault → Type 0
IsByteFault (NoInput channel) = channel < 256
IsByteFault (NoChannel channel) = channel < 256
IsByteFault (NotRoutable channel) = channel < 256
IsByteFault (Block channel) = channel < 256
IsByteFault (Order channel) = channel < 256

numbers_low : (a n m : ℕ) → a + n ≤ m → AllByRecursion (λ k. k < m) (range_with_len a n)
numbers_low a zero m le = tt
numbers_low a (suc n) m le = (omega (arith, le), numbers_low (a + 1) n m (omega (arith, le)))

lowest_low : (passes : ℕ → Cell → Bool) (row : List Cell) → length row ≤ 256
    → IfSome (lowest_out passes row) (λ k. k < 256)
lowest_low passes row few =
    find_low (λ (k : ℕ). k < 256) _ (range_with_len 0 (length row))
    (numbers_low 0 (length row) 256 (omega (arith, few)))

fault_low : (d : DeviceParts) (output : ℕ) (row : List Cell) → length row ≤ 256
    → IfSome (row_fault d output row) IsByteFault
unfolding row_fault
fault_low d output row few =
    let low : (passes : ℕ → Cell → Bool) → IfSome (lowest_out passes row) (λ k. k < 256) =
    λ passes. lowest_low passes row few in
    or_low IsByteFault _ _
    (mapped_low (λ (k : ℕ). k < 256) IsByteFault NoInput (λ k h. h) _
    (low (λ channel. is_input_there d.inputs))) (λ e1.
    or_low IsByteFault _ _
    (mapped_low (λ (k : ℕ). k < 256) IsByteFault NoChannel (λ k h. h) _
    (low (λ channel. is_channel_there d.inputs))) (λ e2.
    or_low IsByteFault _ _
    (mapped_low (λ (k : ℕ). k < 256) IsByteFault NotRoutable (λ k h. h) _
    (low (λ channel. is_allowed (routable_of d output)))) (λ e3.
    or_low IsByteFault _ _
    (mapped_low (λ (k : ℕ). k < 256) IsByteFault Block (λ k h. h) _ (low (whole_from d.inputs row)))
    (λ e4. mapped_low (λ (k : ℕ). k < 256) IsByteFault Order (λ k h. h) _
    (low (ordered_from d.inputs row))))))

fault_fits : (f : RowFault) → IsByteFault f → fault_form.Fits f
unfolding fault_form
fault_fits (NoInput channel) low = ((omega arith, low), refl)
fault_fits (NoChannel channel) low = ((omega arith, low), refl)
fault_fits (NotRoutable channel) low = ((omega arith, low), refl)
fault_fits (Block channel) low = ((omega arith, low), refl)
fault_fits (Order channel) low = ((omega arith, low), refl)

-- ---- refusals

-- what it names fits
abbrev IsByteRefusal : Refusal → Type 0
IsByteRefusal Empty = Unit {0}
IsByteRefusal (Unknown output) = output < 256
IsByteRefusal (BadChannel output channel) = (output < 256) × (channel < 256)
IsByteRefusal (Locked output) = output < 256
IsByteRefusal (Row output fault) = (output < 256) × IsByteFault fault
IsByteRefusal Time = Unit {0}
IsByteRefusal (NotPending id) = id < 256 ^ 8

-- the numbers of an action are bytes
abbrev IsByteChange : OutputChangeParts → Type 0
IsByteChange c = (c.output < 256) × AllByRecursion (λ change. change.channel < 256) c.changes

changes_low : (changes : List Change) → AllByRecursion one_change.Fits changes
    → AllByRecursion (λ change. change.channel < 256) changes
unfolding one_change
changes_low [] fits = tt
changes_low (c ∷ changes) fits = (fits.0.0, changes_low changes fits.1)

outputs_low : (changes : List OutputChangeParts) → AllByRecursion output_change.Fits changes
    → AllByRecursion IsByteChange changes
unfolding output_change
outputs_low [] fits = tt
outputs_low (c ∷ changes) fits =
    ((fits.0.0.0, changes_low c.changes fits.0.0.1.1.1), outputs_low changes fits.1)

action_low : (a : List OutputChangeParts) → action.Fits a → AllByRecursion IsByteChange a
unfolding action
action_low a fits = outputs_low a fits.0.1.1

each_low : {X Y : Type 0} (P : X → Type 0) (Q : Y → Type 0) (f : X → Option Y)
    → ((x : X) → P x → IfSome (f x) Q) → (xs : List X) → AllByRecursion P xs
    → AllByRecursion (λ x. IfSome (f x) Q) xs
each_low P Q f each [] all = tt
each_low P Q f each (x ∷ xs) all = (each x all.0, each_low P Q f each xs all.1)

if_low : {X : Type 0} (P : X → Type 0) (b : Bool) (x : X) → P x
    → IfSome (if b then Some x else None) P
if_low P true x is = is
if_low P false x is = tt

unless_low : {X : Type 0} (P : X → Type 0) (b : Bool) (x : X) → P x
    → IfSome (if b then None else Some x) P
unless_low P true x is = tt
unless_low P false x is = is

empty_low : (a : List OutputChangeParts) → IfSome (empty_by a) IsByteRefusal
empty_low [] = tt
empty_low (c ∷ a) = tt

unknown_low : (d : DeviceParts) (c : OutputChangeParts) → IsByteChange c
    → IfSome (unknown_at d c) IsByteRefusal
unknown_low d c low =
    unless_low IsByteRefusal (nat_lt c.output (length d.outputs)) (Unknown c.output) low.0

channel_low : (d : DeviceParts) (c : OutputChangeParts) → IsByteChange c
    → IfSome (bad_channel_at d c) IsByteRefusal
channel_low d c low =
    mapped_low (λ (change : Change). change.channel < 256) IsByteRefusal
    (λ change. BadChannel c.output change.channel) (λ change h. (low.0, h))
    (bad_channel_of (channels_of_output d c.output) c.changes)
    (find_low (λ (change : Change). change.channel < 256) _ c.changes low.1)

locked_low : (s : SetupParts) (journal : List JournalCall) (claims : ℕ) (c : OutputChangeParts)
    → IsByteChange c → IfSome (locked_at s journal claims c) IsByteRefusal
locked_low s journal claims c low = if_low IsByteRefusal _ (Locked c.output) low.0

-- an output is there
known : (d : DeviceParts) (c : OutputChangeParts) → unknown_at d c ≡ None
    → c.output < length d.outputs
known d c none = elim (cases_Bool (nat_lt c.output (length d.outputs))) [
  | inl there ↦ ltb-true c.output (length d.outputs) there
  | inr apart ↦ let e : Some (Unknown c.output) ≡ None = rw apart at none in absurd cc
]

all_known : (d : DeviceParts) (a : List OutputChangeParts) → unknown_by d a ≡ None
    → AllByRecursion IsByteChange a
    → AllByRecursion (λ c. IsByteChange c × (c.output < length d.outputs)) a
all_known d [] none low = tt
all_known d (c ∷ a) none low =
    let first = option_or-first (unknown_at d c) (unknown_by d a) none in
    let others = option_or-second (unknown_at d c) (unknown_by d a) none in
    ((low.0, known d c first), all_known d a others low.1)

-- an output has at most 64 channels
pub output_channels : (outputs : List Output) (k : ℕ)
    → AllByRecursion (λ o. AreChannels o.labels) outputs
    → option_map_or (λ o. length o.labels) (slice_get outputs k) 0 ≤ 64
output_channels [] k all = omega arith
output_channels (o ∷ outputs) zero all = omega (arith, all.0.1)
output_channels (o ∷ outputs) (suc k) all = output_channels outputs k all.1

row_low : (s : SetupParts) (journal : List JournalCall) (claims : ℕ)
    (whole : List OutputChangeParts) (c : OutputChangeParts) → IsSetup s → IsSound s journal
    → IsByteChange c × (c.output < length s.device.outputs)
    → IfSome (bad_row_at s (entries_of s journal) claims whole c) IsByteRefusal
row_low s journal claims whole c is rows low =
    let row = row_from s (entries_of s journal) c.output claims in
    let few = output_channels s.device.outputs c.output
    (recursion_from_All (λ (o : Output). AreChannels o.labels) s.device.outputs
    is.device.streams.outputs) in
    let long : length (applied row whole c.output) ≤ 256 =
    omega (
      arith,
      length-applied row whole c.output,
      (row_from_is s journal c.output claims rows low.1).long,
      few,
    ) in
    mapped_low IsByteFault IsByteRefusal (Row c.output) (λ f h. (low.0.0, h))
    (row_fault s.device c.output (applied row whole c.output))
    (fault_low s.device c.output (applied row whole c.output) long)

refusal_low : (s : SetupParts) (journal : List JournalCall) (claims : ℕ) (when : When)
    (a : List OutputChangeParts) → IsSetup s → IsSound s journal → AllByRecursion IsByteChange a
    → IfSome (refusal_of s journal claims when a) IsByteRefusal
unfolding refusal_of
refusal_low s journal claims when a is rows low =
    or_low IsByteRefusal _ _ (empty_low a) (λ e1.
    or_low IsByteRefusal _ _
    (first_low IsByteRefusal (unknown_at s.device) a
    (each_low IsByteChange IsByteRefusal (unknown_at s.device) (unknown_low s.device) a low))
    (λ there.
    or_low IsByteRefusal _ _
    (first_low IsByteRefusal (bad_channel_at s.device) a
    (each_low IsByteChange IsByteRefusal (bad_channel_at s.device) (channel_low s.device) a low))
    (λ e3.
    or_low IsByteRefusal _ _
    (first_low IsByteRefusal (locked_at s journal claims) a
    (each_low IsByteChange IsByteRefusal (locked_at s journal claims)
    (locked_low s journal claims) a low)) (λ e4.
    or_low IsByteRefusal _ _
    (first_low IsByteRefusal (bad_row_at s (entries_of s journal) claims a) a
    (each_low (λ (c : OutputChangeParts). IsByteChange c × (c.output < length s.device.outputs))
    IsByteRefusal (bad_row_at s (entries_of s journal) claims a)
    (λ c h. row_low s journal claims a c is rows h) a (all_known s.device a there low))) (λ e5.
    if_low IsByteRefusal (is_time_over s claims when) Time tt)))))

refused_fits : (format : Format) (widths : List ℕ) (r : Refusal) → IsByteRefusal r
    → (reply_form format widths).Fits (Refused r)
unfolding reply_form refusal_form
refused_fits format widths Empty low = (
  omega arith,
  inr (
    λ e. omega (arith, e),
    inr (
      λ e. omega (arith, e),
      inr (
        λ e. omega (arith, e),
        inr (λ e. omega (arith, e), inr (λ e. omega (arith, e), inl (refl, refl))),
      ),
    ),
  ),
)
refused_fits format widths (Unknown output) low = (
  omega arith,
  inr (
    λ e. omega (arith, e),
    inr (
      λ e. omega (arith, e),
      inr (
        λ e. omega (arith, e),
        inr (
          λ e. omega (arith, e),
          inr (λ e. omega (arith, e), inr (λ e. omega (arith, e), inl (refl, (low, refl)))),
        ),
      ),
    ),
  ),
)
refused_fits format widths (BadChannel output channel) low = (
  omega arith,
  inr (
    λ e. omega (arith, e),
    inr (
      λ e. omega (arith, e),
      inr (
        λ e. omega (arith, e),
        inr (
          λ e. omega (arith, e),
          inr (
            λ e. omega (arith, e),
            inr (λ e. omega (arith, e), inr (λ e. omega (arith, e), inl (refl, (low, refl)))),
          ),
        ),
      ),
    ),
  ),
)
refused_fits format widths (Locked output) low = (
  omega arith,
  inr (
    λ e. omega (arith, e),
    inr (
      λ e. omega (arith, e),
      inr (
        λ e. omega (arith, e),
        inr (
          λ e. omega (arith, e),
          inr (
            λ e. omega (arith, e),
            inr (
              λ e. omega (arith, e),
              inr (λ e. omega (arith, e), inr (λ e. omega (arith, e), inl (refl, (low, refl)))),
            ),
          ),
        ),
      ),
    ),
  ),
)
refused_fits format widths (Row output fault) low = (
  omega arith,
  inr (
    λ e. omega (arith, e),
    inr (
      λ e. omega (arith, e),
      inr (
        λ e. omega (arith, e),
        inr (
          λ e. omega (arith, e),
          inr (
            λ e. omega (arith, e),
            inr (
              λ e. omega (arith, e),
              inr (
                λ e. omega (arith, e),
                inr (
                  λ e. omega (arith, e),
                  inr (λ e. omega (arith, e), inl (refl, ((low.0, fault_fits fault low.1), refl))),
                ),
              ),
            ),
          ),
        ),
      ),
    ),
  ),
)
refused_fits format widths Time low = (
  omega arith,
  inr (
    λ e. omega (arith, e),
    inr (
      λ e. omega (arith, e),
      inr (
        λ e. omega (arith, e),
        inr (
          λ e. omega (arith, e),
          inr (
            λ e. omega (arith, e),
            inr (
              λ e. omega (arith, e),
              inr (
                λ e. omega (arith, e),
                inr (
                  λ e. omega (arith, e),
                  inr (λ e. omega (arith, e), inr (λ e. omega (arith, e), inl (refl, refl))),
                ),
              ),
            ),
          ),
        ),
      ),
    ),
  ),
)
refused_fits format widths (NotPending id) low = (
  omega arith,
  inr (
    λ e. omega (arith, e),
    inr (
      λ e. omega (arith, e),
      inr (
        λ e. omega (arith, e),
        inr (
          λ e. omega (arith, e),
          inr (
            λ e. omega (arith, e),
            inr (
              λ e. omega (arith, e),
              inr (
                λ e. omega (arith, e),
                inr (
                  λ e. omega (arith, e),
                  inr (
                    λ e. omega (arith, e),
                    inr (
                      λ e. omega (arith, e),
                      inr (λ e. omega (arith, e), inl (refl, (low, refl))),
                    ),
                  ),
                ),
              ),
            ),
          ),
        ),
      ),
    ),
  ),
)

-- ---- what accepts

accepted_fits : (format : Format) (widths : List ℕ) (when : When) (id tick offset : ℕ) → id < 256 ^ 8
    → (moment format).Fits (tick, offset) → (reply_form format widths).Fits (accepted when id tick offset)
unfolding reply_form
accepted_fits format widths Now id tick offset low here = (omega arith, inl (refl, ((low, here), refl)))
accepted_fits format widths (At time) id tick offset low here =
    (omega arith, inr (λ e. omega (arith, e), inl (refl, ((low, here), refl))))
accepted_fits format widths (After time) id tick offset low here =
    (omega arith, inr (λ e. omega (arith, e), inl (refl, ((low, here), refl))))

deleted_fits : (format : Format) (widths : List ℕ) (id : ℕ) → id < 256 ^ 8 → (reply_form format widths).Fits (Deleted id)
unfolding reply_form
deleted_fits format widths id low =
    (omega arith, inr (λ e. omega (arith, e), inr (λ e. omega (arith, e), inl (refl, (low, refl)))))

-- ---- the reply

-- the tick from which an activation counts that is in time
land_fits : (s : SetupParts) (claims : ℕ) (when : When) → IsSetup s
    → is_time_over s claims when ≡ false → landing_tick s claims when < 256 ^ 8
land_fits s claims when is over =
    let past : is_past (start s (land s claims when)) ≡ false =
    (or_parts (is_sum_over s (tick_after s claims) when) (is_past (start s (land s claims when)))
    over).1 in
    key_fits s (land s claims when) is (not_past (start s (land s claims when)) past)

activation_fits : (format : Format) (s : SetupParts) (journal : List JournalCall) (claims : ℕ) (when : When)
    (a : List OutputChangeParts) (o : Option Refusal) → IsSetup s → AllowsGrain format s.grain → IsHeld journal
    → refusal_of s journal claims when a ≡ o → IfSome o IsByteRefusal
    → (reply_form format (widths_of s.device)).Fits
    (option_map_or Refused o
    (accepted when (next_id journal) (landing_tick s claims when) (landing_offset s claims when)))
activation_fits format s journal claims when a (Some r) is whole held free low =
    refused_fits format (widths_of s.device) r low
activation_fits format s journal claims when a None is whole held free low =
    let over = not_over (is_time_over s claims when)
    (is_free s journal claims when a free).in_time in
    accepted_fits format (widths_of s.device) when (next_id journal) (landing_tick s claims when)
    (landing_offset s claims when) (next_few journal held)
    (moment_fits format (landing_tick s claims when) (landing_offset s claims when)
    (land_fits s claims when is over) (lands_held format s claims when whole))

deletion_fits : (format : Format) (widths : List ℕ) (id : ℕ) (o : Option JournalCall) → id < 256 ^ 8
    → (reply_form format widths).Fits (option_map_or (λ call. Deleted id) o (Refused (NotPending id)))
deletion_fits format widths id None low = refused_fits format widths (NotPending id) low
deletion_fits format widths id (Some call) low = deleted_fits format widths id low

id_of : (id : ℕ) → request.Fits (Delete id) → id < 256 ^ 8
unfolding request
id_of id (low, inl f) = absurd (omega (arith, f.0))
id_of id (low, inr (a, inl f)) = absurd (omega (arith, f.0))
id_of id (low, inr (a, inr (b, inl f))) = absurd (omega (arith, f.0))
id_of id (low, inr (a, inr (b, inr (c, inl f)))) = f.1.0
id_of id (low, inr (a, inr (b, inr (c, inr f)))) = absurd (f.0 refl)

shown_fits : (format : Format) (s : SetupParts) (journal : List JournalCall) (claims : ℕ) → IsSetup s
    → IsSound s journal → AllByRecursion (IsFitCall format) journal
    → (reply_form format (widths_of s.device)).Fits (Active (view_of s journal claims))
unfolding reply_form view
shown_fits format s journal claims is rows calls = (
  omega arith,
  inr (
    λ e. omega (arith, e),
    inr (
      λ e. omega (arith, e),
      inr (
        λ e. omega (arith, e),
        inl (
          refl,
          (
            (
              latest_fits format (is_active s journal claims) journal calls,
              rows_fit s.device (λ (output : ℕ). row_from s (entries_of s journal) output claims)
                  is.device
                  (λ output there. row_from_is s journal output claims rows there),
            ),
            refl,
          ),
        ),
      ),
    ),
  ),
)

list_fits : (format : Format) (s : SetupParts) (journal : List JournalCall) (claims : ℕ) → IsSetup s
    → IsLegalJournal s claims journal → AllByRecursion (IsFitCall format) journal
    → (reply_form format (widths_of s.device)).Fits (Pending (map item_of (pending_of s journal claims)))
unfolding reply_form
list_fits format s journal claims is legal calls =
    let most = few_pending s claims journal is legal in
    let few : length (pending_of s journal claims) < 256 =
    omega (arith, most, is.device.bounds.few_outputs) in (
      omega arith,
      inr (
        λ e. omega (arith, e),
        inr (
          λ e. omega (arith, e),
          inr (
            λ e. omega (arith, e),
            inr (
              λ e. omega (arith, e),
              inl (refl, (pending_fits format (is_pending s journal claims) journal calls few, refl)),
            ),
          ),
        ),
      ),
    )

-- the book's reply to what fits
pub reply_fits : (format : Format) (s : SetupParts) (journal : List JournalCall) (claims : ℕ) (r : Request)
    → IsSetup s → AllowsGrain format s.grain → IsLegalJournal s claims journal → IsHeld journal
    → AllByRecursion (IsFitCall format) journal → request.Fits r
    → (reply_form format (widths_of s.device)).Fits (reply_of s journal claims r)
unfolding reply_of
reply_fits format s journal claims (Activate when a) is whole legal held calls fits =
    let rows = sound s claims journal is (has_outputs s is) legal in
    activation_fits format s journal claims when a (refusal_of s journal claims when a) is whole held refl
    (refusal_low s journal claims when a is rows (action_low a (request_parts when a fits).1))
reply_fits format s journal claims (Delete id) is whole legal held calls fits =
    deletion_fits format (widths_of s.device) id (pending_call s journal claims id) (id_of id fits)
reply_fits format s journal claims AskActive is whole legal held calls fits =
    shown_fits format s journal claims is (sound s claims journal is (has_outputs s is) legal) calls
reply_fits format s journal claims AskPending is whole legal held calls fits =
    list_fits format s journal claims is legal calls
