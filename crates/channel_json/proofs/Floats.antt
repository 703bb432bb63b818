-- Values that have no fraction.
use Rattle.std.proofs.Common.{◌≡◌, ℕ, ◌+◌, List, [], ◌∷◌, map, decimal, cond, nat_lt, Option, Some}
use Rattle.std.proofs.Common.{None, Bool, true, false, Ordering, Less, Equal, Greater, nat_cmp}
use Rattle.std.proofs.Common.{refl}
use Rattle.std.specs.Ordering.{match_ordering}
use Rattle.std.specs.Cmp.Lexicographic.{slice_cmp}
use Rattle.std.proofs.lemmas.Bool.{or_from, or_parts}
use Rattle.std.specs.Prelude.{slice_get}
use Rattle.std.specs.Option.{option_map_or}
use Rattle.serde_json.specs.Data.{Data, null, Members, no_members, member, put}
use Rattle.serde_json.specs.Written.{has_float, members_have_float}
use Rattle.io_caps.specs.declared.device.DeviceParts.{DeviceParts}
use Rattle.io_caps.specs.declared.rate.Rate.{Rate}
use Rattle.io_caps.specs.declared.port.Input.{Input}
use Rattle.io_caps.specs.declared.port.Output.{Output}
use Rattle.io_caps.specs.declared.port.Parent.{Parent}
use Rattle.io_caps.specs.declared.port.Parent.TheVariants.{Nobody, Source, Receiver}
use Rattle.io_caps.specs.declared.port.Routable.{Routable}
use Rattle.io_caps.specs.declared.port.Routable.TheVariants.{All as Anything, Only}
use Rattle.tai_time.specs.Tick.{moment_start}
use Rattle.tai_time.specs.Time.{time_of, nanos_limit}
use Rattle.map_entry.specs.Action.{OutputChangeParts}
use Rattle.map_entry.specs.declared.cell.Cell.{Cell}
use Rattle.map_entry.specs.declared.cell.Cell.TheVariants.{Unrouted, From}
use Rattle.book_words.specs.declared.requests.When.{When}
use Rattle.book_words.specs.declared.requests.When.TheVariants.{Now, At, After}
use Rattle.book_words.specs.declared.replies.Activation.{Activation}
use Rattle.book_words.specs.declared.replies.ActiveView.{ActiveView}
use Rattle.book_words.specs.declared.replies.PendingItem.{PendingItem}
use Rattle.channel_json.specs.declared.resource.Resource.{Resource}
use Rattle.channel_json.specs.declared.resource.Resource.TheVariants.{Slash, Nmos, Mapping, Version}
use Rattle.channel_json.specs.declared.resource.Resource.TheVariants.{Inputs, Outputs}
use Rattle.channel_json.specs.declared.resource.Resource.TheVariants.{Input as OneInput}
use Rattle.channel_json.specs.declared.resource.Resource.TheVariants.{Output as OneOutput}
use Rattle.channel_json.specs.declared.resource.Resource.TheVariants.{InputProperties}
use Rattle.channel_json.specs.declared.resource.Resource.TheVariants.{OutputProperties}
use Rattle.channel_json.specs.declared.resource.Resource.TheVariants.{Parent as ParentOf}
use Rattle.channel_json.specs.declared.resource.Resource.TheVariants.{InputChannels, OutputChannels}
use Rattle.channel_json.specs.declared.resource.Resource.TheVariants.{InputCaps, SourceId}
use Rattle.channel_json.specs.declared.resource.Resource.TheVariants.{OutputCaps, Map, Io}
use Rattle.channel_json.specs.Values.{array_of, object_of, with_members}
use Rattle.channel_json.specs.Cells.{cell_data, numbered, change_member, output_member, action_data}
use Rattle.channel_json.specs.Cells.{row_of, row_member, outputs_shown, map_data}
use Rattle.channel_json.specs.Activations.{time_data, start_data, requested_data, activation_data}
use Rattle.channel_json.specs.Activations.{last_data, item_data, accepted_data, pending_member}
use Rattle.channel_json.specs.Activations.{pending_data, active_data}
use Rattle.channel_json.specs.Resources.{parent_data, label_data, channels_data, source_data}
use Rattle.channel_json.specs.Resources.{choice_data, routable_data, output_caps_data, input_data}
use Rattle.channel_json.specs.Resources.{output_data, io_data, name_data, resource_data}

at : (o : Ordering) (k l : List ℕ) (d e : Data) (ms : Members) → has_float d ≡ false
    → has_float e ≡ false
    → members_have_float ms ≡ false → members_have_float (put k d ms) ≡ false
    → members_have_float
    (match_ordering o (member k d (member l e ms)) (member l d ms) (member l e (put k d ms)))
    ≡ false
at Less k l d e ms p q r s = or_from _ _ p (or_from _ _ q r)
at Equal k l d e ms p q r s = or_from _ _ p r
at Greater k l d e ms p q r s = or_from _ _ q s

members_have_float-put : (k : List ℕ) (d : Data) (ms : Members) → has_float d ≡ false
    → members_have_float ms ≡ false
    → members_have_float (put k d ms) ≡ false
members_have_float-put k d no_members p q = or_from _ _ p refl
members_have_float-put k d (member l e ms) p q =
    let parts = or_parts (has_float e) (members_have_float ms) q in
    at (slice_cmp nat_cmp k l) k l d e ms p parts.0 parts.1
    (members_have_float-put k d ms p parts.1)

pub whole_members : {X : Type 0} (f : X → List ℕ × Data) (xs : List X) (ms : Members)
    → ((x : X) → has_float (f x).1 ≡ false)
    → members_have_float ms ≡ false
    → members_have_float (with_members (map f xs) ms) ≡ false
whole_members f [] ms each h = h
whole_members f (x ∷ xs) ms each h =
    whole_members f xs _ each (members_have_float-put (f x).0 (f x).1 ms (each x) h)

-- an object, each of whose members has none
pub whole_object : {X : Type 0} (f : X → List ℕ × Data) (xs : List X)
    → ((x : X) → has_float (f x).1 ≡ false)
    → has_float (object_of (map f xs)) ≡ false
whole_object f xs each = whole_members f xs no_members each refl

-- a list, each of whose items has none
pub whole_array : {X : Type 0} (f : X → Data) (xs : List X) → ((x : X) → has_float (f x) ≡ false)
    → has_float (array_of (map f xs)) ≡ false
whole_array f [] each = refl
whole_array f (x ∷ xs) each = or_from _ _ (each x) (whole_array f xs each)

-- ---- what is routed

pub whole_cell : (device : DeviceParts) (cell : Cell) → has_float (cell_data device cell) ≡ false
whole_cell device Unrouted = refl
whole_cell device (From input channel) = refl

whole_numbered : (device : DeviceParts) (channel : ℕ) (cells : List Cell) (ms : Members)
    → members_have_float ms ≡ false
    → members_have_float (with_members (numbered device channel cells) ms) ≡ false
whole_numbered device channel [] ms h = h
whole_numbered device channel (cell ∷ cells) ms h =
    whole_numbered device (channel + 1) cells _
    (members_have_float-put (decimal channel) (cell_data device cell) ms
    (whole_cell device cell) h)

whole_action : (device : DeviceParts) (action : List OutputChangeParts)
    → has_float (action_data device action) ≡ false
whole_action device action =
    whole_object (output_member device) action
    (λ c. whole_object (change_member device) c.changes
    (λ change. whole_cell device change.cell))

whole_map : (device : DeviceParts) (rows : List (List Cell)) (only : Option ℕ)
    → has_float (map_data device rows only) ≡ false
whole_map device rows only =
    whole_object (row_member device rows) (outputs_shown device only)
    (λ output. whole_numbered device 0 (row_of rows output) no_members refl)

-- ---- activations

at_test : (test : Bool) (nanos : ℕ) → has_float (cond test (time_data (time_of nanos)) null) ≡ false
at_test true nanos = refl
at_test false nanos = refl

whole_start : (rate : Rate) (tick offset : ℕ) → has_float (start_data rate tick offset) ≡ false
whole_start rate tick offset =
    at_test (nat_lt (moment_start rate tick offset) nanos_limit) (moment_start rate tick offset)

whole_requested : (when : When) → has_float (requested_data when) ≡ false
whole_requested Now = refl
whole_requested (At time) = refl
whole_requested (After time) = refl

whole_activation : (device : DeviceParts) (when : When) (tick offset : ℕ)
    → has_float (activation_data device when tick offset) ≡ false
whole_activation device when tick offset =
    or_from _ _ (whole_start device.rate tick offset) (or_from _ _ (whole_requested when) refl)

whole_last : (device : DeviceParts) (last : Option Activation)
    → has_float (last_data device last) ≡ false
whole_last device None = refl
whole_last device (Some activation) =
    whole_activation device activation.when activation.tick activation.offset

pub whole_item : (device : DeviceParts) (when : When) (tick offset : ℕ)
    (action : List OutputChangeParts)
    → has_float (item_data device when tick offset action) ≡ false
whole_item device when tick offset action =
    or_from _ _ (whole_action device action)
    (or_from _ _ (whole_activation device when tick offset) refl)

pub whole_accepted : (device : DeviceParts) (id : ℕ) (when : When) (tick offset : ℕ)
    (action : List OutputChangeParts)
    → has_float (accepted_data device id when tick offset action) ≡ false
whole_accepted device id when tick offset action =
    or_from _ _ (whole_item device when tick offset action) refl

pub whole_pending : (device : DeviceParts) (items : List PendingItem)
    → has_float (pending_data device items) ≡ false
whole_pending device items =
    whole_object (pending_member device) items
    (λ i. whole_item device i.when i.tick i.offset i.action)

pub whole_active : (device : DeviceParts) (view : ActiveView) (only : Option ℕ)
    → has_float (active_data device view only) ≡ false
whole_active device view only =
    or_from _ _ (whole_last device view.last) (or_from _ _ (whole_map device view.rows only) refl)

-- ---- resources

whole_parent : (parent : Parent) → has_float (parent_data parent) ≡ false
whole_parent Nobody = refl
whole_parent (Source id) = refl
whole_parent (Receiver id) = refl

whole_channels : (labels : List (List ℕ)) → has_float (channels_data labels) ≡ false
whole_channels labels = whole_array label_data labels (λ label. refl)

whole_source : (source : Option ℕ) → has_float (source_data source) ≡ false
whole_source None = refl
whole_source (Some id) = refl

whole_choice : (device : DeviceParts) (choice : Option ℕ)
    → has_float (choice_data device choice) ≡ false
whole_choice device None = refl
whole_choice device (Some input) = refl

whole_routable : (device : DeviceParts) (routable : Routable)
    → has_float (routable_data device routable) ≡ false
whole_routable device Anything = refl
whole_routable device (Only choices) =
    whole_array (choice_data device) choices (whole_choice device)

whole_output_caps : (device : DeviceParts) (o : Output)
    → has_float (output_caps_data device o) ≡ false
whole_output_caps device o = or_from _ _ (whole_routable device o.routable) refl

whole_input : (i : Input) → has_float (input_data i) ≡ false
whole_input i = or_from _ _ (whole_channels i.labels) (or_from _ _ (whole_parent i.parent) refl)

whole_output : (device : DeviceParts) (o : Output) → has_float (output_data device o) ≡ false
whole_output device o =
    or_from _ _ (whole_output_caps device o)
    (or_from _ _ (whole_channels o.labels) (or_from _ _ (whole_source o.source_id) refl))

whole_io : (device : DeviceParts) → has_float (io_data device) ≡ false
whole_io device =
    or_from _ _ (whole_object (λ i. (i.id, input_data i)) device.inputs whole_input)
    (or_from _ _ (whole_object (λ o. (o.id, output_data device o)) device.outputs
    (whole_output device)) refl)

of_there : {X : Type 0} (part : X → Data) (item : Option X) → ((x : X) → has_float (part x) ≡ false)
    → has_float (option_map_or part item null) ≡ false
of_there part None each = refl
of_there part (Some x) each = each x

pub whole_resource : (device : DeviceParts) (resource : Resource)
    → has_float (resource_data device resource) ≡ false
whole_resource device Slash = refl
whole_resource device Nmos = refl
whole_resource device Mapping = refl
whole_resource device Version = refl
whole_resource device Inputs = whole_array (λ i. name_data i.id) device.inputs (λ i. refl)
whole_resource device Outputs = whole_array (λ o. name_data o.id) device.outputs (λ o. refl)
whole_resource device OneInput = refl
whole_resource device OneOutput = refl
whole_resource device (InputProperties input) =
    of_there _ (slice_get device.inputs input) (λ i. refl)
whole_resource device (OutputProperties output) =
    of_there _ (slice_get device.outputs output) (λ o. refl)
whole_resource device (ParentOf input) =
    of_there _ (slice_get device.inputs input) (λ i. whole_parent i.parent)
whole_resource device (InputChannels input) =
    of_there _ (slice_get device.inputs input) (λ i. whole_channels i.labels)
whole_resource device (OutputChannels output) =
    of_there _ (slice_get device.outputs output) (λ o. whole_channels o.labels)
whole_resource device (InputCaps input) = of_there _ (slice_get device.inputs input) (λ i. refl)
whole_resource device (SourceId output) =
    of_there _ (slice_get device.outputs output) (λ o. whole_source o.source_id)
whole_resource device (OutputCaps output) =
    of_there _ (slice_get device.outputs output) (whole_output_caps device)
whole_resource device Map = refl
whole_resource device Io = whole_io device
