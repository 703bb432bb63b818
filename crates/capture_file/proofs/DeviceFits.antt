-- A plain device within its limits fits its record.
use Rattle.std.proofs.Common.{◌≡◌, ℕ, zero, suc, ◌+◌, ◌*◌, ◌^◌, ◌<◌, ◌≤◌, ◌%◌, Bool, true, false, eqb}
use Rattle.std.proofs.Common.{List, [], ◌∷◌, ◌++◌, length, Option, Some, None, refl, sym, ap, subst}
use Rattle.std.proofs.Common.{◌∙◌, append_assoc, arith, inl, inr, ◌⊎◌}
use Rattle.std.proofs.Math.Nat.{mod-eq_of_lt}
use Rattle.std.specs.Prelude.{All, IfSome, slice_get, nat_lt}
use Rattle.std.specs.List.{AllByRecursion, AllZip, flat_map}
use Rattle.std.proofs.lemmas.Bool.{ltb-true, ltb-false, ne_eqb}
use Rattle.std.proofs.lemmas.List.{length-append, length-map}
use Rattle.std.proofs.lemmas.List.Elements.{recursion_from_All}
use Rattle.io_caps.specs.Device.{IsDevice}
use Rattle.io_caps.specs.Port.{AreChannels, HasWholeBlocks, IsChoice, IsId, IsPayloadType, IsRoutable}
use Rattle.io_caps.specs.Rate.{IsRate}
use Rattle.io_caps.specs.declared.device.DeviceParts.{DeviceParts}
use Rattle.io_caps.specs.declared.limits.TheConstants.{TICKS_PAST_BASE}
use Rattle.io_caps.specs.declared.port.Input.{Input}
use Rattle.io_caps.specs.declared.port.Output.{Output}
use Rattle.io_caps.specs.declared.port.Parent.{Parent}
use Rattle.io_caps.specs.declared.port.Parent.TheVariants.{Nobody}
use Rattle.io_caps.specs.declared.port.Routable.{Routable}
use Rattle.io_caps.specs.declared.port.Routable.TheVariants.{All as Anything, Only}
use Rattle.io_caps.specs.declared.rate.Rate.{Rate}
use Rattle.io_caps.specs.declared.rate.Width.{Width}
use Rattle.io_caps.specs.declared.rate.Width.TheVariants.{L16, L24}
use Rattle.map_entry.specs.Row.{IsChannelThere, IsRowOk, channels_of}
use Rattle.map_entry.specs.Setup.{AreRowsOk, HasCells, IsSetup, SetupParts, setup_of}
use Rattle.map_entry.specs.declared.cell.Cell.{Cell}
use Rattle.map_entry.specs.declared.cell.Cell.TheVariants.{Unrouted, From}
use Rattle.map_entry.proofs.Channels.{passed_there}
use Rattle.exact_text.specs.Forms.{counted, counted_text, number_text}
use Rattle.exact_text.proofs.Exact.{given}
use Rattle.exact_text.proofs.FormLengths.{IsShort, byte_short, checked_short, counted_short}
use Rattle.exact_text.proofs.FormLengths.{number_short, then_short}
use Rattle.capture_file.specs.Requests.{cell}
use Rattle.capture_file.specs.Device.{HoldsInput, HoldsOutput, HoldsRoutable, IsPlainInput}
use Rattle.capture_file.specs.Device.{IsPlainOutput, IsPlainDevice, IsSsrc, channels, device, flag}
use Rattle.capture_file.specs.Device.{device_of, input, member, numbered, output, outputs_of}
use Rattle.capture_file.specs.Device.{plain_input, plain_output, ports, routable, rows_of, target}
use Rattle.capture_file.specs.Device.{targets_of, width}
use Rattle.capture_file.specs.Capture.{IsDeviceRecord}
use Rattle.capture_file.specs.Tags.{device_tag}
use Rattle.capture_file.specs.declared.before.DeviceForm.TheVariants.{Plain}
use Rattle.capture_file.proofs.Lengths.{cell_short}
use Rattle.capture_file.specs.declared.device.Target.{Target}

-- ---- cells of rows that pass the check

channel_low : (inputs : List Input) (input channel : ℕ)
    → AllByRecursion (λ i. AreChannels i.labels) inputs → channel < channels_of inputs input
    → channel < 256
channel_low [] input channel all there = absurd (omega (arith, there))
channel_low (i ∷ inputs) zero channel all there = omega (arith, there, all.0.1)
channel_low (i ∷ inputs) (suc k) channel all there = channel_low inputs k channel all.1 there

input_low : (inputs : List Input) (input channel : ℕ) → channel < channels_of inputs input
    → input < length inputs
input_low [] input channel there = absurd (omega (arith, there))
input_low (i ∷ inputs) zero channel there = omega arith
input_low (i ∷ inputs) (suc k) channel there = let rest = input_low inputs k channel there in
    omega (arith, rest)

-- a cell of a channel that is there fits two bytes
pub cell_fits : (d : DeviceParts) (c : Cell) → IsDevice d → IsChannelThere d.inputs c → cell.Fits c
unfolding cell
cell_fits d Unrouted is there = ((omega arith, omega arith), refl)
cell_fits d (From input channel) is there =
    let within : channel < channels_of d.inputs input =
    ltb-true channel (channels_of d.inputs input) there in
    let low = channel_low d.inputs input channel
    (recursion_from_All (λ (i : Input). AreChannels i.labels) d.inputs is.streams.inputs) within in
    let few : input < 16 =
    omega (arith, input_low d.inputs input channel within, is.bounds.few_inputs) in
    let other : eqb input 255 ≡ false = ne_eqb input 255 (λ e. omega (arith, e, few)) in
    ((omega (arith, few), low), rw other refl)

-- so do the cells of a row
pub cells_fit : (d : DeviceParts) (row : List Cell) → IsDevice d
    → AllByRecursion (IsChannelThere d.inputs) row → AllByRecursion cell.Fits row
cells_fit d [] is all = tt
cells_fit d (c ∷ row) is all = (cell_fits d c is all.0, cells_fit d row is all.1)

-- ---- inputs

width_fits : (w : Width) → width.Fits w
unfolding width
width_fits L16 = (omega arith, refl)
width_fits L24 = (omega arith, refl)

flag_fits : (b : Bool) → flag.Fits b
unfolding flag
flag_fits true = (omega arith, refl)
flag_fits false = (omega arith, refl)

channels_fit : (labels : List (List ℕ)) → length labels < 256
    → labels ≡ numbered (length labels) → channels.Fits labels
unfolding channels
channels_fit labels few are = (few, ap (λ (l : List (List ℕ)). given l) (sym are))

abbrev input_made : Input → List ℕ → List ℕ → Parent → Input
input_made i name description parent = record {
  id = i.id;
  name = name;
  description = description;
  labels = i.labels;
  width = i.width;
  payload_type = i.payload_type;
  block_size = i.block_size;
  reordering = i.reordering;
  parent = parent;
}

input_same : (i : Input) → IsPlainInput i → given (input_made i i.id [] Nobody) ≡ Some i
input_same i plain =
    ap (λ (z : List ℕ). given (input_made i z [] Nobody)) (sym plain.name)
    ∙ ap (λ (z : List ℕ). given (input_made i i.name z Nobody)) (sym plain.description)
    ∙ ap (λ (z : Parent). given (input_made i i.name i.description z)) (sym plain.parent)

-- the channel blocks of an input are no longer than all its channels
block_case : (i : Input) (b : Bool) → nat_lt (length i.labels) i.block_size ≡ b
    → AreChannels i.labels → HasWholeBlocks i → i.block_size < 256
block_case i true e are whole =
    let lt = ltb-true (length i.labels) i.block_size e in
    let none : length i.labels ≡ 0 = sym (mod-eq_of_lt lt) ∙ whole.1 in
    absurd (omega (arith, none, are.0))
block_case i false e are whole =
    omega (arith, ltb-false (length i.labels) i.block_size e, are.1)

block_low : (i : Input) → AreChannels i.labels → HasWholeBlocks i → i.block_size < 256
block_low i are whole = block_case i (nat_lt (length i.labels) i.block_size) refl are whole

input_fits : (i : Input) → IsPlainInput i → IsId i.id → AreChannels i.labels
    → IsPayloadType i.payload_type → HasWholeBlocks i → input.Fits i
unfolding input
input_fits i plain id are type whole = (
  (
    (omega (arith, id.1), refl),
    (
      channels_fit i.labels (omega (arith, are.1)) plain.labels,
      (
        width_fits i.width,
        (omega (arith, type), (block_low i are whole, flag_fits i.reordering)),
      ),
    ),
  ),
  input_same i plain,
)

inputs_fit : (inputs : List Input) → AllByRecursion IsPlainInput inputs
    → AllByRecursion (λ i. IsId i.id) inputs → AllByRecursion (λ i. AreChannels i.labels) inputs
    → AllByRecursion (λ i. IsPayloadType i.payload_type) inputs
    → AllByRecursion HasWholeBlocks inputs → AllByRecursion input.Fits inputs
inputs_fit [] plain ids are types whole = tt
inputs_fit (i ∷ inputs) plain ids are types whole = (
  input_fits i plain.0 ids.0 are.0 types.0 whole.0,
  inputs_fit inputs plain.1 ids.1 are.1 types.1 whole.1,
)

-- ---- outputs

member_fits : (inputs : ℕ) (m : Option ℕ) → inputs ≤ 16 → IsChoice inputs m → member.Fits m
unfolding member
member_fits inputs None few there = (omega arith, refl)
member_fits inputs (Some input) few there =
    let other : eqb input 254 ≡ false = ne_eqb input 254 (λ e. omega (arith, e, few, there)) in
    (omega (arith, few, there), rw other refl)

members_fit : (inputs : ℕ) (members : List (Option ℕ)) → inputs ≤ 16
    → AllByRecursion (IsChoice inputs) members → AllByRecursion member.Fits members
members_fit inputs [] few there = tt
members_fit inputs (m ∷ members) few there =
    (member_fits inputs m few there.0, members_fit inputs members few there.1)

routable_fits : (inputs : ℕ) (r : Routable) → inputs ≤ 16 → IsRoutable inputs r → HoldsRoutable r
    → routable.Fits r
unfolding routable
routable_fits inputs Anything few there holds = ((omega arith, (refl, tt)), refl)
routable_fits inputs (Only members) few there holds =
    let other : eqb (length members) 255 ≡ false =
    ne_eqb (length members) 255 (λ e. omega (arith, e, holds)) in
    let all = members_fit inputs members few
    (recursion_from_All (IsChoice inputs) members there) in
    ((omega (arith, holds), (rw other refl, all)), rw other refl)

abbrev output_made : Output → List ℕ → List ℕ → Option ℕ → Output
output_made o name description source_id = record {
  id = o.id;
  name = name;
  description = description;
  labels = o.labels;
  width = o.width;
  payload_type = o.payload_type;
  ssrc = o.ssrc;
  source_id = source_id;
  routable = o.routable;
}

output_same : (o : Output) → IsPlainOutput o → given (output_made o o.id [] None) ≡ Some o
output_same o plain =
    ap (λ (z : List ℕ). given (output_made o z [] None)) (sym plain.name)
    ∙ ap (λ (z : List ℕ). given (output_made o o.name z None)) (sym plain.description)
    ∙ ap (λ (z : Option ℕ). given (output_made o o.name o.description z))
    (sym plain.source_id)

output_fits : (inputs : ℕ) (o : Output) → inputs ≤ 16 → IsPlainOutput o → IsSsrc o → IsId o.id
    → AreChannels o.labels → IsPayloadType o.payload_type → IsRoutable inputs o.routable
    → output.Fits o
unfolding output
output_fits inputs o few plain ssrc id are type there = (
  (
    (omega (arith, id.1), refl),
    (
      channels_fit o.labels (omega (arith, are.1)) plain.labels,
      (
        width_fits o.width,
        (
          omega (arith, type),
          (omega (arith, ssrc), routable_fits inputs o.routable few there plain.routable),
        ),
      ),
    ),
  ),
  output_same o plain,
)

outputs_fit : (inputs : ℕ) (outputs : List Output) → inputs ≤ 16
    → AllByRecursion IsPlainOutput outputs → AllByRecursion IsSsrc outputs
    → AllByRecursion (λ o. IsId o.id) outputs → AllByRecursion (λ o. AreChannels o.labels) outputs
    → AllByRecursion (λ o. IsPayloadType o.payload_type) outputs
    → AllByRecursion (λ o. IsRoutable inputs o.routable) outputs
    → AllByRecursion output.Fits outputs
outputs_fit inputs [] few plain ssrcs ids are types there = tt
outputs_fit inputs (o ∷ outputs) few plain ssrcs ids are types there = (
  output_fits inputs o few plain.0 ssrcs.0 ids.0 are.0 types.0 there.0,
  outputs_fit inputs outputs few plain.1 ssrcs.1 ids.1 are.1 types.1 there.1,
)

-- ---- rows

rows_fit : (d : DeviceParts) (rows : List (List Cell)) (k : ℕ) → IsDevice d
    → ((i : ℕ) → i < length rows → IfSome (slice_get rows i) (IsRowOk d (k + i)))
    → AllByRecursion (AllByRecursion cell.Fits) rows
rows_fit d [] k is each = tt
rows_fit d (row ∷ rows) k is each = (
  cells_fit d row is
      (recursion_from_All (IsChannelThere d.inputs) row
      (passed_there d (k + 0) row (each 0 (omega arith)))),
  rows_fit d rows (k + 1) is (λ i lt.
      subst (λ (n : ℕ). IfSome (slice_get rows i) (IsRowOk d n)) (omega arith)
      (each (suc i) (omega (arith, lt)))),
)

targets_fit : (outputs : List Output) (rows : List (List Cell)) → AllZip HasCells outputs rows
    → AllByRecursion output.Fits outputs → AllByRecursion (AllByRecursion cell.Fits) rows
    → AllByRecursion target.Fits (targets_of outputs rows)
unfolding target
targets_fit [] rows count fits cells = tt
targets_fit (o ∷ outputs) [] count fits cells = tt
targets_fit (o ∷ outputs) (row ∷ rows) count fits cells = (
  (fits.0, (count.0, cells.0)),
  targets_fit outputs rows count.1 fits.1 cells.1,
)

outputs_again : (outputs : List Output) (rows : List (List Cell)) → AllZip HasCells outputs rows
    → outputs_of (targets_of outputs rows) ≡ outputs
outputs_again [] rows count = refl
outputs_again (o ∷ outputs) [] count = absurd count
outputs_again (o ∷ outputs) (row ∷ rows) count =
    ap (λ (z : List Output). o ∷ z) (outputs_again outputs rows count.1)

rows_again : (outputs : List Output) (rows : List (List Cell)) → AllZip HasCells outputs rows
    → rows_of (targets_of outputs rows) ≡ rows
rows_again [] [] count = refl
rows_again [] (row ∷ rows) count = absurd count
rows_again (o ∷ outputs) [] count = absurd count
rows_again (o ∷ outputs) (row ∷ rows) count =
    ap (λ (z : List (List Cell)). row ∷ z) (rows_again outputs rows count.1)

targets_long : (outputs : List Output) (rows : List (List Cell)) → AllZip HasCells outputs rows
    → length (targets_of outputs rows) ≡ length outputs
targets_long outputs rows count =
    sym (length-map (targets_of outputs rows) (λ t. t.output))
    ∙ ap (λ (z : List Output). length z) (outputs_again outputs rows count)

-- ---- devices

product_above : (b t f : ℕ) → 1 ≤ f → b ≤ (b + t) * f
product_above b t f some = grind (arith, some)

rate_low : (r : Rate) → IsRate r → r.hz ≤ 192000
rate_low r (inl e, some, few) = omega (arith, e)
rate_low r (inr (inl e), some, few) = omega (arith, e)
rate_low r (inr (inr (inl e)), some, few) = omega (arith, e)
rate_low r (inr (inr (inr e)), some, few) = omega (arith, e)

base_low : (d : DeviceParts) → IsDevice d → d.base < 2 ^ 64
base_low d is =
    let up = product_above d.base TICKS_PAST_BASE d.rate.frames is.bounds.rate.1 in
    let low = rate_low d.rate is.bounds.rate in
    omega (arith, up, low, is.bounds.base)

abbrev base_made : DeviceParts → List Output → List (List Cell) → DeviceParts × List (List Cell)
base_made d outputs rows = (
  record {
    rate = d.rate;
    base = d.base;
    hold = d.hold;
    inputs = d.inputs;
    outputs = outputs;
  },
  rows,
)

base_same : (d : DeviceParts) (rows : List (List Cell)) → AllZip HasCells d.outputs rows
    → given (base_made d (outputs_of (targets_of d.outputs rows))
    (rows_of (targets_of d.outputs rows))) ≡ Some (d, rows)
base_same d rows count =
    ap (λ (z : List Output). given (base_made d z (rows_of (targets_of d.outputs rows))))
    (outputs_again d.outputs rows count)
    ∙ ap (λ (z : List (List Cell)). given (base_made d d.outputs z))
    (rows_again d.outputs rows count)

ports_fit : (s : SetupParts) → IsSetup s → IsPlainDevice s.device
    → AllByRecursion IsSsrc s.device.outputs
    → ports.Fits (s.device.inputs, targets_of s.device.outputs s.rows)
unfolding ports
ports_fit s is plain ssrcs =
    let d = s.device in
    let inputs = inputs_fit d.inputs (recursion_from_All IsPlainInput d.inputs plain.inputs)
    (recursion_from_All (λ (i : Input). IsId i.id) d.inputs is.device.ids.inputs)
    (recursion_from_All (λ (i : Input). AreChannels i.labels) d.inputs is.device.streams.inputs)
    (recursion_from_All (λ (i : Input). IsPayloadType i.payload_type) d.inputs
    is.device.streams.input_types)
    (recursion_from_All HasWholeBlocks d.inputs is.device.routes.blocks) in
    let outputs = outputs_fit (length d.inputs) d.outputs is.device.bounds.few_inputs
    (recursion_from_All IsPlainOutput d.outputs plain.outputs) ssrcs
    (recursion_from_All (λ (o : Output). IsId o.id) d.outputs is.device.ids.outputs)
    (recursion_from_All (λ (o : Output). AreChannels o.labels) d.outputs is.device.streams.outputs)
    (recursion_from_All (λ (o : Output). IsPayloadType o.payload_type) d.outputs
    is.device.streams.output_types)
    (recursion_from_All (λ (o : Output). IsRoutable (length d.inputs) o.routable) d.outputs
    is.device.routes.routable) in
    let cells = rows_fit d s.rows 0 is.device
    (λ i lt. subst (λ (n : ℕ). IfSome (slice_get s.rows i) (IsRowOk d n)) (omega arith)
    (is.passes i lt)) in
    let long = targets_long d.outputs s.rows is.count in (
      (
        omega (arith, is.device.bounds.few_inputs),
        omega (arith, is.device.bounds.few_outputs, long),
      ),
      ((refl, inputs), (refl, targets_fit d.outputs s.rows is.count outputs cells)),
    )

device_fits : (s : SetupParts) → IsSetup s → IsPlainDevice s.device
    → AllByRecursion IsSsrc s.device.outputs → device.Fits (s.device, s.rows)
unfolding device
device_fits s is plain ssrcs = (
  (
    omega (arith, rate_low s.device.rate is.device.bounds.rate),
    (
      omega (arith, is.device.bounds.rate.2),
      (
        omega (arith, base_low s.device is.device),
        (omega (arith, is.device.bounds.hold), ports_fit s is plain ssrcs),
      ),
    ),
  ),
  base_same s.device s.rows is.count,
)

-- ---- lengths

counted_text_short : IsShort counted_text 256
counted_text_short = record { most = λ x fits. omega (arith, fits.0) }

channels_short : IsShort channels 1
unfolding channels
channels_short = checked_short _ (λ n. Some (numbered n)) byte_short

width_short : IsShort width 1
unfolding width
width_short = checked_short _ _ byte_short

flag_short : IsShort flag 1
unfolding flag
flag_short = checked_short _ _ byte_short

member_short : IsShort member 1
unfolding member
member_short = checked_short _ _ byte_short

input_short : IsShort input 261
unfolding input
input_short = checked_short _ (λ p. Some (plain_input p)) (then_short counted_text_short
    (then_short channels_short
    (then_short width_short (then_short byte_short (then_short byte_short flag_short)))))

members_short : (r : Routable) → routable.Fits r → length (routable.text r) ≤ 256
unfolding routable
members_short Anything fits = omega arith
members_short (Only members) fits =
    (counted_short member_short).most members (fits.0.0, (refl, fits.0.1.1))

routable_short : IsShort routable 256
routable_short = record { most = λ r fits. members_short r fits }

output_short : IsShort output 519
unfolding output
output_short = checked_short _ (λ p. Some (plain_output p)) (then_short counted_text_short
    (then_short channels_short
    (then_short width_short (then_short byte_short (then_short (number_short 4) routable_short)))))

labels_few : (o : Output) → output.Fits o → length o.labels < 256
unfolding output channels
labels_few o fits = fits.0.1.0.0

target_short : IsShort target 1030
unfolding target
target_short = record {
  most = λ t fits.
      let o = output_short.most t.output fits.0 in
      let few = labels_few t.output fits.0 in
      let row = (counted_short cell_short).most t.row
      (omega (arith, few, fits.1.0), (refl, fits.1.1)) in
      omega (
        arith,
        o,
        row,
        length-append (output.text t.output)
            (flat_map cell.text t.row),
      );
}

ports_short : IsShort ports 330000
unfolding ports
ports_short = record {
  most = λ p fits.
      let inputs = (counted_short input_short).most p.0 (fits.0.0, (refl, fits.1.0.1)) in
      let targets = (counted_short target_short).most p.1 (fits.0.1, (refl, fits.1.1.1)) in
      omega (
        arith,
        inputs,
        targets,
        length-append (flat_map input.text p.0)
            (flat_map target.text p.1),
      );
}

device_short : IsShort device 330015
unfolding device
device_short = checked_short _ (λ p. Some (device_of p)) (then_short (number_short 4)
    (then_short (number_short 2)
    (then_short (number_short 8) (then_short byte_short ports_short))))

-- the record of a plain device says the device and its base rows
pub device_record : (s : SetupParts) → IsSetup s → IsPlainDevice s.device
    → AllByRecursion IsSsrc s.device.outputs
    → IsDeviceRecord (setup_of s.device s.rows) (device_tag, device.text (s.device, s.rows))
device_record s is plain ssrcs =
    let fits = device_fits s is plain ssrcs in
    let short = device_short.most (s.device, s.rows) fits in
    record {
      fits = (omega arith, omega (arith, short));
      form = Plain;
      tag = refl;
      base = (
        record { device = is.device; count = is.count; passes = is.passes },
        ((fits, refl), refl),
      );
    }

-- ---- what the writer asks

inputs_hold : (inputs : List Input) → AllByRecursion (λ i. IsId i.id) inputs
    → AllByRecursion (λ i. AreChannels i.labels) inputs → AllByRecursion HoldsInput inputs
inputs_hold [] ids are = tt
inputs_hold (i ∷ inputs) ids are = (
  (omega (arith, ids.0.1), omega (arith, are.0.1)),
  inputs_hold inputs ids.1 are.1,
)

outputs_hold : (outputs : List Output) → AllByRecursion (λ o. IsId o.id) outputs
    → AllByRecursion (λ o. AreChannels o.labels) outputs → AllByRecursion IsPlainOutput outputs
    → AllByRecursion HoldsOutput outputs
outputs_hold [] ids are plain = tt
outputs_hold (o ∷ outputs) ids are plain = (
  (omega (arith, ids.0.1), (omega (arith, are.0.1), plain.0.routable)),
  outputs_hold outputs ids.1 are.1 plain.1,
)

-- the inputs of a device have short ids and few channels
pub device_inputs : (d : DeviceParts) → IsDevice d → AllByRecursion HoldsInput d.inputs
device_inputs d is =
    inputs_hold d.inputs (recursion_from_All (λ (i : Input). IsId i.id) d.inputs is.ids.inputs)
    (recursion_from_All (λ (i : Input). AreChannels i.labels) d.inputs is.streams.inputs)

-- so have the outputs of a plain one, and short lists
pub device_outputs : (d : DeviceParts) → IsDevice d → IsPlainDevice d
    → AllByRecursion HoldsOutput d.outputs
device_outputs d is plain =
    outputs_hold d.outputs
    (recursion_from_All (λ (o : Output). IsId o.id) d.outputs is.ids.outputs)
    (recursion_from_All (λ (o : Output). AreChannels o.labels) d.outputs is.streams.outputs)
    (recursion_from_All IsPlainOutput d.outputs plain.outputs)

parts_joined : (a b c : List ℕ) (h i o : ℕ) (x y : List ℕ)
    → ((((((a ++ b) ++ c) ++ h ∷ []) ++ i ∷ []) ++ o ∷ []) ++ x) ++ y
    ≡ a ++ (b ++ (c ++ ((h ∷ []) ++ (((i ∷ []) ++ (o ∷ [])) ++ (x ++ y)))))
parts_joined a b c h i o x y = simp append_assoc refl

-- the parts of a device's body, by a number of outputs
abbrev device_parts : SetupParts → ℕ → List ℕ
device_parts s n =
    number_text 4 s.device.rate.hz
    ++ (number_text 2 s.device.rate.frames
    ++ (number_text 8 s.device.base
    ++ ((s.device.hold ∷ [])
    ++ (((length s.device.inputs ∷ []) ++ (n ∷ []))
    ++ (flat_map input.text s.device.inputs
    ++ flat_map target.text (targets_of s.device.outputs s.rows))))))

-- the parts of a device's body, in the order in which they are written
pub device_joined : (s : SetupParts) → AllZip HasCells s.device.outputs s.rows
    → ((((((number_text 4 s.device.rate.hz ++ number_text 2 s.device.rate.frames)
    ++ number_text 8 s.device.base) ++ s.device.hold ∷ []) ++ length s.device.inputs ∷ [])
    ++ length s.device.outputs ∷ []) ++ flat_map input.text s.device.inputs)
    ++ flat_map target.text (targets_of s.device.outputs s.rows) ≡ device.text (s.device, s.rows)
unfolding device ports
device_joined s count =
    parts_joined (number_text 4 s.device.rate.hz) (number_text 2 s.device.rate.frames)
    (number_text 8 s.device.base) s.device.hold (length s.device.inputs) (length s.device.outputs)
    (flat_map input.text s.device.inputs)
    (flat_map target.text (targets_of s.device.outputs s.rows))
    ∙ ap (λ (n : ℕ). device_parts s n) (sym (targets_long s.device.outputs s.rows count))
