-- What words can spell of entries that fit a plan.
use Rattle.std.proofs.Common.{◌≡◌, ℕ, suc, ◌+◌, ◌<◌, ◌≤◌, true, List, length, get_or, sym, ap}
use Rattle.std.proofs.Common.{◌∙◌, subst, ⊎_elim, arith}
use Rattle.std.specs.Prelude.{Option, None}
use Rattle.std.specs.Option.{option_map_or}
use Rattle.std.specs.List.{All}
use Rattle.std.proofs.lemmas.Bool.{ltb-true}
use Rattle.std.proofs.lemmas.List.{get_or-map, get_or_default, length-map}
use Rattle.std.proofs.lemmas.Option.{slice_get_cases}
use Rattle.list_laws.proofs.Options.{option_map-None, option_or-first, option_or-second}
use Rattle.io_caps.specs.declared.device.DeviceParts.{DeviceParts}
use Rattle.io_caps.specs.declared.port.Input.{Input}
use Rattle.io_caps.specs.declared.limits.TheConstants.{MOST_CHANNELS}
use Rattle.io_caps.specs.Device.{IsDevice}
use Rattle.io_caps.specs.Port.{AreChannels}
use Rattle.map_entry.specs.declared.cell.Cell.{Cell}
use Rattle.map_entry.specs.declared.cell.Cell.TheVariants.{Unrouted, From}
use Rattle.map_entry.specs.declared.entry.Entry.{Entry}
use Rattle.map_entry.specs.declared.fault.RowFault.TheVariants.{Input as NoInput}
use Rattle.map_entry.specs.declared.fault.RowFault.TheVariants.{Channel as NoChannel}
use Rattle.map_entry.specs.Row.{channels_of, is_input_there, is_channel_there, lowest_out}
use Rattle.map_entry.specs.Row.{row_fault, IsRowOk}
use Rattle.map_entry.proofs.Lowest.{lowest_none}
use Rattle.claim_rule.specs.declared.plan.Plan.{Plan}
use Rattle.claim_rule.specs.Claims.{IsSound, IsFit}
use Rattle.claim_rule.specs.Words.{cell_word, entry_words}
use Rattle.claim_rule.proofs.Fitting.{channels_few, few_outputs}
use Rattle.claim_rule.specs.Words.{IsByteCell}
use Rattle.claim_word.specs.Writings.{IsWide}

-- ---- cells of a row that passes the check

-- no cell names an input or channel that is not there
none_out : (d : DeviceParts) (o : ℕ) (row : List Cell) → IsRowOk d o row
    → (lowest_out (λ channel. is_input_there d.inputs) row ≡ None)
    × (lowest_out (λ channel. is_channel_there d.inputs) row ≡ None)
unfolding row_fault
none_out d o row ok =
    let other = option_or-second _ _ ok in (
      option_map-None NoInput _ (option_or-first _ _ ok),
      option_map-None NoChannel _ (option_or-first _ _ other),
    )

few_channels : (d : DeviceParts) (i : ℕ) → IsDevice d → i < length d.inputs
    → channels_of d.inputs i ≤ MOST_CHANNELS
few_channels d i device there =
    ⊎_elim
    (λ t.
    let row : AreChannels t.0.labels =
    subst (λ (x : Input). AreChannels x.labels) t.3 (device.streams.inputs i t.0 there) in
    subst (λ (r : Option Input). option_map_or (λ (x : Input). length x.labels) r 0 ≤ MOST_CHANNELS)
    (sym t.2) row.1)
    (λ t. absurd (omega (arith, t.0)))
    (slice_get_cases d.inputs i).1

byte_cell : (d : DeviceParts) (c : Cell) → IsDevice d → is_input_there d.inputs c ≡ true
    → is_channel_there d.inputs c ≡ true → IsByteCell c
byte_cell d Unrouted device input channel = tt
byte_cell d (From i c) device input channel =
    let there : i < length d.inputs = ltb-true i (length d.inputs) input in
    let within : c < channels_of d.inputs i = ltb-true c (channels_of d.inputs i) channel in
    let inputs = device.bounds.few_inputs in let channels = few_channels d i device there in
    (omega arith, omega arith)

pub byte_cells : (plan : Plan) (e : Entry) → IsSound plan → IsFit plan e → All IsByteCell e.row
byte_cells plan e sound fit k c lt =
    let d : DeviceParts = plan.setup.device in
    let out = none_out d e.output e.row fit.ok.row.passes in
    let same : get_or e.row k Unrouted ≡ get_or e.row k c = get_or_default e.row k Unrouted c lt in
    subst IsByteCell same
    (byte_cell d (get_or e.row k Unrouted) sound.setup.device
    (lowest_none (λ channel. is_input_there d.inputs) e.row k out.0 lt)
    (lowest_none (λ channel. is_channel_there d.inputs) e.row k out.1 lt))

-- ---- entries

pub wide_of : (plan : Plan) (e : Entry) → IsSound plan → IsFit plan e → IsWide e
wide_of plan e sound fit =
    let few = few_outputs plan sound in
    let channels = channels_few plan.setup.device e.output sound.setup.device fit.ok.row.there in
    let there = fit.ok.row.there in let long = fit.ok.row.long in
    record {
      output = omega arith;
      tick = fit.tick;
      at = fit.at;
      offset = omega (arith, fit.ok.offset, sound.setup.device.bounds.rate.2);
      row = omega (arith, channels.1);
    }

-- the word of a cell
pub row_word : (e : Entry) (k : ℕ) (c : Cell) → k < length e.row
    → get_or (entry_words e) (2 + k) 0 ≡ cell_word (get_or e.row k c)
row_word e k c lt =
    let up : 2 + k ≡ suc (suc k) = omega arith in
    ap (λ (n : ℕ). get_or (entry_words e) n 0) up ∙ get_or-map cell_word e.row k c 0 lt

pub long : (e : Entry) → length (entry_words e) ≡ length e.row + 2
long e = let m = length-map e.row cell_word in omega arith
