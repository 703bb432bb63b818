-- How wide an entry that fits a plan is.
use Rattle.std.proofs.Common.{ℕ, ◌<◌, ◌≤◌, length, sym, subst, ⊎_elim, arith}
use Rattle.std.specs.Prelude.{Option}
use Rattle.std.specs.Option.{option_map_or}
use Rattle.std.proofs.lemmas.List.{length-map}
use Rattle.std.proofs.lemmas.Option.{slice_get_cases}
use Rattle.io_caps.specs.declared.device.DeviceParts.{DeviceParts}
use Rattle.io_caps.specs.declared.port.Output.{Output}
use Rattle.io_caps.specs.declared.limits.TheConstants.{MOST_CHANNELS, MOST_OUTPUTS}
use Rattle.io_caps.specs.Device.{IsDevice}
use Rattle.io_caps.specs.Port.{AreChannels}
use Rattle.map_entry.specs.declared.entry.Entry.{Entry}
use Rattle.map_entry.specs.Row.{channels_of_output}
use Rattle.claim_rule.specs.declared.plan.Plan.{Plan}
use Rattle.claim_rule.specs.Claims.{outputs_of, IsSound, IsFit}
use Rattle.claim_rule.specs.Words.{stride, cell_word, entry_words}

-- an output has some channels, and not many
abbrev Few : ℕ → Type 0
Few channels = (1 ≤ channels) × (channels ≤ MOST_CHANNELS)

pub channels_few : (d : DeviceParts) (o : ℕ) → IsDevice d → o < length d.outputs
    → (1 ≤ channels_of_output d o) × (channels_of_output d o ≤ MOST_CHANNELS)
channels_few d o device there =
    ⊎_elim
    (λ t.
    let row : AreChannels t.0.labels =
    subst (λ (x : Output). AreChannels x.labels) t.3 (device.streams.outputs o t.0 there) in
    subst (λ (r : Option Output). Few (option_map_or (λ (x : Output). length x.labels) r 0))
    (sym t.2) row)
    (λ t. absurd (omega (arith, t.0)))
    (slice_get_cases d.outputs o).1

pub entry_short : (plan : Plan) (e : Entry) → IsSound plan → IsFit plan e
    → length (entry_words e) ≤ stride
entry_short plan e sound fit =
    let few = channels_few plan.setup.device e.output sound.setup.device fit.ok.row.there in
    let long = fit.ok.row.long in let m = length-map e.row cell_word in omega (arith, few.1)

pub some_output : (plan : Plan) → IsSound plan → 0 < outputs_of plan
some_output plan sound = let b = sound.setup.device.bounds.some_output in omega arith

pub few_outputs : (plan : Plan) → IsSound plan → outputs_of plan ≤ MOST_OUTPUTS
few_outputs plan sound = sound.setup.device.bounds.few_outputs
