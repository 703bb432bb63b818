-- The record of a device says no grain, and the format of an opening can say its grain.
use Rattle.std.proofs.Common.{◌≡◌, ℕ, List, Option, Some, None, sym, ap}
use Rattle.map_entry.specs.Setup.{SetupParts, setup_of, setup_with}
use Rattle.map_entry.specs.declared.grain.Grain.{Grain}
use Rattle.map_entry.specs.declared.grain.Grain.TheVariants.{Tick}
use Rattle.channel_json.specs.Devices.{Says, base_at, hold_at, inputs_at, rate_in, setup_in}
use Rattle.channel_json.specs.Devices.{targets_at}
use Rattle.channel_json.specs.Values.{document}
use Rattle.channel_json.proofs.BodyLemmas.{then_some}
use Rattle.capture_file.specs.declared.format.Format.{Format}
use Rattle.capture_file.specs.declared.format.Format.TheVariants.{One, Two}
use Rattle.capture_file.specs.declared.opening.Opening.{Opening}
use Rattle.capture_file.specs.Formats.{AllowsGrain}
use Rattle.capture_file.specs.Capture.{IsDeviceRecord, Opens, SaysBase, SaysGrain}
use Rattle.capture_file.specs.declared.before.DeviceForm.{DeviceForm}
use Rattle.capture_file.specs.declared.before.DeviceForm.TheVariants.{Plain, Json}

abbrev grain_in : Option SetupParts → Grain
grain_in None = Tick
grain_in (Some setup) = setup.grain

text_grain : (text : List ℕ) (setup : SetupParts) → Says text setup → setup.grain ≡ Tick
unfolding setup_in
text_grain text setup says =
    let d = then_some setup_in (document text) setup says in
    let rate = then_some _ (rate_in d.0) setup d.1 in
    let base = then_some _ (base_at d.0) setup rate.1 in
    let hold = then_some _ (hold_at d.0) setup base.1 in
    let inputs = then_some _ (inputs_at d.0) setup hold.1 in
    let targets = then_some _ (targets_at inputs.0 d.0) setup inputs.1 in
    sym (ap grain_in targets.1)

base_grain : (form : DeviceForm) (body : List ℕ) (setup : SetupParts) → SaysBase form body setup
    → setup.grain ≡ Tick
base_grain Plain body setup says = says.1
base_grain Json body setup says = text_grain body setup says

-- the record of a device says no grain
pub record_ticks : (setup : SetupParts) (r : ℕ × List ℕ) → IsDeviceRecord setup r
    → setup ≡ setup_of setup.device setup.rows
record_ticks setup r is =
    ap (λ (g : Grain). setup_with setup.device setup.rows g)
    (base_grain is.form r.1 setup is.base.1)

allowed : (format : Format) (bytes : List ℕ) (grain : Grain) (behind : List ℕ)
    → SaysGrain format bytes grain behind → AllowsGrain format grain
allowed One bytes grain behind says = says.0
allowed Two bytes grain behind says = tt

-- an opening's format can say its grain
pub opens_allowed : (bytes : List ℕ) (o : Opening) (behind : List ℕ) → Opens bytes o behind
    → AllowsGrain o.format o.setup.grain
opens_allowed bytes o behind h = allowed o.format h.after o.setup.grain behind h.grain
