-- What is written as a capture is its text.
use Rattle.std.proofs.Common.{◌≡◌, ℕ, List, [], ◌++◌, length, sym, subst, ap, ◌∙◌, append_assoc}
use Rattle.std.proofs.Common.{refl, arith, inl, inr}
use Rattle.std.specs.List.{flat_map}
use Rattle.std.proofs.lemmas.List.{append-nil, length-append}
use Rattle.map_entry.specs.Setup.{setup_of}
use Rattle.map_entry.specs.declared.grain.Grain.{Grain}
use Rattle.capture_file.specs.declared.format.Format.{Format}
use Rattle.capture_file.specs.declared.format.Format.TheVariants.{One, Two}
use Rattle.capture_file.specs.declared.items.Item.{Item}
use Rattle.capture_file.specs.declared.opening.Opening.{Opening}
use Rattle.capture_file.specs.Formats.{capture_magic}
use Rattle.capture_file.specs.Items.{item, end_text}
use Rattle.capture_file.specs.Walk.{text_of}
use Rattle.capture_file.specs.Capture.{AreItems, AreTicks, HasNoGrain, IsCaptureText}
use Rattle.capture_file.specs.Capture.{IsDeviceRecord, IsGrainText, SaysGrain, capture_of, front_text}
use Rattle.capture_file.proofs.Whole.{no_grain}

-- what says a grain says it in front of records of other kinds
says : (format : Format) (grain : Grain) (text behind : List ℕ) → IsGrainText format grain text
    → HasNoGrain behind → SaysGrain format (text ++ behind) grain behind
says One grain text behind (tick, none) other = (tick, ap (λ (z : List ℕ). z ++ behind) none)
says Two grain text behind (inl is) other = inl (ap (λ (z : List ℕ). z ++ behind) is)
says Two grain text behind (inr (tick, none)) other =
    inr (tick, (ap (λ (z : List ℕ). z ++ behind) none, other))

pub written : (o : Opening) (device : ℕ × List ℕ) (grain : List ℕ) (items : List Item) (ticks : ℕ)
    → IsDeviceRecord (setup_of o.setup.device o.setup.rows) device
    → IsGrainText o.format o.setup.grain grain
    → o.items_at ≡ length (front_text o.format device grain)
    → AreItems (length o.setup.device.inputs) items
    → AreTicks (length o.setup.device.outputs) items ticks
    → IsCaptureText (capture_of o items ticks)
    (front_text o.format device grain ++ (flat_map item.text items ++ end_text))
written o device grain items ticks record_is grain_is place good work =
    let behind = flat_map item.text items ++ end_text in
    let front = front_text o.format device grain in
    let other : HasNoGrain behind =
    subst HasNoGrain (ap (λ (z : List ℕ). flat_map item.text items ++ z) (append-nil end_text))
    (no_grain items []) in
    record {
      opens = record {
        after = grain ++ behind;
        begins = record {
          of = device;
          device = record_is;
          parts = append_assoc (capture_magic o.format) (text_of device ++ grain) behind
              ∙ ap (λ (z : List ℕ). capture_magic o.format ++ z)
              (append_assoc (text_of device) grain behind);
        };
        grain = says o.format o.setup.grain grain behind grain_is other;
        place = omega (arith, place, length-append front behind);
      };
      items = good;
      work = work;
    }
