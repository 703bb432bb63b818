-- The capture that is made of a session description: its device is plain, and its text is read as
-- it.
use Rattle.std.proofs.Common.{◌≡◌, ℕ, ◌+◌, List, [], ◌∷◌, ◌++◌, length, get_or, map, refl, sym, ap}
use Rattle.std.proofs.Common.{inr, arith}
use Rattle.std.specs.Prelude.{All}
use Rattle.std.specs.List.{AllByRecursion, enumerate_from}
use Rattle.std.proofs.Math.Nat.{zero-mul}
use Rattle.std.proofs.lemmas.List.{length-append}
use Rattle.std.proofs.lemmas.List.Elements.{All-from_recursion}
use Rattle.io_caps.specs.declared.port.Input.{Input}
use Rattle.io_caps.specs.declared.port.Output.{Output}
use Rattle.map_entry.specs.Setup.{SetupParts, setup_of}
use Rattle.map_entry.specs.declared.grain.Grain.TheVariants.{Tick}
use Rattle.capture_file.specs.Capture.{HasNoGrain, IsCaptureText, IsDeviceRecord}
use Rattle.capture_file.specs.Device.{IsPlainDevice, IsPlainInput, IsPlainOutput, device, device_text}
use Rattle.capture_file.specs.Device.{numbered}
use Rattle.capture_file.specs.Formats.{capture_magic}
use Rattle.capture_file.specs.Items.{end_text}
use Rattle.capture_file.specs.Tags.{device_tag, grain_tag}
use Rattle.capture_file.specs.declared.format.Format.TheVariants.{Two}
use Rattle.sdp_audio.specs.Made.{device_of, stream_input, stream_output}
use Rattle.sdp_audio.specs.declared.stream.Stream.{Stream}
use Rattle.chanmap.specs.commands.FromSdp.{made_capture, made_setup, made_text}
use Rattle.chanmap.proofs.Straight.{labels_long}

-- ---- the device is plain

plain_input : (n : ℕ) (s : Stream) → IsPlainInput (stream_input (n, s))
plain_input n s = record {
  name = refl;
  description = refl;
  labels = sym (ap numbered (labels_long s.channels));
  parent = refl;
}

plain_output : (n : ℕ) (s : Stream) → IsPlainOutput (stream_output (n, s))
plain_output n s = record {
  name = refl;
  description = refl;
  labels = sym (ap numbered (labels_long s.channels));
  source_id = refl;
  routable = tt;
}

plain_inputs : (n : ℕ) (streams : List Stream)
    → AllByRecursion IsPlainInput (map stream_input (enumerate_from n streams))
plain_inputs n [] = tt
plain_inputs n (s ∷ streams) = (plain_input n s, plain_inputs (n + 1) streams)

plain_outputs : (n : ℕ) (streams : List Stream)
    → AllByRecursion IsPlainOutput (map stream_output (enumerate_from n streams))
plain_outputs n [] = tt
plain_outputs n (s ∷ streams) = (plain_output n s, plain_outputs (n + 1) streams)

pub made_plain : (frames : ℕ) (streams : List Stream)
    → IsPlainDevice (made_setup frames streams).device
made_plain frames streams = record {
  inputs = All-from_recursion IsPlainInput _ (plain_inputs 1 streams);
  outputs = All-from_recursion IsPlainOutput _ (plain_outputs 1 streams);
}

-- ---- the text is read

no_grain : HasNoGrain end_text
no_grain r rest stands is =
    let same : 69 ≡ r.0 = ap (λ (bytes : List ℕ). get_or bytes 0 0) stands.parts in
    omega (arith, same, is)

pub made_read : (setup : SetupParts) (text : List ℕ) → setup.grain ≡ Tick
    → IsDeviceRecord (setup_of setup.device setup.rows)
    (device_tag, device.text (setup.device, setup.rows))
    → text ≡ made_text setup → IsCaptureText (made_capture setup) text
made_read setup text tick said is =
    let magic = capture_magic Two in
    let device_record = device_text (setup.device, setup.rows) in
    record {
      opens = record {
        after = end_text;
        begins = record {
          of = (device_tag, device.text (setup.device, setup.rows));
          device = said;
          parts = is;
        };
        grain = inr (tick, (refl, no_grain));
        place = omega (
          arith,
          ap length is,
          length-append magic (device_record ++ end_text),
          length-append device_record end_text,
          length-append magic device_record,
        );
      };
      items = record { there = All-from_recursion _ [] tt; fit = All-from_recursion _ [] tt };
      work = (sym (zero-mul (length setup.device.outputs)), omega arith);
    }
