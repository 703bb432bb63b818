use Rattle.std.proofs.Common.{List, ℕ, ◌∙◌, ap, subst}
use Rattle.std.specs.Io.KnownBytes.{Appends}
use Rattle.map_entry.specs.Setup.{SetupParts}
use Rattle.capture_file.specs.Capture.{IsCaptureText}
use Rattle.chanmap.specs.commands.FromSdp.{made_capture, made_text}
use Rattle.sdp_audio.specs.Section.{sdp_streams}
use Rattle.chanmap.proofs.MadeCaptures.{made_plain}
use Rattle.chanmap.proofs.commands.from_sdp.from_sdp.Goals as goal

pub capture_text-requires-clause-plain : goal.capture_text-requires-clause-plain
capture_text-requires-clause-plain g c =
    rw c.in-Ok.ensures.setup (made_plain c.args.frames (sdp_streams c.args.bytes.now))

pub returns-in-Ok-write_whole-clause-done : goal.returns-in-Ok-write_whole-clause-done
returns-in-Ok-write_whole-clause-done g c =
    let text = c.in-Ok-capture_text.text.items in
    let setup = c.in-Ok.ensures.setup in
    let made = c.in-Ok-capture_text.ensures in
    record {
      text = text;
      answer = record {
        input = c.in-Ok.ensures.input;
        spelled = made.text ∙ ap made_text setup;
        read = subst (λ (s : SetupParts). IsCaptureText (made_capture s) text) setup made.read;
      };
      alike = c.write_whole.ensures.prefix.alike;
      took = subst
          (λ (t : List ℕ). Appends (g.K.Sink.taken c.args.out.now)
          (g.K.Sink.taken c.write_whole.new.sink) t) c.deref.ensures.value
          c.in-Ok-write_whole.ensures.ok;
    }
