use Rattle.std.proofs.Common.{◌≡◌, ℕ, ◌<◌, length, get_or, None}
use Rattle.std.specs.Option.{option_or}
use Rattle.std.specs.Str.Lines.{lines}
use Rattle.sdp_audio.specs.Media.{format_for}
use Rattle.sdp_audio.specs.Section.{attributes_in, first_given}
use Rattle.sdp_audio.proofs.section.note_formats.Given as goal

abbrev pub invariant-loop-line : goal.invariant-loop-line
invariant-loop-line l = record {
  len : length l.table ≡ 128;
  formats : (t : ℕ) → t < 128
      → option_or (get_or l.table t None) (first_given (format_for t) (attributes_in (lines l.rest)))
      ≡ option_or (get_or l.fn.table t None) (first_given (format_for t) (attributes_in (lines l.text)));
}

abbrev pub decreases-loop-line : goal.decreases-loop-line
decreases-loop-line l = length l.rest
