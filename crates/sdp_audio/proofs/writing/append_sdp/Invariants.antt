use Rattle.std.proofs.Common.{◌≡◌, ◌++◌, drop, flat_map}
use Rattle.std.specs.List.{enumerate_from}
use Rattle.exact_text.specs.Spellings.{Grows}
use Rattle.sdp_audio.specs.Text.{ended, output_lines, sdp_text}
use Rattle.sdp_audio.proofs.writing.append_sdp.Given as goal

abbrev pub invariant-loop-output : goal.invariant-loop-output
invariant-loop-output l = record {
  count : l.number ≡ l.output-index;
  text : l.out.items ++ flat_map ended (flat_map (output_lines l.rate) (enumerate_from l.number (drop l.output-index l.outputs)))
      ≡ l.fn.out.items ++ sdp_text l.device;
  grows : Grows l.fn.out.items l.out.items;
}
