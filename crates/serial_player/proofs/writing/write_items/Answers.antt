use Rattle.std.proofs.Common.{◌≡◌, ◌+◌, ℕ, length, ap, refl, ◌∙◌, arith}
use Rattle.std.proofs.lemmas.List.FromFn.{length-map-range_with_len}
use Rattle.serial_player.specs.HistoryParts.{capture_by}
use Rattle.capture_file.specs.Parts.{between_bytes}
use Rattle.serial_player.specs.Serial.{packets_in}
use Rattle.serial_player.proofs.History.{are_ready}
use Rattle.serial_player.proofs.ResultTexts.{written_is, cut_short_is}
use Rattle.serial_player.proofs.writing.write_items.Goals as goal

pub put_result-requires-clause-ready : goal.put_result-requires-clause-ready
put_result-requires-clause-ready g c =
    let made = c.in_ok-parts.ensures in
    let parts = c.in_ok-parts.field-0.parts in
    let whole = capture_by c.args.format c.args.setup.now c.args.items.now c.args.ticks in
    let of = λ (number : ℕ). between_bytes c.args.format number parts.journal parts.replies in
    let long : length c.as_slice-3.result.now ≡ packets_in whole + 1 =
    ap length (c.as_slice-3.ensures ∙ made.between)
    ∙ length-map-range_with_len of 0 (packets_in whole + 1) in
    record {
      ready = are_ready whole parts _ c.requires.capture made.parts_are refl refl
          c.as_slice.ensures c.as_slice-2.ensures;
      between_all = omega (arith, made.parts_are.claims, long);
      flags = ap length c.deref_mut.ensures.value ∙ made.found;
      size = made.size;
    }

pub returns-in-Ok-clause-done : goal.returns-in-Ok-clause-done
returns-in-Ok-clause-done g c =
    written_is (capture_by c.args.format c.args.setup.now c.args.items.now c.args.ticks)
    c.in_ok-parts.field-0 (record {
      setup = c.args.setup;
      count = c.in_ok-parts.field-0.parts.claims;
      entries = c.as_slice.result;
      table = c.as_slice-2.result;
    }) _ _ _ c.requires.capture c.in_ok-parts.ensures refl refl
    c.as_slice.ensures c.as_slice-2.ensures c.as_slice-3.ensures c.in-Ok.ensures.ok

pub returns-clause-cut_short : goal.returns-clause-cut_short
returns-clause-cut_short g c =
    cut_short_is (capture_by c.args.format c.args.setup.now c.args.items.now c.args.ticks)
    c.in_ok-parts.field-0 (record {
      setup = c.args.setup;
      count = c.in_ok-parts.field-0.parts.claims;
      entries = c.as_slice.result;
      table = c.as_slice-2.result;
    }) _ _ _ c.requires.capture c.in_ok-parts.ensures refl refl
    c.as_slice.ensures c.as_slice-2.ensures c.as_slice-3.ensures c.put_result.ensures.prefix
