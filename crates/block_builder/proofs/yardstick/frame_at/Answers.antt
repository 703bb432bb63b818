use Rattle.std.proofs.Common.{ℕ, ◌+◌, None, Some, ap, ◌∙◌}
use Rattle.block_builder.specs.Blocks.{holder, piece_frame, pieces_of}
use Rattle.block_builder.specs.Seen.{piece_seen}
use Rattle.block_builder.proofs.Yardsticks.{held_is}
use Rattle.block_builder.proofs.yardstick.frame_at.Goals as goal

pub returns-in_default : goal.returns-in_default
returns-in_default c =
    let n = c.args.intake in
    let ps = pieces_of n c.args.arrivals.now in
    held_is n ps c.args.tick c.args.frame None
    (c.in_default.ensures.value ∙ ap (λ (k : ℕ). holder n ps c.args.tick (k + c.args.frame))
    c.tick_place.ensures.value)

pub returns : goal.returns
returns c =
    let n = c.args.intake in
    let ps = pieces_of n c.args.arrivals.now in
    let p = piece_seen c.in-Some.seen in
    ap Some (c.in_ok-samples_at.ensures
    ∙ ap (λ (k : ℕ). piece_frame n (k + c.args.frame) p) c.tick_place.ensures.value)
    ∙ held_is n ps c.args.tick c.args.frame (Some p)
    (c.in-Some.ensures.value ∙ ap (λ (k : ℕ). holder n ps c.args.tick (k + c.args.frame))
    c.tick_place.ensures.value)
