use Rattle.claim_word.specs.Chains.{output_at, IsTrack}
use Rattle.std.proofs.Common.{length}
use Rattle.claim_word.proofs.Chaining.{of_some, track_set}
use Rattle.claim_word.proofs.chain.link_at.Goals as goal

pub returns-in-Some-place_before-clause-track : goal.returns-in-Some-place_before-clause-track
returns-in-Some-place_before-clause-track c =
    track_set c.args.heads.now c.args.next.now c.in-Some.track c.in-Some-place_before.before
    (of_some (IsTrack c.args.heads.now (length c.args.next.now) c.args.next.now
    (output_at c.args.heads.now (length c.args.next.now))) c.args.track c.in-Some.track
    c.in-Some.is c.requires.track)
    c.in-Some-place_before.ensures.after c.in-Some-place_before.ensures.last
