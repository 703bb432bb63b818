use Rattle.sdp_audio.proofs.Faults.{checked_more, checked_bad, ends_good}
use Rattle.std.proofs.Common.{rules, sym, ◌∙◌, subst, ℕ, List, true, false, Bool}
use Rattle.sdp_audio.proofs.reading.check.Goals as goal

pub returns-in-Some-clause-fault : goal.returns-in-Some-clause-fault
returns-in-Some-clause-fault c =
    checked_bad c.args.text.now c.loop-rest.rest.now c.next_line.result.0.now c.next_line.result.1.now c.loop-rest.number c.loop-rest.blank
    c.loop-rest.in_audio c.in-Some.fault c.loop-rest.invariant c.next_line.ensures.first (sym c.in-Some.ensures)

pub loop-rest-preserved : goal.loop-rest-preserved
loop-rest-preserved c =
    let held = c.loop-rest in
    rw (c.stays_blank-blank.ensures, c.stays_in_audio-in_audio.ensures)
    (checked_more c.args.text.now held.rest.now c.next_line.result.0.now c.next_line.result.1.now held.number held.blank held.in_audio
    held.invariant c.next_line.ensures.first c.next_line.ensures.shorter (sym c.line_fault.ensures ∙ c.in_default.is))

pub returns-clause-ok : goal.returns-clause-ok
returns-clause-ok c =
    let held = c.loop-rest in
    ends_good c.args.text.now held.rest.now held.number held.blank held.in_audio held.invariant (sym c.is_empty.ensures ∙ c.loop-rest-test.false)
    c.if-blank.false
