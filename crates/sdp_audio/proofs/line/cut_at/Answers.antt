use Rattle.std.proofs.Common.{sym, eqb}
use Rattle.sdp_audio.proofs.Cuts.{found_parts, split_none}
use Rattle.sdp_audio.proofs.line.cut_at.Goals as goal

pub returns-in-None-clause-none : goal.returns-in-None-clause-none
returns-in-None-clause-none c = split_none (λ b. eqb b c.args.byte) c.args.text.now (sym c.in-None.ensures)

pub returns-in-Some-clause-parts : goal.returns-in-Some-clause-parts
returns-in-Some-clause-parts c = found_parts (λ b. eqb b c.args.byte) c.args.text.now c.in-Some.at 0 (sym c.in-Some.ensures)
