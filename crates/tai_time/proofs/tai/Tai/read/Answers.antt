use Rattle.tai_time.proofs.TimeLaws.{IsTaiText-says}
use Rattle.tai_time.proofs.Answering.{found_at, only_at}
use Rattle.tai_time.proofs.tai.Tai.read.Goals as goal

pub returns-in-None-clause-only : goal.returns-in-None-clause-only
returns-in-None-clause-only c time is =
    absurd (c.in-None.ensures.none (IsTaiText-says c.args.text.now time is).there)

pub returns-in-Some-clause-found : goal.returns-in-Some-clause-found
returns-in-Some-clause-found c =
    let cut = c.in-Some.ensures.some in
    let ok = rw (cut.1, cut.2) at c.read_parts.ensures.ok in
    let parts = rw (cut.1, cut.2) at c.read_parts.ensures.parts in
    found_at c.args.text.now c.read_parts.result cut.0 ok.0 parts

pub returns-in-Some-clause-only : goal.returns-in-Some-clause-only
returns-in-Some-clause-only c time is =
    let cut = c.in-Some.ensures.some in
    let ok = rw (cut.1, cut.2) at c.read_parts.ensures.ok in
    let parts = rw (cut.1, cut.2) at c.read_parts.ensures.parts in
    only_at c.args.text.now c.read_parts.result time ok.1 parts is
