use Rattle.capture_file.proofs.OpeningLaws.{opened, opening_place}
use Rattle.capture_file.proofs.opening.read_opening.Goals as goal

pub returns-clause-opened : goal.returns-clause-opened
returns-clause-opened c =
    let begins = c.in_ok-format.ensures.begins in
    let says = c.in-Some.ensures.some in
    rw c.with_grain.ensures
    (opened c.args.bytes.now c.in_ok-format.format c.in_ok-format.setup c.in_ok-format.behind.now
    c.in-Some.grain c.in-Some.rest.now _ begins says
    (opening_place c.args.bytes.now c.in_ok-format.format c.in_ok-format.setup
    c.in_ok-format.behind.now c.in-Some.grain c.in-Some.rest.now begins says))
