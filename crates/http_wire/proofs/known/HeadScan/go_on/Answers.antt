use Rattle.std.proofs.Common.{◌∙◌}
use Rattle.std.proofs.lemmas.List.{take_rest}
use Rattle.http_wire.proofs.LineLemmas.{open_part, part_goes_on}
use Rattle.http_wire.proofs.ScanLemmas.{line_behind, line_of_head, line_of_front, no_line_open, no_line_known}
use Rattle.http_wire.proofs.known.HeadScan.go_on.Goals as goal

pub returns-in-None-clause-none : goal.returns-in-None-clause-none
returns-in-None-clause-none c =
    let known = rw c.in-NoLine.is at c.requires in
    line_behind c.args.bytes.now c.in-NoLine.seen c.in-NoLine.begun known ∙ rw (take_rest c.args.bytes.now c.in-NoLine.seen) at c.in-None.ensures.none

pub returns-in-Some-clause-open : goal.returns-in-Some-clause-open
returns-in-Some-clause-open c =
    let known = rw c.in-NoLine.is at c.requires in
    let none = rw (take_rest c.args.bytes.now c.in-NoLine.seen) at c.in-Some.ensures.open in
    no_line_open c.args.bytes.now (line_behind c.args.bytes.now c.in-NoLine.seen c.in-NoLine.begun known ∙ none)

pub returns-in-Some-clause-known : goal.returns-in-Some-clause-known
returns-in-Some-clause-known c =
    let known = rw c.in-NoLine.is at c.requires in
    let rest = take_rest c.args.bytes.now c.in-NoLine.seen in
    no_line_known c.args.bytes.now c.in-NoLine.seen c.in-NoLine.begun c.in-Some.begun known (rw rest at c.in-Some.ensures.open)
    (rw rest at c.in-Some.ensures.begun)

pub returns-in-None-with_bytes-clause-none : goal.returns-in-None-with_bytes-clause-none
returns-in-None-with_bytes-clause-none c =
    let known = rw c.in-OpenLine.is at c.requires in
    line_of_front c.args.bytes.now c.in-OpenLine.seen c.in-OpenLine.part known.1

pub returns-in-Some-with_bytes-clause-open : goal.returns-in-Some-with_bytes-clause-open
returns-in-Some-with_bytes-clause-open c =
    let known = rw c.in-OpenLine.is at c.requires in
    let extends = rw (take_rest c.args.bytes.now c.in-OpenLine.seen) at c.in-Some-with_bytes.ensures in
    open_part c.args.bytes.now c.in-Some-with_bytes.part
    (part_goes_on c.args.bytes.now c.in-OpenLine.seen c.in-OpenLine.part c.in-Some-with_bytes.part known.1 extends)

pub returns-in-Whole-clause-none : goal.returns-in-Whole-clause-none
returns-in-Whole-clause-none c = line_of_head c.args.bytes.now c.in-Whole.field-0 (rw c.in-Whole.is at c.requires)
