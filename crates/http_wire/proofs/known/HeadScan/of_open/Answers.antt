use Rattle.std.proofs.Common.{ℕ, List, sym, subst, length, take_all, arith}
use Rattle.std.proofs.lemmas.List.{take_rest}
use Rattle.http_wire.specs.Line.{HasPart}
use Rattle.http_wire.proofs.CutLemmas.{part_of_open}
use Rattle.http_wire.proofs.known.HeadScan.of_open.Goals as goal

pub returns-in-Some : goal.returns-in-Some
returns-in-Some c =
    let bytes = c.args.bytes.now in
    let lines = c.whole_lines-lines.result.now in
    let extends = rw (take_rest bytes (length lines)) at c.in-Some.ensures in
    let part = part_of_open bytes lines c.in-Some.part c.whole_lines-lines.ensures c.requires.line c.requires.open extends in
    (omega arith, subst (λ (s : List ℕ). HasPart s c.in-Some.part) (sym (take_all (length bytes) bytes (omega arith))) part)
