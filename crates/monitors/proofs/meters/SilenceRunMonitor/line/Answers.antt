use Rattle.std.proofs.Common.{◌≡◌, ◌≤◌, ◌++◌, List, ℕ, ◌∙◌, ap, subst, min, max, replicate, true, [], arith, rules}
use Rattle.monitors.specs.Meters.{longest_run, silence_line}
use Rattle.monitors.proofs.Silences.{run_alone}
use Rattle.monitors.proofs.Walks.{on_ok}
use Rattle.monitors.proofs.meters.SilenceRunMonitor.line.Goals as goal

pub returns-clause-ok : goal.returns-clause-ok
returns-clause-ok c =
    let s = c.args.self.now in
    let some : s.longest ≤ 18446744073709551615 = search rules in
    let fits : s.current ≤ 18446744073709551615 = search rules in
    let alone = run_alone s.current in
    let run : c.max.result ≡ min 18446744073709551615 (max s.longest (longest_run (replicate s.current true ++ []))) =
    omega (arith, c.max.ensures, alone, some, fits) in
    on_ok c.write_silence.result
    (λ written. written ∙ ap (λ (n : ℕ). c.args.out.now.items ++ silence_line n) run)
    c.write_silence.ensures.ok
