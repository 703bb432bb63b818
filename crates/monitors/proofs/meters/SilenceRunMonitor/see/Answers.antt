use Rattle.std.proofs.Common.{ℕ, ◌≤◌, ◌∙◌, sym, ap, map, min, rules}
use Rattle.monitors.specs.Meters.{silence_line}
use Rattle.monitors.specs.Packets.{is_silent}
use Rattle.monitors.proofs.Silences.{silence_ends, silence_goes_on}
use Rattle.monitors.proofs.meters.SilenceRunMonitor.see.Goals as goal

pub returns-then-is_silent-clause-line : goal.returns-then-is_silent-clause-line
returns-then-is_silent-clause-line c = λ more.
    let s = c.args.self.now in
    let fits : s.current ≤ 18446744073709551615 = search rules in
    ap silence_line (silence_goes_on 18446744073709551615 s.longest s.current c.saturating_add-self.result
    (is_silent c.args.seen.now) (map is_silent more) fits c.saturating_add-self.ensures
    (sym c.is_silent.ensures ∙ c.if-is_silent.true))

pub returns-else-is_silent-clause-line : goal.returns-else-is_silent-clause-line
returns-else-is_silent-clause-line c = λ more.
    let s = c.args.self.now in
    ap (λ (run : ℕ). silence_line (min 18446744073709551615 run))
    (silence_ends s.longest s.current c.max-self.result (is_silent c.args.seen.now) (map is_silent more)
    c.max-self.ensures (sym c.is_silent.ensures ∙ c.if-is_silent.false))
