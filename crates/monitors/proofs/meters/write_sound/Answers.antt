use Rattle.std.proofs.Common.{◌≡◌, ◌++◌, List, ℕ, ◌∙◌, ap}
use Rattle.std.specs.Prelude.{codes, decimal}
use Rattle.monitors.specs.Meters.{first_line}
use Rattle.monitors.proofs.Walks.{three_parts}
use Rattle.monitors.proofs.meters.write_sound.Goals as goal

pub returns-clause-ok : goal.returns-clause-ok
unfolding first_line
returns-clause-ok c =
    three_parts c.args.out.now.items (codes "first sound ") (decimal c.args.claim) (codes "\n")
    c.extend_from_slice.new.self.items c.extend_from_slice-2.new.self.items c.extend_from_slice-3.new.self.items
    c.in_ok-extend_from_slice.ensures.items
    (c.in_ok-extend_from_slice-2.ensures.items
    ∙ ap (λ (text : List ℕ). c.extend_from_slice.new.self.items ++ text)
    (c.as_bytes.ensures.value ∙ c.format.ensures.text))
    c.in_ok-extend_from_slice-3.ensures.items
