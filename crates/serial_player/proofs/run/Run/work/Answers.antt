use Rattle.std.proofs.Common.{ℕ, ◌+◌, refl, ap, ◌∙◌}
use Rattle.plain_book.specs.Desk.{desk_parts}
use Rattle.serial_player.proofs.Running.{claimed_run}
use Rattle.serial_player.proofs.run.Run.work.Goals as goal

pub returns-clause-run : goal.returns-clause-run
returns-clause-run c =
    let old = c.args.self.now in
    claimed_run old.setup old _ c.args.count c.requires.run
    (c.raise_to.ensures
    ∙ ap (λ (n : ℕ). desk_parts old.desk.setup (n + c.from.result) old.desk.journal)
    c.claims.ensures.value
    ∙ ap (λ (n : ℕ). desk_parts old.desk.setup (old.desk.claims + n) old.desk.journal)
    c.from.ensures) refl refl refl
