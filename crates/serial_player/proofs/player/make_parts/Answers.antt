use Rattle.std.proofs.Common.{length, sym, ap, subst, ◌∙◌, refl, rules}
use Rattle.map_entry.specs.Setup.{SetupParts}
use Rattle.capture_file.specs.declared.format.Format.TheVariants.{Two}
use Rattle.serial_player.specs.HistoryParts.{capture_by}
use Rattle.serial_player.specs.Serial.{HasTurns, play_all}
use Rattle.serial_player.specs.Table.{table_of}
use Rattle.serial_player.proofs.History.{parts_are}
use Rattle.serial_player.proofs.Stepping.{clients_there}
use Rattle.serial_player.proofs.player.make_parts.Goals as goal

pub resolve-requires : goal.resolve-requires
resolve-requires c =
    clients_there (length c.args.setup.now.device.inputs) c.args.items.now
    c.requires.capture.there

pub returns : goal.returns
returns c =
    let s = c.args.setup.now in
    let items = c.args.items.now in
    let ticks = c.args.ticks in
    let steps = c.as_slice.result.now in
    parts_are (capture_by Two s items ticks) steps _ _ c.requires.capture
    (subst (HasTurns items) (sym c.as_slice.ensures) c.in_ok-steps.ensures.turns)
    (c.into_parts-left.ensures s (play_all s steps) c.in_ok-play.ensures)
    (c.table.view_is ∙ c.in_ok-table.ensures
    ∙ ap (λ (x : SetupParts). table_of x.device items ticks) c.setup.view_is)
    refl (search rules) refl c.in_ok-in_order.ensures
