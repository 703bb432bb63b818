use Rattle.std.proofs.Common.{refl}
use Rattle.http_wire.specs.Stream.Answer.{whole, refused}
use Rattle.serial_player.proofs.Hearing.{need_next, refused_next, whole_next}
use Rattle.serial_player.proofs.resolving.next_ask.Goals as goal

pub returns-in-Need : goal.returns-in-Need
returns-in-Need c =
    let is = c.in_ok-next_of.ensures in
    need_next _ _ c.in_ok-next_of.field-0 c.in-Need.is
    (record { steps = is.steps; answers = is.answers; due = is.due })

pub returns-in-Request : goal.returns-in-Request
returns-in-Request c =
    let is = c.in_ok-next_of.ensures in (
      whole c.in-Request.http,
      refl,
      whole_next _ _ c.in_ok-next_of.field-0 c.in-Request.http c.in-Request.is
          (record { steps = is.steps; answers = is.answers; due = is.due }),
    )

pub returns-in-Bad : goal.returns-in-Bad
returns-in-Bad c =
    let is = c.in_ok-next_of.ensures in (
      refused c.in-Bad.status,
      refl,
      refused_next _ _ c.in_ok-next_of.field-0 c.in-Bad.status c.in-Bad.is
          (record { steps = is.steps; answers = is.answers; due = is.due }),
    )
