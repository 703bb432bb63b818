use Rattle.std.proofs.Common.{refl, rules, arith}
use Rattle.capture_file.specs.ResultText.{IsClientThere}
use Rattle.capture_file.proofs.ResultOnce.{item_read, no_item_read, item_read_refused}
use Rattle.capture_file.proofs.result_judging.add_item.Goals as goal

pub returns-in-Err-NoReading : goal.returns-in-Err-NoReading
returns-in-Err-NoReading c =
    let none = rw c.in-Err-NoReading.field-0-is at c.in-Err-NoReading.ensures in
    rw (← c.before-2.view_is) (
      refl,
      λ item h. no_item_read c.before-2.inside.format c.before-2.inside.device.now c.args.tag
          c.args.body.now none item h,
    )

pub returns-then-not-is_client_there : goal.returns-then-not-is_client_there
returns-then-not-is_client_there c =
    let never : IsClientThere c.in-Ok.item → ⊥ =
    λ there. absurd (search (
      rules,
      there,
      c.is_client_there.ensures,
      c.if-not-is_client_there.true,
    )) in
    rw (← c.before-2.view_is) (
      refl,
      λ item h. item_read_refused c.before-2.inside.format c.before-2.inside.device.now c.args.tag
          c.args.body.now c.in-Ok.item c.in-Ok.ensures never item h,
    )

pub returns : goal.returns
returns c =
    let there : IsClientThere c.in-Ok.item =
    search (rules, c.is_client_there.ensures, c.if-not-is_client_there.false) in
    rw (← c.before-2.view_is) (
      c.in-Ok.item,
      (
        item_read c.before-2.inside.format c.before-2.inside.device.now c.args.tag c.args.body.now
            c.in-Ok.item (λ i. omega (arith, c.type_inv.body i)) c.in-Ok.ensures there,
        rw c.in_ok-push.ensures.ok refl,
      ),
    )
