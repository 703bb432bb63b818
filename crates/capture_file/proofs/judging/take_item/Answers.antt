use Rattle.std.proofs.Common.{refl, rules, length, arith}
use Rattle.std.proofs.lemmas.List.Elements.{All-push}
use Rattle.capture_file.specs.Items.{IsItemThere}
use Rattle.capture_file.proofs.RecordLaws.{item_found, no_item, item_refused}
use Rattle.capture_file.proofs.judging.take_item.Goals as goal

pub returns-in-Err-NoReading : goal.returns-in-Err-NoReading
returns-in-Err-NoReading c =
    let none = rw c.in-Err-NoReading.field-0-is at c.in-Err-NoReading.ensures in
    (refl, λ item h. no_item c.args.before.opening.setup c.args.tag c.args.body.now none item h)

pub returns-then-not-is_item_there : goal.returns-then-not-is_item_there
returns-then-not-is_item_there c =
    let never : IsItemThere (length c.before-2.inside.opening.setup.device.inputs) c.in-Ok.item → ⊥ =
    λ there. absurd (search (rules, there, c.is_item_there.ensures, c.if-not-is_item_there.true)) in
    rw (← c.before-2.view_is) (
      refl,
      λ item h. item_refused c.before-2.inside.opening.setup c.args.tag c.args.body.now c.in-Ok.item
          c.in-Ok.ensures never item h,
    )

pub invariant_of-result : goal.invariant_of-result
invariant_of-result c =
    let there : IsItemThere (length c.before-2.inside.opening.setup.device.inputs) c.in-Ok.item =
    search (rules, c.is_item_there.ensures, c.if-not-is_item_there.false) in
    rw c.in_ok-push.ensures.ok record {
      grain = c.before-2.invariant.grain;
      there = All-push (IsItemThere (length c.before-2.inside.opening.setup.device.inputs))
          c.before-2.inside.items c.in-Ok.item c.before-2.invariant.there there;
    }

pub returns : goal.returns
returns c =
    let there : IsItemThere (length c.before-2.inside.opening.setup.device.inputs) c.in-Ok.item =
    search (rules, c.is_item_there.ensures, c.if-not-is_item_there.false) in
    rw (← c.before-2.view_is) (
      c.in-Ok.item,
      (
        item_found c.before-2.inside.opening.setup c.args.tag c.args.body.now c.in-Ok.item
            (λ i. omega (arith, c.type_inv.body i)) c.in-Ok.ensures there,
        rw c.in_ok-push.ensures.ok refl,
      ),
    )
