use Rattle.std.proofs.Common.{sym, ◌∙◌}
use Rattle.io_caps.specs.Fault.{IsFirstDouble}
use Rattle.io_caps.proofs.Slots.{IsFirstSlot-from, no_slot}
use Rattle.io_caps.proofs.device.DeviceParts.check_ids.Goals as goal

pub returns-in-Some-first_slot-clause-first : goal.returns-in-Some-first_slot-clause-first
returns-in-Some-first_slot-clause-first c =
    let inputs = rw c.as_slice-inputs.ensures at c.double_id.ensures in
    let outputs = rw c.as_slice-outputs.ensures at c.double_id-2.ensures in
    let none = no_slot c.bad_id.result c.bad_id-2.result (λ slot is. c.in_default.not-Some slot (c.first_slot.ensures ∙ is)) in
    let d = c.args.self.now in
    record {
      broken = IsFirstSlot-from (IsFirstDouble (λ i. i.id) d.inputs) (IsFirstDouble (λ o. o.id) d.outputs) _ _ c.in-Some-first_slot.slot
          (sym c.first_slot-2.ensures ∙ c.in-Some-first_slot.is) inputs outputs;
      before = (
        c.requires.bounds,
        rw (none.0, c.as_slice-inputs.ensures) at c.bad_id.ensures.all,
        rw (none.1, c.as_slice-outputs.ensures) at c.bad_id-2.ensures.all,
      );
    }
