use Rattle.std.proofs.Common.{◌∙◌, ap, subst, sym}
use Rattle.std.specs.List.{AllByRecursion}
use Rattle.map_entry.specs.Setup.{SetupParts, IsSetup, setup_with}
use Rattle.capture_file.specs.Device.{IsPlainDevice, IsSsrc, device}
use Rattle.capture_file.proofs.DeviceFits.{device_inputs, device_joined, device_outputs}
use Rattle.capture_file.proofs.DeviceFits.{device_record}
use Rattle.capture_file.proofs.device_text.device_body.Goals as goal

pub push_inputs-requires : goal.push_inputs-requires
push_inputs-requires c =
    rw c.input_slice.ensures.value (device_inputs c.setup.inside.device c.setup.invariant.device)

pub push_targets-requires-clause-outputs : goal.push_targets-requires-clause-outputs
push_targets-requires-clause-outputs c =
    rw c.output_slice.ensures.value (device_outputs c.setup.inside.device c.setup.invariant.device
    (subst (λ (s : SetupParts). IsPlainDevice s.device) (sym c.setup.view_is) c.requires))

pub returns-clause-body : goal.returns-clause-body
returns-clause-body c =
    rw (
      c.in_ok-push_targets.ensures.ok,
      c.as_slice.ensures,
      c.output_slice.ensures.value,
      c.in_ok-push_inputs.ensures.ok,
      c.input_slice.ensures.value,
      c.in_ok-push-3.ensures.items,
      c.outputs.ensures.value,
      c.in_ok-push-2.ensures.items,
      c.inputs.ensures.value,
      c.in_ok-push.ensures.items,
      c.hold.ensures.value,
      c.in_ok-put64.ensures.ok,
      c.base.ensures.value,
      c.in_ok-put16.ensures.ok,
      c.in_ok-put32.ensures.ok,
      c.rate-rate.ensures.value,
      c.new-body.ensures.items,
    )
    (device_joined (setup_with c.setup.inside.device c.setup.inside.rows c.setup.inside.grain)
    c.setup.invariant.count
    ∙ ap (λ (s : SetupParts). device.text (s.device, s.rows)) c.setup.view_is)

pub returns-clause-said : goal.returns-clause-said
returns-clause-said c =
    let is : IsSetup c.args.setup.now = subst IsSetup c.setup.view_is c.setup.invariant in
    let ssrcs = rw c.output_slice.ensures.value at c.in_ok-push_targets.ensures.ssrcs in
    device_record c.args.setup.now is c.requires
    (subst (λ (s : SetupParts). AllByRecursion IsSsrc s.device.outputs) c.setup.view_is ssrcs)
