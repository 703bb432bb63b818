use Rattle.channel_json.proofs.DeviceLemmas.{built_reads}
use Rattle.channel_json.proofs.devices.device_of.Goals as goal

pub returns-in-Ok-setup_parts : goal.returns-in-Ok-setup_parts
returns-in-Ok-setup_parts c =
    built_reads c.args.text.now _ c.build.result
    (rw c.in-Ok.ensures c.in-Ok-setup_parts.ensures) c.build.ensures
