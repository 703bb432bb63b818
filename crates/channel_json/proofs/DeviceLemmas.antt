-- What is built of what a text says is what the text is read as.
use Rattle.std.proofs.Common.{List, ℕ, Result, Ok, Err, subst}
use Rattle.io_caps.specs.declared.memory.Or.{Or}
use Rattle.io_caps.specs.declared.memory.Or.TheVariants.{Fault, NoMemory}
use Rattle.map_entry.specs.Setup.{SetupParts, IsSetup}
use Rattle.channel_json.specs.declared.faults.DeviceJsonFault.{DeviceJsonFault}
use Rattle.channel_json.specs.declared.faults.DeviceJsonFault.TheVariants.{NotJson, Shape, Device}
use Rattle.channel_json.specs.declared.faults.DeviceJsonFault.TheVariants.{Rows}
use Rattle.channel_json.specs.Devices.{BuildsSetup, ReadsDevice, Says}

pub built_reads : (text : List ℕ) (said : SetupParts)
    (result : Result SetupParts (Or DeviceJsonFault)) → Says text said
    → BuildsSetup said result → ReadsDevice text result
built_reads text said (Ok setup) says built =
    (subst (Says text) built.0 says, subst IsSetup built.0 built.1)
built_reads text said (Err NoMemory) says built = tt
built_reads text said (Err (Fault NotJson)) says built = absurd built
built_reads text said (Err (Fault Shape)) says built = absurd built
built_reads text said (Err (Fault (Device fault))) says built = (said, says, built)
built_reads text said (Err (Fault (Rows fault))) says built = (said, says, built.0, built.1)
