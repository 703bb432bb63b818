use Rattle.std.proofs.Common.{◌≡◌, length, take}
use Rattle.io_caps.specs.declared.limits.TheConstants.{CLIENTS}
use Rattle.serial_player.specs.Resolved.{IsResolved}
use Rattle.serial_player.proofs.resolving.resolve.Given as goal

abbrev pub invariant-loop-item : goal.invariant-loop-item
invariant-loop-item l = record {
  all : length l.streams.items ≡ CLIENTS;
  resolved : IsResolved (take l.item-index l.items) l.streams.items l.steps;
}
