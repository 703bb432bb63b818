use Rattle.std.proofs.Common.{◌≡◌, ◌++◌, take, drop}
use Rattle.http_wire.specs.Request.{path_in}
use Rattle.http_wire.proofs.request.path_len.Given as goal

abbrev pub invariant-loop-len : goal.invariant-loop-len
invariant-loop-len l = path_in l.target ≡ take l.len l.target ++ path_in (drop l.len l.target)
