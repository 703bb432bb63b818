-- What waits on its way to a sink. (This project's own.)
use Rattle.std.specs.Prelude.{ℕ, List, take}
use Rattle.chan_io.specs.declared.outgoing.Outgoing.{Outgoing}

-- The bytes that wait.
abbrev pub waiting_bytes : Outgoing → List ℕ
waiting_bytes out = take out.waiting out.buffer.items
