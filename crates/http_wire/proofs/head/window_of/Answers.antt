use Rattle.std.proofs.Common.{sym}
use Rattle.http_wire.proofs.HeadLemmas.{window_short}
use Rattle.http_wire.proofs.head.window_of.Goals as goal

pub returns-then-bytes-lt-MOST_HEAD : goal.returns-then-bytes-lt-MOST_HEAD
returns-then-bytes-lt-MOST_HEAD c = sym (window_short c.args.bytes.now c.if-bytes-lt-MOST_HEAD.true)
