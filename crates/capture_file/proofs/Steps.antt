-- What functions need that put one field after the other.
use Rattle.std.proofs.Common.{append_assoc}
use Rattle.exact_text.proofs.Growth.{grows_same, grows_by, grows_then}

pub ruleset put = (grows_same, grows_by, grows_then, append_assoc)
