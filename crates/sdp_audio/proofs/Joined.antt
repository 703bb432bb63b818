-- Texts one after the other.
use Rattle.std.proofs.Common.{append_assoc}

-- what functions need that append several texts
pub ruleset joined = (append_assoc)
