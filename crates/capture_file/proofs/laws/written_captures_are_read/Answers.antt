use Rattle.capture_file.proofs.Written.{written}
use Rattle.capture_file.proofs.laws.written_captures_are_read.Goals as goal

pub returns : goal.returns
returns c = λ o device grain items ticks is said place good work.
    written o device grain items ticks is said place good work
