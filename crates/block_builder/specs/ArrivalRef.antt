-- What an `ArrivalRef` makes of the arrivals so far. (This project's own.)
use Rattle.std.specs.Prelude.{List, [], ◌∷◌, ◌++◌}
use Rattle.block_builder.specs.declared.arrival.Arrival.{Arrival}
use Rattle.block_builder.specs.declared.arrival.Arrival.TheVariants.{Packet, Mark, End}
use Rattle.block_builder.specs.declared.past.ArrivalRef.{ArrivalRef}
use Rattle.block_builder.specs.declared.past.ArrivalRef.TheVariants as came

-- what came, as an arrival
abbrev pub arrival_of : ArrivalRef → Arrival
arrival_of (came.Packet bytes) = Packet bytes.now
arrival_of (came.Mark tick) = Mark tick
arrival_of came.End = End

-- what came so far, with one arrival more
abbrev pub noted : List Arrival → ArrivalRef → List Arrival
noted arrivals came = arrivals ++ arrival_of came ∷ []
