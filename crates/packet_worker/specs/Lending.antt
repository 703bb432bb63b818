-- What a worker is left with once the packet that it lent is given back. (This project's own.)
use Rattle.std.specs.Prelude.{List, Result, ⊤}
use Rattle.std.specs.Borrow.{follows_so, MutBor, Fml}
use mathlib.Core.Option.{none}
use Rattle.claim_word.specs.declared.worker.Claim.{Claim}
use Rattle.claim_word.specs.Faces.{TableFace}
use Rattle.input_cells.specs.Faces.{InputFace}
use Rattle.packet_worker.specs.contracts.worker.Worker.{the_row}
use Rattle.packet_worker.specs.declared.gathered.Gathered.{Gathered}
use Rattle.input_cells.specs.declared.looking.StillOpen.{StillOpen}
use Rattle.packet_worker.specs.Faces.{WorkerFace}
use Rattle.packet_worker.specs.Gathering.{EndsClosed, EndsFree}

-- what it is once what was gathered in closed form is given back
abbrev pub LendsClosed : MutBor WorkerFace → TableFace → List InputFace → Claim
    → Result Gathered StillOpen → Fml
LendsClosed w table inputs c result =
    follows_so the_row the_row w.ghost_name none (λ _ _. ⊤)
    (λ x. EndsClosed table inputs c result w.now x)

-- what it is once what was gathered in free form is given back
abbrev pub LendsFree : MutBor WorkerFace → TableFace → List InputFace → Claim → Gathered → Fml
LendsFree w table inputs c g =
    follows_so the_row the_row w.ghost_name none (λ _ _. ⊤)
    (λ x. EndsFree table inputs c g w.now x)
