-- What contracts see of a worker, and which tables it works at. (This project's own.)
use Rattle.std.specs.Prelude.{◌≡◌, ℕ, List, [], ◌∷◌}
use Rattle.map_entry.specs.Setup.{SetupParts}
use Rattle.claim_word.specs.Faces.{IsPassOf, PassFace, TableFace}
use Rattle.input_cells.specs.Faces.{AreOwnLooks, InputFace, IsReadOf, SeatFace}
use Rattle.input_cells.specs.Shapes.{IsTableOf}

-- a worker: the device with its base rows, its pass of a claim table, and that of an input table
pub record WorkerFace : Type 0 where
  pub setup : SetupParts
  pub pass : PassFace
  pub reads : List SeatFace

-- the worker of these
abbrev pub worker_of : SetupParts → PassFace → List SeatFace → WorkerFace
worker_of setup pass reads = record { setup = setup; pass = pass; reads = reads }

-- the first tick of an input table
abbrev pub first_of : List InputFace → ℕ
first_of [] = 0
first_of (t ∷ ts) = t.shape.from

-- how many ticks an input table has
abbrev pub ticks_of : List InputFace → ℕ
ticks_of [] = 0
ticks_of (t ∷ ts) = t.shape.ticks

-- the input table is one of the worker's device, and the worker's pass is of it, and has looks at
-- each input of that input alone
pub record IsReaderOf (inputs : List InputFace) (w : WorkerFace) : Type 0 where
  pub device : IsTableOf w.setup.device (first_of inputs) (ticks_of inputs) inputs
  pub reads : IsReadOf inputs w.reads
  pub own : AreOwnLooks w.reads

-- both tables are of the worker's setup, and its passes are of them
pub record IsWorkerOf (table : TableFace) (inputs : List InputFace) (w : WorkerFace) : Type 0 where
  pub pass : IsPassOf table w.pass
  pub setup : table.plan.setup ≡ w.setup
  pub reader : IsReaderOf inputs w
