-- Which tables a lap has, that all passes are back, and what is known at its end. (This project's
-- own.)
use Rattle.std.specs.Prelude.{◌≡◌, ℕ, ◌+◌, ◌*◌, ◌≤◌, Bool, true, false, List, [], length, map}
use Rattle.std.specs.List.{All, list_any}
use Rattle.io_caps.specs.declared.limits.TheConstants.{CLIENTS}
use Rattle.map_entry.specs.Setup.{SetupParts}
use Rattle.claim_rule.specs.declared.plan.Plan.{Plan}
use Rattle.claim_rule.specs.Ends.{Ends}
use Rattle.claim_word.specs.Endings.{all_seen, draws_in}
use Rattle.claim_word.specs.Faces.{ClientFace, IsClientOf, IsPublisherOf, PassFace, PublisherFace}
use Rattle.claim_word.specs.Faces.{TableFace}
use Rattle.input_cells.specs.Agreement.{Agrees, AreTrueOf, blocks_set}
use Rattle.input_cells.specs.Faces.{InputFace, SeatFace, face_of, heard_of, looks_of, unfed, unread}
use Rattle.input_cells.specs.Shapes.{IsTableOf}
use Rattle.live_book.specs.Books.{Agrees as AgreesBook, BookFace}
use Rattle.packet_worker.specs.Faces.{IsWorkerOf, WorkerFace}
use Rattle.session_laps.specs.declared.lap.Lap.{Lap}

-- the passes of workers at the claim table
abbrev pub passes_in : List WorkerFace → List PassFace
passes_in workers = map (λ w. w.pass) workers

-- their passes at the input table
abbrev pub reads_in : List WorkerFace → List (List SeatFace)
reads_in workers = map (λ w. w.reads) workers

-- one of the workers has found that all packets were claimed
abbrev pub is_over : List WorkerFace → Bool
is_over workers = list_any (λ w. w.ended) (passes_in workers)

-- ---- the passes of two tables

-- All passes of both tables are there: those of workers and clients, as many as the publisher made,
-- and those of all feeders; and there is room for the workers' passes.
pub record AreBack (table : TableFace) (inputs : List InputFace) (publisher : PublisherFace)
    (workers : List WorkerFace) (feeds : List SeatFace) (clients : List ClientFace) (room : ℕ)
    : Type 0 where
  pub of_publisher : IsPublisherOf table publisher
  pub of_workers : All (IsWorkerOf table inputs) workers
  pub all_workers : length workers ≡ publisher.made
  pub of_clients : All (IsClientOf table) clients
  pub all_clients : length clients ≡ publisher.clients
  pub feeds_are : map face_of feeds ≡ inputs
  pub room_is : length workers ≤ room

-- What the ends of both tables tell: all draws of the claim table; that all of its packets were
-- drawn, if one worker has found so; and that what each worker saw agrees with the blocks that were
-- set.
pub record AreEnded (plan : Plan) (inputs : List InputFace) (publisher : PublisherFace)
    (workers : List WorkerFace) (feeds : List SeatFace) (clients : List ClientFace)
    : Type 0 where
  pub ends : Ends plan publisher.view.entries (draws_in (passes_in workers))
      (all_seen publisher clients)
  pub full : list_any (λ w. w.ended) (passes_in workers) ≡ true
      → plan.packets ≤ length (draws_in (passes_in workers))
  pub agree : (s : SetupParts) (from ticks : ℕ) → IsTableOf s.device from ticks inputs
      → All (λ w. Agrees s.device (looks_of w.reads) (heard_of w.reads) (blocks_set feeds)) workers
  pub words : All (λ w. AreTrueOf feeds w.reads) workers

-- ---- laps

-- the lap's tables are of a setup, and its ticks come after a given number of ticks
pub record IsAt (s : SetupParts) (before : ℕ) (lap : Lap) : Type 0 where
  pub setup : lap.table.plan.setup ≡ s
  pub first : lap.table.plan.from ≡ before * length s.device.outputs
  pub packets : lap.table.plan.packets ≡ lap.ticks * length s.device.outputs
  pub from : lap.from ≡ before * length s.device.outputs
  pub inputs : IsTableOf s.device (s.device.base + before) lap.ticks lap.inputs

-- all passes of the lap are back
abbrev pub IsBack : Lap → Type 0
IsBack lap =
    AreBack lap.table lap.inputs lap.book.publisher lap.workers lap.feeds lap.clients lap.room

-- what is known of a lap that has ended: what both ends tell, and what its book holds
pub record IsEndedLap (lap : Lap) : Type 0 where
  pub tables : AreEnded lap.table.plan lap.inputs lap.book.publisher lap.workers lap.feeds
      lap.clients
  pub book : AgreesBook lap.book
