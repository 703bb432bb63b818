-- How a lap is made: what stays of a publisher while it makes passes, and the tables with their
-- passes. (This project's own.)
use Rattle.std.specs.Prelude.{◌≡◌, ℕ, ◌*◌, ◌+◌, ◌≤◌, length, map}
use Rattle.std.specs.List.{All}
use Rattle.io_caps.specs.declared.limits.TheConstants.{CLIENTS}
use Rattle.map_entry.specs.Setup.{SetupParts}
use Rattle.claim_word.specs.Faces.{IsClientOf, IsPassOf, IsPublisherOf, PublisherFace}
use Rattle.claim_word.specs.Starts.{planned}
use Rattle.input_cells.specs.Faces.{unfed}
use Rattle.input_cells.specs.Shapes.{IsTableOf}
use Rattle.plain_book.specs.Carry.{carried}
use Rattle.live_book.specs.Books.{RestFace, goes_over}
use Rattle.session_laps.specs.declared.lap.Lap.{Lap}
use Rattle.session_laps.specs.declared.make.Tables.{Tables}
use Rattle.session_laps.specs.Fresh.{IsFresh}

-- The publisher is the same, of the same table, with the same entries; it has made given numbers of
-- workers' and of clients' passes.
pub record KeepsPublisher (p q : PublisherFace) (made clients : ℕ) : Type 0 where
  pub id : q.id ≡ p.id
  pub plan : q.view.plan ≡ p.view.plan
  pub entries : q.view.entries ≡ p.view.entries
  pub made_is : q.made ≡ made
  pub clients_is : q.clients ≡ clients

-- tables of a number of ticks that go on from a book between two tables, with all their passes
pub record AreMade (r : RestFace) (before ticks workers : ℕ) (t : Tables) : Type 0 where
  pub plan : t.table.plan
      ≡ planned r.setup r.claims ticks workers (carried r.setup r.journal r.claims)
  pub of_publisher : IsPublisherOf t.table t.publisher
  pub entries : t.publisher.view.entries ≡ carried r.setup r.journal r.claims
  pub made : t.publisher.made ≡ workers
  pub inputs : IsTableOf r.setup.device (r.setup.device.base + before) ticks t.inputs
  pub fresh : All (IsFresh r.setup t.inputs) t.workers
  pub of_workers : All (λ w. IsPassOf t.table w.pass) t.workers
  pub many : length t.workers ≡ workers
  pub clients : All (IsClientOf t.table) t.clients
  pub all_clients : length t.clients ≡ CLIENTS
  pub made_clients : t.publisher.clients ≡ CLIENTS
  pub feeds : t.feeds ≡ map unfed t.inputs
  pub room : t.room ≡ workers

-- the lap of these tables, over which the book goes on
pub record IsLapOf (t : Tables) (r : RestFace) (ticks : ℕ) (lap : Lap) : Type 0 where
  pub table_is : lap.table ≡ t.table
  pub inputs_is : lap.inputs ≡ t.inputs
  pub workers_is : lap.workers ≡ t.workers
  pub feeds_is : lap.feeds ≡ t.feeds
  pub clients_is : lap.clients ≡ t.clients
  pub book_is : lap.book ≡ goes_over r t.publisher
  pub room_first : lap.book.places.used ≤ 3 * length r.setup.device.outputs
  pub room_is : lap.room ≡ t.room
  pub from_is : lap.from ≡ r.claims
  pub ticks_is : lap.ticks ≡ ticks
