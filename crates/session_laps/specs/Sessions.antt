-- A session of a number of ticks in laps, what a lap is at first, and its turn. (This project's own.)
use Rattle.std.specs.Prelude.{◌≡◌, ℕ, ◌+◌, ◌-◌, ◌*◌, ◌≤◌, ◌<◌, min, drop, List, [], length, map, Option}
use Rattle.std.specs.Prelude.{Some, None, IfSome}
use Rattle.std.specs.List.{All}
use Rattle.io_caps.specs.declared.limits.TheConstants.{CLIENTS, LAP_TICKS, MOST_WORKERS}
use Rattle.io_caps.specs.declared.limits.TheConstants.{SESSION_TICKS}
use Rattle.map_entry.specs.Setup.{SetupParts}
use Rattle.input_cells.specs.Faces.{unfed}
use Rattle.plain_book.specs.Carry.{carried}
use Rattle.live_book.specs.Books.{RestFace, goes_over, rest_of}
use Rattle.session_laps.specs.declared.lap.Lap.{Lap}
use Rattle.session_laps.specs.declared.lap.Part.{Part}
use Rattle.session_laps.specs.Fresh.{IsFresh}
use Rattle.session_laps.specs.Laps.{IsAt, IsBack, IsEndedLap}

-- what contracts see of a session: its setup, ticks and workers; how many ticks lie in the laps that
-- have ended; and the book between two laps, where none is out
pub record SessionFace : Type 0 where
  pub setup : SetupParts
  pub ticks : ℕ
  pub workers : ℕ
  pub before : ℕ
  pub rest : Option RestFace

-- a session that has had no lap
abbrev pub new_session : SetupParts → ℕ → ℕ → SessionFace
new_session setup ticks workers =
    record {
      setup = setup;
      ticks = ticks;
      workers = workers;
      before = 0;
      rest = Some (rest_of setup 0 []);
    }

-- what a session keeps: its limits, and that the book between two laps is of its setup and stands at
-- the first claim of a tick
pub record IsSession (s : SessionFace) : Type 0 where
  pub ticks : s.ticks ≤ SESSION_TICKS
  pub workers : s.workers ≤ MOST_WORKERS
  pub before : s.before ≤ s.ticks
  pub rest : IfSome s.rest
      (λ r. (r.setup ≡ s.setup) × (r.claims ≡ s.before * length s.setup.device.outputs))

-- how many ticks the next lap has: as many as a table serves, or what is left
abbrev pub lap_ticks : SessionFace → ℕ
lap_ticks s = min LAP_TICKS (s.ticks - s.before)

-- A lap at first: of the session's next ticks, with all passes; nothing was drawn, seen, fed or
-- answered; and the book goes on from the one between the laps, over what that carries, with at most
-- three places used for each output.
pub record IsNewLap (s : SessionFace) (lap : Lap) : Type 0 where
  pub at : IsAt s.setup s.before lap
  pub ticks : lap.ticks ≡ lap_ticks s
  pub within : s.before + lap.ticks ≤ s.ticks
  pub back : IsBack lap
  pub many : length lap.workers ≡ s.workers
  pub fresh : All (IsFresh s.setup lap.inputs) lap.workers
  pub clients : length lap.clients ≡ CLIENTS
  pub unfed : lap.feeds ≡ map unfed lap.inputs
  pub setup : lap.book.setup ≡ s.setup
  pub book : IfSome s.rest (λ r. lap.book ≡ goes_over r lap.book.publisher)
  pub base : IfSome s.rest
      (λ r. lap.book.publisher.view.entries ≡ carried r.setup r.journal r.claims)
  pub room : lap.book.places.used ≤ 3 * length s.setup.device.outputs

-- A lap has ended: what is known of it; its calls are those after the ones before it, and the
-- answers are its own; and the session goes on with all calls so far.
pub record IsTurned (s t : SessionFace) (lap : Lap) (part : Part) : Type 0 where
  pub ended : IsEndedLap lap
  pub calls : part.calls ≡ drop lap.book.begun lap.book.journal
  pub given : part.given ≡ lap.book.given
  pub session : t
      ≡ record s {
        before = s.before + lap.ticks;
        rest =
            Some (rest_of s.setup ((s.before + lap.ticks) * length s.setup.device.outputs)
            lap.book.journal);
      }
