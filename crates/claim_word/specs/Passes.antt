-- What is given with a new pass, and what publishers and clients keep. (This project's own.)
use Rattle.std.specs.Prelude.{◌≡◌, ℕ, ◌+◌, ◌*◌, ◌<◌, ◌≤◌, true, false, List, [], length}
use Rattle.std.specs.List.{All, AllZip}
use Rattle.io_caps.specs.declared.seat.NoSeat.{NoSeat}
use Rattle.io_caps.specs.declared.memory.Or.{Or}
use Rattle.io_caps.specs.declared.memory.Or.TheVariants.{Fault, NoMemory}
use Rattle.io_caps.specs.declared.limits.TheConstants.{CLIENTS, MOST_WORKERS}
use Rattle.map_entry.specs.declared.cell.Cell.{Cell}
use Rattle.map_entry.specs.declared.entry.Entry.{Entry}
use Rattle.map_entry.specs.Setup.{HasCells}
use Rattle.claim_rule.specs.declared.view.View.{View}
use Rattle.claim_rule.specs.Claims.{IsSound, IsFit}
use Rattle.claim_rule.specs.Words.{places, stride, Spells}
use Rattle.claim_rule.specs.Views.{without_part, worker, note}
use Rattle.claim_word.specs.declared.span.Span.{Span}
use Rattle.claim_word.specs.Faces.{TableFace, PassFace, ClientFace, PublisherFace, IsSpan}
use Rattle.claim_word.specs.Faces.{IsPassOf}
use Rattle.claim_word.specs.Faces.{IsClientOf}

-- a worker's pass is made: a new one, of the table, where as many are not made as there may be
pub record IsWorkerMade (t : TableFace) (p q : PublisherFace) (w : PassFace) : Type 0 where
  pub room : p.made < p.view.plan.workers
  pub of : IsPassOf t w
  pub pass : w.view ≡ worker p.view
  pub begins : w.ended ≡ false
  pub publisher : q ≡ record p { view = without_part p.view; made = p.made + 1 }

-- the error is NoSeat just where this holds
abbrev pub IsNoSeatIf : Or NoSeat → Type 0 → Type 0
IsNoSeatIf (Fault fault) Full = Full
IsNoSeatIf NoMemory Full = Full → ⊥

-- a client's pass is made, which was told of all that the publisher has seen
pub record IsClientMade (t : TableFace) (p q : PublisherFace) (c : ClientFace) : Type 0 where
  pub room : p.clients < CLIENTS
  pub of : IsClientOf t c
  pub pass : c.view ≡ note p.view
  pub publisher : q ≡ record p { clients = p.clients + 1 }

-- what a client's pass keeps
pub record IsClient (v : View) (span : Span) : Type 0 where
  pub sound : IsSound v.plan
  pub span_is : IsSpan v.plan span
  pub live : v.live ≡ true
  pub part : v.parts ≡ 0

-- What a publisher keeps: the entries published and the words that spell them, a base row for each
-- output, and how many passes it made.
pub record IsPublisher (v : View) (span : Span) (made clients : ℕ) (entries : List Entry)
    (rows : List (List Cell)) : Type 0 where
  pub sound : IsSound v.plan
  pub span_is : IsSpan v.plan span
  pub live : v.live ≡ true
  pub loud : v.publishes ≡ true
  pub parts : v.parts + made ≡ v.plan.workers
  pub workers : v.plan.workers ≤ MOST_WORKERS
  pub clients_few : clients ≤ CLIENTS
  pub none_drawn : v.draws ≡ []
  pub long : length v.cells ≡ places * stride
  pub spelt : Spells v.cells v.entries
  pub fits : All (IsFit v.plan) v.entries
  pub few : length v.entries ≤ places
  pub entries_are : v.entries ≡ entries
  pub rows_are : AllZip HasCells v.plan.setup.device.outputs rows
