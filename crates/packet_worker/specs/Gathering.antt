-- What a call tells that gathers the packet of a worker's last claim. (This project's own.)
use Rattle.std.specs.Prelude.{◌≡◌, ℕ, ◌*◌, ◌≤◌, Bool, List, length, Result, MatchResult}
use Rattle.std.specs.List.{All}
use Rattle.claim_rule.specs.declared.view.View.{View}
use Rattle.claim_word.specs.declared.worker.Claim.{Claim}
use Rattle.claim_word.specs.Claims.{IsFrugal, IsLast, pieced_on, read_on}
use Rattle.claim_word.specs.Faces.{PassFace, TableFace}
use Rattle.input_cells.specs.declared.looking.StillOpen.{StillOpen}
use Rattle.input_cells.specs.Faces.{Grows, InputFace, looks_of}
use Rattle.input_cells.specs.Looking.{IsLate, IsOpenAt, SeesClosed, SeesFree}
use Rattle.session_laws.specs.Steps.{GathersClosed, GathersFree, KnowsMore}
use Rattle.map_entry.specs.Row.{channels_of_output}
use Rattle.packet_writer.specs.Flags.{names_by}
use Rattle.book_words.specs.declared.history.ClaimItem.{ClaimItem}
use Rattle.book_words.specs.History.{claim_item}
use Rattle.packet_worker.specs.declared.gathered.Gathered.{Gathered}
use Rattle.packet_worker.specs.Faces.{IsWorkerOf, WorkerFace}
use Rattle.packet_worker.specs.Rows.{pieces_in}
use Rattle.packet_worker.specs.Told.{draw_of_claim}
use Rattle.input_cells.specs.Faces.{heard_of}

-- ---- what stays of a worker, whatever the answer

-- the words of the rows of a claim's packet, by the entries that a view knows: one for each channel
-- of each piece
abbrev pub row_words : View → Claim → ℕ
row_words v c =
    pieces_in v.entries c.output c.tick v.plan.setup.device.rate.frames
    * channels_of_output v.plan.setup.device c.output

-- The pass is as before, of the same table and plan, but for loads: of the heads that are new,
-- which are still few, and of at most the words of the rows of the claim's packet.
pub record IsReadFor (p q : PassFace) (c : Claim) : Type 0 where
  pub heads : ℕ
  pub words : ℕ
  pub few : words ≤ row_words p.view c
  pub id : q.id ≡ p.id
  pub plan : q.view.plan ≡ p.view.plan
  pub pass : q ≡ record p { view = pieced_on (read_on p.view heads) words }
  pub frugal : IsFrugal q.view

-- what is seen by a worker later leaves fewer blocks that agree
abbrev pub KnowsOn : WorkerFace → WorkerFace → Type 0
KnowsOn w x =
    KnowsMore w.setup.device (looks_of w.reads) (heard_of w.reads) (looks_of x.reads)
    (heard_of x.reads)

-- The worker is one of the same tables, and the claim is still its last: it drew nothing and found
-- no more entries, and its looks and samples only grew.
pub record KeepsClaim (table : TableFace) (inputs : List InputFace) (c : Claim) (w x : WorkerFace)
    : Type 0 where
  pub of : IsWorkerOf table inputs x
  pub last : IsLast x.pass.view c
  pub setup : x.setup ≡ w.setup
  pub pass : IsReadFor w.pass x.pass c
  pub reads : Grows w.reads x.reads
  pub knows : KnowsOn w x

-- ---- what was gathered

-- how many inputs the worker's device has
abbrev pub inputs_of : WorkerFace → ℕ
inputs_of w = length w.setup.device.inputs

-- whether the claim's packet names an input, by the entries that the claim's draw found
abbrev pub named_in : WorkerFace → Claim → ℕ → Bool
named_in w c input = names_by w.setup w.pass.view.entries c.k input

-- the claim with what was gathered
abbrev pub item_of : Claim → Gathered → ClaimItem
item_of c g = claim_item c.k g.found.now g.packet.now

-- the packet with flags in closed form: all in the words for sessions, and by looks of this call
pub record GivesClosed (c : Claim) (w x : WorkerFace) (g : Gathered) : Type 0 where
  pub gathers : GathersClosed x.setup x.pass.view.plan.from (draw_of_claim x.pass.view c)
      (looks_of x.reads) (heard_of x.reads) (item_of c g)
  pub sees : SeesClosed (inputs_of w) c.tick (named_in w c) w.reads x.reads g.found.now

-- the first closing number that is not above the claim's tick, by loads of this call
abbrev pub IsStillOpen : Claim → WorkerFace → WorkerFace → StillOpen → Type 0
IsStillOpen c w x e = IsOpenAt (inputs_of w) c.tick (named_in w c) w.reads x.reads e

-- What a call that gathers in closed form leaves and answers. Where each look came after a closing
-- number above its tick, so it does still.
pub record EndsClosed (table : TableFace) (inputs : List InputFace) (c : Claim)
    (result : Result Gathered StillOpen) (w x : WorkerFace) : Type 0 where
  pub on : KeepsClaim table inputs c w x
  pub late : All IsLate (looks_of w.reads) → All IsLate (looks_of x.reads)
  pub gives : MatchResult result (GivesClosed c w x) (IsStillOpen c w x)

-- the packet with flags in free form: all in the words for sessions, and by looks of this call
pub record GivesFree (c : Claim) (w x : WorkerFace) (g : Gathered) : Type 0 where
  pub gathers : GathersFree x.setup x.pass.view.plan.from (draw_of_claim x.pass.view c)
      (looks_of w.reads) (looks_of x.reads) (heard_of x.reads) (item_of c g)
  pub sees : SeesFree (inputs_of w) c.tick (named_in w c) w.reads x.reads g.found.now

-- what a call that gathers in free form leaves and answers
pub record EndsFree (table : TableFace) (inputs : List InputFace) (c : Claim)
    (g : Gathered) (w x : WorkerFace) : Type 0 where
  pub on : KeepsClaim table inputs c w x
  pub gives : GivesFree c w x g
