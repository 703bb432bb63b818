-- How a worker's job goes on from call to call. (This project's own.)
use Rattle.std.specs.Prelude.{◌≡◌, ℕ, ◌<◌, false, List, ◌∷◌, [], ◌++◌, length, replicate, None}
use Rattle.claim_word.specs.declared.worker.Claim.{Claim}
use Rattle.session_laws.specs.Facts.{Gathering, IsWorked}
use Rattle.packet_writer.specs.Flags.{Sights}
use Rattle.packet_writer.specs.Packet.{packet_by}
use Rattle.book_words.specs.declared.history.ClaimItem.{ClaimItem}
use Rattle.book_words.specs.History.{claim_item}
use Rattle.packet_worker.specs.Faces.{WorkerFace}
use Rattle.packet_worker.specs.Told.{draw_of_claim, made_by}
use Rattle.claim_rule.specs.declared.view.Draw.{Draw}
use Rattle.input_cells.specs.Faces.{looks_of, heard_of}

-- each packet that the worker drew has its claim among these, in the order of the draws
abbrev pub IsAllMade : Gathering → WorkerFace → List ClaimItem → Type 0
IsAllMade g w items =
    IsWorked w.setup g w.pass.view.plan.from w.pass.view.plan.packets (made_by w items)

-- so has each but the last, whose claim this is
pub record IsDue (g : Gathering) (w : WorkerFace) (c : Claim) (items : List ClaimItem) : Type 0
  where
    pub draws : List Draw
    pub drawn : w.pass.view.draws ≡ draws ++ draw_of_claim w.pass.view c ∷ []
    pub worked : IsWorked w.setup g w.pass.view.plan.from w.pass.view.plan.packets
        (record {
          draws = draws;
          looks = looks_of w.reads;
          heard = heard_of w.reads;
          items = items;
        })

-- the claim with no block found: each sample is 0
abbrev pub unsent_item : WorkerFace → Claim → ClaimItem
unsent_item w c =
    claim_item c.k (replicate (length w.setup.device.inputs) false)
    (packet_by w.setup w.pass.view.entries (λ input tick. None)
    (replicate (length w.setup.device.inputs) false) c.k)

-- nothing is to be found for this claim
abbrev pub IsUnseen : Sights → WorkerFace → Claim → Type 0
IsUnseen seen w c =
    (input : ℕ) → input < length w.setup.device.inputs → seen c.k input ≡ false
