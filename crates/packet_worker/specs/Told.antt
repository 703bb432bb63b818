-- What a worker's passes tell, as what its job leaves. (This project's own.)
use Rattle.std.specs.Prelude.{◌≡◌, List}
use Rattle.claim_rule.specs.declared.view.Draw.{Draw}
use Rattle.claim_rule.specs.declared.view.View.{View}
use Rattle.claim_rule.specs.Views.{draw}
use Rattle.claim_word.specs.declared.worker.Claim.{Claim}
use Rattle.claim_word.specs.Claims.{number_of}
use Rattle.input_cells.specs.Faces.{SeatFace, heard_of, looks_of}
use Rattle.session_laws.specs.Facts.{Made}
use Rattle.book_words.specs.declared.history.ClaimItem.{ClaimItem}
use Rattle.packet_worker.specs.Faces.{WorkerFace}

-- the draw of a claim, over the entries that a view knows
abbrev pub draw_of_claim : View → Claim → Draw
draw_of_claim v c = draw (number_of v.plan c) v.entries

-- what a worker made: all that its passes tell, and these claims
abbrev pub made_by : WorkerFace → List ClaimItem → Made
made_by w items =
    record {
      draws = w.pass.view.draws;
      looks = looks_of w.reads;
      heard = heard_of w.reads;
      items = items;
    }

-- what a worker's job leaves has the looks and samples of its pass
abbrev pub Tells : List SeatFace → Made → Type 0
Tells reads m = (m.looks ≡ looks_of reads) × (m.heard ≡ heard_of reads)
