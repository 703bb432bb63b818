use Rattle.std.proofs.Common.{◌≡◌, ◌∙◌, ℕ, List, [], ◌∷◌, ◌++◌, sym, ap, subst}
use Rattle.std.specs.Prelude.{Result}
use Rattle.session_laws.specs.Facts.Gathering.{GatherClosed}
use Rattle.book_words.specs.declared.history.ClaimItem.{ClaimItem}
use Rattle.book_words.specs.History.{claim_item}
use Rattle.packet_worker.specs.declared.gathered.Gathered.{Gathered}
use Rattle.input_cells.specs.declared.looking.StillOpen.{StillOpen}
use Rattle.packet_worker.specs.Gathering.{EndsClosed}
use Rattle.packet_worker.specs.Jobs.{IsAllMade}
use Rattle.packet_worker.proofs.tests.gather_one.Goals as goal

pub returns-in_ok-item-in-Ok-clause-made : goal.returns-in_ok-item-in-Ok-clause-made
returns-in_ok-item-in-Ok-clause-made c items due =
    let x = c.gather_closed.follows.lender-at-none in
    let table = c.args.table.now in
    let inputs = c.args.inputs.now in
    let claim = c.args.claim.now in
    let got = c.in-Ok.gathered in
    let made = c.jobs_go_on.ensures.closed table inputs claim got c.args.worker.now x items due
    (subst
    (λ (r : Result Gathered StillOpen). EndsClosed table inputs claim r c.args.worker.now x)
    c.in-Ok.is c.gather_closed.follows.holds-at-none) in
    subst (λ (item : ClaimItem). IsAllMade GatherClosed x (items ++ item ∷ []))
    (sym (c.in_ok-item-in-Ok.ensures
    ∙ ap (λ (k : ℕ). claim_item k got.found.now got.packet.now) c.k.ensures)) made
