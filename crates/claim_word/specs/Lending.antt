-- What a pass is left with once the row that it lent is given back. (This project's own.)
use Rattle.std.specs.Prelude.{◌≡◌, ℕ, ◌≤◌, ⊤}
use Rattle.std.specs.Borrow.{follows_so, MutBor, Fml}
use mathlib.Core.Option.{none}
use Rattle.claim_word.specs.contracts.worker.WorkerPass.{the_row}
use Rattle.claim_word.specs.declared.worker.Claim.{Claim}
use Rattle.claim_word.specs.Faces.{PassFace}
use Rattle.claim_word.specs.Claims.{pieced_on, read_on, IsFrugal}
use Rattle.map_entry.specs.Row.{channels_of_output}

-- the pass is as before, of the same table and plan, but for loads, which are still few
pub record IsRead (p q : PassFace) : Type 0 where
  pub n : ℕ
  pub id : q.id ≡ p.id
  pub plan : q.view.plan ≡ p.view.plan
  pub pass : q ≡ record p { view = read_on p.view n }
  pub frugal : IsFrugal q.view

-- the same, but for the loads of a row for a part of a packet too: at most one for each channel of
-- the output
pub record IsPieced (p q : PassFace) (output : ℕ) : Type 0 where
  pub n : ℕ
  pub words : ℕ
  pub few : words ≤ channels_of_output p.view.plan.setup.device output
  pub id : q.id ≡ p.id
  pub plan : q.view.plan ≡ p.view.plan
  pub pass : q ≡ record p { view = pieced_on (read_on p.view n) words }
  pub frugal : IsFrugal q.view

-- once the row of a part is given back
abbrev pub EndsPieced : MutBor PassFace → Claim → Fml
EndsPieced s c =
    follows_so the_row the_row s.ghost_name none (λ _ _. ⊤) (λ q. IsPieced s.now q c.output)

-- once a row that was lent is given back, the pass has read for the claim, and nothing else
-- changed
abbrev pub EndsRead : MutBor PassFace → Claim → Fml
EndsRead s c = follows_so the_row the_row s.ghost_name none (λ _ _. ⊤) (λ q. IsRead s.now q)
