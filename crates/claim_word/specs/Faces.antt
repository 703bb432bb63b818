-- What contracts see of a table and of those who step on it. (This project's own.)
use Rattle.std.specs.Prelude.{◌≡◌, ℕ, Bool}
use Rattle.atomic_table.specs.Seated.{TableId}
use Rattle.claim_rule.specs.declared.plan.Plan.{Plan}
use Rattle.claim_rule.specs.declared.view.View.{View}
use Rattle.claim_rule.specs.Claims.{outputs_of}
use Rattle.claim_word.specs.declared.span.Span.{Span}

-- which table it is, and what for
pub record TableFace : Type 0 where
  pub id : TableId
  pub plan : Plan

-- a worker's pass: of which table, what it knows, and whether it has found that all packets were
-- claimed
pub record PassFace : Type 0 where
  pub id : TableId
  pub view : View
  pub ended : Bool

-- a client's pass
pub record ClientFace : Type 0 where
  pub id : TableId
  pub view : View

-- a publisher, and how many passes it has made for workers and for clients
pub record PublisherFace : Type 0 where
  pub id : TableId
  pub view : View
  pub made : ℕ
  pub clients : ℕ

-- what knows this is of the table
pub record IsOf (t : TableFace) (id : TableId) (v : View) : Type 0 where
  pub id_is : id ≡ t.id
  pub plan_is : v.plan ≡ t.plan

-- a worker's pass is of this table
abbrev pub IsPassOf : TableFace → PassFace → Type 0
IsPassOf t p = IsOf t p.id p.view

-- a client's pass is of this table
abbrev pub IsClientOf : TableFace → ClientFace → Type 0
IsClientOf t p = IsOf t p.id p.view

-- a publisher is that of this table
abbrev pub IsPublisherOf : TableFace → PublisherFace → Type 0
IsPublisherOf t p = IsOf t p.id p.view

-- the numbers of a plan
pub record IsSpan (plan : Plan) (span : Span) : Type 0 where
  pub base_is : span.base ≡ plan.setup.device.base
  pub outputs_is : span.outputs ≡ outputs_of plan
  pub from_is : span.from ≡ plan.from
  pub packets_is : span.packets ≡ plan.packets
  pub frames_is : span.frames ≡ plan.setup.device.rate.frames
