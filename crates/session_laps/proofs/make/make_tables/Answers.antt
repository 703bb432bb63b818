use Rattle.std.proofs.Common.{◌≡◌, ℕ, ◌+◌, ◌*◌, ◌%◌, List, length, sym, ap, ◌∙◌, subst, arith}
use Rattle.std.specs.Prelude.{All, false, replicate}
use Rattle.std.proofs.Math.Nat.{mul-mod_left}
use Rattle.io_caps.specs.declared.device.DeviceParts.{DeviceParts}
use Rattle.map_entry.specs.Setup.{IsSetup, SetupParts}
use Rattle.claim_word.specs.Faces.{TableFace}
use Rattle.input_cells.specs.Faces.{FeedsFace}
use Rattle.input_cells.specs.Shapes.{IsTableOf}
use Rattle.packet_worker.specs.Faces.{WorkerFace}
use Rattle.session_laps.specs.Fresh.{IsFresh}
use Rattle.session_laps.proofs.Making.{claims_within, table_long, ticks_within}
use Rattle.session_laps.proofs.make.make_tables.Goals as goal
use Rattle.session_laps.proofs.make.make_tables.Goals.{After-base, In_ok-inputs}

checked : (c : After-base) → IsSetup c.args.setup.now
checked c = subst IsSetup c.setup.view_is c.setup.invariant

base_is : (c : After-base) → c.base.result ≡ c.args.setup.now.device.base
base_is c = c.base.ensures.value ∙ ap (λ (x : SetupParts). x.device.base) c.setup.view_is

pub overflow_add-first : goal.overflow_add-first
overflow_add-first c =
    let at = (goal.at.overflow_add-first c).After-base in
    let within = ticks_within c.args.setup.now c.args.before c.args.ticks (checked at)
    c.requires.few in
    omega (arith, within, base_is at)

pub start_table-requires-clause-claims : goal.start_table-requires-clause-claims
start_table-requires-clause-claims c =
    let at = (goal.at.start_table-requires-clause-claims c).After-base in
    let within = claims_within c.args.setup.now c.args.before c.args.ticks c.args.rest.now.claims
    (checked at) c.requires.few c.requires.claims in
    let same = ap (λ (x : SetupParts). c.args.ticks * length x.device.outputs) c.requires.setup in
    omega (arith, within, same)

pub start_table-requires-clause-whole : goal.start_table-requires-clause-whole
start_table-requires-clause-whole c =
    ap (λ (x : SetupParts). c.args.rest.now.claims % length x.device.outputs) c.requires.setup
    ∙ ap (λ (n : ℕ). n % length c.args.setup.now.device.outputs) c.requires.claims
    ∙ mul-mod_left c.args.before (length c.args.setup.now.device.outputs)

pub start-requires-clause-end : goal.start-requires-clause-end
start-requires-clause-end c =
    let at = (goal.at.start-requires-clause-end c).After-base in
    let within = ticks_within c.args.setup.now c.args.before c.args.ticks (checked at)
    c.requires.few in
    omega (arith, within, base_is at)

-- the table of inputs
table_is : (c : In_ok-inputs)
    → IsTableOf c.args.setup.now.device (c.args.setup.now.device.base + c.args.before) c.args.ticks
    c.in_ok-inputs.inputs
table_is c =
    subst (λ (n : ℕ). IsTableOf c.args.setup.now.device (n + c.args.before) c.args.ticks
    c.in_ok-inputs.inputs)
    (c.base.ensures.value ∙ ap (λ (x : SetupParts). x.device.base) c.setup.view_is)
    (subst (λ (x : SetupParts). IsTableOf x.device (c.base.result + c.args.before) c.args.ticks
    c.in_ok-inputs.inputs) c.setup.view_is c.in_ok-inputs.ensures.table)

pub make_feeds-requires-clause-none : goal.make_feeds-requires-clause-none
make_feeds-requires-clause-none c =
    let at = (goal.at.make_feeds-requires-clause-none c).In_ok-inputs in
    let long = table_long c.args.setup.now.device
    (c.args.setup.now.device.base + c.args.before) c.args.ticks c.in_ok-inputs.inputs (table_is at) in
    ap (λ (f : FeedsFace). f.given) c.in_ok-passes.ensures.feeds ∙ c.in_ok-inputs.ensures.given
    ∙ ap (λ (x : SetupParts). replicate (length x.device.inputs + 1) false) c.setup.view_is
    ∙ ap (λ (n : ℕ). replicate n false) (sym long)

pub make_feeds-requires-clause-few : goal.make_feeds-requires-clause-few
make_feeds-requires-clause-few c =
    let at = (goal.at.make_feeds-requires-clause-few c).In_ok-inputs in
    let long = table_long c.args.setup.now.device
    (c.args.setup.now.device.base + c.args.before) c.args.ticks c.in_ok-inputs.inputs (table_is at) in
    let few = (subst IsSetup c.setup.view_is c.setup.invariant).device.bounds.few_inputs in
    omega (arith, long, few)

pub returns : goal.returns
returns c =
    let at = (goal.at.returns c).In_ok-inputs in
    let started = c.in_ok-table.ensures in
    let p = c.in_ok-passes.ensures in
    let q = c.in_ok-clients.ensures in
    record {
      plan = started.plan_is;
      of_publisher = q.of;
      entries = q.publisher.entries ∙ p.publisher.entries ∙ started.entries;
      made = q.publisher.made_is ∙ p.publisher.made_is;
      inputs =
          subst (λ (x : SetupParts). IsTableOf x.device (x.device.base + c.args.before) c.args.ticks
          c.in_ok-inputs.inputs) (sym c.requires.setup) (table_is at);
      fresh =
          subst (λ (x : SetupParts). All (IsFresh x c.in_ok-inputs.inputs) c.in_ok-passes.passes)
          (sym c.requires.setup) p.fresh;
      of_workers = p.of_workers;
      many = p.many;
      clients = q.clients;
      all_clients = q.many;
      made_clients = q.publisher.clients_is;
      feeds = c.in_ok-fed.ensures;
      room = c.in_ok-room.ensures;
    }
