use Rattle.std.proofs.Common.{ℕ, ◌≡◌, ◌+◌, ◌/◌, ◌%◌, ◌^◌, ◌<◌, ◌≤◌, Bool, true, false, List, []}
use Rattle.std.proofs.Common.{◌∷◌, ◌++◌, length, ◌∙◌, sym, ap, subst, arith}
use Rattle.std.specs.Prelude.{vec_capacity}
use Rattle.map_entry.specs.declared.entry.Entry.{Entry}
use Rattle.claim_rule.specs.declared.view.View.{View}
use Rattle.claim_rule.specs.Claims.{outputs_of}
use Rattle.claim_rule.specs.Views.{Begins, drew}
use Rattle.claim_rule.proofs.Steps.{draws_keeps}
use Rattle.claim_word.specs.declared.worker.Claim.{Claim}
use Rattle.claim_word.specs.Faces.{PassFace}
use Rattle.claim_word.specs.Claims.{IsFrugal, IsLast, IsMemory, IsWorker}
use Rattle.claim_word.proofs.Bounds.{claim_tick-few}
use Rattle.claim_word.proofs.Claiming.{claims_few, frugal_of, last_claimed, memory_over}
use Rattle.claim_word.proofs.Claiming.{memory_packet, worker_over, worker_packet}
use Rattle.claim_word.proofs.worker.WorkerPass.claim.Goals as goal
use Rattle.claim_word.proofs.worker.WorkerPass.claim.Goals.{After-fetch_add-word}

-- the pass before the draw
before : (c : After-fetch_add-word)
    → IsWorker c.self.inside.seat.me.0 c.self.inside.span c.self.inside.claims.items
    (vec_capacity c.self.inside.claims) false
before c = subst
    (λ (b : Bool). IsWorker c.self.inside.seat.me.0 c.self.inside.span c.self.inside.claims.items
    (vec_capacity c.self.inside.claims) b) c.if-self.false c.self.invariant.0

pub fetch_add-word-requires : goal.fetch_add-word-requires
fetch_add-word-requires c =
    let p = c.self.invariant.0 in let part = p.part in (
      ap (λ z. z.id) c.self.view_is ∙ (c.requires.id_is ∙ sym (ap (λ z. z.id) c.table.view_is)),
      omega (arith, c.table.invariant.1),
      draws_keeps c.table.inside.table.shared.key _ _ _ p.live p.quiet (omega arith)
          (p.early c.if-self.false),
    )

pub invariant_of-self : goal.invariant_of-self
invariant_of-self c =
    let at = goal.at.invariant_of-self c in let p = before at.After-fetch_add-word in
    let v : View = c.self.inside.seat.me.0 in let told = c.fetch_add-word.ensures.2 in
    let found : List Entry = told.0 in
    let number : ℕ = c.fetch_add-word.result % 2 ^ 32 in
    let over : v.plan.packets ≤ number = let n = c.if-number-self.true in
    let s = p.span_is.packets_is in omega arith in
    let now : c.fetch_add-word.new.seat.me.0 ≡ drew v number found = ap (λ m. m.0) told.1 in (
      subst (λ (w : View). IsWorker w c.self.inside.span c.self.inside.claims.items
          (vec_capacity c.self.inside.claims) true) (sym now)
          (worker_over v c.self.inside.span c.self.inside.claims.items
          (vec_capacity c.self.inside.claims) number c.fetch_add-word.result found p told.4
          told.5 over),
      subst (λ (w : View). IsMemory w c.self.inside.memory) (sym now)
          (memory_over v c.self.inside.memory number found c.self.invariant.1 told.3 over),
      ap (λ m. m.1) told.1 ∙ c.self.invariant.2,
    )

pub returns-then-number-self-clause-loads : goal.returns-then-number-self-clause-loads
returns-then-number-self-clause-loads c =
    let told = c.fetch_add-word.ensures.2 in
    let over : c.self.inside.seat.me.0.plan.packets ≤ c.fetch_add-word.result % 2 ^ 32 =
    let n = c.if-number-self.true in let s = c.self.invariant.0.span_is.packets_is in omega arith in
    subst IsFrugal (sym (ap (λ m. m.0) told.1))
    (frugal_of _ c.self.inside.memory
    (memory_over _ c.self.inside.memory _ told.0 c.self.invariant.1 told.3 over))

pub push_reserved-requires : goal.push_reserved-requires
push_reserved-requires c =
    let p = before (goal.at.push_reserved-requires c).After-fetch_add-word in
    let v : View = c.self.inside.seat.me.0 in
    let few = claims_few v.plan v.draws in let n = c.if-number-self.false in
    let s = p.span_is.packets_is in
    let l = ap length p.claims_are in let r = p.room_is in
    let drawn = c.fetch_add-word.ensures.2.2 in let ok = c.self.inside.claims.ok in omega arith

pub overflow_add-result : goal.overflow_add-result
overflow_add-result c =
    let p = c.self.invariant.0 in let v : View = c.self.inside.seat.me.0 in let span = p.span_is in
    let limit = p.sound.claims in
    let number : ℕ = c.fetch_add-word.result % 2 ^ 32 in
    let packet : number < v.plan.packets = let n = c.if-number-self.false in
    let s = span.packets_is in omega arith in
    let fits = claim_tick-few v.plan.setup.device (outputs_of v.plan) (v.plan.from + number)
    p.sound.setup.device (omega arith) in
    let below = subst (λ (z : ℕ × ℕ × ℕ). z.0 + (z.1 + number) / z.2 < 2 ^ 64)
    (λ k. (sym span.base_is k, sym span.from_is k, sym span.outputs_is k)) fits in
    omega (arith, below)

pub invariant_of-self-2 : goal.invariant_of-self-2
invariant_of-self-2 c =
    let at = goal.at.invariant_of-self-2 c in let p = before at.After-fetch_add-word in
    let v : View = c.self.inside.seat.me.0 in let told = c.fetch_add-word.ensures.2 in
    let found : List Entry = told.0 in
    let number : ℕ = c.fetch_add-word.result % 2 ^ 32 in let span = p.span_is in
    let push = c.push_reserved.ensures in
    let packet : number < v.plan.packets = let n = c.if-number-self.false in
    let s = span.packets_is in omega arith in
    let now : c.fetch_add-word.new.seat.me.0 ≡ drew v number found = ap (λ m. m.0) told.1 in
    let claims : c.push_reserved.new.self.items ≡ c.self.inside.claims.items
    ++ (v.plan.from + number) ∷ [] =
    push.items ∙ ap (λ (n : ℕ). c.self.inside.claims.items ++ (n + number) ∷ []) span.from_is in (
      subst (λ (z : View × List ℕ × ℕ × Bool). IsWorker z.0 c.self.inside.span z.1 z.2 z.3)
          (λ k. (sym now k, sym claims k, sym push.capacity k, sym c.if-self.false k))
          (worker_packet v c.self.inside.span c.self.inside.claims.items
          (vec_capacity c.self.inside.claims) number c.fetch_add-word.result found p told.4
          told.5 packet),
      subst (λ (w : View). IsMemory w (record c.self.inside.memory { ready = false })) (sym now)
          (memory_packet v c.self.inside.memory number found c.self.invariant.1 told.3 packet),
      ap (λ m. m.1) told.1 ∙ c.self.invariant.2,
    )

pub returns-clause-loads : goal.returns-clause-loads
returns-clause-loads c =
    let told = c.fetch_add-word.ensures.2 in let v : View = c.self.inside.seat.me.0 in
    let packet : c.fetch_add-word.result % 2 ^ 32 < v.plan.packets = let n =
    c.if-number-self.false in let s = c.self.invariant.0.span_is.packets_is in omega arith in
    subst IsFrugal (sym (ap (λ m. m.0) told.1))
    (frugal_of _ _
    (memory_packet v c.self.inside.memory _ told.0 c.self.invariant.1 told.3 packet))

pub returns-then-number-self-clause-late : goal.returns-then-number-self-clause-late
returns-then-number-self-clause-late c = λ _ was.
    let v : View = c.self.inside.seat.me.0 in let told = c.fetch_add-word.ensures.2 in
    let number : ℕ = c.fetch_add-word.result % 2 ^ 32 in
    let now : c.fetch_add-word.new.seat.me.0 ≡ drew v number told.0 = ap (λ m. m.0) told.1 in
    let found : c.fetch_add-word.new.seat.me.0.entries ≡ told.0 =
    ap (λ (u : View). u.entries) now in
    let same : v ≡ c.args.self.now.view = ap (λ (f : PassFace). f.view) c.self.view_is in
    let over : v.plan.packets ≤ number = let n = c.if-number-self.true in
    let s = c.self.invariant.0.span_is.packets_is in omega arith in
    record {
      number = number;
      late = subst (λ (u : View). u.plan.packets ≤ number) same over;
      drawn = record {
        was = was;
        id = c.fetch_add-word.ensures.0 ∙ ap (λ (f : PassFace). f.id) c.self.view_is;
        view = now ∙ (λ k. drew (same k) number (sym found k));
        more = subst (λ (z : View × List Entry). Begins z.0.entries z.1)
            (λ k. (same k, sym found k)) told.3;
      };
    }

pub returns-clause-last : goal.returns-clause-last
returns-clause-last c =
    let v : View = c.self.inside.seat.me.0 in let told = c.fetch_add-word.ensures.2 in
    let span = c.self.invariant.0.span_is in
    let number : ℕ = c.fetch_add-word.result % 2 ^ 32 in
    let k : ℕ = c.self.inside.span.from + number in
    let claim : Claim = record {
      k = k;
      tick = c.self.inside.span.base + k / c.self.inside.span.outputs;
      output = k % c.self.inside.span.outputs;
      entries = c.fetch_add-word.result / 2 ^ 32;
    } in
    let packet : number < v.plan.packets = let n = c.if-number-self.false in
    let s = span.packets_is in omega arith in
    subst (λ (u : View). IsLast u claim) (sym (ap (λ m. m.0) told.1))
    (last_claimed v number told.0 claim
    (record {
      early = packet;
      k = (λ i. span.from_is i + number);
      tick = (λ i. span.base_is i + (span.from_is i + number) / span.outputs_is i);
      output = (λ i. (span.from_is i + number) % span.outputs_is i);
      entries = sym told.4.count;
    }))
