use Rattle.std.proofs.Common.{◌≡◌, ℕ, ◌<◌, ◌≤◌, List, map, length, sym, ap, ◌∙◌, subst, arith}
use Rattle.std.specs.Prelude.{None}
use Rattle.map_entry.specs.Entry.{selected}
use Rattle.map_entry.specs.Tick.{frame_key}
use Rattle.claim_rule.specs.declared.view.View.{View}
use Rattle.claim_rule.specs.Claims.{output_of}
use Rattle.claim_rule.specs.Views.{Begins}
use Rattle.claim_word.specs.declared.chain.Head.{Head}
use Rattle.claim_word.specs.Chains.{HavePassed, IsChained}
use Rattle.claim_word.specs.Claims.{begin_of, head_of, number_of}
use Rattle.claim_word.proofs.Chaining.{begun, chained_begins, passed_begins, passed_later}
use Rattle.claim_word.proofs.Claiming.{covered, output_there}
use Rattle.claim_word.proofs.Remembering.{heads_within, none_selected}
use Rattle.claim_word.proofs.memory.Memory.place_of.Goals as goal
use Rattle.claim_word.proofs.memory.Memory.place_of.Goals.{After-as_slice-heads, After-tick}

-- the heads are those of all entries
whole : (c : After-as_slice-heads)
    → c.as_slice-heads.result.now ≡ map head_of c.args.seat.now.me.0.entries
whole c = c.as_slice-heads.ensures.value ∙ c.read_heads.ensures.heads.0

-- and begin with those that were known
begins : (c : After-as_slice-heads) → Begins c.args.self.now.heads.items c.as_slice-heads.result.now
begins c = subst (Begins c.args.self.now.heads.items) (sym (whole c)) c.requires.memory.heads

-- a chain for each output
count : (c : After-as_slice-heads) → length c.args.self.now.chains.tracks.items
    ≡ length c.args.seat.now.me.0.plan.setup.device.outputs
count c = c.requires.memory.chains.count

chained : (c : After-as_slice-heads)
    → IsChained c.as_slice-heads.result.now (length c.args.self.now.chains.tracks.items)
    c.args.self.now.chains
chained c =
    subst (λ (n : ℕ). IsChained c.as_slice-heads.result.now n c.args.self.now.chains)
    (sym (count c))
    (chained_begins c.args.self.now.heads.items c.as_slice-heads.result.now _
    c.args.self.now.chains (begins c) c.requires.memory.chains)

-- the first frame of the claim's tick
abbrev key : After-tick → ℕ
key c = frame_key c.tick.result 0

key_is : (c : After-tick)
    → key c ≡ begin_of c.args.seat.now.me.0.plan
    (number_of c.args.seat.now.me.0.plan c.args.claim.now)
key_is c = ap (λ (t : ℕ). frame_key t 0) (c.tick.ensures ∙ c.requires.last.claim.tick)

output_is : (c : After-tick)
    → c.output.result ≡ output_of c.args.seat.now.me.0.plan
    (number_of c.args.seat.now.me.0.plan c.args.claim.now)
output_is c = c.output.ensures ∙ c.requires.last.claim.output

-- the chains have come to no later frame
passed : (c : After-tick) → Begins c.args.self.now.heads.items c.as_slice-heads.result.now
    → HavePassed c.as_slice-heads.result.now (key c) c.link_all.new.self.tracks.items
passed c begins =
    let memory = c.requires.memory in
    let reached = memory.begun
    (number_of c.args.seat.now.me.0.plan c.args.claim.now) c.requires.top in
    c.link_all.ensures.passed (key c)
    (passed_later c.as_slice-heads.result.now memory.reached (key c)
    c.args.self.now.chains.tracks.items
    (subst (λ (k : ℕ). memory.reached ≤ k) (sym (key_is c)) reached)
    (passed_begins c.args.self.now.heads.items c.as_slice-heads.result.now _ memory.reached
    c.args.self.now.chains begins memory.chains memory.passed))

pub link_all-requires-clause-within : goal.link_all-requires-clause-within
link_all-requires-clause-within c =
    let at = (goal.at.link_all-requires-clause-within c).After-as_slice-heads in
    let v : View = c.args.seat.now.me.0 in
    heads_within v.plan v.entries c.as_slice-heads.result.now _ (whole at) c.requires.entries.1
    (count at)

pub link_all-requires-clause-chained : goal.link_all-requires-clause-chained
link_all-requires-clause-chained c =
    chained (goal.at.link_all-requires-clause-chained c).After-as_slice-heads

pub ruling-requires-clause-begun : goal.ruling-requires-clause-begun
ruling-requires-clause-begun c =
    let at = (goal.at.ruling-requires-clause-begun c).After-as_slice-heads in
    let then = (goal.at.ruling-requires-clause-begun c).After-tick in
    let v : View = c.args.seat.now.me.0 in
    let number : ℕ = number_of v.plan c.args.claim.now in
    let hs : List Head = c.as_slice-heads.result.now in
    let ok = c.link_all.new.self.next.ok in
    let there : c.output.result < length c.args.self.now.chains.tracks.items =
    let o = output_there v.plan number c.requires.table.1 in let n = count at in
    let is = output_is then in omega (arith, o, n, is) in
    begun hs (length c.args.self.now.chains.tracks.items) (key then) c.output.result
    c.link_all.new.self c.link_all.ensures.chained there
    (let all = c.link_all.ensures.all in omega (arith, ok, all)) (passed then (begins at))
    (λ none. covered v.plan v.entries number c.requires.table.1 c.requires.covers
    (subst (λ (z : ℕ × ℕ). selected v.entries z.0 z.1 ≡ None)
    (λ i. (output_is then i, key_is then i))
    (none_selected v.entries hs c.output.result (key then) (whole at) none)))

pub returns-clause-learnt : goal.returns-clause-learnt
returns-clause-learnt c =
    let at = (goal.at.returns-clause-learnt c).After-as_slice-heads in
    let then = (goal.at.returns-clause-learnt c).After-tick in
    let same : c.as_slice-heads.result.now ≡ c.read_heads.new.heads.items =
    c.as_slice-heads.ensures.value in
    let tracks = c.link_all.ensures.chained.count in
    let next = c.ruling.ensures.next in record {
      room = let r = c.requires.memory.room in let h = c.read_heads.ensures.heads.1 in
          omega arith;
      heads = c.read_heads.ensures.heads.0;
      chains = subst (λ (z : List Head × ℕ). IsChained z.0 z.1 c.ruling.new.self)
          (λ i. (same i, (tracks ∙ count at) i)) c.ruling.ensures.chained;
      all = ap (λ v. length v.items) next
          ∙ (sym c.link_all.new.self.next.ok.0 ∙ (c.link_all.ensures.all ∙ ap length same));
      passed = subst (λ (z : List Head × ℕ). HavePassed z.0 z.1 c.ruling.new.self.tracks.items)
          (λ i. (same i, key_is then i)) (c.ruling.ensures.passed (passed then (begins at)));
    }
