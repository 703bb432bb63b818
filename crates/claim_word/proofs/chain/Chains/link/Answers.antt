use Rattle.std.proofs.Common.{◌≡◌, ◌≢◌, ℕ, ◌+◌, ◌<◌, ◌++◌, ◌∷◌, [], Some, None, List, length, set}
use Rattle.std.proofs.Common.{refl}
use Rattle.std.proofs.Common.{sym, ap, ◌∙◌, subst, arith, rules}
use Rattle.std.proofs.lemmas.List.{get_or_default, take_at}
use Rattle.std.specs.Prelude.{Option, IfSome}
use Rattle.claim_word.specs.declared.chain.Track.{Track}
use Rattle.claim_word.specs.Chains.{no_head, next_at, output_at, track_at, HasPassed, IsTrack}
use Rattle.claim_word.proofs.Chaining.{chained_linked, passed_set}
use Rattle.claim_word.proofs.chain.Chains.link.Goals as goal
use Rattle.claim_word.proofs.chain.Chains.link.Goals.{After-link_at-at}

-- the new entry's place
place : (c : After-link_at-at) → c.len-place.result ≡ length c.args.self.now.next.items
place c = search rules

-- which is one of the heads'
within : (c : After-link_at-at)
    → length c.args.self.now.next.items < length c.args.heads.now
within c = let ok = c.args.self.now.next.ok in omega (arith, ok, c.requires.more)

-- so its output has a chain
output : (c : After-link_at-at)
    → output_at c.args.heads.now c.len-place.result < length c.args.self.now.tracks.items
output c = subst (λ (k : ℕ). output_at c.args.heads.now k < length c.args.self.now.tracks.items)
    (sym (place c)) (c.requires.within (length c.args.self.now.next.items) no_head (within c))

pub returns-clause-chained : goal.returns-clause-chained
returns-clause-chained c =
    let at = (goal.at.returns-clause-chained c).After-link_at-at in
    let hs = c.args.heads.now in let next : List (Option ℕ) = c.args.self.now.next.items in
    let n : ℕ = length next in let mid : List (Option ℕ) = c.link_at-at.new.next in
    let linked = c.link_at-at.ensures in let push = c.push_reserved.ensures in
    let slice : c.as_mut_slice.result.now ≡ next = c.as_mut_slice.ensures.value in
    let ok = c.args.self.now.next.ok in
    let long : length mid ≡ n = linked.long ∙ ap length slice in
    chained_linked hs (length c.args.self.now.tracks.items) c.args.self.now _ mid
    c.link_at-at.result c.requires.chained (within at) long
    (push.items ∙ ap (λ (l : List (Option ℕ)). l ++ None ∷ []) (take_at mid _ _ (long ∙ sym ok.0)))
    (let r = c.requires.chained.room in omega (arith, r, push.capacity))
    (subst (λ (k : ℕ). output_at hs k < length c.args.self.now.tracks.items) (place at)
    (output at))
    (ap (λ (k : ℕ). set c.args.self.now.tracks.items (output_at hs k)
    (Some (record { at = c.link_at-at.result; newest = k }))) (place at))
    (subst (λ (l : List (Option ℕ)). (k : ℕ) → output_at hs k ≢ output_at hs (length l)
    → next_at mid k ≡ next_at l k) slice linked.others)
    (subst (λ (l : List (Option ℕ)). IsTrack hs (length l + 1) (mid ++ None ∷ [])
    (output_at hs (length l)) (record { at = c.link_at-at.result; newest = length l })) slice
    linked.track)

pub returns-clause-passed : goal.returns-clause-passed
returns-clause-passed c = λ reached was.
    let at = (goal.at.returns-clause-passed c).After-link_at-at in
    let hs = c.args.heads.now in let next : List (Option ℕ) = c.args.self.now.next.items in
    let slice : c.as_mut_slice.result.now ≡ next = c.as_mut_slice.ensures.value in
    let same : length c.as_mut_slice.result.now ≡ c.len-place.result = ap length slice
    ∙ sym (place at) in
    let held : track_at c.args.self.now.tracks.items (output_at hs c.len-place.result)
    ≡ c.index.result.now = get_or_default c.args.self.now.tracks.items
    (output_at hs c.len-place.result) None c.index.result.now (output at)
    ∙ sym c.index.ensures in
    passed_set hs reached (output_at hs c.len-place.result) c.link_at-at.result
    c.len-place.result c.args.self.now.tracks.items _ was (output at) refl
    (subst (λ (k : ℕ). HasPassed hs reached (output_at hs k) c.link_at-at.result) same
    (c.link_at-at.ensures.passed reached
    (subst (λ (z : Option Track × ℕ). IfSome z.0
    (λ t. HasPassed hs reached (output_at hs z.1) t.at)) (λ i. (held i, sym same i))
    (was (output_at hs c.len-place.result)))))
