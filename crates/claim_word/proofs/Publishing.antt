-- What a publisher keeps as it publishes.
use Rattle.std.proofs.Common.{◌≡◌, ◌≢◌, ℕ, ◌+◌, ◌*◌, ◌^◌, ◌<◌, ◌≤◌, ◌==◌, Bool, true, List, ◌++◌}
use Rattle.std.proofs.Common.{length, sym, ap, ◌∙◌, subst, arith, length-append, eq-eqb, ne_eqb}
use Rattle.std.proofs.lemmas.List.{get_or_append_left}
use Rattle.std.proofs.lemmas.List.Elements.{All-append, All-contains, All-weaker, Contains-push}
use Rattle.std.specs.List.{All}
use Rattle.std.specs.Prelude.{MatchBool}
use Rattle.io_caps.specs.declared.limits.TheConstants.{MOST_CHANNELS}
use Rattle.map_entry.specs.declared.cell.Cell.{Cell}
use Rattle.map_entry.specs.declared.claims.TheConstants.{CLAIMS_LIMIT}
use Rattle.map_entry.specs.declared.entry.Entry.{Entry}
use Rattle.claim_rule.specs.declared.plan.Plan.{Plan}
use Rattle.claim_rule.specs.declared.view.View.{View}
use Rattle.claim_rule.specs.Claims.{claims_at, IsSound, IsFit}
use Rattle.claim_rule.specs.Views.{IsSight, added, saw, sight}
use Rattle.claim_rule.specs.Words.{places, state_word, IsSpeltAt, Spells}
use Rattle.claim_rule.specs.Plays.{raw_of, count_of, IsLater, MayPublish}
use Rattle.claim_word.specs.declared.span.Span.{Span}
use Rattle.claim_word.specs.declared.state.State.{State}
use Rattle.claim_word.specs.Passes.{IsPublisher}
use Rattle.claim_word.specs.States.{ArePublishable, HasSeen, IsMissed, IsPublished, having_seen}
use Rattle.claim_word.specs.Writings.{IsWide, WroteAll}
use Rattle.claim_word.proofs.Spelling.{wide_of}

-- ---- new entries

-- new entries fit the plan
pub new_fit : (plan : Plan) (claims : ℕ) (entries new : List Entry) → claims < CLAIMS_LIMIT
    → ArePublishable plan.setup claims entries new → All (IsFit plan) new
new_fit plan claims entries new few may i d lt =
    let at = may.ats i d lt in
    record { ok = may.rows i d lt; tick = may.ticks i d lt; at = omega arith }

pub all_wide : (plan : Plan) (es : List Entry) → IsSound plan → All (IsFit plan) es → All IsWide es
all_wide plan es sound fits =
    All-weaker (IsFit plan) IsWide (λ (e : Entry) (fit : IsFit plan e). wide_of plan e sound fit) es
    fits

pub all_short : (es : List Entry) → All IsWide es → All (λ e. length e.row ≤ MOST_CHANNELS) es
all_short es wide = All-weaker IsWide (λ (e : Entry). length e.row ≤ MOST_CHANNELS)
    (λ (e : Entry) (w : IsWide e). w.row) es wide

-- the claims of a state are below the limit
pub claims_few : (plan : Plan) (raw : ℕ) → IsSound plan → claims_at plan raw < CLAIMS_LIMIT
claims_few plan raw sound = let c = sound.claims in omega arith

pub may_publish : (v w : View) (new : List Entry) (seen : State) → IsSound v.plan → WroteAll v w new
    → HasSeen v seen → ArePublishable v.plan.setup seen.claims v.entries new
    → MayPublish w.plan w new seen.raw
may_publish v w new seen sound all saw_it may =
    subst (λ (u : View). MayPublish u.plan u new seen.raw) (sym all.only) (record {
      spelt = all.spelt;
      room = may.room;
      fits = new_fit v.plan seen.claims v.entries new (let c = claims_few v.plan seen.raw sound in
          let s = saw_it.claims in omega arith) may;
      ats = subst (λ (c : ℕ). All (λ e. e.at ≡ c) new) saw_it.claims may.ats;
      timely = may.timely;
    })

spells_front : (cells : List ℕ) (xs ys : List Entry) → Spells cells (xs ++ ys) → Spells cells xs
spells_front cells xs ys all i d lt =
    subst (IsSpeltAt cells i) (get_or_append_left xs ys d i lt)
    (all i d (let g = length-append xs ys in omega arith))

-- ---- the publisher after an exchange

pub published_keeps : (v w : View) (span : Span) (made clients : ℕ) (entries new : List Entry)
    (rows : List (List Cell)) → IsPublisher v span made clients entries rows
    → WroteAll v w new → All (IsFit v.plan) new → length v.entries + length new ≤ places
    → IsPublisher (added w new) span made clients (entries ++ new) rows
published_keeps v w span made clients entries new rows p all fits room =
    subst (λ (u : View). IsPublisher (added u new) span made clients (entries ++ new) rows)
    (sym all.only) (record {
      sound = p.sound;
      span_is = p.span_is;
      live = p.live;
      loud = p.loud;
      parts = p.parts;
      workers = p.workers;
      clients_few = p.clients_few;
      none_drawn = p.none_drawn;
      long = all.long ∙ p.long;
      spelt = all.spelt;
      fits = All-append (IsFit v.plan) v.entries new p.fits fits;
      few = let g = length-append v.entries new in omega arith;
      entries_are = ap (λ (l : List Entry). l ++ new) p.entries_are;
      rows_are = p.rows_are;
    })

pub missed_keeps : (v w : View) (span : Span) (made clients : ℕ) (entries new : List Entry)
    (rows : List (List Cell)) (raw count : ℕ)
    → IsPublisher v span made clients entries rows → WroteAll v w new
    → IsPublisher (saw w raw count) span made clients entries rows
missed_keeps v w span made clients entries new rows raw count p all =
    subst (λ (u : View). IsPublisher (saw u raw count) span made clients entries rows)
    (sym all.only) (record {
      sound = p.sound;
      span_is = p.span_is;
      live = p.live;
      loud = p.loud;
      parts = p.parts;
      workers = p.workers;
      clients_few = p.clients_few;
      none_drawn = p.none_drawn;
      long = all.long ∙ p.long;
      spelt = spells_front w.cells v.entries new all.spelt;
      fits = p.fits;
      few = p.few;
      entries_are = p.entries_are;
      rows_are = p.rows_are;
    })

-- ---- what an exchange told

pub hit_case : (A B : Type 0) (found expected : ℕ) → found ≡ expected
    → MatchBool (found == expected) A B → A
hit_case A B found expected e t = subst (λ (b : Bool). MatchBool b A B) (eq-eqb found expected e) t

pub miss_case : (A B : Type 0) (found expected : ℕ) → found ≢ expected
    → MatchBool (found == expected) A B → B
miss_case A B found expected e t = subst (λ (b : Bool). MatchBool b A B) (ne_eqb found expected e) t

pub published_is : (v w : View) (new : List Entry) → WroteAll v w new
    → IsPublished v (added w new) new
published_is v w new all = ap (λ (u : View). added u new) all.only

-- a number was drawn: what was found differs in the draws alone
pub missed_is : (v w : View) (new : List Entry) (found : ℕ) → v.publishes ≡ true → WroteAll v w new
    → IsLater w found
    → IsMissed v (saw w (raw_of found) (count_of found)) (raw_of found)
missed_is v w new found loud all later =
    let told = subst (λ (u : View). IsLater u found) all.only later in
    ap (λ (u : View). saw u (raw_of found) (count_of found)) all.only
    ∙ ap (λ (n : ℕ). record (saw v (raw_of found) n) { cells = w.cells }) (told.own loud)

pub missed_above : (v w : View) (new : List Entry) (seen : State) (found : ℕ) → v.publishes ≡ true
    → WroteAll v w new → HasSeen v seen
    → found ≢ state_word (length v.entries) seen.raw → IsLater w found → seen.raw < raw_of found
missed_above v w new seen found loud all saw_it apart later =
    let told = subst (λ (u : View). IsLater u found) all.only later in
    let count : count_of found ≡ length v.entries = told.own loud in
    let least : seen.raw ≤ raw_of found =
    (All-contains (IsSight (count_of found) (raw_of found)) v.sights
    (sight seen.raw seen.entries) told.sights saw_it.seen).raw in
    let whole : found ≡ count_of found * 2 ^ 32 + raw_of found = omega arith in
    let differs : raw_of found ≢ seen.raw = λ bad. apart (omega arith) in omega arith

pub missed_most : (v w : View) (new : List Entry) (found : ℕ) → v.live ≡ true → WroteAll v w new
    → IsLater w found
    → raw_of found ≤ v.plan.packets + v.plan.workers
missed_most v w new found live all later =
    (subst (λ (u : View). IsLater u found) all.only later).most live

-- ---- a look

pub has_seen : (v : View) (s : State) → s.claims ≡ claims_at v.plan s.raw
    → s.entries ≡ length v.entries → HasSeen (having_seen v s) s
has_seen v s claims entries = record {
  seen = Contains-push v.sights (sight s.raw s.entries);
  claims = claims;
  entries = entries;
}
