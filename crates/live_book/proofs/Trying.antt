-- What a book is after a look, a try and an answer.
use Rattle.std.proofs.Common.{◌≡◌, ℕ, ◌+◌, ◌≤◌, List, [], ◌∷◌, ◌++◌, length, take, Option}
use Rattle.std.proofs.Common.{Some, None, true, ◌*◌, refl, sym, ap, ◌∙◌, subst, arith, append_assoc}
use Rattle.std.proofs.Common.{length-append}
use Rattle.io_caps.specs.declared.limits.TheConstants.{PLACES}
use Rattle.std.specs.Prelude.{IfSome, option_map}
use Rattle.std.specs.Option.{option_map_or, option_to_list}
use Rattle.std.proofs.Math.Seq.{take-append_seam}
use Rattle.std.proofs.lemmas.List.{append-nil}
use Rattle.std.proofs.lemmas.List.Elements.{All-weaker}
use Rattle.map_entry.specs.declared.entry.Entry.{Entry}
use Rattle.map_entry.specs.Setup.{SetupParts}
use Rattle.claim_rule.specs.declared.plan.Plan.{Plan}
use Rattle.claim_rule.specs.declared.view.Sight.{Sight}
use Rattle.claim_rule.specs.declared.view.View.{View}
use Rattle.claim_rule.specs.Claims.{claims_at}
use Rattle.claim_rule.specs.Views.{IsSight, sight}
use Rattle.claim_word.specs.declared.state.State.{State}
use Rattle.claim_word.specs.States.{IsMissed, IsPublished, IsState, having_seen}
use Rattle.book_words.specs.declared.calls.JournalCall.{JournalCall}
use Rattle.book_words.specs.declared.given.Given.{Given}
use Rattle.plain_book.specs.declared.kept.Decision.{Decision}
use Rattle.plain_book.specs.declared.kept.Acceptance.{Acceptance}
use Rattle.book_words.specs.declared.requests.Request.{Request}
use Rattle.plain_book.specs.Book.{call_of, reply_of}
use Rattle.plain_book.specs.Desk.{IsAsked, IsDecided, IsDesk, IsMade, BookStateParts, is_above}
use Rattle.plain_book.specs.Desk.{looked_at}
use Rattle.plain_book.specs.Desk.{settled}
use Rattle.plain_book.specs.Desk.{staged}
use Rattle.plain_book.specs.Given.{given_item}
use Rattle.plain_book.specs.Places.{places_kept, places_of}
use Rattle.book_words.specs.History.{stamp}
use Rattle.plain_book.specs.Journal.{call_entries, entries_of}
use Rattle.plain_book.specs.Legal.{IsLegalJournal}
use Rattle.plain_book.specs.Time.{begin}
use Rattle.plain_book.proofs.Base.{desk_raised}
use Rattle.plain_book.proofs.Giving.{given_later, given_more}
use Rattle.plain_book.proofs.Places.{kept_less}
use Rattle.live_book.specs.declared.attempt.Under.{Under}
use Rattle.live_book.specs.declared.attempt.Under.TheVariants.{Moved, NoMemory}
use Rattle.live_book.specs.Books.{HasPlaces, IsBook, IsLapped, high, last_raw}
use Rattle.live_book.specs.Places.{PlacesFace, answer_places, is_aside, spent}
use Rattle.live_book.specs.Tries.{AreBelow, IsMissedBy, IsStill, IsTry}
use Rattle.live_book.specs.Tries.{IsUnder, answer_entries}
use Rattle.live_book.proofs.Placing.{aside_off, by_more}
use Rattle.live_book.proofs.Sights.{claims_rise, last_below, last_push}

-- at more claims
lapped_later : (s : SetupParts) (from : ℕ) (journal : List JournalCall) (given : List Given)
    (begun a b used : ℕ) → IsLapped s from journal given begun a used → a ≤ b
    → IsLapped s from journal given begun b used
lapped_later s from journal given begun a b used l up = record {
  start = l.start;
  calls = l.calls;
  start_is = l.start_is;
  journal_is = l.journal_is;
  given_are = given_later s l.start journal from a b given l.given_are up;
  used_is = l.used_is;
}

-- at no fewer claims, with the same entries
book_at : (s : SetupParts) (v w : View) (p : BookStateParts) (given : List Given) (begun : ℕ)
    (pl : PlacesFace) → IsBook s v p given begun pl
    → w.plan ≡ v.plan → w.entries ≡ v.entries → last_raw v.sights ≤ last_raw w.sights
    → IsBook s w p given begun pl
book_at s v w p given begun pl b plan entries up =
    let rises : high v ≤ high w =
    subst (λ (q : Plan). high v ≤ claims_at q (last_raw w.sights)) (sym plan)
    (claims_rise v.plan (last_raw v.sights) (last_raw w.sights) up) in
    record {
      setup_is = ap (λ (q : Plan). q.setup) plan ∙ b.setup_is;
      from_is = b.from_is ∙ sym (ap (λ (q : Plan). q.from) plan);
      desk = subst (λ (l : List Entry). IsDesk s (high w) l p) (sym entries)
          (desk_raised s (high v) (high w) v.entries p b.desk rises);
      lapped =
          subst (λ (q : Plan). IsLapped s q.from p.journal given begun (high w) pl.used) (sym plan)
          (lapped_later s v.plan.from p.journal given begun (high v) (high w) pl.used b.lapped
          rises);
      placed =
          subst (λ (l : List Entry). HasPlaces s (length l) (places_kept p.pending) pl)
          (sym entries) b.placed;
    }

-- ---- a look

-- a state was seen, and what is pending was looked at
pub record IsLooked (s : SetupParts) (v w : View) (p q : BookStateParts)
    (state : State) : Type 0 where
  pub sees : IsState v state
  pub view : w ≡ having_seen v state
  pub kept : q ≡ looked_at p (begin s state.claims) state.claims
  pub desk : (entries : List Entry) → IsDesk s state.claims entries p
      → IsDesk s state.claims entries q
  pub own : state.entries ≡ length v.entries

seen_raw : (v : View) (state : State) → last_raw (having_seen v state).sights ≡ state.raw
seen_raw v state = last_push v.sights (sight state.raw state.entries)

seen_high : (v : View) (state : State) → IsState v state → high (having_seen v state) ≡ state.claims
seen_high v state sees = ap (claims_at v.plan) (seen_raw v state) ∙ sym sees.claims

seen_up : (v : View) (state : State) → IsState v state → last_raw v.sights ≤ state.raw
seen_up v state sees =
    last_below state.raw v.sights
    (All-weaker (IsSight state.entries state.raw) (λ (x : Sight). x.raw ≤ state.raw)
    (λ (x : Sight) (i : IsSight state.entries state.raw x). i.raw) v.sights sees.sights)

-- the book at what was seen
pub seen_book : (s : SetupParts) (v w : View) (p q : BookStateParts) (given : List Given)
    (begun : ℕ)
    (pl : PlacesFace) (state : State)
    → IsBook s v p given begun pl → IsLooked s v w p q state → IsBook s w q given begun pl
seen_book s v w p q given begun pl state b is =
    let now = book_at s v (having_seen v state) p given begun pl b refl refl
    (omega (arith, seen_up v state is.sees, seen_raw v state)) in
    let at : high (having_seen v state) ≡ state.claims = seen_high v state is.sees in
    let desk : IsDesk s (high (having_seen v state)) v.entries q =
    rw at (is.desk v.entries (rw at at now.desk)) in
    let kept : places_kept q.pending ≤ places_kept p.pending =
    let less = kept_less (is_above (begin s state.claims)) p.pending in
    omega (arith, less, ap (λ (k : BookStateParts). places_kept k.pending) is.kept) in
    subst (λ (u : View). IsBook s u q given begun pl) (sym is.view) (record {
      setup_is = now.setup_is;
      from_is = ap (λ (k : BookStateParts). k.from) is.kept ∙ now.from_is;
      desk = desk;
      lapped =
          subst (λ (j : List JournalCall).
          IsLapped s v.plan.from j given begun (high (having_seen v state)) pl.used)
          (sym (ap (λ (k : BookStateParts). k.journal) is.kept)) now.lapped;
      placed = record {
        each = now.placed.each;
        enough = omega (arith, now.placed.enough, kept);
        room = now.placed.room;
      };
    })

-- the desk at what was seen
pub desk_seen : (s : SetupParts) (v w : View) (p q : BookStateParts) (given : List Given)
    (begun : ℕ)
    (pl : PlacesFace) (state : State)
    → IsBook s v p given begun pl → IsLooked s v w p q state → IsDesk s state.claims w.entries q
desk_seen s v w p q given begun pl state b is =
    let now = seen_book s v w p q given begun pl state b is in
    subst (λ (k : ℕ). IsDesk s k w.entries q) (ap high is.view ∙ seen_high v state is.sees) now.desk

-- ---- an answer

-- the answer that was decided
asked_by : (s : SetupParts) (claims client calls : ℕ) (p q : BookStateParts) (request : Request)
    (d : Decision) (o : Option JournalCall) → IsLegalJournal s claims p.journal
    → d.reply ≡ reply_of s p.journal claims request
    → o ≡ call_of s p.journal client claims request d.reply → calls ≡ length p.journal
    → q.journal ≡ p.journal ++ option_to_list o
    → IsAsked s p.journal q.journal client request d.reply (stamp calls claims)
asked_by s claims client calls p q request d o legal reply call_is calls_is journal = record {
  calls = calls_is;
  reply_is = reply;
  journal = journal ∙ ap (λ (o' : Option JournalCall). p.journal ++ option_to_list o') call_is;
  legal = legal;
}

journal_is : (s : SetupParts) (v w : View) (p q : BookStateParts) (state : State)
    → IsLooked s v w p q state → q.journal ≡ p.journal
journal_is s v w p q state is = ap (λ (k : BookStateParts). k.journal) is.kept

entries_is : (s : SetupParts) (v w : View) (p q : BookStateParts) (state : State)
    → IsLooked s v w p q state → w.entries ≡ v.entries
entries_is s v w p q state is = ap (λ (u : View). u.entries) is.view

plan_is : (s : SetupParts) (v w : View) (p q : BookStateParts) (state : State)
    → IsLooked s v w p q state
    → w.plan ≡ v.plan
plan_is s v w p q state is = ap (λ (u : View). u.plan) is.view

sights_are : (s : SetupParts) (v w : View) (p q : BookStateParts) (state : State)
    → IsLooked s v w p q state → w.sights ≡ v.sights ++ sight state.raw (length v.entries) ∷ []
sights_are s v w p q state is =
    ap (λ (u : View). u.sights) is.view ∙ ap (λ (n : ℕ). v.sights ++ sight state.raw n ∷ []) is.own

-- ---- no answer

-- none: nothing was tried
pub looked_still : (s : SetupParts) (v w : View) (p q : BookStateParts) (given new : List Given)
    (state : State) → IsLooked s v w p q state → new ≡ given
    → IsStill v w p.journal q.journal given new
looked_still s v w p q given new state is same = record {
  entries = entries_is s v w p q state is;
  journal = journal_is s v w p q state is;
  given = same;
}

pub looked_under : (s : SetupParts) (v w : View) (p q : BookStateParts) (state : State)
    → IsLooked s v w p q state → IsUnder v w NoMemory
looked_under s v w p q state is =
    (sight state.raw (length v.entries), sights_are s v w p q state is)

-- an exchange failed, or there was no memory for it
missed_raw : (w y : View) (raw : ℕ) → IsMissed w y raw → last_raw y.sights ≡ raw
missed_raw w y raw view =
    ap (λ (u : View). last_raw u.sights) view ∙ last_push w.sights (sight raw (length w.entries))

pub missed_book : (s : SetupParts) (v w y : View) (p q r : BookStateParts) (given new : List Given)
    (begun : ℕ) (pl : PlacesFace) (state : State) (u : Under) → IsBook s v p given begun pl
    → IsLooked s v w p q state
    → IsMissedBy w y state.raw u → r ≡ q → new ≡ given → IsBook s y r new begun pl
missed_book s v w y p q r given new begun pl state (Moved claims) b is missed kept same =
    let now = seen_book s v w p q given begun pl state b is in
    let raw : last_raw w.sights ≡ state.raw = ap (λ (u : View). last_raw u.sights) is.view
    ∙ seen_raw v state in
    rw (kept, same) (book_at s w y q given begun pl now (ap (λ (u : View). u.plan) missed.view)
    (ap (λ (u : View). u.entries) missed.view)
    (omega (arith, missed.above, missed_raw w y missed.raw missed.view, raw)))
missed_book s v w y p q r given new begun pl state NoMemory b is missed kept same =
    rw (kept, same) (subst (λ (u : View). IsBook s u q given begun pl) (sym missed)
    (seen_book s v w p q given begun pl state b is))

pub missed_still : (s : SetupParts) (v w y : View) (p q r : BookStateParts) (given new : List Given)
    (state : State) (u : Under) → IsLooked s v w p q state → IsMissedBy w y state.raw u → r ≡ q
    → new ≡ given → IsStill v y p.journal r.journal given new
missed_still s v w y p q r given new state (Moved claims) is missed kept same = record {
  entries = ap (λ (u : View). u.entries) missed.view ∙ entries_is s v w p q state is;
  journal = ap (λ (k : BookStateParts). k.journal) kept ∙ journal_is s v w p q state is;
  given = same;
}
missed_still s v w y p q r given new state NoMemory is missed kept same = record {
  entries = ap (λ (u : View). u.entries) missed ∙ entries_is s v w p q state is;
  journal = ap (λ (k : BookStateParts). k.journal) kept ∙ journal_is s v w p q state is;
  given = same;
}

pub missed_under : (s : SetupParts) (v w y : View) (p q : BookStateParts) (state : State)
    (u : Under)
    → IsLooked s v w p q state → IsMissedBy w y state.raw u → IsUnder v y u
missed_under s v w y p q state (Moved claims) is missed =
    let n : length w.entries ≡ length v.entries = ap length (entries_is s v w p q state is) in
    record {
      first = state.raw;
      raw = missed.raw;
      later = seen_up v state is.sees;
      above = missed.above;
      most = subst (λ (plan : Plan). missed.raw ≤ plan.packets + plan.workers)
          (plan_is s v w p q state is) missed.most;
      claims_is = missed.claims_is
          ∙ ap (λ (plan : Plan). claims_at plan missed.raw) (plan_is s v w p q state is);
      sights = ap (λ (u : View). u.sights) missed.view
          ∙ ap (λ (xs : List Sight). xs ++ sight missed.raw (length w.entries) ∷ [])
          (sights_are s v w p q state is)
          ∙ ap (λ (k : ℕ). (v.sights ++ sight state.raw (length v.entries) ∷ [])
          ++ sight missed.raw k ∷ []) n
          ∙ append_assoc v.sights (sight state.raw (length v.entries) ∷ [])
          (sight missed.raw (length v.entries) ∷ []);
    }
missed_under s v w y p q state NoMemory is missed = (
  sight state.raw (length v.entries),
  ap (λ (u : View). u.sights) missed
      ∙ sights_are s v w p q state is,
)

-- what was noted is taken off again
pub back : (given noted new : List Given) (x : Given) (n : ℕ) → new ≡ take n noted
    → n ≡ length given → noted ≡ given ++ x ∷ [] → new ≡ given
back given noted new x n new_is n_is noted_is =
    new_is ∙ ap (take n) noted_is ∙ ap (λ (k : ℕ). take k (given ++ x ∷ [])) n_is
    ∙ take-append_seam given (x ∷ [])

-- ---- an answer

-- the claims of what was told before are not above those of the state
told_below : (v : View) (state : State) → IsState v state → AreBelow v.plan state.claims v.told
told_below v state sees =
    All-weaker (IsSight state.entries state.raw) (λ (x : Sight). claims_at v.plan x.raw
    ≤ state.claims)
    (λ (x : Sight) (i : IsSight state.entries state.raw x).
    omega (arith, claims_rise v.plan x.raw state.raw i.raw, sees.claims)) v.told sees.told

-- where an answer was decided, this is what was done: the view that there is then, what is kept
-- then, the call and its entries, and how many places these took
pub record IsDone (s : SetupParts) (w x : View) (q r : BookStateParts) (client claims calls : ℕ)
    (request : Request) (d : Decision) (taken : ℕ) : Type 0 where
  pub call : Option JournalCall
  pub call_is : call ≡ call_of s q.journal client claims request d.reply
  pub reply_is : d.reply ≡ reply_of s q.journal claims request
  pub calls_is : calls ≡ length q.journal
  pub journal : r.journal ≡ q.journal ++ option_to_list call
  pub entries : x.entries ≡ w.entries
      ++ option_map_or (call_entries s q.journal (entries_of s q.journal)) call []
  pub plan : x.plan ≡ w.plan
  pub sights : x.sights ≡ w.sights
  pub from : r.from ≡ q.from
  pub desk : IsDesk s claims x.entries r
  pub taken_is : taken ≡ option_map_or (λ c. places_of c.request) call 0
  pub few : taken ≤ 2 * length s.device.outputs
  pub room :
      length x.entries + places_kept r.pending
      ≤ length w.entries + (places_kept q.pending + taken)

asked_here : (s : SetupParts) (w x : View) (q r : BookStateParts) (client claims calls : ℕ)
    (request : Request) (d : Decision) {taken : ℕ} → IsLegalJournal s claims q.journal
    → IsDone s w x q r client claims calls request d taken
    → IsAsked s q.journal r.journal client request d.reply (stamp calls claims)
asked_here s w x q r client claims calls request d legal done =
    asked_by s claims client calls q r request d done.call legal done.reply_is done.call_is
    done.calls_is done.journal

legal_here : (s : SetupParts) (v w : View) (p q : BookStateParts) (given : List Given) (begun : ℕ)
    (pl : PlacesFace) (state : State)
    → IsBook s v p given begun pl → IsLooked s v w p q state
    → IsLegalJournal s state.claims q.journal
legal_here s v w p q given begun pl state b is =
    subst (λ (k : ℕ). IsLegalJournal s k q.journal) (ap (λ (k : BookStateParts). k.seen) is.kept)
    (desk_seen s v w p q given begun pl state b is).legal

-- one answer more
lapped_more : (s : SetupParts) (from : ℕ) (journal after : List JournalCall)
    (given : List Given) (begun high used taken : ℕ) (call : Option JournalCall) (g : Given)
    → IsLapped s from journal given begun high used
    → after ≡ journal ++ option_to_list call
    → taken ≡ option_map_or (λ c. places_of c.request) call 0
    → IsAsked s journal after g.client g.request g.reply g.stamp → high ≤ g.stamp.claims
    → IsLapped s from after (given ++ g ∷ []) begun g.stamp.claims (used + taken)
lapped_more s from journal after given begun high used taken call g l after_is taken_is asked up =
    record {
      start = l.start;
      calls = l.calls ++ option_to_list call;
      start_is = l.start_is;
      journal_is = after_is
          ∙ ap (λ (j : List JournalCall). j ++ option_to_list call) l.journal_is
          ∙ append_assoc l.start l.calls (option_to_list call);
      given_are = given_more s l.start journal after from high given g l.given_are asked up;
      used_is = omega (arith, l.used_is, taken_is, by_more l.calls call);
    }

pub done_book : (s : SetupParts) (v w x : View) (p q r : BookStateParts) (given new : List Given)
    (begun : ℕ) (pl : PlacesFace) (client calls : ℕ) (request : Request) (state : State)
    (d : Decision) (taken : ℕ) → IsBook s v p given begun pl
    → IsLooked s v w p q state
    → IsDone s w x q r client state.claims calls request d taken → new ≡ given
    ++ given_item client request d.reply (stamp calls state.claims) ∷ []
    → is_aside pl client ≡ true
    → IsBook s x r new begun (spent pl client taken)
done_book s v w x p q r given new begun pl client calls request state d taken b is done new_is
    aside =
    let now = seen_book s v w p q given begun pl state b is in
    let at : high w ≡ state.claims = ap high is.view ∙ seen_high v state is.sees in
    let same : high x ≡ state.claims =
    ap (λ (plan : Plan). claims_at plan (last_raw x.sights)) done.plan
    ∙ ap (λ (xs : List Sight). claims_at w.plan (last_raw xs)) done.sights ∙ at in
    let asked = asked_here s w x q r client state.claims calls request d
    (legal_here s v w p q given begun pl state b is) done in
    let more : IsLapped s w.plan.from r.journal
    (given ++ given_item client request d.reply (stamp calls state.claims) ∷ []) begun state.claims
    (pl.used + taken) =
    lapped_more s w.plan.from q.journal r.journal given begun (high w) pl.used taken done.call
    (given_item client request d.reply (stamp calls state.claims)) now.lapped done.journal
    done.taken_is asked (omega (arith, at)) in
    let off = aside_off pl.each pl.aside client aside in
    record {
      setup_is = ap (λ (plan : Plan). plan.setup) done.plan ∙ now.setup_is;
      from_is = done.from ∙ now.from_is ∙ sym (ap (λ (plan : Plan). plan.from) done.plan);
      desk = rw same done.desk;
      lapped =
          rw (same, new_is) (subst (λ (plan : Plan). IsLapped s plan.from r.journal
          (given ++ given_item client request d.reply (stamp calls state.claims) ∷ []) begun
          state.claims (pl.used + taken)) (sym done.plan) more);
      placed = record {
        each = now.placed.each;
        enough = omega (arith, done.room, now.placed.enough);
        room = omega (arith, now.placed.room, now.placed.each, done.few, off);
      };
    }

-- how many places the answer took
pub done_places : (s : SetupParts) (v w x : View) (p q r : BookStateParts) (client calls : ℕ)
    (request : Request) (state : State) (d : Decision) (taken : ℕ) → IsLooked s v w p q state
    → IsDone s w x q r client state.claims calls request d taken
    → taken ≡ answer_places s p.journal client state.claims request d.reply
done_places s v w x p q r client calls request state d taken is done =
    done.taken_is
    ∙ ap (λ (o : Option JournalCall). option_map_or (λ c. places_of c.request) o 0) done.call_is
    ∙ ap (λ (j : List JournalCall). answer_places s j client state.claims request d.reply)
    (journal_is s v w p q state is)

-- there is room for what is to be published
pub made_fits : (s : SetupParts) (claims : ℕ) (w : View) (q : BookStateParts) (given : List Given)
    (begun : ℕ) (pl : PlacesFace) (m : Acceptance) (client : ℕ) → IsBook s w q given begun pl
    → IsMade s claims w.entries q m → is_aside pl client ≡ true
    → length w.entries + length m.entries ≤ PLACES
made_fits s claims w q given begun pl m client b made aside =
    omega (
      arith,
      b.placed.enough,
      b.placed.room,
      b.placed.each,
      made.room,
      made.few,
      aside_off pl.each pl.aside client aside,
    )

pub done_try : (s : SetupParts) (v w x : View) (p q r : BookStateParts) (given new : List Given)
    (begun : ℕ) (pl : PlacesFace) (client calls : ℕ) (request : Request) (state : State)
    (d : Decision) (taken : ℕ) → IsBook s v p given begun pl
    → IsLooked s v w p q state
    → IsDone s w x q r client state.claims calls request d taken → new ≡ given
    ++ given_item client request d.reply (stamp calls state.claims) ∷ []
    → IsTry s v x p.journal r.journal given new client request d.reply (stamp calls state.claims)
done_try s v w x p q r given new begun pl client calls request state d taken b is done new_is =
    let j : q.journal ≡ p.journal = journal_is s v w p q state is in
    record {
      asked = subst (λ (before : List JournalCall). IsAsked s before r.journal client request
          d.reply (stamp calls state.claims)) j
          (asked_here s w x q r client state.claims calls request d
          (legal_here s v w p q given begun pl state b is) done);
      given = new_is;
      entries = done.entries
          ∙ ap (λ (es : List Entry). es
          ++ option_map_or (call_entries s q.journal (entries_of s q.journal)) done.call [])
          (entries_is s v w p q state is)
          ∙ ap (λ (o : Option JournalCall). v.entries
          ++ option_map_or (call_entries s q.journal (entries_of s q.journal)) o []) done.call_is
          ∙ ap (λ (before : List JournalCall). v.entries
          ++ answer_entries s before client state.claims request d.reply) j;
      load = record {
        raw = state.raw;
        sights = done.sights ∙ sights_are s v w p q state is;
        claims_is = is.sees.claims;
      };
      told = told_below v state is.sees;
    }

-- it accepts no call
pub none_done : (s : SetupParts) (w : View) (q : BookStateParts) (client claims calls : ℕ)
    (request : Request) (entries : List Entry) (d : Decision)
    → IsDecided s claims entries q client request d → d.made ≡ None → calls ≡ length q.journal
    → IsDesk s claims w.entries q
    → IsDone s w w q q client claims calls request d 0
none_done s w q client claims calls request entries d is none calls_is desk = record {
  call = None;
  call_is = sym (ap (option_map (λ (m : Acceptance). m.call)) none) ∙ is.call_is;
  reply_is = is.reply_is;
  calls_is = calls_is;
  journal = sym (append-nil q.journal);
  entries = sym (append-nil w.entries);
  plan = refl;
  sights = refl;
  from = refl;
  desk = desk;
  taken_is = refl;
  few = omega arith;
  room = omega arith;
}

-- it accepts one
pub some_done : (s : SetupParts) (w x : View) (q r : BookStateParts) (client claims calls : ℕ)
    (request : Request) (d : Decision) (m : Acceptance)
    → IsDecided s claims w.entries q client request d
    → d.made ≡ Some m → calls ≡ length q.journal
    → IsPublished w x m.entries → r ≡ settled (staged q m.call m.item) m.settling
    → IsDone s w x q r client claims calls request d m.places
some_done s w x q r client claims calls request d m is some calls_is view kept =
    let made : IsMade s claims w.entries q m =
    subst (λ (o : Option Acceptance). IfSome o (IsMade s claims w.entries q)) some is.made_is in
    let entries : x.entries ≡ w.entries ++ m.entries = ap (λ (u : View). u.entries) view in
    record {
      call = Some m.call;
      call_is = sym (ap (option_map (λ (m' : Acceptance). m'.call)) some) ∙ is.call_is;
      reply_is = is.reply_is;
      calls_is = calls_is;
      journal = ap (λ (k : BookStateParts). k.journal) kept;
      entries = entries ∙ ap (λ (es : List Entry). w.entries ++ es) made.whole_are;
      plan = ap (λ (u : View). u.plan) view;
      sights = ap (λ (u : View). u.sights) view;
      from = ap (λ (k : BookStateParts). k.from) kept;
      desk = subst (λ (z : List Entry × BookStateParts). IsDesk s claims z.0 z.1)
          (λ k. (sym entries k, sym kept k)) made.after;
      taken_is = made.places_are;
      few = made.few;
      room =
          omega (
            arith,
            ap length entries,
            length-append w.entries m.entries,
            ap (λ (k : BookStateParts). places_kept k.pending) kept,
            made.room,
          );
    }
