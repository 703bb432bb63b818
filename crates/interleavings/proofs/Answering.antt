-- The calls of a run are answered by a book, one after the other.
use Rattle.std.proofs.Common.{◌≡◌, ℕ, eqb, List, [], ◌∷◌, ◌++◌, length, Option, Some, None, inl}
use Rattle.std.proofs.Common.{inr, refl, sym, ap, subst, ◌∙◌, arith}
use Rattle.std.specs.Prelude.{filter_map, map, option_map}
use Rattle.std.specs.List.{cons_option}
use Rattle.std.specs.Option.{option_to_list}
use Rattle.std.proofs.lemmas.Bool.{cases_Bool}
use Rattle.std.proofs.lemmas.List.{append-nil, map-append}
use Rattle.std.proofs.lemmas.List.Elements.{filter-append, filter_map-append}
use Rattle.map_entry.specs.Setup.{SetupParts}
use Rattle.book_words.specs.declared.calls.JournalCall.{JournalCall}
use Rattle.book_words.specs.declared.given.Given.{Given}
use Rattle.book_words.specs.declared.history.ReplyItem.{ReplyItem}
use Rattle.book_words.specs.declared.requests.Request.{Request}
use Rattle.plain_book.specs.Book.{call_of, reply_of}
use Rattle.plain_book.specs.Desk.{IsAsked}
use Rattle.plain_book.specs.Given.{AreGiven, given_reply}
use Rattle.book_words.specs.History.{stamp}
use Rattle.plain_book.proofs.Giving.{given_later, given_legal, given_more}
use Rattle.plain_book.proofs.Prefixes.{no_calls}
use Rattle.interleavings.specs.declared.events.Event.{Event}
use Rattle.interleavings.specs.declared.events.Event.TheVariants.{Claim, Look, Set, Close, Call}
use Rattle.interleavings.specs.declared.events.Answer.{Answer}
use Rattle.interleavings.specs.declared.events.Answer.TheVariants.{Claimed, Over, Seen, Nothing}
use Rattle.interleavings.specs.declared.events.Answer.TheVariants.{Done, AlreadySet, Closed}
use Rattle.interleavings.specs.declared.events.Answer.TheVariants.{Replied}
use Rattle.interleavings.specs.declared.events.AnsweredEvent.{AnsweredEvent}
use Rattle.interleavings.specs.Events.{IsRun, answer_of, call_in, claims_in, journal_in, taken}
use Rattle.interleavings.specs.Run.{ask_in, asks_in, replies_given, reply_by, reply_in}
use Rattle.interleavings.specs.Told.{given_to, requests_of}
use Rattle.interleavings.proofs.Runs.{claims_more, journal_more, run_by}

-- the answer of a call, where it has one
abbrev given_as : ℕ → Request → Answer → Option Given
given_as client request (Claimed k) = None
given_as client request Over = None
given_as client request (Seen present) = None
given_as client request Nothing = None
given_as client request Done = None
given_as client request AlreadySet = None
given_as client request Closed = None
given_as client request (Replied reply place) =
    Some (record { client = client; request = request; reply = reply; stamp = place })

abbrev given_by : Event → Answer → Option Given
given_by (Claim worker) answer = None
given_by (Look worker input) answer = None
given_by (Set input tick block) answer = None
given_by (Close input upto) answer = None
given_by (Call client request) answer = given_as client request answer

-- the answers of the calls among these, in order
abbrev pub given_in : List AnsweredEvent → List Given
given_in events = filter_map (λ t. given_by t.event t.answer) events

given_grows : (before : List AnsweredEvent) (t : AnsweredEvent)
    → given_in (before ++ t ∷ []) ≡ given_in before ++ given_in (t ∷ [])
given_grows before t = filter_map-append (λ (x : AnsweredEvent). given_by x.event x.answer) before
    (t ∷ [])

abbrev AreAnswered : SetupParts → List AnsweredEvent → Type 0
AreAnswered s events = AreGiven s [] 0 (given_in events) (journal_in s events) (claims_in events)

same_given : (s : SetupParts) (gs hs : List Given) (j k : List JournalCall) (m n : ℕ) → gs ≡ hs
    → j ≡ k → m ≡ n → AreGiven s [] 0 gs j m → AreGiven s [] 0 hs k n
same_given s gs hs j k m n given journal claims are =
    subst (λ (x : ℕ). AreGiven s [] 0 hs k x) claims
    (subst (λ (x : List JournalCall). AreGiven s [] 0 hs x m) journal
    (subst (λ (x : List Given). AreGiven s [] 0 x j m) given are))

-- an event that is not a call
quiet : (s : SetupParts) (before : List AnsweredEvent) (t : AnsweredEvent) → given_in (t ∷ []) ≡ []
    → call_in s (journal_in s before) t.event t.answer ≡ None → AreAnswered s before
    → AreAnswered s (before ++ t ∷ [])
quiet s before t none no_call are =
    let now : ℕ = claims_in (before ++ t ∷ []) in
    same_given s (given_in before) (given_in (before ++ t ∷ [])) (journal_in s before)
    (journal_in s (before ++ t ∷ [])) now now
    (sym (given_grows before t ∙ ap (λ (z : List Given). given_in before ++ z) none
    ∙ append-nil (given_in before)))
    (sym (journal_more s before t
    ∙ ap (λ (o : Option JournalCall). journal_in s before ++ option_to_list o) no_call
    ∙ append-nil (journal_in s before)))
    refl (given_later s [] (journal_in s before) 0 (claims_in before) now (given_in before) are
    (omega (arith, claims_more before t)))

-- a call
called : (s : SetupParts) (ticks : ℕ) (before : List AnsweredEvent) (client : ℕ) (request : Request)
    → AreAnswered s before
    → AreAnswered s
    (before ++ taken (Call client request) (answer_of s ticks before (Call client request)) ∷ [])
called s ticks before client request are =
    let t : AnsweredEvent = taken (Call client request) (answer_of s ticks before
    (Call client request)) in
    let journal = journal_in s before in
    let claims = claims_in before in
    let reply = reply_of s journal claims request in
    let g : Given =
    record {
      client = client;
      request = request;
      reply = reply;
      stamp = stamp (length journal) claims;
    } in
    let after : List JournalCall =
    journal ++ option_to_list (call_of s journal client claims request reply) in
    let asked : IsAsked s journal after client request reply (stamp (length journal) claims) =
    record {
      calls = refl;
      reply_is = refl;
      journal = refl;
      legal = given_legal s [] 0 (given_in before) journal claims (no_calls s 0) are;
    } in
    same_given s (given_in before ++ g ∷ []) (given_in (before ++ t ∷ [])) after
    (journal_in s (before ++ t ∷ [])) claims (claims_in (before ++ t ∷ []))
    (sym (given_grows before t)) (sym (journal_more s before t))
    (omega (arith, claims_more before t))
    (given_more s [] journal after 0 claims (given_in before) g are asked (omega arith))

more_answered : (s : SetupParts) (ticks : ℕ) (before : List AnsweredEvent) (event : Event)
    → AreAnswered s before
    → AreAnswered s (before ++ taken event (answer_of s ticks before event) ∷ [])
more_answered s ticks before (Claim worker) are =
    quiet s before (taken (Claim worker) (answer_of s ticks before (Claim worker))) refl refl are
more_answered s ticks before (Look worker input) are =
    quiet s before
    (taken (Look worker input) (answer_of s ticks before (Look worker input))) refl refl are
more_answered s ticks before (Set input tick block) are =
    quiet s before
    (taken (Set input tick block) (answer_of s ticks before (Set input tick block))) refl refl are
more_answered s ticks before (Close input upto) are =
    quiet s before
    (taken (Close input upto) (answer_of s ticks before (Close input upto))) refl refl are
more_answered s ticks before (Call client request) are = called s ticks before client request are

-- what the calls of a run were answered are a book's answers, which lead to the calls accepted and
-- the claims made
pub run_given : (s : SetupParts) (ticks : ℕ) (events : List AnsweredEvent) → IsRun s ticks events
    → AreAnswered s events
run_given s ticks events run =
    run_by s ticks (AreAnswered s) (refl, omega arith)
    (λ before t so_far is are.
    subst (λ (answer : Answer). AreAnswered s (before ++ taken t.event answer ∷ [])) (sym is)
    (more_answered s ticks before t.event are)) events run

-- ---- the replies and the requests are those of the events

answer_reply : (client : ℕ) (request : Request) (answer : Answer)
    → option_map given_reply (given_as client request answer) ≡ reply_by client answer
answer_reply client request (Claimed k) = refl
answer_reply client request Over = refl
answer_reply client request (Seen present) = refl
answer_reply client request Nothing = refl
answer_reply client request Done = refl
answer_reply client request AlreadySet = refl
answer_reply client request Closed = refl
answer_reply client request (Replied reply place) = refl

event_reply : (event : Event) (answer : Answer)
    → option_map given_reply (given_by event answer) ≡ reply_in event answer
event_reply (Claim worker) answer = refl
event_reply (Look worker input) answer = refl
event_reply (Set input tick block) answer = refl
event_reply (Close input upto) answer = refl
event_reply (Call client request) answer = answer_reply client request answer

map_cons : {X Y : Type 0} (f : X → Y) (o : Option X) (xs : List X)
    → map f (cons_option o xs) ≡ cons_option (option_map f o) (map f xs)
map_cons f None xs = refl
map_cons f (Some x) xs = refl

pub replies_are : (events : List AnsweredEvent)
    → map given_reply (given_in events) ≡ replies_given events
replies_are [] = refl
replies_are (t ∷ events) =
    map_cons given_reply (given_by t.event t.answer) (given_in events)
    ∙ ap (λ (o : Option ReplyItem). cons_option o (map given_reply (given_in events)))
    (event_reply t.event t.answer)
    ∙ ap (cons_option (reply_in t.event t.answer)) (replies_are events)

abbrev AreAsks : List AnsweredEvent → Type 0
AreAsks events = (client : ℕ) → requests_of (given_in events) client ≡ asks_in events client

pub requests_append : (xs ys : List Given) (client : ℕ)
    → requests_of (xs ++ ys) client ≡ requests_of xs client ++ requests_of ys client
requests_append xs ys client =
    ap (map (λ (g : Given). g.request)) (filter-append (λ (g : Given). eqb g.client client) xs ys)
    ∙ map-append (λ (g : Given). g.request) (given_to client xs) (given_to client ys)

asks_append : (before : List AnsweredEvent) (t : AnsweredEvent) → AreAsks before → AreAsks (t ∷ [])
    → AreAsks (before ++ t ∷ [])
asks_append before t so_far here client =
    ap (λ (gs : List Given). requests_of gs client) (given_grows before t)
    ∙ requests_append (given_in before) (given_in (t ∷ [])) client
    ∙ ap (λ (z : List Request). z ++ requests_of (given_in (t ∷ [])) client) (so_far client)
    ∙ ap (λ (z : List Request). asks_in before client ++ z) (here client)
    ∙ sym (filter_map-append (λ (x : AnsweredEvent). ask_in client x.event) before (t ∷ []))

asks_here : (s : SetupParts) (ticks : ℕ) (before : List AnsweredEvent) (event : Event)
    → AreAsks (taken event (answer_of s ticks before event) ∷ [])
asks_here s ticks before (Claim worker) client = refl
asks_here s ticks before (Look worker input) client = refl
asks_here s ticks before (Set input tick block) client = refl
asks_here s ticks before (Close input upto) client = refl
asks_here s ticks before (Call of request) client = elim (cases_Bool (eqb of client)) [
  | inl own ↦ rw own refl
  | inr other ↦ rw other refl
]

pub asks_are : (s : SetupParts) (ticks : ℕ) (events : List AnsweredEvent) → IsRun s ticks events
    → AreAsks events
asks_are s ticks events run =
    run_by s ticks AreAsks (λ client. refl)
    (λ before t so_far is are.
    asks_append before t are
    (subst (λ (answer : Answer). AreAsks (taken t.event answer ∷ [])) (sym is)
    (asks_here s ticks before t.event))) events run
