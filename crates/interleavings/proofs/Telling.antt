-- What is said to asks of any kind by the answers of a book stands in a legal history.
use Rattle.std.proofs.Common.{◌≡◌, ℕ, ◌≤◌, Bool, true, false, eqb, List, [], ◌∷◌, take, Option}
use Rattle.std.proofs.Common.{Some, None, inl, inr, refl, sym, ap, subst, ◌∙◌, arith}
use Rattle.std.specs.Prelude.{IfSome, ◌&&◌, ◌||◌, map, slice_get}
use Rattle.std.specs.List.{AllByRecursion}
use Rattle.std.proofs.lemmas.Bool.{cases_Bool, eqb-true}
use Rattle.map_entry.specs.Setup.{SetupParts}
use Rattle.book_words.specs.declared.calls.JournalCall.{JournalCall}
use Rattle.book_words.specs.declared.given.Given.{Given}
use Rattle.book_words.specs.declared.history.ReplyItem.{ReplyItem}
use Rattle.book_words.specs.declared.history.Said.{Said}
use Rattle.book_words.specs.declared.replies.Reply.{Reply}
use Rattle.book_words.specs.declared.requests.Request.{Request}
use Rattle.book_words.specs.declared.requests.Stamp.{Stamp}
use Rattle.plain_book.specs.Book.{call_of}
use Rattle.plain_book.specs.Given.{AreGiven, given_reply, replies_of}
use Rattle.book_words.specs.History.{AreInOrder, replies_to}
use Rattle.plain_book.proofs.Giving.{given_up}
use Rattle.plain_book.proofs.Ordering.{in_order_keeps}
use Rattle.plain_book.proofs.Prefixes.{no_calls}
use Rattle.interleavings.specs.Legal.{AreCallsReplied, AreReplies, AreTold, IsAskedReply, IsPlace}
use Rattle.interleavings.specs.Legal.{IsReplyTo, StandsThere, accepted_at, accepts, asks_itself}
use Rattle.interleavings.specs.Legal.{first_floor, has_accepted, next_floor, reply_at, says_reply}
use Rattle.interleavings.specs.Told.{AreSaid, IsSaidBy, IsSaidFor, given_to, requests_of}
use Rattle.interleavings.proofs.Places.{GoFrom, IsAnswerAt, answers_at, go_from, has_maker}
use Rattle.interleavings.proofs.Places.{is_maker, its_maker}

-- ---- a client's replies

-- what is told of the rest of a client's asks, from wherever they go on
abbrev RestTold : {A : Type 0} → SetupParts → (A → Option Request)
    → (A → Option Reply → Option Said) → List JournalCall → ℕ → ℕ → List A → Type 0
RestTold s asked says journal claims client asks =
    (floor : Stamp) (gs : List Given) (items : List ReplyItem)
    → AllByRecursion (IsAnswerAt s journal claims) gs → AllByRecursion (λ g. g.client ≡ client) gs
    → GoFrom floor gs
    → AreSaid asked says floor asks gs items
    → AreTold s asked says StandsThere journal claims client floor asks items

same_reply : (s : SetupParts) (journal : List JournalCall) (claims : ℕ)
    (say : Option Reply → Option Said) (request : Request) (g : Given) (item : ReplyItem)
    → IsAnswerAt s journal claims g → IsSaidFor say request g item
    → reply_at s journal item.stamp request ≡ g.reply
same_reply s journal claims say request g item at is =
    ap (λ (place : Stamp). reply_at s journal place request) is.stamp_is
    ∙ ap (reply_at s journal g.stamp) (sym is.asks) ∙ sym at.reply_is

-- the call of a reply, where it has one, stands at its place
abbrev IsCallThere : SetupParts → List JournalCall → ℕ → Stamp → Request → Type 0
IsCallThere s journal client place request =
    IfSome (call_of s (take place.calls journal) client place.claims request
    (reply_at s journal place request)) (λ call. slice_get journal place.calls ≡ Some call)

asked_told : (s : SetupParts) (journal : List JournalCall) (claims client : ℕ) (floor : Stamp)
    (say : Option Reply → Option Said) (request : Request) (g : Given) (item : ReplyItem)
    → IsAnswerAt s journal claims g → g.client ≡ client
    → (floor.calls ≤ g.stamp.calls) × (floor.claims ≤ g.stamp.claims) → IsSaidFor say request g item
    → IsAskedReply s journal claims client floor say request item
asked_told s journal claims client floor say request g item at own from is =
    let calls : item.stamp.calls ≡ g.stamp.calls =
    ap (λ (place : Stamp). place.calls) is.stamp_is in
    let made : item.stamp.claims ≡ g.stamp.claims =
    ap (λ (place : Stamp). place.claims) is.stamp_is in
    record {
      stands = record {
        is_place = subst (IsPlace journal claims) (sym is.stamp_is) at.place;
        calls_up = omega (arith, from.0, calls);
        claims_up = omega (arith, from.1, made);
      };
      reply = record {
        said_is = ap (λ (reply : Reply). say (Some reply))
            (same_reply s journal claims say request g item at is) ∙ is.said_is;
        call = subst (λ (place : Stamp). IsCallThere s journal client place request)
            (sym is.stamp_is)
            (subst (IsCallThere s journal client g.stamp) is.asks
            (subst (λ (of : ℕ). IsCallThere s journal of g.stamp g.request) own at.call));
      };
    }

one_told : {A : Type 0} (s : SetupParts) (asked : A → Option Request)
    (says : A → Option Reply → Option Said) (journal : List JournalCall) (claims client : ℕ)
    (asks : List A) (say : Option Reply → Option Said) (o : Option Request)
    → RestTold s asked says journal claims client asks
    → (floor : Stamp) (gs : List Given) (item : ReplyItem) (items : List ReplyItem)
    → AllByRecursion (IsAnswerAt s journal claims) gs → AllByRecursion (λ g. g.client ≡ client) gs
    → GoFrom floor gs
    → IsSaidBy floor say o gs item (λ next rest. AreSaid asked says next asks rest items)
    → IsReplyTo s StandsThere journal claims client floor say o item
    × AreTold s asked says StandsThere journal claims client
    (next_floor item.stamp (accepted_at s journal item.stamp o)) asks items
one_told s asked says journal claims client asks say None rest floor gs item items
    at own from said = (
      said.0,
      subst
          (λ (next : Stamp). AreTold s asked says StandsThere journal claims client next asks items)
          (sym said.0.stands) (rest floor gs items at own from said.1),
    )
one_told s asked says journal claims client asks say (Some request) rest floor [] item items at own
    from said = absurd said
one_told s asked says journal claims client asks say (Some request) rest floor (g ∷ gs) item items
    at own from said =
    let next : next_floor g.stamp (accepts g.reply)
    ≡ next_floor item.stamp (accepts (reply_at s journal item.stamp request)) =
    sym (ap (λ (place : Stamp). next_floor place (accepts (reply_at s journal item.stamp request)))
    said.0.stamp_is
    ∙ ap (λ (reply : Reply). next_floor g.stamp (accepts reply))
    (same_reply s journal claims say request g item at.0 said.0)) in (
      asked_told s journal claims client floor say request g item at.0 own.0 from.0 said.0,
      subst (λ (place : Stamp).
          AreTold s asked says StandsThere journal claims client place asks items) next
          (rest (next_floor g.stamp (accepts g.reply)) gs items at.1 own.1 from.1 said.1),
    )

all_told : {A : Type 0} (s : SetupParts) (asked : A → Option Request)
    (says : A → Option Reply → Option Said) (journal : List JournalCall) (claims client : ℕ)
    (asks : List A) → RestTold s asked says journal claims client asks
all_told s asked says journal claims client [] floor [] [] at own from said = tt
all_told s asked says journal claims client [] floor [] (item ∷ items) at own from
    said = absurd said
all_told s asked says journal claims client [] floor (g ∷ gs) items at own from said = absurd said
all_told s asked says journal claims client (ask ∷ asks) floor gs [] at own from said = absurd said
all_told s asked says journal claims client (ask ∷ asks) floor gs (item ∷ items) at own from said =
    one_told s asked says journal claims client asks (says ask) (asked ask)
    (all_told s asked says journal claims client asks) floor gs item items at own from said

-- ---- the calls that they made

abbrev RestMade : {A : Type 0} → SetupParts → (A → Option Request)
    → (A → Option Reply → Option Said) → List JournalCall → ℕ → ℕ → List A → Type 0
RestMade s asked says journal claims number asks =
    (floor : Stamp) (gs : List Given) (items : List ReplyItem)
    → AllByRecursion (IsAnswerAt s journal claims) gs → AreSaid asked says floor asks gs items
    → has_accepted s asked journal number asks items ≡ has_maker number gs

no_call : (b : Bool) → (b && false) ≡ false
no_call true = refl
no_call false = refl

one_made : {A : Type 0} (s : SetupParts) (asked : A → Option Request)
    (says : A → Option Reply → Option Said) (journal : List JournalCall) (claims number : ℕ)
    (asks : List A) (say : Option Reply → Option Said) (o : Option Request)
    → RestMade s asked says journal claims number asks
    → (floor : Stamp) (gs : List Given) (item : ReplyItem) (items : List ReplyItem)
    → AllByRecursion (IsAnswerAt s journal claims) gs
    → IsSaidBy floor say o gs item (λ next rest. AreSaid asked says next asks rest items)
    → ((eqb item.stamp.calls number && accepted_at s journal item.stamp o)
    || has_accepted s asked journal number asks items) ≡ has_maker number gs
one_made s asked says journal claims number asks say None rest floor gs item items at said =
    ap (λ (b : Bool). b || has_accepted s asked journal number asks items)
    (no_call (eqb item.stamp.calls number)) ∙ rest floor gs items at said.1
one_made s asked says journal claims number asks say (Some request) rest floor [] item items at
    said = absurd said
one_made s asked says journal claims number asks say (Some request) rest floor (g ∷ gs)
    item items at said =
    let same : (eqb item.stamp.calls number && accepts (reply_at s journal item.stamp request))
    ≡ is_maker number g =
    ap (λ (place : Stamp). eqb place.calls number && accepts
    (reply_at s journal item.stamp request)) said.0.stamp_is
    ∙ ap (λ (reply : Reply). eqb g.stamp.calls number && accepts reply)
    (same_reply s journal claims say request g item at.0 said.0) in
    ap (λ (b : Bool). b || has_accepted s asked journal number asks items) same
    ∙ ap (λ (b : Bool). is_maker number g || b)
    (rest (next_floor g.stamp (accepts g.reply)) gs items at.1 said.1)

all_made : {A : Type 0} (s : SetupParts) (asked : A → Option Request)
    (says : A → Option Reply → Option Said) (journal : List JournalCall) (claims number : ℕ)
    (asks : List A) → RestMade s asked says journal claims number asks
all_made s asked says journal claims number [] floor [] [] at said = refl
all_made s asked says journal claims number [] floor [] (item ∷ items) at said = absurd said
all_made s asked says journal claims number [] floor (g ∷ gs) items at said = absurd said
all_made s asked says journal claims number (ask ∷ asks) floor gs [] at said = absurd said
all_made s asked says journal claims number (ask ∷ asks) floor gs (item ∷ items) at said =
    one_made s asked says journal claims number asks (says ask) (asked ask)
    (all_made s asked says journal claims number asks) floor gs item items at said

-- ---- all replies

filtered : (P : Given → Type 0) (client : ℕ) (gs : List Given) → AllByRecursion P gs
    → AllByRecursion P (given_to client gs)
filtered P client [] all = tt
filtered P client (g ∷ gs) all = elim (cases_Bool (eqb g.client client)) [
  | inl own ↦ rw own (all.0, filtered P client gs all.1)
  | inr other ↦ rw other (filtered P client gs all.1)
]

owned : (client : ℕ) (gs : List Given)
    → AllByRecursion (λ g. g.client ≡ client) (given_to client gs)
owned client [] = tt
owned client (g ∷ gs) = elim (cases_Bool (eqb g.client client)) [
  | inl own ↦ rw own (eqb-true g.client client own, owned client gs)
  | inr other ↦ rw other (owned client gs)
]

-- what is said to each client's asks by a book's answers
abbrev pub AreEachSaid : {A : Type 0} → (A → Option Request) → (A → Option Reply → Option Said)
    → (ℕ → List A) → List Given → List ReplyItem → Type 0
AreEachSaid asked says asks given items =
    (client : ℕ) → AreSaid asked says first_floor (asks client) (given_to client given)
    (replies_to client items)

-- in the order of a history, these are legal replies
pub told_replies : {A : Type 0} (s : SetupParts) (asked : A → Option Request)
    (says : A → Option Reply → Option Said) (journal : List JournalCall) (claims : ℕ)
    (asks : ℕ → List A) (given : List Given) (items : List ReplyItem)
    → AreGiven s [] 0 given journal claims → AreEachSaid asked says asks given items
    → AreInOrder items → AreReplies s asked says StandsThere journal claims asks items
told_replies s asked says journal claims asks given items are said order =
    let at = answers_at s [] 0 given journal claims (no_calls s 0) are in
    record {
      replies = λ client. all_told s asked says journal claims client (asks client) first_floor
          (given_to client given) (replies_to client items)
          (filtered (IsAnswerAt s journal claims) client given at) (owned client given)
          (go_from s [] 0 given journal claims are client first_floor (omega arith) (omega arith))
          (said client);
      order = order;
    }

-- and each call was accepted by one of them
pub told_calls : {A : Type 0} (s : SetupParts) (asked : A → Option Request)
    (says : A → Option Reply → Option Said) (journal : List JournalCall) (claims : ℕ)
    (asks : ℕ → List A) (given : List Given) (items : List ReplyItem)
    → AreGiven s [] 0 given journal claims → AreEachSaid asked says asks given items
    → AreCallsReplied s asked journal asks items
told_calls s asked says journal claims asks given items are said number call there =
    let at = answers_at s [] 0 given journal claims (no_calls s 0) are in
    all_made s asked says journal claims number (asks call.client) first_floor
    (given_to call.client given) (replies_to call.client items)
    (filtered (IsAnswerAt s journal claims) call.client given at) (said call.client)
    ∙ its_maker s [] 0 given journal claims are number call (omega arith) there

-- ---- plain requests

plain_said : (floor : Stamp) (gs : List Given)
    → AreSaid asks_itself says_reply floor (map (λ g. g.request) gs) gs (map given_reply gs)
plain_said floor [] = tt
plain_said floor (g ∷ gs) = (
  record { asks = refl; stamp_is = refl; said_is = refl },
  plain_said (next_floor g.stamp (accepts g.reply)) gs,
)

pub replies_given_to : (client : ℕ) (gs : List Given)
    → replies_to client (map given_reply gs) ≡ map given_reply (given_to client gs)
replies_given_to client [] = refl
replies_given_to client (g ∷ gs) = elim (cases_Bool (eqb g.client client)) [
  | inl own ↦ rw own
      (ap (λ (rest : List ReplyItem). given_reply g ∷ rest) (replies_given_to client gs))
  | inr other ↦ rw other (replies_given_to client gs)
]

-- the book's answers in the order of a history say so to plain requests
plain_each : (s : SetupParts) (journal : List JournalCall) (claims : ℕ) (asks : ℕ → List Request)
    (given : List Given) → AreGiven s [] 0 given journal claims
    → ((client : ℕ) → requests_of given client ≡ asks client)
    → AreEachSaid asks_itself says_reply asks given (replies_of given)
plain_each s journal claims asks given are whole client =
    let sorted =
    in_order_keeps (map given_reply given) (given_up s [] 0 given journal claims are).1 in
    subst
    (λ (items : List ReplyItem).
    AreSaid asks_itself says_reply first_floor (asks client) (given_to client given) items)
    (sym (sorted.own client ∙ replies_given_to client given))
    (subst (λ (requests : List Request).
    AreSaid asks_itself says_reply first_floor requests (given_to client given)
    (map given_reply (given_to client given))) (whole client)
    (plain_said first_floor (given_to client given)))

-- so they are legal replies to them
pub plain_replies : (s : SetupParts) (journal : List JournalCall) (claims : ℕ)
    (asks : ℕ → List Request) (given : List Given)
    → AreGiven s [] 0 given journal claims → ((client : ℕ) → requests_of given client ≡ asks client)
    → AreReplies s asks_itself says_reply StandsThere journal claims asks (replies_of given)
plain_replies s journal claims asks given are whole =
    told_replies s asks_itself says_reply journal claims asks given (replies_of given) are
    (plain_each s journal claims asks given are whole)
    (in_order_keeps (map given_reply given) (given_up s [] 0 given journal claims are).1).ordered

-- which accepted each call
pub plain_calls : (s : SetupParts) (journal : List JournalCall) (claims : ℕ)
    (asks : ℕ → List Request) (given : List Given)
    → AreGiven s [] 0 given journal claims → ((client : ℕ) → requests_of given client ≡ asks client)
    → AreCallsReplied s asks_itself journal asks (replies_of given)
plain_calls s journal claims asks given are whole =
    told_calls s asks_itself says_reply journal claims asks given (replies_of given) are
    (plain_each s journal claims asks given are whole)
