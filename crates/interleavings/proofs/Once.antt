-- In a legal history each call was accepted by just one reply: a client goes on after the call that
-- it made, and a call has one client.
use Rattle.std.proofs.Common.{◌≡◌, ℕ, ◌<◌, ◌≤◌, Bool, true, false, eqb, List, [], ◌∷◌, take}
use Rattle.std.proofs.Common.{Option, Some, None, inl, inr, refl, sym, ap, subst, ◌∙◌, arith}
use Rattle.std.specs.Prelude.{IfSome, ◌&&◌, ◌||◌, cond, is_some, slice_get}
use Rattle.std.proofs.lemmas.Bool.{and_parts, cases_Bool, eq-eqb, eqb-true, false≢true}
use Rattle.map_entry.specs.Setup.{SetupParts}
use Rattle.book_words.specs.declared.calls.JournalCall.{JournalCall}
use Rattle.book_words.specs.declared.history.ReplyItem.{ReplyItem}
use Rattle.book_words.specs.declared.history.Said.{Said}
use Rattle.book_words.specs.declared.replies.Reply.{Reply}
use Rattle.book_words.specs.declared.requests.Request.{Request}
use Rattle.book_words.specs.declared.requests.Stamp.{Stamp}
use Rattle.plain_book.specs.Book.{call_of}
use Rattle.book_words.specs.History.{replies_to}
use Rattle.plain_book.proofs.Giving.{call_parts}
use Rattle.interleavings.specs.Legal.{AreCallsReplied, AreReplies, AreTold, IsBookReply}
use Rattle.interleavings.specs.Legal.{IsEachCallOnce, IsReplyTo, StandsThere, accepted_at, accepts}
use Rattle.interleavings.specs.Legal.{first_floor, has_accepted, next_floor, reply_at}
use Rattle.interleavings.specs.Legal.{times_accepted}
use Rattle.interleavings.proofs.Places.{floor_calls, makes_call}

-- ---- one reply

-- a reply is not below the place from which its client goes on
not_below : (s : SetupParts) (journal : List JournalCall) (claims client : ℕ) (floor : Stamp)
    (say : Option Reply → Option Said) (o : Option Request) (item : ReplyItem)
    → IsReplyTo s StandsThere journal claims client floor say o item
    → floor.calls ≤ item.stamp.calls
not_below s journal claims client floor say None item is =
    omega (arith, ap (λ (place : Stamp). place.calls) is.stands)
not_below s journal claims client floor say (Some request) item is = is.stands.calls_up

-- the call that a reply accepted is its client's
its_client : (s : SetupParts) (journal : List JournalCall) (client : ℕ)
    (say : Option Reply → Option Said) (request : Request) (item : ReplyItem) (call : JournalCall)
    (o : Option JournalCall)
    → call_of s (take item.stamp.calls journal) client item.stamp.claims request
    (reply_at s journal item.stamp request) ≡ o
    → IsBookReply s journal client say request item
    → accepts (reply_at s journal item.stamp request) ≡ true
    → slice_get journal item.stamp.calls ≡ Some call → call.client ≡ client
its_client s journal client say request item call None e is hit at =
    absurd (false≢true (sym (ap is_some e) ∙ makes_call s (take item.stamp.calls journal) client
    item.stamp.claims request ∙ hit))
its_client s journal client say request item call (Some made) e is hit at =
    let there : slice_get journal item.stamp.calls ≡ Some made =
    subst (λ (o : Option JournalCall).
    IfSome o (λ call. slice_get journal item.stamp.calls ≡ Some call)) e is.call in
    let same : made ≡ call = cc in
    sym (ap (λ (c : JournalCall). c.client) same)
    ∙ (call_parts s (take item.stamp.calls journal) client item.stamp.claims request
    (reply_at s journal item.stamp request) made e).by

-- whoever accepts the call of a number is the call's client
its_own : (s : SetupParts) (journal : List JournalCall) (claims client : ℕ) (floor : Stamp)
    (say : Option Reply → Option Said) (o : Option Request) (item : ReplyItem) (number : ℕ)
    (call : JournalCall) → IsReplyTo s StandsThere journal claims client floor say o item
    → (eqb item.stamp.calls number && accepted_at s journal item.stamp o) ≡ true
    → slice_get journal number ≡ Some call → call.client ≡ client
its_own s journal claims client floor say None item number call is hit at =
    absurd (false≢true (and_parts (eqb item.stamp.calls number) false hit).1)
its_own s journal claims client floor say (Some request) item number call is hit at =
    let here : item.stamp.calls ≡ number =
    eqb-true item.stamp.calls number (and_parts (eqb item.stamp.calls number)
    (accepts (reply_at s journal item.stamp request)) hit).0 in
    its_client s journal client say request item call
    (call_of s (take item.stamp.calls journal) client item.stamp.claims request
    (reply_at s journal item.stamp request)) refl is.reply
    (and_parts (eqb item.stamp.calls number)
    (accepts (reply_at s journal item.stamp request)) hit).1
    (ap (slice_get journal) here ∙ at)

-- ---- a client's replies

one_if : (b : Bool) → b ≡ true → cond {A = ℕ} b 1 0 ≡ 1
one_if b h = rw h refl

zero_if : (b : Bool) → b ≡ false → cond {A = ℕ} b 1 0 ≡ 0
zero_if b h = rw h refl

-- whether a reply accepted the call of a number
abbrev is_hit : {A : Type 0} → SetupParts → (A → Option Request) → List JournalCall → ℕ → A
    → ReplyItem → Bool
is_hit s asked journal number ask item =
    eqb item.stamp.calls number && accepted_at s journal item.stamp (asked ask)

-- none accepts a call before the place from which they go on
none_before : {A : Type 0} (s : SetupParts) (asked : A → Option Request)
    (says : A → Option Reply → Option Said) (journal : List JournalCall)
    (claims client number : ℕ) (floor : Stamp) (asks : List A) (items : List ReplyItem)
    → AreTold s asked says StandsThere journal claims client floor asks items
    → number < floor.calls → times_accepted s asked journal number asks items ≡ 0
none_before s asked says journal claims client number floor [] items told lt = refl
none_before s asked says journal claims client number floor (ask ∷ asks) [] told lt = refl
none_before s asked says journal claims client number floor (ask ∷ asks) (item ∷ items) told lt =
    let up = not_below s journal claims client floor (says ask) (asked ask) item told.0 in
    let accepted : Bool = accepted_at s journal item.stamp (asked ask) in
    elim (cases_Bool (is_hit s asked journal number ask item)) [
      | inl hit ↦
          absurd (omega (
            arith,
            lt,
            up,
            eqb-true item.stamp.calls number
                (and_parts (eqb item.stamp.calls number) accepted hit).0,
          ))
      | inr off ↦
          omega (
            arith,
            zero_if (is_hit s asked journal number ask item) off,
            none_before s asked says journal claims client number (next_floor item.stamp accepted)
                asks items told.1 (omega (arith, lt, up, floor_calls item.stamp accepted)),
          )
    ]

-- after a reply that accepted the call of a number no other one does
none_behind : (number : ℕ) (place : Stamp) (accepted : Bool)
    → (eqb place.calls number && accepted) ≡ true → number < (next_floor place accepted).calls
none_behind number place true hit =
    omega (arith, eqb-true place.calls number (and_parts (eqb place.calls number) true hit).0)
none_behind number place false hit =
    absurd (false≢true (and_parts (eqb place.calls number) false hit).1)

-- at most one accepted the call of a number
at_most_one : {A : Type 0} (s : SetupParts) (asked : A → Option Request)
    (says : A → Option Reply → Option Said) (journal : List JournalCall)
    (claims client number : ℕ) (floor : Stamp) (asks : List A) (items : List ReplyItem)
    → AreTold s asked says StandsThere journal claims client floor asks items
    → times_accepted s asked journal number asks items ≤ 1
at_most_one s asked says journal claims client number floor [] items told = omega arith
at_most_one s asked says journal claims client number floor (ask ∷ asks) [] told = omega arith
at_most_one s asked says journal claims client number floor (ask ∷ asks) (item ∷ items) told =
    let accepted : Bool = accepted_at s journal item.stamp (asked ask) in
    let next : Stamp = next_floor item.stamp accepted in
    elim (cases_Bool (is_hit s asked journal number ask item)) [
      | inl hit ↦
          omega (
            arith,
            one_if (is_hit s asked journal number ask item) hit,
            none_before s asked says journal claims client number next asks items told.1
                (none_behind number item.stamp accepted hit),
          )
      | inr off ↦
          omega (
            arith,
            zero_if (is_hit s asked journal number ask item) off,
            at_most_one s asked says journal claims client number next asks items told.1,
          )
    ]

-- where one accepted it, it is counted
at_least_one : {A : Type 0} (s : SetupParts) (asked : A → Option Request)
    (journal : List JournalCall) (number : ℕ) (asks : List A) (items : List ReplyItem)
    → has_accepted s asked journal number asks items ≡ true
    → 1 ≤ times_accepted s asked journal number asks items
at_least_one s asked journal number [] items has = absurd (false≢true has)
at_least_one s asked journal number (ask ∷ asks) [] has = absurd (false≢true has)
at_least_one s asked journal number (ask ∷ asks) (item ∷ items) has =
    elim (cases_Bool (is_hit s asked journal number ask item)) [
      | inl hit ↦ omega (arith, one_if (is_hit s asked journal number ask item) hit)
      | inr off ↦
          let rest : has_accepted s asked journal number asks items ≡ true =
          sym (ap (λ (b : Bool). b || has_accepted s asked journal number asks items) off) ∙ has in
          omega (
            arith,
            zero_if (is_hit s asked journal number ask item) off,
            at_least_one s asked journal number asks items rest,
          )
    ]

-- no reply to another client accepted the call
none_other : {A : Type 0} (s : SetupParts) (asked : A → Option Request)
    (says : A → Option Reply → Option Said) (journal : List JournalCall)
    (claims client number : ℕ) (call : JournalCall) (floor : Stamp) (asks : List A)
    (items : List ReplyItem)
    → AreTold s asked says StandsThere journal claims client floor asks items
    → slice_get journal number ≡ Some call → (client ≡ call.client → ⊥)
    → times_accepted s asked journal number asks items ≡ 0
none_other s asked says journal claims client number call floor [] items told at other = refl
none_other s asked says journal claims client number call floor (ask ∷ asks) [] told at
    other = refl
none_other s asked says journal claims client number call floor (ask ∷ asks) (item ∷ items)
    told at other =
    elim (cases_Bool (is_hit s asked journal number ask item)) [
      | inl hit ↦
          absurd (other (sym (its_own s journal claims client floor (says ask) (asked ask) item
          number call told.0 hit at)))
      | inr off ↦
          omega (
            arith,
            zero_if (is_hit s asked journal number ask item) off,
            none_other s asked says journal claims client number call
                (next_floor item.stamp (accepted_at s journal item.stamp (asked ask))) asks items
                told.1 at other,
          )
    ]

-- ---- all clients

-- each call was accepted by just one reply, which is one to its own client
pub each_once : {A : Type 0} (s : SetupParts) (asked : A → Option Request)
    (says : A → Option Reply → Option Said) (journal : List JournalCall) (claims : ℕ)
    (asks : ℕ → List A) (items : List ReplyItem)
    → AreReplies s asked says StandsThere journal claims asks items
    → AreCallsReplied s asked journal asks items → IsEachCallOnce s asked journal asks items
each_once s asked says journal claims asks items are replied number call at client =
    elim (cases_Bool (eqb client call.client)) [
      | inl own ↦
          let same : client ≡ call.client = eqb-true client call.client own in
          let has : has_accepted s asked journal number (asks client) (replies_to client items)
          ≡ true =
          ap (λ (c : ℕ). has_accepted s asked journal number (asks c) (replies_to c items)) same
          ∙ replied number call at in
          omega (
            arith,
            one_if (eqb client call.client) own,
            at_most_one s asked says journal claims client number first_floor (asks client)
                (replies_to client items) (are.replies client),
            at_least_one s asked journal number (asks client) (replies_to client items) has,
          )
      | inr other ↦
          none_other s asked says journal claims client number call first_floor (asks client)
          (replies_to client items) (are.replies client) at
          (λ same. false≢true (sym other ∙ eq-eqb client call.client same))
          ∙ sym (zero_if (eqb client call.client) other)
    ]
