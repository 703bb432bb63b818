-- What is shared, after one more answer.
use Rattle.std.proofs.Common.{◌≡◌, ℕ, ◌<◌, Bool, true, false, List, [], ◌∷◌, ◌++◌, length, map}
use Rattle.std.proofs.Common.{Some, refl, sym, ap, ◌∙◌, subst, append_assoc, inl, inr}
use Rattle.std.specs.Prelude.{Result, Ok, Err, IfOk, OnErr, drop, eqb, slice_get, slice_set}
use Rattle.std.proofs.lemmas.Bool.{cases_Bool, eqb-true, eqb-false}
use Rattle.std.proofs.lemmas.List.{append-nil, get_or-set_same, get_or-set_other, map-append}
use Rattle.std.proofs.lemmas.List.Elements.{filter-append}
use Rattle.io_caps.specs.declared.memory.NoMemory.{NoMemory}
use Rattle.claim_word.specs.Faces.{IsPublisherOf, TableFace}
use Rattle.interleavings.specs.Told.{given_to, requests_of}
use Rattle.book_words.specs.declared.calls.JournalCall.{JournalCall}
use Rattle.book_words.specs.declared.given.Given.{Given}
use Rattle.book_words.specs.declared.replies.Reply.{Reply}
use Rattle.book_words.specs.declared.requests.Request.{Request}
use Rattle.book_words.specs.declared.requests.Stamp.{Stamp}
use Rattle.plain_book.specs.Book.{call_of}
use Rattle.plain_book.specs.Desk.{IsAsked}
use Rattle.plain_book.specs.Given.{given_item}
use Rattle.std.specs.Option.{option_to_list}
use Rattle.live_book.specs.Books.{BookFace}
use Rattle.live_book.specs.Named.{IsNextAnswered, IsShared, left_of, without_first}
use Rattle.live_book.specs.Tries.{GoesOn, IsSame}
use Rattle.live_book.proofs.Lending.{goes_since}

requests_more : (since : List Given) (answer : Given) (k : ℕ)
    → requests_of (since ++ answer ∷ []) k ≡ requests_of since k ++ requests_of (answer ∷ []) k
requests_more since answer k =
    ap (map (λ (g : Given). g.request))
    (filter-append (λ (g : Given). eqb g.client k) since (answer ∷ []))
    ∙ map-append (λ (g : Given). g.request) (given_to k since) (given_to k (answer ∷ []))

-- the answer is the client's
own_asks : (client k : ℕ) (since : List Given) (answer : Given) (old new : List (List Request))
    → answer.client ≡ client → left_of old client ≡ answer.request ∷ left_of new client
    → eqb answer.client k ≡ true
    → requests_of (since ++ answer ∷ []) k ++ left_of new k ≡ requests_of since k ++ left_of old k
own_asks client k since answer old new by asks hit =
    let same : client ≡ k = sym by ∙ eqb-true answer.client k hit in
    let one : requests_of (answer ∷ []) k ≡ answer.request ∷ [] = rw hit refl in
    ap (λ (xs : List Request). xs ++ left_of new k) (requests_more since answer k
    ∙ ap (λ (xs : List Request). requests_of since k ++ xs) one)
    ∙ append_assoc (requests_of since k) (answer.request ∷ []) (left_of new k)
    ∙ ap (λ (xs : List Request). requests_of since k ++ xs)
    (sym (subst (λ (n : ℕ). left_of old n ≡ answer.request ∷ left_of new n) same asks))

-- or another's
other_asks : (client k : ℕ) (since : List Given) (answer : Given) (old new : List (List Request))
    → answer.client ≡ client → new ≡ without_first old client → eqb answer.client k ≡ false
    → requests_of (since ++ answer ∷ []) k ++ left_of new k ≡ requests_of since k ++ left_of old k
other_asks client k since answer old new by left miss =
    let none : requests_of (answer ∷ []) k ≡ [] = rw miss refl in
    let apart : k ≡ client → ⊥ = λ e. eqb-false answer.client k miss (by ∙ sym e) in
    let same : left_of new k ≡ left_of old k = ap (λ (l : List (List Request)). left_of l k) left
    ∙ get_or-set_other old client k (drop 1 (left_of old client)) [] apart in
    ap (λ (xs : List Request). xs ++ left_of new k) (requests_more since answer k
    ∙ ap (λ (xs : List Request). requests_of since k ++ xs) none
    ∙ append-nil (requests_of since k))
    ∙ ap (λ (xs : List Request). requests_of since k ++ xs) same

asks_stay : (client : ℕ) (since : List Given) (b c : BookFace) (old new : List (List Request))
    (next : IsNextAnswered client b c old new) (k : ℕ)
    → requests_of (since ++ next.answer ∷ []) k ++ left_of new k ≡ requests_of since k
    ++ left_of old k
asks_stay client since b c old new next k = elim (cases_Bool (eqb next.answer.client k)) [
  | inl hit ↦ own_asks client k since next.answer old new next.by next.asks hit
  | inr miss ↦ other_asks client k since next.answer old new next.by next.left miss
]

answered : (t : TableFace) (named : BookFace) (asks : ℕ → List Request) (b c : BookFace)
    (old new : List (List Request)) (client : ℕ) → IsShared t named asks b old
    → IsPublisherOf t c.publisher → GoesOn b c → IsNextAnswered client b c old new
    → IsShared t named asks c new
answered t named asks b c old new client is of goes_on next = record {
  of = of;
  goes_on = goes_since named b c is.goes_on goes_on;
  since = is.since ++ next.answer ∷ [];
  given_is = next.given ∙ ap (λ (xs : List Given). xs ++ next.answer ∷ []) is.given_is
      ∙ append_assoc named.given is.since (next.answer ∷ []);
  calls = is.calls ++ next.calls;
  journal_is = next.journal ∙ ap (λ (xs : List JournalCall). xs ++ next.calls) is.journal_is
      ∙ append_assoc named.journal is.calls next.calls;
  asks_are = λ k. asks_stay client is.since b c old new next k ∙ is.asks_are k;
}

still : (t : TableFace) (named : BookFace) (asks : ℕ → List Request) (b c : BookFace)
    (old new : List (List Request)) → IsShared t named asks b old → IsPublisherOf t c.publisher
    → GoesOn b c → c.given ≡ b.given → c.journal ≡ b.journal → new ≡ old
    → IsShared t named asks c new
still t named asks b c old new is of goes_on given journal left = record {
  of = of;
  goes_on = goes_since named b c is.goes_on goes_on;
  since = is.since;
  given_is = given ∙ is.given_is;
  calls = is.calls;
  journal_is = journal ∙ is.journal_is;
  asks_are = λ k. ap (λ (l : List (List Request)). requests_of is.since k ++ left_of l k) left
      ∙ is.asks_are k;
}

-- whatever comes
pub shared_on : (t : TableFace) (named : BookFace) (asks : ℕ → List Request) (b c : BookFace)
    (old new : List (List Request)) (client : ℕ) (r : Result Bool NoMemory)
    → IsShared t named asks b old → IsPublisherOf t c.publisher → GoesOn b c
    → IfOk r (λ more. more ≡ true → IsNextAnswered client b c old new)
    → IfOk r (λ more. more ≡ false → c ≡ b) → IfOk r (λ more. more ≡ false → new ≡ old)
    → OnErr r (IsSame b c) → OnErr r (new ≡ old) → IsShared t named asks c new
shared_on t named asks b c old new client (Ok true) is of goes_on next none left err err_left =
    answered t named asks b c old new client is of goes_on (next refl)
shared_on t named asks b c old new client (Ok false) is of goes_on next none left err err_left =
    still t named asks b c old new is of goes_on (ap (λ (z : BookFace). z.given) (none refl))
    (ap (λ (z : BookFace). z.journal) (none refl)) (left refl)
shared_on t named asks b c old new client (Err e) is of goes_on next none left err err_left =
    still t named asks b c old new is of goes_on err.given err.journal err_left

-- ---- the first of a list

first_is : (old : List (List Request)) (client : ℕ) (list : List Request) (request : Request)
    → client < length old → left_of old client ≡ list → Some request ≡ slice_get list 0
    → left_of old client ≡ request ∷ left_of (slice_set old client (drop 1 list)) client
first_is old client [] request low is e = absurd cc
first_is old client (x ∷ xs) request low is e =
    let same : x ≡ request = cc in
    is ∙ ap (λ (y : Request). y ∷ xs) same
    ∙ ap (λ (ys : List Request). request ∷ ys) (sym (get_or-set_same old client xs [] low))

-- the first that a client asks was answered and taken off
pub next_is : (b c : BookFace) (old new : List (List Request)) (client : ℕ) (request : Request)
    (reply : Reply) (stamp : Stamp) → client < length old
    → Some request ≡ slice_get (left_of old client) 0 → new ≡ without_first old client
    → c.given ≡ b.given ++ given_item client request reply stamp ∷ []
    → IsAsked b.setup b.journal c.journal client request reply stamp
    → IsNextAnswered client b c old new
next_is b c old new client request reply stamp low first left given asked = record {
  answer = given_item client request reply stamp;
  by = refl;
  given = given;
  asks = first_is old client (left_of old client) request low refl first
      ∙ ap (λ (l : List (List Request)). request ∷ left_of l client) (sym left);
  left = left;
  calls = option_to_list (call_of b.setup b.journal client stamp.claims request reply);
  journal = asked.journal;
}

-- the same from a book that differs in its places alone
pub next_from : (a b c : BookFace) (old new : List (List Request)) (client : ℕ)
    → b ≡ record a { places = b.places } → IsNextAnswered client b c old new
    → IsNextAnswered client a c old new
next_from a b c old new client same next = record {
  answer = next.answer;
  by = next.by;
  given = next.given ∙ ap (λ (z : BookFace). z.given ++ next.answer ∷ []) same;
  asks = next.asks;
  left = next.left;
  calls = next.calls;
  journal = next.journal ∙ ap (λ (z : BookFace). z.journal ++ next.calls) same;
}
