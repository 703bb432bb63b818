-- A journal that is made that of the book.
use Rattle.std.proofs.Common.{◌≡◌, ℕ, zero, suc, ◌+◌, ◌≤◌, List, [], ◌∷◌, ◌++◌, length, set, take}
use Rattle.std.proofs.Common.{Option, Some, None, refl, sym, ◌∙◌, arith}
use Rattle.std.specs.Prelude.{IfSome, slice_get}
use Rattle.std.specs.Option.{option_to_list}
use Rattle.std.proofs.lemmas.List.{nil_from_length}
use Rattle.map_entry.specs.Setup.{SetupParts}
use Rattle.book_words.specs.declared.calls.JournalCall.{JournalCall}
use Rattle.book_words.specs.declared.requests.Request.{Request}
use Rattle.plain_book.specs.Book.{call_of, reply_of}
use Rattle.plain_book.proofs.Giving.{call_parts}
use Rattle.interleavings.proofs.Ranging.{both}

pub put_right : {X : Type 0} (xs ys : List X) (n : ℕ) (y : X) → length xs ≡ n + 1
    → length ys ≤ n + 1 → take n xs ≡ take n ys
    → slice_get ys n ≡ Some y → set xs n y ≡ ys
put_right [] ys n y long few same is = absurd (omega (arith, long))
put_right (x ∷ xs) [] n y long few same is = absurd cc
put_right {X} (x ∷ xs) (z ∷ ys) zero y long few same is =
    let here : z ≡ y = cc in
    let none : xs ≡ [] = nil_from_length xs (omega (arith, long)) in
    let no_more : ys ≡ [] = nil_from_length ys (omega (arith, few)) in
    both (λ (a : X) (b : List X). a ∷ b) (sym here) (none ∙ sym no_more)
put_right {X} (x ∷ xs) (z ∷ ys) (suc n) y long few same is =
    let head : x ≡ z = cc in
    let tail : take n xs ≡ take n ys = cc in
    both (λ (a : X) (b : List X). a ∷ b) head
    (put_right xs ys n y (omega (arith, long)) (omega (arith, few)) tail is)

pub at_most_one : {X : Type 0} (o : Option X) → length (option_to_list o) ≤ 1
at_most_one None = omega arith
at_most_one (Some x) = omega arith

pub last_of : {X : Type 0} (P : X → Type 0) (xs : List X) (o : Option X) → IfSome o P
    → IfSome (slice_get (xs ++ option_to_list o) (length xs)) P
last_of P [] None h = tt
last_of P [] (Some x) h = h
last_of P (x ∷ xs) o h = last_of P xs o h

if_call : (s : SetupParts) (journal : List JournalCall) (client claims : ℕ) (request copy : Request)
    (o : Option JournalCall) → copy ≡ request
    → call_of s journal client claims request (reply_of s journal claims request) ≡ o
    → IfSome o (λ call. call.request ≡ copy)
if_call s journal client claims request copy None same e = tt
if_call s journal client claims request copy (Some call) same e =
    (call_parts s journal client claims request (reply_of s journal claims request) call e).asks
    ∙ sym same

pub asks_it : (s : SetupParts) (journal : List JournalCall) (client claims : ℕ)
    (request copy : Request) → copy ≡ request
    → IfSome (slice_get
    (journal ++ option_to_list
    (call_of s journal client claims request (reply_of s journal claims request))) (length journal))
    (λ call. call.request ≡ copy)
asks_it s journal client claims request copy same =
    let o : Option JournalCall =
    call_of s journal client claims request (reply_of s journal claims request) in
    last_of (λ call. call.request ≡ copy) journal o
    (if_call s journal client claims request copy o same refl)
