-- Steps, one more at a time, and the claims that they make.
use Rattle.std.proofs.Common.{◌≡◌, ℕ, ◌+◌, ◌<◌, ◌≤◌, List, [], ◌∷◌, ◌++◌, length, get_or, take, map}
use Rattle.std.proofs.Common.{Option, Some, None, refl, sym, ap, ◌∙◌, arith, zero-add}
use Rattle.std.specs.Prelude.{All}
use Rattle.std.specs.List.{sum_by}
use Rattle.std.proofs.lemmas.List.{take_more}
use Rattle.std.proofs.lemmas.List.Elements.{filter_map-append}
use Rattle.std.proofs.lemmas.List.Sums.{sum_by-append, sum_by-cons, sum_by-take-le, sum_by_more}
use Rattle.http_wire.specs.Stream.{Answer}
use Rattle.map_entry.specs.Setup.{SetupParts}
use Rattle.capture_file.specs.Items.{IsItemThere, claims_of}
use Rattle.capture_file.specs.declared.items.Item.{Item}
use Rattle.capture_file.specs.declared.items.Item.TheVariants.{Packet, Piece, Ask as AskItem, Work}
use Rattle.book_words.specs.declared.history.Said.{Said}
use Rattle.book_words.specs.declared.replies.Reply.{Reply}
use Rattle.book_words.specs.declared.requests.Request.{Request}
use Rattle.serial_player.specs.Asks.{ask_of, asked_by, says_by}
use Rattle.serial_player.specs.Resolved.{IsClientThere}
use Rattle.serial_player.specs.Serial.{Played, asks_in, claims_by, play_all, play_from, play_step}
use Rattle.serial_player.specs.Serial.{played, step_ask, steps_by, steps_in, steps_of, told_by}
use Rattle.serial_player.specs.Streams.{Turn}
use Rattle.serial_player.specs.declared.asks.Step.{Step}
use Rattle.serial_player.specs.declared.asks.Step.TheVariants.{Claims, Ask}

-- ---- one more

pub more : {X : Type 0} (xs : List X) (i : ℕ) (x : X) → i < length xs → x ≡ get_or xs i x
    → take i xs ++ x ∷ [] ≡ take (i + 1) xs
more {X} xs i x lt is =
    ap (λ (y : X). take i xs ++ y ∷ []) is ∙ sym (take_more xs i x lt)

-- ---- steps after steps

pub play_behind : (s : SetupParts) (p : Played) (xs ys : List Step)
    → play_from s p (xs ++ ys) ≡ play_from s (play_from s p xs) ys
play_behind s p [] ys = refl
play_behind s p (x ∷ xs) ys = play_behind s (play_step s p x) xs ys

pub play_more : (s : SetupParts) (steps : List Step) (i : ℕ) (step : Step) → i < length steps
    → step ≡ get_or steps i step
    → play_step s (play_all s (take i steps)) step ≡ play_all s (take (i + 1) steps)
play_more s steps i step lt is =
    sym (play_behind s (played 0 [] [] []) (take i steps) (step ∷ []))
    ∙ ap (play_all s) (more steps i step lt is)

-- ---- asks of steps

pub asks_more : (client : ℕ) (steps : List Step) (i : ℕ) (step : Step) → i < length steps
    → step ≡ get_or steps i step
    → asks_in client (take i steps) ++ asks_in client (step ∷ [])
    ≡ asks_in client (take (i + 1) steps)
asks_more client steps i step lt is =
    sym (filter_map-append (step_ask client) (take i steps) (step ∷ []))
    ∙ ap (asks_in client) (more steps i step lt is)

-- ---- claims of steps

told_claims : (s : SetupParts) (p : Played) (client : ℕ) (says : Option Reply
    → Option Said) (o : Option Request) → (told_by s p client says o).claims ≡ p.claims
told_claims s p client says None = refl
told_claims s p client says (Some request) = refl

step_claims : (s : SetupParts) (p : Played) (step : Step)
    → (play_step s p step).claims ≡ p.claims + claims_by step
step_claims s p (Claims count) = refl
step_claims s p (Ask client ask) =
    omega (arith, told_claims s p client (says_by s.device ask) (asked_by s.device ask))

from_claims : (s : SetupParts) (p : Played) (steps : List Step)
    → (play_from s p steps).claims ≡ p.claims + sum_by claims_by steps
from_claims s p [] = omega arith
from_claims s p (step ∷ steps) =
    omega (
      arith,
      from_claims s (play_step s p step) steps,
      step_claims s p step,
      sum_by-cons claims_by step steps,
    )

-- as many claims are made as the steps say
pub all_claims : (s : SetupParts) (steps : List Step)
    → (play_all s steps).claims ≡ sum_by claims_by steps
all_claims s steps = let all = from_claims s (played 0 [] [] []) steps in omega (arith, all)

-- there is room for the next step's claims where there is for those of all
pub next_claims : (s : SetupParts) (steps : List Step) (i m : ℕ) (step : Step) → i < length steps
    → step ≡ get_or steps i step → sum_by claims_by steps ≤ m
    → (play_all s (take i steps)).claims + claims_by step ≤ m
next_claims s steps i m step lt is few =
    let one = ap claims_by is in
    omega (
      arith,
      all_claims s (take i steps),
      one,
      sum_by_more claims_by steps i step lt,
      sum_by-take-le claims_by steps (i + 1),
      few,
    )

-- ---- claims of records

asks_make_none : (client : ℕ) (answers : List Answer)
    → sum_by claims_by (map (λ answer. Ask client (ask_of answer)) answers) ≡ 0
asks_make_none client [] = refl
asks_make_none client (answer ∷ answers) =
    let first : Step = Ask client (ask_of answer) in
    let rest = map (λ a. Ask client (ask_of a)) answers in
    omega (arith, sum_by-cons claims_by first rest, asks_make_none client answers)

item_claims : (x : Item) (answers : List Answer) → sum_by claims_by (steps_by x answers) ≡ claims_of x
item_claims (Packet input bytes) answers = refl
item_claims (Piece client bytes) answers = asks_make_none client answers
item_claims (AskItem client request) answers = refl
item_claims (Work claims) answers = zero-add claims

turns_claims : (turns : List Turn)
    → sum_by claims_by (steps_of turns) ≡ sum_by claims_of (map (λ t. t.item) turns)
turns_claims [] = refl
turns_claims (t ∷ turns) =
    omega (
      arith,
      sum_by-append claims_by (steps_in t) (steps_of turns),
      item_claims t.item t.answers,
      turns_claims turns,
      sum_by-cons claims_of t.item (map (λ x. x.item) turns),
    )

-- steps make the claims of the records whose they are
pub resolved_claims : (items : List Item) (steps : List Step) (turns : List Turn)
    → map (λ t. t.item) turns ≡ items → steps ≡ steps_of turns
    → sum_by claims_by steps ≡ sum_by claims_of items
resolved_claims items steps turns items_are steps_are =
    ap (sum_by claims_by) steps_are ∙ turns_claims turns ∙ ap (sum_by claims_of) items_are

-- ---- clients of records

client_there : (inputs : ℕ) (x : Item) → IsItemThere inputs x → IsClientThere x
client_there inputs (Packet input bytes) is = tt
client_there inputs (Piece client bytes) is = is
client_there inputs (AskItem client request) is = is
client_there inputs (Work claims) is = tt

pub clients_there : (inputs : ℕ) (items : List Item) → All (IsItemThere inputs) items
    → All IsClientThere items
clients_there inputs items all i d lt = client_there inputs (get_or items i d) (all i d lt)
