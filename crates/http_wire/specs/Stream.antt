-- The answers to the bytes of a client, whatever the pieces in which they came. (RFC 9112, section
-- 9.3. What is refused, and that nothing is read after it, is this project's own.)
use Rattle.std.specs.Prelude.{◌≡◌, ℕ, ◌<◌, ◌⊎◌, Bool, true, false, List}
use Rattle.std.specs.Prelude.{[], ◌∷◌, ◌++◌, length, if◌then◌else◌}
use Rattle.httparse.specs.Grammar.{RequestHead}
use Rattle.http_wire.specs.Head.{IsFit, IsAwaited, IsDoubtful, IsRefusedHead}
use Rattle.http_wire.specs.Request.{framing_in, request_in}
use Rattle.http_wire.specs.declared.fields.Framing.TheVariants as framing
use Rattle.http_wire.specs.declared.request.HttpRequest.{HttpRequest}
use Rattle.http_wire.specs.declared.stream.Next.{Next}
use Rattle.http_wire.specs.declared.stream.Next.TheVariants as next

-- the bytes begin with this request, its head and its whole body, and the rest follows
pub record BeginsWith (bytes : List ℕ) (request : HttpRequest) (rest : List ℕ) : Type 0 where
  pub head : RequestHead
  pub body : List ℕ
  pub fits : IsFit bytes head (body ++ rest)
  pub frames : framing_in head ≡ framing.Body (length body)
  pub request_is : request ≡ request_in head body

-- the bytes begin with a head, and a part of its body is missing
abbrev pub IsShort : List ℕ → Type 0
IsShort bytes = (h : RequestHead) × (rest : List ℕ) × (n : ℕ) × IsFit bytes h rest
    × (framing_in h ≡ framing.Body n) × (length rest < n)

-- the bytes begin with a head whose fields are refused
abbrev pub IsRefusedBody : List ℕ → ℕ → Type 0
IsRefusedBody bytes status = (h : RequestHead) × (rest : List ℕ) × IsFit bytes h rest
    × (framing_in h ≡ framing.Refused status)

-- there is nothing to answer before more bytes come
abbrev pub IsWaiting : List ℕ → Type 0
IsWaiting bytes = IsAwaited bytes ⊎ IsShort bytes

-- the bytes are refused with this status
abbrev pub IsRefused : List ℕ → ℕ → Type 0
IsRefused bytes status = IsRefusedHead bytes status ⊎ IsRefusedBody bytes status

-- where a stream stands: the bytes that no answer has taken, or its end
pub data Stand : Type 0 where
  holds : List ℕ → Stand
  ended : Stand

-- where it stands after a request
abbrev pub behind : HttpRequest → List ℕ → Stand
behind request rest = if request.closes then ended else holds rest

-- a piece of the client's bytes, which is not kept after the end
abbrev pub fed : Stand → List ℕ → Stand
fed (holds bytes) piece = holds (bytes ++ piece)
fed ended piece = ended

-- one step of a stream: where it stood, the answer, where it stands
abbrev pub Steps : Stand → Next → Stand → Type 0
Steps (holds bytes) next.Need to = IsWaiting bytes × (to ≡ holds bytes)
Steps (holds bytes) (next.Request request) to = (rest : List ℕ) × BeginsWith bytes request rest
    × (to ≡ behind request rest)
Steps (holds bytes) (next.Bad status) to = IsRefused bytes status × (to ≡ ended)
Steps (holds bytes) next.Ended to = ⊥
Steps ended next.Need to = ⊥
Steps ended (next.Request request) to = ⊥
Steps ended (next.Bad status) to = ⊥
Steps ended next.Ended to = to ≡ ended

-- what a client is answered: a request of its own that has come whole, or a status with which it is
-- refused
pub data Answer : Type 0 where
  whole : HttpRequest → Answer
  refused : ℕ → Answer

-- the answer, where there is one, that was found next
abbrev pub answers_of : Next → List Answer
answers_of next.Need = []
answers_of (next.Request request) = whole request ∷ []
answers_of (next.Bad status) = refused status ∷ []
answers_of next.Ended = []

-- after a request that closes nothing more is answered, and after another the answers go on
abbrev pub GoesOn : Bool → Type 0 → List Answer → Stand → Type 0
GoesOn true Later answers stand = (answers ≡ []) × (stand ≡ ended)
GoesOn false Later answers stand = Later

-- the answers to all the bytes so far, and where they leave the stream: each request, one after
-- the other, up to the first that closes, or to what is refused
abbrev pub IsAnswered : List ℕ → List Answer → Stand → Type 0
IsAnswered bytes [] stand = stand ≡ holds bytes
IsAnswered bytes (whole request ∷ answers) stand =
    (rest : List ℕ) × BeginsWith bytes request rest
    × GoesOn request.closes (IsAnswered rest answers stand) answers stand
IsAnswered bytes (refused status ∷ answers) stand = IsRefused bytes status × (answers ≡ [])
    × (stand ≡ ended)

-- whatever came and was answered before, the same is answered to it with a piece after it
abbrev pub FeedsOn : Stand → List ℕ → Stand → Type 0
FeedsOn old piece new = (bytes : List ℕ) (answers : List Answer) → IsAnswered bytes answers old
    → IsAnswered (bytes ++ piece) answers new

-- whatever came and was answered before, what was found is the next answer to it
abbrev pub AnswersOn : Stand → Next → Stand → Type 0
AnswersOn old found new = (bytes : List ℕ) (answers : List Answer) → IsAnswered bytes answers old
    → IsAnswered bytes (answers ++ answers_of found) new

-- there is nothing to answer where a stream stands before more bytes come, or it has ended
abbrev pub IsSettled : Stand → Type 0
IsSettled (holds bytes) = IsWaiting bytes
IsSettled ended = Unit {0}

-- two lists of answers to the bytes begin alike, and the bytes that this front leaves are doubtful
pub record PartAtDoubtful (bytes : List ℕ) (xs ys : List Answer) : Type 0 where
  pub front : List Answer
  pub rest : List ℕ
  pub answered : IsAnswered bytes front (holds rest)
  pub doubtful : IsDoubtful rest
  pub more : List Answer
  pub other : List Answer
  pub first : xs ≡ front ++ more
  pub second : ys ≡ front ++ other

-- Bytes have just one list of answers with which nothing is left to answer, and it leaves the
-- stream in one place; but after a front of it, bytes that can begin no head within the limits may
-- be refused sooner or later, and some with one status or another.
abbrev pub AnswersAreOne : Type 0
AnswersAreOne = (bytes : List ℕ) (xs ys : List Answer) (s t : Stand)
    → IsAnswered bytes xs s → IsSettled s → IsAnswered bytes ys t → IsSettled t
    → ((xs ≡ ys) × (s ≡ t)) ⊎ PartAtDoubtful bytes xs ys
