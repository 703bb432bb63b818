-- What is answered to a request, given what the book replied. (After AMWA IS-08 v1.0.)
use Rattle.std.specs.Prelude.{◌≡◌, ℕ, List, [], ◌++◌, Bool, true, eqb, find, Option, Some, None}
use Rattle.http_wire.specs.Response.{response_text}
use Rattle.http_wire.specs.declared.request.HttpRequest.{HttpRequest}
use Rattle.http_wire.specs.declared.response.Extra.{Extra}
use Rattle.http_wire.specs.declared.response.Extra.TheVariants.{Nothing}
use Rattle.http_wire.specs.declared.response.Extra.TheVariants.{Preflight as PreflightLines}
use Rattle.io_caps.specs.declared.device.DeviceParts.{DeviceParts}
use Rattle.map_entry.specs.Setup.{SetupParts}
use Rattle.book_words.specs.Calls.{action_of, when_of}
use Rattle.plain_book.specs.Desk.{IsAsked}
use Rattle.book_words.specs.declared.calls.JournalCall.{JournalCall}
use Rattle.book_words.specs.declared.replies.PendingItem.{PendingItem}
use Rattle.book_words.specs.declared.replies.Reply.{Reply}
use Rattle.book_words.specs.declared.replies.Reply.TheVariants.{Activated, Scheduled, Deleted}
use Rattle.book_words.specs.declared.replies.Reply.TheVariants.{Active, Pending, Refused as Refusal}
use Rattle.book_words.specs.declared.requests.Request.{Request}
use Rattle.book_words.specs.declared.requests.Stamp.{Stamp}
use Rattle.channel_json.specs.Activations.{accepted_text, item_text, pending_text, active_text}
use Rattle.channel_json.specs.Errors.{error_text}
use Rattle.channel_json.specs.Resources.{resource_text}
use Rattle.api_routes.specs.declared.wrong.ApiFault.{ApiFault}
use Rattle.api_routes.specs.declared.wrong.ApiFault.TheVariants.{NoActivation, Refused, Stream}
use Rattle.api_routes.specs.declared.wrong.ApiFault.TheVariants.{NoMemory}
use Rattle.api_routes.specs.declared.plan.Part.{Part}
use Rattle.api_routes.specs.declared.plan.Part.TheVariants.{Item, Row}
use Rattle.api_routes.specs.declared.plan.Plan.{Plan}
use Rattle.api_routes.specs.declared.plan.Plan.TheVariants.{Preflight, Refuse, Show, Ask}
use Rattle.api_routes.specs.declared.answer.Answer.{Answer}
use Rattle.api_routes.specs.declared.serve.Answered.{Answered}
use Rattle.api_routes.specs.declared.serve.Answered.TheVariants.{Still, At}
use Rattle.api_routes.specs.Plan.{plan_of, request_asked}
use Rattle.api_routes.specs.Wrongs.{status_of, text_of, extra_of}

-- a status, what is said besides, and a body
abbrev pub said : ℕ → Extra → List ℕ → Answer
said status extra body = record { status = status; extra = extra; body = body }

-- what is said of something wrong
abbrev pub said_wrong : ApiFault → Answer
said_wrong wrong =
    said (status_of wrong) (extra_of wrong) (error_text (status_of wrong) (text_of wrong))

-- ---- what is said of the book's reply

-- the pending activation of an id, or that there is none
abbrev pub said_item : DeviceParts → Option PendingItem → Answer
said_item device None = said_wrong NoActivation
said_item device (Some item) = said 200 Nothing (item_text device item)

-- the pending activations: all, or the one that is asked for
abbrev pub said_pending : DeviceParts → Part → List PendingItem → Answer
said_pending device (Item id) items = said_item device (find (λ item. eqb item.id id) items)
said_pending device part items = said 200 Nothing (pending_text device items)

-- the one output that is asked for, or all
abbrev pub only_of : Part → Option ℕ
only_of (Row output) = Some output
only_of part = None

-- an accepted activation is shown with what was asked; a deletion leaves nothing to show
abbrev pub said_reply : DeviceParts → Request → Part → Reply → Answer
said_reply device request part (Activated id tick offset) =
    said 200 Nothing (accepted_text device id (when_of request) tick offset (action_of request))
said_reply device request part (Scheduled id tick offset) =
    said 202 Nothing (accepted_text device id (when_of request) tick offset (action_of request))
said_reply device request part (Deleted id) = said 204 Nothing []
said_reply device request part (Active view) =
    said 200 Nothing (active_text device view (only_of part))
said_reply device request part (Pending items) = said_pending device part items
said_reply device request part (Refusal refusal) = said_wrong (Refused refusal)

-- a book that gave no reply found no memory
abbrev pub said_asked : DeviceParts → Request → Part → Option Reply → Answer
said_asked device request part None = said_wrong NoMemory
said_asked device request part (Some reply) = said_reply device request part reply

-- ---- the response

-- what is said by a plan, given the book's reply where that is asked
abbrev pub said_by : DeviceParts → Plan → Option Reply → Answer
said_by device Preflight reply = said 200 PreflightLines []
said_by device (Refuse wrong) reply = said_wrong wrong
said_by device (Show resource) reply = said 200 Nothing (resource_text device resource)
said_by device (Ask request part) reply = said_asked device request part reply

-- the bytes of what is said, and whether the connection ends after it
abbrev pub text_said : Bool → Answer → List ℕ
text_said closes s = response_text s.status s.extra closes s.body

-- the response to a request, given the book's reply where it is asked
abbrev pub response_of : DeviceParts → HttpRequest → Option Reply → List ℕ
response_of device http reply = text_said http.closes (said_by device (plan_of device http) reply)

-- the response to a stream of requests that is refused, after which the connection ends
abbrev pub stream_response : ℕ → List ℕ
stream_response status = text_said true (said_wrong (Stream status))

-- the response where memory ran out, after which the connection ends
abbrev pub no_memory_text : List ℕ
no_memory_text = text_said true (said_wrong NoMemory)

-- ---- what a call does

-- the book was asked with this request for a client, and replied at this place; `tells` is what its
-- desk tells of an answer
pub record IsReplied (s : SetupParts) (client : ℕ) (old new : List JournalCall)
    (tells : Request → Reply → Stamp → Type 0) (request : Request) (stamp : Stamp) : Type 0 where
  pub reply : Reply
  pub asked : IsAsked s old new client request reply stamp
  pub told : tells request reply stamp

-- and as much more was written as the reply says
pub record IsWritten (s : SetupParts) (client : ℕ) (old new : List JournalCall)
    (tells : Request → Reply → Stamp → Type 0) (request : Request) (stamp : Stamp)
    (text : Reply → List ℕ) (before after : List ℕ) : Type 0 where
  pub reply : Reply
  pub asked : IsAsked s old new client request reply stamp
  pub told : tells request reply stamp
  pub written : after ≡ before ++ text reply

-- Served without the book: it is not to be asked, its journal is as it was, and the response is
-- fixed. Or served by it: it was asked with the request that is to be asked, and the response is
-- that to its reply.
abbrev pub IsServed : DeviceParts → HttpRequest → SetupParts → ℕ → List JournalCall
    → List JournalCall → (Request → Reply → Stamp → Type 0) → List ℕ → List ℕ → Answered → Type 0
IsServed device http s client old new tells before after Still =
    (request_asked device http ≡ None) × (new ≡ old)
    × (after ≡ before ++ response_of device http None)
IsServed device http s client old new tells before after (At stamp) =
    (request : Request) × (request_asked device http ≡ Some request)
    × IsWritten s client old new tells request stamp
    (λ reply. response_of device http (Some reply)) before after

-- Not served, since memory ran out: the journal is as it was; or the book had answered at this
-- place.
abbrev pub IsUnserved : DeviceParts → HttpRequest → SetupParts → ℕ → List JournalCall
    → List JournalCall → (Request → Reply → Stamp → Type 0) → Option Stamp → Type 0
IsUnserved device http s client old new tells None = new ≡ old
IsUnserved device http s client old new tells (Some stamp) =
    (request : Request) × (request_asked device http ≡ Some request)
    × IsReplied s client old new tells request stamp

-- the same of a request with which the book is asked
abbrev pub IsUnwritten : SetupParts → ℕ → List JournalCall → List JournalCall
    → (Request → Reply → Stamp → Type 0) → Request → Option Stamp → Type 0
IsUnwritten s client old new tells request None = new ≡ old
IsUnwritten s client old new tells request (Some stamp) =
    IsReplied s client old new tells request stamp

-- what holds where the book was not asked
abbrev pub OnStill : Answered → Type 0 → Type 0
OnStill Still P = P
OnStill (At stamp) P = Unit {0}
