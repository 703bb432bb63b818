-- Statuses and texts of errors. (Statuses: AMWA IS-08 v1.0 and RFC 9110; the texts are this
-- project's own.)
use Rattle.std.specs.Prelude.{ℕ, ◌==◌, List, if◌then◌else◌, codes}
use Rattle.http_wire.specs.declared.response.Extra.{Extra}
use Rattle.http_wire.specs.declared.response.Extra.TheVariants.{Nothing}
use Rattle.map_entry.specs.declared.fault.RowFault.{RowFault}
use Rattle.map_entry.specs.declared.fault.RowFault.TheVariants.{Input as NoInput}
use Rattle.map_entry.specs.declared.fault.RowFault.TheVariants.{Channel as NoChannel, NotRoutable}
use Rattle.map_entry.specs.declared.fault.RowFault.TheVariants.{Block, Order}
use Rattle.book_words.specs.declared.replies.Refusal.{Refusal}
use Rattle.book_words.specs.declared.replies.Refusal.TheVariants.{Empty, Unknown, BadChannel}
use Rattle.book_words.specs.declared.replies.Refusal.TheVariants.{Locked, Row, Time as NoTime}
use Rattle.book_words.specs.declared.replies.Refusal.TheVariants.{NotPending}
use Rattle.channel_json.specs.declared.faults.Place.{Place}
use Rattle.channel_json.specs.declared.faults.Place.TheVariants.{Top, Activation, Mode, Time}
use Rattle.channel_json.specs.declared.faults.Place.TheVariants.{Action, Output, Cell}
use Rattle.channel_json.specs.declared.faults.BodyFault.{BodyFault}
use Rattle.channel_json.specs.declared.faults.BodyFault.TheVariants.{NotJson, Shape, UnknownOutput}
use Rattle.channel_json.specs.declared.faults.BodyFault.TheVariants.{UnknownInput}
use Rattle.api_routes.specs.declared.wrong.ApiFault.{ApiFault}
use Rattle.api_routes.specs.declared.wrong.ApiFault.TheVariants.{NoResource, NoMethod, Body}
use Rattle.api_routes.specs.declared.wrong.ApiFault.TheVariants.{NoActivation, Refused, Stream}
use Rattle.api_routes.specs.declared.wrong.ApiFault.TheVariants.{NoMemory}

-- ---- statuses

-- the status of a refusal of the book
abbrev pub refusal_status : Refusal → ℕ
refusal_status (Locked output) = 423
refusal_status (NotPending id) = 404
refusal_status refusal = 400

-- the status of what is wrong
abbrev pub status_of : ApiFault → ℕ
status_of NoResource = 404
status_of (NoMethod methods) = 405
status_of (Body fault) = 400
status_of NoActivation = 404
status_of (Refused refusal) = refusal_status refusal
status_of (Stream status) = status
status_of NoMemory = 503

-- ---- texts

-- where a body is not as it should be
abbrev pub place_text : Place → List ℕ
place_text Top = codes "body shape: top"
place_text Activation = codes "body shape: activation"
place_text Mode = codes "body shape: mode"
place_text Time = codes "body shape: time"
place_text Action = codes "body shape: action"
place_text Output = codes "body shape: output"
place_text Cell = codes "body shape: cell"

-- what is wrong with a body
abbrev pub body_text : BodyFault → List ℕ
body_text NotJson = codes "body is not JSON"
body_text (Shape place) = place_text place
body_text UnknownOutput = codes "unknown output"
body_text UnknownInput = codes "unknown input"

-- what is wrong with a row
abbrev pub row_text : RowFault → List ℕ
row_text (NoInput channel) = codes "unknown input"
row_text (NoChannel channel) = codes "input channel out of range"
row_text (NotRoutable channel) = codes "input not routable"
row_text (Block channel) = codes "block not whole"
row_text (Order channel) = codes "block reordered"

-- what a refusal of the book says
abbrev pub refusal_text : Refusal → List ℕ
refusal_text Empty = codes "no output in action"
refusal_text (Unknown output) = codes "unknown output"
refusal_text (BadChannel output channel) = codes "output channel out of range"
refusal_text (Locked output) = codes "output locked"
refusal_text (Row output fault) = row_text fault
refusal_text NoTime = codes "time out of range"
refusal_text (NotPending id) = codes "no such activation"

-- a stream of requests that is refused
abbrev pub stream_text : ℕ → List ℕ
stream_text status =
    if status == 411 then codes "length required"
    else if status == 413 then codes "body too large"
    else if status == 431 then codes "head too large"
    else codes "bad request"

-- what is said to be wrong
abbrev pub text_of : ApiFault → List ℕ
text_of NoResource = codes "unknown resource"
text_of (NoMethod methods) = codes "method not allowed"
text_of (Body fault) = body_text fault
text_of NoActivation = codes "no such activation"
text_of (Refused refusal) = refusal_text refusal
text_of (Stream status) = stream_text status
text_of NoMemory = codes "no memory"

-- what is said besides: the methods that there are
abbrev pub extra_of : ApiFault → Extra
extra_of (NoMethod methods) = methods
extra_of wrong = Nothing
