-- Activations as JSON. (After AMWA IS-08 v1.0: `/map/activations`, `/map/activations/{id}` and
-- `/map/active`.)
use Rattle.std.specs.Prelude.{ℕ, List, map, nat_lt, Option, Some, None, if◌then◌else◌, codes}
use Rattle.std.specs.Prelude.{decimal}
use Rattle.serde_json.specs.Data.{Data, null, string, object, no_members, member}
use Rattle.serde_json.specs.Written.{compact_text}
use Rattle.io_caps.specs.declared.device.DeviceParts.{DeviceParts}
use Rattle.io_caps.specs.declared.rate.Rate.{Rate}
use Rattle.tai_time.specs.Tick.{moment_start}
use Rattle.tai_time.specs.Time.{TaiTime, tai_text, time_of, nanos_limit}
use Rattle.map_entry.specs.Action.{OutputChangeParts}
use Rattle.book_words.specs.declared.requests.When.{When}
use Rattle.book_words.specs.declared.requests.When.TheVariants.{Now, At, After}
use Rattle.book_words.specs.declared.replies.Activation.{Activation}
use Rattle.book_words.specs.declared.replies.ActiveView.{ActiveView}
use Rattle.book_words.specs.declared.replies.PendingItem.{PendingItem}
use Rattle.channel_json.specs.Values.{object_of}
use Rattle.channel_json.specs.Cells.{action_data, map_data}

-- ---- when

-- a time: `seconds:nanoseconds`
abbrev pub time_data : TaiTime → Data
time_data time = string (tai_text time)

-- the start of a frame of a tick; null where that is past the end of time, which no accepted
-- activation is
abbrev pub start_data : Rate → ℕ → ℕ → Data
start_data rate tick offset =
    if nat_lt (moment_start rate tick offset) nanos_limit
    then time_data (time_of (moment_start rate tick offset))
    else null

-- the word for when an activation is to count
abbrev pub mode_text : When → List ℕ
mode_text Now = codes "activate_immediate"
mode_text (At time) = codes "activate_scheduled_absolute"
mode_text (After time) = codes "activate_scheduled_relative"

-- the time that was asked for
abbrev pub requested_data : When → Data
requested_data Now = null
requested_data (At time) = time_data time
requested_data (After time) = time_data time

-- when an activation counts, how that was asked for, and the time that was asked for
abbrev pub moment_data : Data → Data → Data → Data
moment_data time mode requested =
    object
    (member (codes "activation_time") time
    (member (codes "mode") mode
    (member (codes "requested_time") requested no_members)))

-- an activation that counts from a frame of a tick
abbrev pub activation_data : DeviceParts → When → ℕ → ℕ → Data
activation_data device when tick offset =
    moment_data (start_data device.rate tick offset) (string (mode_text when))
    (requested_data when)

-- the activation that the active map shows: nulls where there is none
abbrev pub last_data : DeviceParts → Option Activation → Data
last_data device None = moment_data null null null
last_data device (Some activation) =
    activation_data device activation.when activation.tick activation.offset

-- ---- bodies

-- an action and its activation
abbrev pub joined_data : Data → Data → Data
joined_data action activation =
    object (member (codes "action") action (member (codes "activation") activation no_members))

-- what is changed, and when
abbrev pub item_data : DeviceParts → When → ℕ → ℕ → List OutputChangeParts → Data
item_data device when tick offset action =
    joined_data (action_data device action) (activation_data device when tick offset)

-- the reply to an accepted activation: an object with its id as the one key
abbrev pub accepted_data : DeviceParts → ℕ → When → ℕ → ℕ → List OutputChangeParts → Data
accepted_data device id when tick offset action =
    object (member (decimal id) (item_data device when tick offset action) no_members)

-- a pending activation under its id
abbrev pub pending_member : DeviceParts → PendingItem → List ℕ × Data
pending_member device item =
    (decimal item.id, item_data device item.when item.tick item.offset item.action)

-- the pending activations: an object from id to item
abbrev pub pending_data : DeviceParts → List PendingItem → Data
pending_data device items = object_of (map (pending_member device) items)

-- the active map: the activation that counted last, and the rows of all outputs or of one alone
abbrev pub active_data : DeviceParts → ActiveView → Option ℕ → Data
active_data device view only =
    object (member (codes "activation") (last_data device view.last)
    (member (codes "map") (map_data device view.rows only) no_members))

-- the text of the reply to an accepted activation
abbrev pub accepted_text : DeviceParts → ℕ → When → ℕ → ℕ → List OutputChangeParts → List ℕ
accepted_text device id when tick offset action =
    compact_text (accepted_data device id when tick offset action)

-- the text of a pending activation
abbrev pub item_text : DeviceParts → PendingItem → List ℕ
item_text device item =
    compact_text (item_data device item.when item.tick item.offset item.action)

-- the text of the pending activations
abbrev pub pending_text : DeviceParts → List PendingItem → List ℕ
pending_text device items = compact_text (pending_data device items)

-- the text of the active map
abbrev pub active_text : DeviceParts → ActiveView → Option ℕ → List ℕ
active_text device view only = compact_text (active_data device view only)
