-- The bytes by which what stands in captures and results is told apart. (This project's own.)
use Rattle.std.specs.Prelude.{ℕ}

-- ---- records

-- `D`: a plain device, in a capture
abbrev pub device_tag : ℕ
device_tag = 68

-- `J`: a device as JSON, in a capture
abbrev pub json_device_tag : ℕ
json_device_tag = 74

-- `P`: a packet of an input, in a capture
abbrev pub packet_tag : ℕ
packet_tag = 80

-- `Q`: a piece of a client's stream, in a capture
abbrev pub piece_tag : ℕ
piece_tag = 81

-- `A`: a plain request of a client, in a capture
abbrev pub ask_tag : ℕ
ask_tag = 65

-- `T`: claims that are made, in a capture
abbrev pub work_tag : ℕ
work_tag = 84

-- `C`: a claim with its packet, in a result
abbrev pub claim_tag : ℕ
claim_tag = 67

-- `H`: an accepted call, in a result
abbrev pub call_tag : ℕ
call_tag = 72

-- `R`: a reply, in a result
abbrev pub reply_tag : ℕ
reply_tag = 82

-- `E`: the last record of a capture or a result
abbrev pub end_tag : ℕ
end_tag = 69

-- `G`: the grain, in a capture of format 2
abbrev pub grain_tag : ℕ
grain_tag = 71

-- ---- grains

-- changes count from ticks
abbrev pub tick_grain : ℕ
tick_grain = 0

-- changes count from frames
abbrev pub frame_grain : ℕ
frame_grain = 1

-- ---- devices and cells

-- the bits of a sample of L16 (RFC 3551 section 4.5.11)
abbrev pub bits_16 : ℕ
bits_16 = 16

-- the bits of a sample of L24 (RFC 3190 section 4)
abbrev pub bits_24 : ℕ
bits_24 = 24

-- the number of members of a routable list that allows everything
abbrev pub all_routable : ℕ
all_routable = 255

-- the member of a routable list that allows unrouted channels
abbrev pub unrouted_member : ℕ
unrouted_member = 254

-- the input of a cell that is unrouted
abbrev pub unrouted_input : ℕ
unrouted_input = 255

-- ---- requests

-- an activation at once
abbrev pub now_op : ℕ
now_op = 0

-- an activation at a time
abbrev pub at_op : ℕ
at_op = 1

-- an activation after a time
abbrev pub after_op : ℕ
after_op = 2

-- a deletion
abbrev pub delete_op : ℕ
delete_op = 3

-- a reading of the active map
abbrev pub active_op : ℕ
active_op = 4

-- a reading of the pending activations
abbrev pub pending_op : ℕ
pending_op = 5

-- ---- replies

-- the form of an HTTP response
abbrev pub http_form : ℕ
http_form = 0

-- the form of a plain reply
abbrev pub plain_form : ℕ
plain_form = 1

-- an activation at once was accepted
abbrev pub activated_code : ℕ
activated_code = 0

-- a scheduled activation was accepted
abbrev pub scheduled_code : ℕ
scheduled_code = 1

-- a pending activation was taken back
abbrev pub deleted_code : ℕ
deleted_code = 2

-- the active map
abbrev pub active_code : ℕ
active_code = 3

-- the pending activations
abbrev pub pending_code : ℕ
pending_code = 4

-- refused: no output is named
abbrev pub empty_code : ℕ
empty_code = 16

-- refused: an output is not there
abbrev pub unknown_code : ℕ
unknown_code = 17

-- refused: an output has no such channel
abbrev pub bad_channel_code : ℕ
bad_channel_code = 18

-- refused: an output is locked
abbrev pub locked_code : ℕ
locked_code = 19

-- refused: a row fails the check
abbrev pub row_code : ℕ
row_code = 20

-- refused: past the end of time
abbrev pub time_code : ℕ
time_code = 21

-- refused: no pending activation has this id
abbrev pub not_pending_code : ℕ
not_pending_code = 22

-- the check of a row that failed: each input is there
abbrev pub input_check : ℕ
input_check = 1

-- each channel of an input is there
abbrev pub channel_check : ℕ
channel_check = 2

-- each channel may be routed so
abbrev pub routable_check : ℕ
routable_check = 3

-- each piece is a whole block
abbrev pub block_check : ℕ
block_check = 4

-- each piece is in its block's order
abbrev pub order_check : ℕ
order_check = 5
