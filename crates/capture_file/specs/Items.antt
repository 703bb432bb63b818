-- How the records of a capture after its device stand in bytes. (This project's own.)
use Rattle.std.specs.Prelude.{ℕ, ◌<◌, List, [], Option, Some, None}
use Rattle.io_caps.specs.declared.limits.TheConstants.{CLIENTS}
use Rattle.book_words.specs.declared.requests.Request.{Request}
use Rattle.exact_text.specs.Forms.{Form, byte, number, all_left, ◌▸◌, variant, no_form, choose}
use Rattle.exact_text.specs.Forms.{in_record}
use Rattle.exact_text.specs.Spellings.{record_text}
use Rattle.capture_file.specs.declared.items.Item.{Item}
use Rattle.capture_file.specs.declared.items.Item.TheVariants.{Packet, Piece, Ask, Work}
use Rattle.capture_file.specs.Tags.{packet_tag, piece_tag, ask_tag, work_tag, end_tag}
use Rattle.capture_file.specs.Requests.{request}

-- the tag of a record's kind
abbrev pub item_tag : Item → ℕ
item_tag (Packet input bytes) = packet_tag
item_tag (Piece client bytes) = piece_tag
item_tag (Ask client asked) = ask_tag
item_tag (Work claims) = work_tag

-- what a packet record holds
abbrev pub if_packet : Item → Option (ℕ × List ℕ)
if_packet (Packet input bytes) = Some (input, bytes)
if_packet other = None

-- what a record of a piece holds
abbrev pub if_piece : Item → Option (ℕ × List ℕ)
if_piece (Piece client bytes) = Some (client, bytes)
if_piece other = None

-- what a request record holds
abbrev pub if_ask : Item → Option (ℕ × Request)
if_ask (Ask client asked) = Some (client, asked)
if_ask other = None

-- what a work record holds
abbrev pub if_work : Item → Option ℕ
if_work (Work claims) = Some claims
if_work other = None

-- the body of a record: a packet's input and its bytes; a client and the bytes of a piece of its
-- stream; a client and its request; a number of claims
unfoldable pub item_body : ℕ → Form Item
item_body tag =
    choose tag packet_tag (variant (byte ▸ all_left) (λ p. Packet p.0 p.1) if_packet) (
    choose tag piece_tag (variant (byte ▸ all_left) (λ p. Piece p.0 p.1) if_piece) (
    choose tag ask_tag (variant (byte ▸ request) (λ p. Ask p.0 p.1) if_ask) (
    choose tag work_tag (variant (number 4) (λ n. Work n) if_work) no_form)))

-- a record after the device
abbrev pub item : Form Item
item = in_record item_tag item_body

-- the last record
abbrev pub end_text : List ℕ
end_text = record_text end_tag []

-- a packet's input is there, and a client's number is one
abbrev pub IsItemThere : ℕ → Item → Type 0
IsItemThere inputs (Packet input bytes) = input < inputs
IsItemThere inputs (Piece client bytes) = client < CLIENTS
IsItemThere inputs (Ask client asked) = client < CLIENTS
IsItemThere inputs (Work claims) = Unit {0}

-- how many claims a record makes
abbrev pub claims_of : Item → ℕ
claims_of (Packet input bytes) = 0
claims_of (Piece client bytes) = 0
claims_of (Ask client asked) = 0
claims_of (Work claims) = claims
