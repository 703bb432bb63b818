-- How a plain device stands in bytes. (This project's own.)
use Rattle.std.specs.Prelude.{◌≡◌, ℕ, ◌+◌, ◌<◌, ◌^◌, Bool, true, false, List, [], ◌∷◌, length, map}
use Rattle.std.specs.Prelude.{All, Option, Some, None, ◌==◌, if◌then◌else◌}
use Rattle.std.specs.Fmt.{decimal}
use Rattle.std.specs.List.{range_with_len}
use Rattle.io_caps.specs.declared.rate.Width.{Width}
use Rattle.io_caps.specs.declared.rate.Width.TheVariants.{L16, L24}
use Rattle.io_caps.specs.declared.device.DeviceParts.{DeviceParts}
use Rattle.io_caps.specs.declared.port.Input.{Input}
use Rattle.io_caps.specs.declared.port.Output.{Output}
use Rattle.io_caps.specs.declared.port.Parent.TheVariants.{Nobody}
use Rattle.io_caps.specs.declared.port.Routable.{Routable}
use Rattle.io_caps.specs.declared.port.Routable.TheVariants.{All as Anything, Only}
use Rattle.map_entry.specs.declared.cell.Cell.{Cell}
use Rattle.capture_file.specs.declared.device.Target.{Target}
use Rattle.exact_text.specs.Spellings.{record_text}
use Rattle.capture_file.specs.Tags.{device_tag, bits_16, bits_24, all_routable, unrouted_member}
use Rattle.exact_text.specs.Forms.{Form, byte, number, many_of, led, ◌▸◌, struct, checked, tested}
use Rattle.exact_text.specs.Forms.{counted_text}
use Rattle.capture_file.specs.Requests.{cell}

-- the byte of a width: 16 (L16) or 24 (L24)
abbrev pub width_bits : Width → ℕ
width_bits L16 = bits_16
width_bits L24 = bits_24

-- the width of a byte
abbrev pub width_of : ℕ → Option Width
width_of bits = if bits == bits_16 then Some L16 else tested (bits == bits_24) L24

-- a width in a byte
unfoldable pub width : Form Width
width = checked byte width_bits width_of

-- the byte of a flag: 1 where it is set, and 0 otherwise
abbrev pub flag_byte : Bool → ℕ
flag_byte true = 1
flag_byte false = 0

-- the flag of a byte
abbrev pub flag_of : ℕ → Option Bool
flag_of b = if b == 0 then Some false else tested (b == 1) true

-- a flag in a byte
unfoldable pub flag : Form Bool
flag = checked byte flag_byte flag_of

-- the labels "1", "2", ..
abbrev pub numbered : ℕ → List (List ℕ)
numbered n = map (λ k. decimal (k + 1)) (range_with_len 0 n)

-- channels by their number: the labels are their numbers from 1 on
unfoldable pub channels : Form (List (List ℕ))
channels = checked byte (λ labels. length labels) (λ n. Some (numbered n))

-- a member of a routable list: an input, or 254 for unrouted
abbrev pub member_byte : Option ℕ → ℕ
member_byte None = unrouted_member
member_byte (Some input) = input

-- the member of a byte
abbrev pub member_of : ℕ → Option (Option ℕ)
member_of b = if b == unrouted_member then Some None else Some (Some b)

-- a member of a routable list in a byte
unfoldable pub member : Form (Option ℕ)
member = checked byte member_byte member_of

-- 255 where everything may be routed, otherwise the number of members and then the members
abbrev pub routable_parts : Routable → ℕ × List (Option ℕ)
routable_parts Anything = (all_routable, [])
routable_parts (Only members) = (length members, members)

-- how many members follow that number
abbrev pub members_after : ℕ → ℕ
members_after n = if n == all_routable then 0 else n

-- the routable list of a number and members
abbrev pub routable_of : ℕ × List (Option ℕ) → Option Routable
routable_of p = if p.0 == all_routable then Some Anything else Some (Only p.1)

-- a routable list, with its number in a byte
unfoldable pub routable : Form Routable
routable = checked (led byte (λ n. many_of (members_after n) member)) routable_parts routable_of

-- ---- inputs and outputs

-- an input by its id, labels, width, payload type, block size and reordering: its name is its id,
-- and nothing else is said of it
abbrev pub plain_input : List ℕ × (List (List ℕ) × (Width × (ℕ × (ℕ × Bool)))) → Input
plain_input (id, (labels, (w, (payload_type, (block_size, reordering))))) = record {
  id = id;
  name = id;
  description = [];
  labels = labels;
  width = w;
  payload_type = payload_type;
  block_size = block_size;
  reordering = reordering;
  parent = Nobody;
}

-- id with its length, channels, bits, payload type, block size, reordering
unfoldable pub input : Form Input
input = checked (counted_text ▸ channels ▸ width ▸ byte ▸ byte ▸ flag)
    (λ i. (i.id, (i.labels, (i.width, (i.payload_type, (i.block_size, i.reordering))))))
    (λ p. Some (plain_input p))

-- an output by its id, labels, width, payload type, SSRC and routable list: its name is its id, and
-- nothing else is said of it
abbrev pub plain_output : List ℕ × (List (List ℕ) × (Width × (ℕ × (ℕ × Routable)))) → Output
plain_output (id, (labels, (w, (payload_type, (ssrc, list))))) = record {
  id = id;
  name = id;
  description = [];
  labels = labels;
  width = w;
  payload_type = payload_type;
  ssrc = ssrc;
  source_id = None;
  routable = list;
}

-- id with its length, channels, bits, payload type, SSRC, routable list
unfoldable pub output : Form Output
output = checked (counted_text ▸ channels ▸ width ▸ byte ▸ number 4 ▸ routable)
    (λ o. (o.id, (o.labels, (o.width, (o.payload_type, (o.ssrc, o.routable))))))
    (λ p. Some (plain_output p))

-- an output, and a cell for each of its channels
unfoldable pub target : Form Target
target = struct (led output (λ o. many_of (length o.labels) cell)) (λ t. (t.output, t.row))
    (λ p. record { output = p.0; row = p.1 })

-- ---- the device

-- the outputs of outputs with rows
abbrev pub outputs_of : List Target → List Output
outputs_of targets = map (λ t. t.output) targets

-- their rows
abbrev pub rows_of : List Target → List (List Cell)
rows_of targets = map (λ t. t.row) targets

-- outputs with their rows
abbrev pub targets_of : List Output → List (List Cell) → List Target
targets_of [] rows = []
targets_of (o ∷ outputs) [] = []
targets_of (o ∷ outputs) (row ∷ rows) = record { output = o; row = row } ∷ targets_of outputs rows

-- the numbers of inputs and outputs, the inputs, the outputs with their rows
unfoldable pub ports : Form (List Input × List Target)
ports = struct (led (byte ▸ byte) (λ n. many_of n.0 input ▸ many_of n.1 target))
    (λ p. ((length p.0, length p.1), p)) (λ q. q.1)

-- a device and its base rows
abbrev pub Base : Type 0
Base = DeviceParts × List (List Cell)

-- a device and its base rows by their fields
abbrev pub device_of : ℕ × (ℕ × (ℕ × (ℕ × (List Input × List Target)))) → Base
device_of (hz, (frames, (base, (hold, (inputs, targets))))) = (
  record {
    rate = record { hz = hz; frames = frames };
    base = base;
    hold = hold;
    inputs = inputs;
    outputs = outputs_of targets;
  },
  rows_of targets,
)

-- rate, base, hold, the ports
unfoldable pub device : Form Base
device = checked (number 4 ▸ number 2 ▸ number 8 ▸ byte ▸ ports)
    (λ s. (
      s.0.rate.hz,
      (
        s.0.rate.frames,
        (s.0.base, (s.0.hold, (s.0.inputs, targets_of s.0.outputs s.1))),
      ),
    ))
    (λ p. Some (device_of p))

-- ---- what can be written

-- an input of which a plain device says all: its name is its id, its labels are numbers, and
-- nothing else is said of it
pub record IsPlainInput (i : Input) : Type 0 where
  pub name : i.name ≡ i.id
  pub description : i.description ≡ []
  pub labels : i.labels ≡ numbered (length i.labels)
  pub parent : i.parent ≡ Nobody

-- the number of members of a routable list is none that says that everything may be routed
abbrev pub HoldsRoutable : Routable → Type 0
HoldsRoutable Anything = Unit {0}
HoldsRoutable (Only members) = length members < all_routable

-- an output of which a plain device says all
pub record IsPlainOutput (o : Output) : Type 0 where
  pub name : o.name ≡ o.id
  pub description : o.description ≡ []
  pub labels : o.labels ≡ numbered (length o.labels)
  pub source_id : o.source_id ≡ None
  pub routable : HoldsRoutable o.routable

-- the numbers of bytes of an input's id and of its channels have one byte each
abbrev pub HoldsInput : Input → Type 0
HoldsInput i = (length i.id < 256) × (length i.labels < 256)

-- the same of an output, and its list
abbrev pub HoldsOutput : Output → Type 0
HoldsOutput o = (length o.id < 256) × ((length o.labels < 256) × HoldsRoutable o.routable)

-- the source of an output's packets is a number of 4 bytes
abbrev pub IsSsrc : Output → Type 0
IsSsrc o = o.ssrc < 2 ^ 32

-- a device of which a plain device record says all
pub record IsPlainDevice (d : DeviceParts) : Type 0 where
  pub inputs : All IsPlainInput d.inputs
  pub outputs : All IsPlainOutput d.outputs

-- the record of a plain device and its base rows
abbrev pub device_text : Base → List ℕ
device_text base = record_text device_tag (device.text base)
