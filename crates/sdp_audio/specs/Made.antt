-- The device that is made of the streams of a description. (This project's own.)
use Rattle.std.specs.Prelude.{◌≡◌, ◌≢◌, ℕ, ◌+◌, true, List, [], ◌∷◌, ◌++◌, map, codes, decimal}
use Rattle.std.specs.Prelude.{Option, None, All}
use Rattle.std.specs.List.{enumerate_from, range_with_len}
use Rattle.io_caps.specs.Fault.{IsFirstFault}
use Rattle.io_caps.specs.declared.device.DeviceParts.{DeviceParts}
use Rattle.io_caps.specs.declared.port.Input.{Input}
use Rattle.io_caps.specs.declared.port.Output.{Output}
use Rattle.io_caps.specs.declared.port.Parent.TheVariants.{Nobody}
use Rattle.io_caps.specs.declared.port.Routable.TheVariants.{All as Anything}
use Rattle.sdp_audio.specs.declared.stream.Stream.{Stream}
use Rattle.sdp_audio.specs.declared.fault.MakeFault.{MakeFault}
use Rattle.sdp_audio.specs.declared.fault.MakeFault.TheVariants.{Empty, Rates, Device}

-- an id: a text and a number
abbrev pub numbered_id : List ℕ → ℕ → List ℕ
numbered_id text number = text ++ decimal number

-- a label for each channel: its number, counted from 1
abbrev pub numbered_labels : ℕ → List (List ℕ)
numbered_labels channels = map (λ k. decimal (k + 1)) (range_with_len 0 channels)

-- the input of a stream with its number
abbrev pub stream_input : ℕ × Stream → Input
stream_input (number, stream) = record {
  id = numbered_id (codes "in") number;
  name = numbered_id (codes "in") number;
  description = [];
  labels = numbered_labels stream.channels;
  width = stream.width;
  payload_type = stream.payload_type;
  block_size = 1;
  reordering = true;
  parent = Nobody;
}

-- the output of a stream with its number
abbrev pub stream_output : ℕ × Stream → Output
stream_output (number, stream) = record {
  id = numbered_id (codes "out") number;
  name = numbered_id (codes "out") number;
  description = [];
  labels = numbered_labels stream.channels;
  width = stream.width;
  payload_type = stream.payload_type;
  ssrc = number;
  source_id = None;
  routable = Anything;
}

-- the rate of the first stream
abbrev pub first_hz : List Stream → ℕ
first_hz [] = 0
first_hz (stream ∷ more) = stream.hz

-- the parts of a device of this rate with an input and an output for each stream, which are counted
-- from 1
abbrev pub parts_of : List Stream → ℕ → ℕ → DeviceParts
parts_of streams hz frames = record {
  rate = record { hz = hz; frames = frames };
  base = 0;
  hold = 1;
  inputs = map stream_input (enumerate_from 1 streams);
  outputs = map stream_output (enumerate_from 1 streams);
}

-- the parts of the device of streams
abbrev pub device_of : List Stream → ℕ → DeviceParts
device_of streams frames = parts_of streams (first_hz streams) frames

-- all streams have one rate
abbrev pub HasOneRate : List Stream → Type 0
HasOneRate streams = All (λ stream. stream.hz ≡ first_hz streams) streams

-- why no device is made: the first of the cases that applies
abbrev pub IsMakeFault : List Stream → ℕ → MakeFault → Type 0
IsMakeFault streams frames Empty = streams ≡ []
IsMakeFault streams frames Rates = (streams ≢ []) × (HasOneRate streams → ⊥)
IsMakeFault streams frames (Device fault) = (streams ≢ []) × HasOneRate streams
    × IsFirstFault (device_of streams frames) fault
