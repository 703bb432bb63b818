-- Rows that route each channel from the same one of an input pass the check.
use Rattle.std.proofs.Common.{◌≡◌, ℕ, suc, ◌+◌, ◌*◌, ◌<◌, ◌≤◌, ◌/◌, Bool, true, false, List, [], ◌∷◌, ◌++◌}
use Rattle.std.proofs.Common.{length, get_or, take, drop, map, Option, Some, None, refl, sym, ap, ◌∙◌}
use Rattle.std.proofs.Common.{zero-add, arith}
use Rattle.std.specs.Prelude.{◌||◌, not, nat_lt, slice_get, IfSome, option_map}
use Rattle.std.specs.Fmt.{decimal}
use Rattle.std.specs.List.{AllZip, enumerate_from, range_with_len}
use Rattle.std.proofs.lemmas.Bool.{eq-eqb, lt-ltb}
use Rattle.std.proofs.lemmas.List.{drop_more}
use Rattle.std.proofs.lemmas.List.FromFn.{get_or-map-range_with_len, length-map-range_with_len}
use Rattle.std.proofs.lemmas.List.FromFn.{get_or-enumerate_from, length-enumerate_from}
use Rattle.std.proofs.lemmas.List.FromFn.{map-range_with_len_more}
use Rattle.std.proofs.lemmas.Option.{slice_get-map, slice_get-get_or, slice_get_within}
use Rattle.io_caps.specs.Device.{IsDevice}
use Rattle.io_caps.specs.declared.limits.TheConstants.{MOST_INPUTS}
use Rattle.io_caps.specs.declared.device.DeviceParts.{DeviceParts}
use Rattle.io_caps.specs.declared.port.Input.{Input}
use Rattle.io_caps.specs.declared.port.Output.{Output}
use Rattle.io_caps.specs.declared.port.Routable.TheVariants.{All as Anything}
use Rattle.io_caps.specs.declared.rate.Width.TheVariants.{L16}
use Rattle.map_entry.specs.Row.{cell_at, channels_of, block_size, reorders, is_input_there}
use Rattle.map_entry.specs.Row.{is_channel_there, is_allowed, is_whole, block_from, begins_piece}
use Rattle.map_entry.specs.Row.{piece_at, whole_from, ordered_from, lowest_out, fault_of, row_fault}
use Rattle.map_entry.specs.Row.{routable_of, IsRowOk}
use Rattle.map_entry.specs.Setup.{AreRowsOk, HasCells, IsSetup}
use Rattle.map_entry.specs.declared.cell.Cell.{Cell}
use Rattle.map_entry.specs.declared.cell.Cell.TheVariants.{Unrouted, From}
use Rattle.map_entry.proofs.Lowest.{lowest_all}
use Rattle.sdp_audio.specs.Made.{device_of, stream_input, stream_output, numbered_labels}
use Rattle.sdp_audio.specs.declared.stream.Stream.{Stream}
use Rattle.chanmap.specs.commands.FromSdp.{made_setup, straight_row, straight_rows}

-- ---- the cells of a row

-- a row of this many channels from an input
abbrev row_from : ℕ → ℕ → List Cell
row_from input n = map (λ channel. From input channel) (range_with_len 0 n)

row_long : (input n : ℕ) → length (row_from input n) ≡ n
row_long input n = length-map-range_with_len (λ channel. From input channel) 0 n

-- one channel more
pub row_more : (input n : ℕ)
    → row_from input (n + 1) ≡ row_from input n ++ From input n ∷ []
row_more input n = map-range_with_len_more (λ channel. From input channel) 0 n n (zero-add n)

cell_is : (input n k : ℕ) → k < n → cell_at (row_from input n) k ≡ From input k
cell_is input n k lt =
    get_or-map-range_with_len (λ channel. From input channel) 0 n k k Unrouted lt (zero-add k)

-- one channel of it
one_cell : (input n k : ℕ) → k < n → piece_at 1 (row_from input n) k ≡ From input k ∷ []
one_cell input n k lt =
    ap (take 1) (drop_more (row_from input n) k Unrouted (omega (arith, lt, row_long input n)))
    ∙ ap (λ (c : Cell). c ∷ []) (cell_is input n k lt)

-- where each channel's cell passes, the row does
row_passes : (passes : ℕ → Cell → Bool) (input n : ℕ)
    → ((k : ℕ) → k < n → passes k (From input k) ≡ true) → lowest_out passes (row_from input n) ≡ None
row_passes passes input n each =
    lowest_all passes (row_from input n) (λ k lt.
    let within : k < n = omega (arith, lt, row_long input n) in
    ap (passes k) (cell_is input n k within) ∙ each k within)

-- ---- the conditions

or_true : (test : Bool) → (test || true) ≡ true
or_true true = refl
or_true false = refl

-- a channel is a whole block of one channel
whole_one : (input k from : ℕ) → from ≡ k → is_whole 1 input from (From input k ∷ []) ≡ true
whole_one input k from same =
    rw (eq-eqb input input refl, eq-eqb k (from + 0) (omega (arith, same))) refl

block_one : (k : ℕ) → block_from 1 k ≡ k
block_one k = omega arith

-- blocks of one channel are whole
whole_at : (inputs : List Input) (input n k : ℕ) → block_size inputs input ≡ 1 → k < n
    → whole_from inputs (row_from input n) k (From input k) ≡ true
whole_at inputs input n k one lt =
    rw (one, one_cell input n k lt, whole_one input k (block_from 1 k) (block_one k))
    (or_true (not (begins_piece 1 (row_from input n) input k)))

ordered_at : (inputs : List Input) (input n k : ℕ) → reorders inputs input ≡ true
    → ordered_from inputs (row_from input n) k (From input k) ≡ true
ordered_at inputs input n k free = rw free refl

-- a row from an input of as many channels, in blocks of one that may be reordered, has no fault
no_fault : (inputs : List Input) (input n : ℕ) → input < length inputs → channels_of inputs input ≡ n
    → block_size inputs input ≡ 1 → reorders inputs input ≡ true
    → fault_of inputs Anything (row_from input n) ≡ None
no_fault inputs input n there channels one free =
    rw (
      row_passes (λ channel. is_input_there inputs) input n (λ k lt. lt-ltb input (length inputs) there),
      row_passes (λ channel. is_channel_there inputs) input n (λ k lt. lt-ltb k (channels_of inputs input) (omega (arith, lt, channels))),
      row_passes (λ channel. is_allowed Anything) input n (λ k lt. refl),
      row_passes (whole_from inputs (row_from input n)) input n (λ k lt. whole_at inputs input n k one lt),
      row_passes (ordered_from inputs (row_from input n)) input n (λ k lt. ordered_at inputs input n k free),
    ) refl

-- ---- the rows of streams

abbrev no_stream : Stream
no_stream = record { port = 0; payload_type = 0; width = L16; hz = 0; channels = 0 }

-- what is made of the stream at a place
made_at : {X : Type 0} (make : ℕ × Stream → X) (n : ℕ) (streams : List Stream) (k : ℕ)
    → k < length streams
    → slice_get (map make (enumerate_from n streams)) k ≡ Some (make (n + k, get_or streams k no_stream))
made_at make n streams k lt =
    slice_get-map make (enumerate_from n streams) k
    ∙ ap (option_map make) (slice_get-get_or (enumerate_from n streams) k (n, no_stream) (omega (arith, lt, length-enumerate_from n streams))
    ∙ ap (λ (p : ℕ × Stream). Some p) (get_or-enumerate_from n streams k (n, no_stream) lt))

made_long : {X : Type 0} (make : ℕ × Stream → X) (n : ℕ) (streams : List Stream)
    → length (map make (enumerate_from n streams)) ≡ length streams
made_long make n [] = refl
made_long make n (s ∷ streams) = ap suc (made_long make (n + 1) streams)

pub labels_long : (n : ℕ) → length (numbered_labels n) ≡ n
labels_long n = length-map-range_with_len (λ k. decimal (k + 1)) 0 n

-- each row has a cell for each channel
rows_long : (m n : ℕ) (streams : List Stream)
    → AllZip HasCells (map stream_output (enumerate_from m streams))
    (map straight_row (enumerate_from n streams))
rows_long m n [] = tt
rows_long m n (s ∷ streams) =
    (row_long n s.channels ∙ sym (labels_long s.channels), rows_long (m + 1) (n + 1) streams)

-- each passes the check
row_ok : (frames : ℕ) (streams : List Stream) (k : ℕ) → k < length streams
    → IsRowOk (device_of streams frames) k (straight_row (k, get_or streams k no_stream))
unfolding row_fault
row_ok frames streams k lt =
    let s = get_or streams k no_stream in
    let input = made_at stream_input 1 streams k lt in
    let output = made_at stream_output 1 streams k lt in
    let inputs = (device_of streams frames).inputs in
    rw output
    (no_fault inputs k s.channels (omega (arith, lt, made_long stream_input 1 streams))
    (rw input (labels_long s.channels)) (rw input refl) (rw input refl))

rows_ok : (frames : ℕ) (streams : List Stream)
    → AreRowsOk (made_setup frames streams) (length (straight_rows streams))
rows_ok frames streams k lt =
    let within : k < length streams = omega (arith, lt, made_long straight_row 0 streams) in
    rw (made_at straight_row 0 streams k within, zero-add k) (row_ok frames streams k within)

-- the device of streams, with these rows, is in order
pub made_in_order : (frames : ℕ) (streams : List Stream) → IsDevice (device_of streams frames)
    → IsSetup (made_setup frames streams)
made_in_order frames streams device = record {
  device = device;
  count = rows_long 1 0 streams;
  passes = rows_ok frames streams;
}

-- and there are no more streams than a device has inputs
pub few_streams : (frames : ℕ) (streams : List Stream) → IsDevice (device_of streams frames)
    → length streams ≤ MOST_INPUTS
few_streams frames streams device =
    omega (arith, device.bounds.few_inputs, made_long stream_input 1 streams)
