-- Flags and packets by a row.
use Rattle.map_entry.specs.Tick.{frame_key}
use Rattle.plain_book.specs.Time.{key_at}
use Rattle.packet_writer.specs.Packet.{RowFits}
use Rattle.packet_writer.specs.Packet.{row_at}
use Rattle.map_entry.specs.Row.{IsRowOf}
use Rattle.map_entry.specs.Row.{channels_of_output}
use Rattle.map_entry.proofs.Channels.{passed_there}
use Rattle.plain_book.proofs.Sound.{row_is}
use Rattle.plain_book.specs.Rows.{AreEntries}
use Rattle.std.specs.Prelude.{IsSome}
use Rattle.std.proofs.Common.{◌≤◌, refl}
use Rattle.std.proofs.Common.{◌≡◌, ℕ, ◌<◌, Bool, true, false, List, [], length, map, sym, ap}
use Rattle.std.proofs.Common.{◌∙◌, arith, zero-add, ℤ}
use Rattle.std.specs.Prelude.{◌&&◌, if◌then◌else◌, is_some, IfNone, Option, Some, None}
use Rattle.std.specs.List.{range_with_len}
use Rattle.std.specs.Option.{unwrap_or}
use Rattle.std.proofs.lemmas.Bool.{false≢true}
use Rattle.std.proofs.lemmas.List.{ext_get_or}
use Rattle.std.proofs.lemmas.List.FromFn.{get_or-map-range_with_len, length-map-range_with_len}
use Rattle.map_entry.specs.declared.cell.Cell.{Cell}
use Rattle.map_entry.specs.declared.entry.Entry.{Entry}
use Rattle.map_entry.specs.Entry.{selected}
use Rattle.map_entry.specs.Setup.{SetupParts}
use Rattle.packet_writer.specs.Flags.{is_named}
use Rattle.packet_writer.specs.Heard.{HasFrames}
use Rattle.packet_writer.specs.Packet.{Blocks, claim_rows, flag_of, packet_by}
use Rattle.book_words.specs.declared.calls.JournalCall.{JournalCall}
use Rattle.book_words.specs.History.{claim_item}
use Rattle.plain_book.specs.Journal.{entries_of}
use Rattle.interleavings.specs.Run.{claim_with, seen_flags}
use Rattle.interleavings.proofs.Ranging.{alike}

-- a flag by what was marked and what a look saw
pub flag_is : (named there flag marked : Bool) → marked ≡ named → (marked ≡ true → flag ≡ there)
    → (marked ≡ false → flag ≡ false)
    → flag ≡ (named && there)
flag_is true there flag marked is seen other = seen is
flag_is false there flag marked is seen other = other is

-- what holds where there is none
pub when_none : {A P : Type 0} (x : Option A) → is_some x ≡ false → IfNone x P → P
when_none None none holds = holds
when_none (Some a) none holds = absurd (false≢true (sym none))

-- flags that are these at each input
pub flags_are : (f : ℕ → Bool) (n : ℕ) (made : List Bool) → length made ≡ n
    → ((i : ℕ) → i < n → flag_of made i ≡ f i)
    → made ≡ map f (range_with_len 0 n)
flags_are f n made long each =
    ext_get_or false made (map f (range_with_len 0 n))
    (long ∙ sym (length-map-range_with_len f 0 n))
    (λ i within.
    let lt : i < n = omega (arith, within, long) in
    each i lt ∙ sym (get_or-map-range_with_len f 0 n i i false lt (zero-add i)))

-- the rows that entries of a device give an output fit it
selected_fit : (s : SetupParts) (o : ℕ) (r : Option (List Cell)) → IsSome r
    → ((row : List Cell) → r ≡ Some row → IsRowOf s.device o row)
    → RowFits s.device.inputs (channels_of_output s.device o) (unwrap_or r [])
selected_fit s o None there each = absurd (false≢true there)
selected_fit s o (Some row) there each =
    let fits = each row refl in (fits.long, passed_there s.device o row fits.passes)

pub rows_fit : (s : SetupParts) (entries : List Entry) (o t f : ℕ)
    → AreEntries s (key_at s s.device.base) entries → o < length s.device.outputs
    → s.device.base ≤ t
    → RowFits s.device.inputs (channels_of_output s.device o) (row_at entries o t f)
rows_fit s entries o t f are there since =
    selected_fit s o (selected entries o (frame_key t f))
    (are.cover o (frame_key t f) there (omega (arith, since)))
    (λ row is. row_is s (key_at s s.device.base) entries o (frame_key t f) row are is)

-- the block that was found has all frames where each block has
pub found_whole : (channels frames : ℕ) (flag : Bool) (block : Option (List ℤ))
    → HasFrames block channels frames
    → HasFrames (if flag then block else None) channels frames
found_whole channels frames true block has = has
found_whole channels frames false block has = tt

-- a claim of these flags and this packet, by a journal
pub claim_is : (s : SetupParts) (journal : List JournalCall) (blocks : Blocks) (seen : List Bool)
    (k : ℕ) (rows : ℕ → List Cell) (found : List Bool)
    (packet : List ℕ)
    → ((frame : ℕ) → rows frame ≡ claim_rows s (entries_of s journal) k frame)
    → found ≡ map
    (λ input. is_named s.device.rate.frames rows input && flag_of seen input)
    (range_with_len 0 (length s.device.inputs))
    → packet ≡ packet_by s (entries_of s journal) blocks found k
    → claim_item k found packet
    ≡ claim_with s journal blocks k (seen_flags s journal (flag_of seen) k)
claim_is s journal blocks seen k rows found packet same flags text =
    let n = length s.device.inputs in
    let own : rows ≡ claim_rows s (entries_of s journal) k = alike same in
    let flags_same : found ≡ seen_flags s journal (flag_of seen) k =
    flags ∙ ap (λ (r : ℕ → List Cell).
    map (λ input. is_named s.device.rate.frames r input && flag_of seen input) (range_with_len 0 n))
    own in
    ap (claim_item k found) text ∙ ap (claim_with s journal blocks k) flags_same
