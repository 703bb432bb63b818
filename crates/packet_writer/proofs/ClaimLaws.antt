-- When claims have the same packet and the same flags: laws for the crates above.
use Rattle.std.proofs.lemmas.List.{ext_get_or, get_or_past}
use Rattle.std.proofs.lemmas.Bool.{cases_lt}
use Rattle.std.proofs.lemmas.List.FromFn.{get_or-map-range_with_len, length-map-range_with_len}
use Rattle.std.proofs.Common.{◌≡◌, ℕ, ◌<◌, Bool, true, false, List, [], ◌++◌, ℤ, length, inl, inr}
use Rattle.std.proofs.Common.{◌≤◌, None, Some, Option, refl, sym, ap, ◌∙◌, arith, zero-add}
use Rattle.std.specs.Prelude.{All, ◌&&◌, if◌then◌else◌, is_some}
use Rattle.std.specs.Option.{unwrap_or}
use Rattle.map_entry.specs.declared.cell.Cell.{Cell}
use Rattle.map_entry.specs.declared.entry.Entry.{Entry}
use Rattle.map_entry.specs.Entry.{due, rules}
use Rattle.map_entry.proofs.Selection.{selected-stays, selected-behind}
use Rattle.map_entry.specs.Tick.{frame_key}
use Rattle.std.proofs.Common.{◌^◌}
use Rattle.map_entry.specs.Setup.{SetupParts}
use Rattle.packet_writer.specs.Flags.{AreClosed, AreFree, IsFound, IsFreeFlag, Sights, closed_flags}
use Rattle.packet_writer.specs.Flags.{is_there, names_by}
use Rattle.packet_writer.specs.Heard.{AreRows}
use Rattle.packet_writer.specs.Packet.{Blocks, claim_rows, flag_of, found_block, packet_by}
use Rattle.packet_writer.specs.Packet.{output_of_claim, tick_of_claim}
use Rattle.packet_writer.proofs.PacketLaws.{is_named-same, packet_on-same}

-- a flag that is the same, and where it is set the same block
found_same : (f g : Bool) (x y : Option (List ℤ)) → f ≡ g → (f ≡ true → x ≡ y)
    → (if f then x else None) ≡ (if g then y else None)
found_same true g x y e same = rw (← e) (same refl)
found_same false g x y e same = rw (← e) refl

-- The same rows give the same packet; so the flags count for the inputs that they name, and the
-- blocks where these are set.
pub packet_by-same : (s : SetupParts) (entries more : List Entry) (blocks others : Blocks)
    (flags found : List Bool) (k : ℕ)
    → AreRows s.device.rate.frames (claim_rows s entries k) (claim_rows s more k)
    → ((input : ℕ) → names_by s entries k input ≡ true → flag_of flags input ≡ flag_of found input)
    → ((input : ℕ) → names_by s entries k input ≡ true → flag_of flags input ≡ true
    → blocks input (tick_of_claim s k) ≡ others input (tick_of_claim s k))
    → packet_by s entries blocks flags k ≡ packet_by s more others found k
packet_by-same s entries more blocks others flags found k rows same there =
    packet_on-same s.device (output_of_claim s k) (claim_rows s entries k) (claim_rows s more k)
    (found_block blocks flags (tick_of_claim s k)) (found_block others found (tick_of_claim s k))
    (tick_of_claim s k) rows
    (λ input named. found_same (flag_of flags input) (flag_of found input)
    (blocks input (tick_of_claim s k)) (others input (tick_of_claim s k)) (same input named)
    (there input named))

-- ---- entries of later ticks

-- entries of which none rules a frame of the packet leave its row
pub claim_rows-stays : (s : SetupParts) (entries more : List Entry) (k frame : ℕ)
    → All (λ e. rules due (output_of_claim s k) (frame_key (tick_of_claim s k) frame) e ≡ false)
    more
    → claim_rows s (entries ++ more) k frame ≡ claim_rows s entries k frame
claim_rows-stays s entries more k frame none =
    ap (λ (row : Option (List Cell)). unwrap_or row [])
    (selected-stays due entries more (output_of_claim s k) (frame_key (tick_of_claim s k) frame)
    none)

-- so do entries of later ticks
pub claim_rows-later : (s : SetupParts) (entries more : List Entry) (k : ℕ)
    → All (λ e. tick_of_claim s k < e.tick) more
    → (frame : ℕ) → frame < 2 ^ 16
    → claim_rows s (entries ++ more) k frame ≡ claim_rows s entries k frame
claim_rows-later s entries more k later frame few =
    ap (λ (row : Option (List Cell)). unwrap_or row [])
    (selected-behind entries more (output_of_claim s k) (tick_of_claim s k) frame few later)

-- and its packet
pub packet_by-later : (s : SetupParts) (entries more : List Entry) (blocks : Blocks)
    (flags : List Bool) (k : ℕ) → s.device.rate.frames ≤ 2 ^ 16
    → All (λ e. tick_of_claim s k < e.tick) more
    → packet_by s (entries ++ more) blocks flags k ≡ packet_by s entries blocks flags k
packet_by-later s entries more blocks flags k few later =
    packet_by-same s (entries ++ more) entries blocks blocks flags flags k
    (λ f lt. claim_rows-later s entries more k later f (omega (arith, lt, few))) (λ input named. refl)
    (λ input named set. refl)

-- ---- flags

-- the same rows name the same inputs
pub names_by-same : (s : SetupParts) (entries more : List Entry) (k : ℕ)
    → AreRows s.device.rate.frames (claim_rows s entries k) (claim_rows s more k)
    → (input : ℕ) → names_by s entries k input ≡ names_by s more k input
names_by-same s entries more k rows input =
    is_named-same s.device.rate.frames (claim_rows s entries k) (claim_rows s more k) rows input

pub AreClosed-same : (s : SetupParts) (entries more : List Entry) (blocks : Blocks) (k : ℕ)
    (found : List Bool)
    → AreRows s.device.rate.frames (claim_rows s entries k) (claim_rows s more k)
    → AreClosed s entries blocks k found → AreClosed s more blocks k found
AreClosed-same s entries more blocks k found rows are = record {
  long = are.long;
  each = λ input there. rw (← names_by-same s entries more k rows input) (are.each input there);
}

pub AreFree-same : (s : SetupParts) (seen : Sights) (entries more : List Entry) (blocks : Blocks)
    (k : ℕ) (found : List Bool)
    → AreRows s.device.rate.frames (claim_rows s entries k) (claim_rows s more k)
    → AreFree s seen entries blocks k found → AreFree s seen more blocks k found
AreFree-same s seen entries more blocks k found rows are = record {
  long = are.long;
  each = λ input there. rw (← names_by-same s entries more k rows input) (are.each input there);
}

unset : (flag : Bool) → flag ≡ false → flag ≡ true → ⊥
unset true e set = cc
unset false e set = cc

free_flag : (named there seen flag : Bool) → (seen ≡ true → there ≡ true) → flag ≡ (named && there)
    → IsFreeFlag named there seen flag
free_flag true true seen flag seen_there is =
    record { only = λ set. (refl, refl); wherever = λ n s. is }
free_flag true false seen flag seen_there is = record {
  only = λ set. absurd (unset flag is set);
  wherever = λ n s. absurd (unset false refl (seen_there s));
}
free_flag false there seen flag seen_there is =
    record { only = λ set. absurd (unset flag is set); wherever = λ n s. absurd (unset false refl n) }

-- flags in closed form are flags in free form, where what was seen is there
pub closed_are_free : (s : SetupParts) (seen : Sights) (entries : List Entry) (blocks : Blocks)
    (k : ℕ) (found : List Bool)
    → ((input : ℕ) → input < length s.device.inputs → seen k input ≡ true
    → is_there s blocks k input ≡ true) → AreClosed s entries blocks k found
    → AreFree s seen entries blocks k found
closed_are_free s seen entries blocks k found sight are = record {
  long = are.long;
  each = λ input there. free_flag (names_by s entries k input) (is_there s blocks k input)
      (seen k input) (flag_of found input) (sight input there) (are.each input there);
}

-- the flags of the definition are in closed form
pub closed_flags-closed : (s : SetupParts) (entries : List Entry) (blocks : Blocks) (k : ℕ)
    → AreClosed s entries blocks k (closed_flags s entries blocks k)
closed_flags-closed s entries blocks k =
    let flag = λ (input : ℕ). names_by s entries k input && is_there s blocks k input in
    record {
      long = length-map-range_with_len flag 0 (length s.device.inputs);
      each = λ input there. get_or-map-range_with_len flag 0 (length s.device.inputs) input input
          false there (zero-add input);
    }

-- and no others are
pub closed_flags-only : (s : SetupParts) (entries : List Entry) (blocks : Blocks) (k : ℕ)
    (found : List Bool) → AreClosed s entries blocks k found
    → found ≡ closed_flags s entries blocks k
closed_flags-only s entries blocks k found are =
    let all = closed_flags-closed s entries blocks k in
    ext_get_or false found (closed_flags s entries blocks k) (are.long ∙ sym all.long) (λ input lt.
    let there : input < length s.device.inputs = omega (arith, lt, are.long) in
    are.each input there ∙ sym (all.each input there))

-- the same rows have the same flags in closed form
pub closed_flags-same : (s : SetupParts) (entries more : List Entry) (blocks : Blocks) (k : ℕ)
    → AreRows s.device.rate.frames (claim_rows s entries k) (claim_rows s more k)
    → closed_flags s entries blocks k ≡ closed_flags s more blocks k
closed_flags-same s entries more blocks k rows =
    closed_flags-only s more blocks k (closed_flags s entries blocks k)
    (AreClosed-same s entries more blocks k (closed_flags s entries blocks k) rows
    (closed_flags-closed s entries blocks k))

-- ---- what a packet finds

found_there : (flag : Bool) (block : Option (List ℤ)) → flag ≡ is_some block
    → block ≡ (if flag then block else None)
found_there true block e = refl
found_there false None e = refl
found_there false (Some samples) e = absurd (unset false refl (e ∙ refl))

named_flag : (named there flag : Bool) → named ≡ true → flag ≡ (named && there) → flag ≡ there
named_flag true there flag e is = is
named_flag false there flag e is = absurd (unset false refl e)

past_flag : (s : SetupParts) (found : List Bool) (input : ℕ) → length found ≡ length s.device.inputs
    → length s.device.inputs ≤ input → flag_of found input ≡ false
past_flag s found input long past = get_or_past found input false (omega (arith, long, past))

-- with flags in closed form it finds the blocks that it names, where no others are there
pub closed_finds : (s : SetupParts) (entries : List Entry) (blocks : Blocks) (k : ℕ)
    (found : List Bool) → AreClosed s entries blocks k found
    → ((input : ℕ) → length s.device.inputs ≤ input → blocks input (tick_of_claim s k) ≡ None)
    → IsFound s entries k (λ input. blocks input (tick_of_claim s k)) blocks found
closed_finds s entries blocks k found are past input named =
    elim (cases_lt input (length s.device.inputs)) [
      | inl there ↦
          found_there (flag_of found input) (blocks input (tick_of_claim s k))
          (named_flag (names_by s entries k input) (is_there s blocks k input) (flag_of found input)
          named (are.each input there))
      | inr behind ↦
          let none = past input behind in
          rw (past_flag s found input are.long behind) none
    ]
