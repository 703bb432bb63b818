-- Which words are those of a command. (This project's own.)
use Rattle.std.specs.Prelude.{ℕ, Bool, ◌&&◌, nat_lt, nat_le, List, [], ◌∷◌, length, codes}
use Rattle.std.specs.Prelude.{string_bytes, String, Option, Some, None, option_map}
use Rattle.std.specs.Prelude.{bytes_eq, if◌then◌else◌}
use Rattle.std.specs.Char.{digit_value}
use Rattle.std.specs.List.{list_all}
use Rattle.std.specs.Str.Parse.{digits_value, without_leading_plus}
use Rattle.std.specs.declared.alloc.Global.{Global}
use Rattle.io_caps.specs.declared.limits.TheConstants.{MOST_FRAMES}
use Rattle.chanmap.specs.declared.command.Command.{Command}
use Rattle.chanmap.specs.declared.command.Command.TheVariants.{Serial, Sdp, FromSdp}

-- one digit or more, and nothing else
abbrev pub are_digits : List ℕ → Bool
are_digits text = nat_lt 0 (length text) && list_all (λ b. nat_lt (digit_value b) 10) text

-- the number that digits write, from a least one to a greatest
abbrev pub number_within : ℕ → ℕ → List ℕ → Option ℕ
number_within least most digits =
    if are_digits digits && (nat_le least (digits_value 10 digits)
    && nat_le (digits_value 10 digits) most)
    then Some (digits_value 10 digits)
    else None

-- frames a tick: their number, in front of which a plus may stand
abbrev pub frames_of : List ℕ → Option ℕ
frames_of word = number_within 1 MOST_FRAMES (without_leading_plus word)

-- a command that takes no word after its name
abbrev pub alone : Command → List (String Global) → Option Command
alone command [] = Some command
alone command (word ∷ words) = None

-- the command that takes the frames a tick after its name
abbrev pub with_frames : List (String Global) → Option Command
with_frames [] = None
with_frames (word ∷ []) = option_map FromSdp (frames_of (string_bytes word))
with_frames (word ∷ next ∷ words) = None

-- The command of the words: the first one is its name, and the others are such as it takes.
abbrev pub command_of : List (String Global) → Option Command
command_of [] = None
command_of (name ∷ words) =
    if bytes_eq (string_bytes name) (codes "serial") then alone Serial words
    else if bytes_eq (string_bytes name) (codes "sdp") then alone Sdp words
    else if bytes_eq (string_bytes name) (codes "from-sdp") then with_frames words
    else None
