-- How a line is cut, and the numbers in it. (RFC 8866, sections 5 and 9: the parts of a line stand
-- between single spaces, or around a `/`. That a number has at most ten digits is this project's
-- own.)
use Rattle.std.specs.Prelude.{ℕ, ◌+◌, Bool, ◌&&◌, nat_lt, nat_le, ◌==◌, if◌then◌else◌}
use Rattle.std.specs.Prelude.{List, length, take, drop, position, slice_index}
use Rattle.std.specs.Prelude.{Option, Some, None, option_map}
use Rattle.std.specs.Char.{is_ascii_digit, is_ascii_lowercase}
use Rattle.std.specs.List.{list_all, slice_split, starts_with}
use Rattle.std.specs.Str.Parse.{digits_value}
use Rattle.sdp_audio.specs.declared.limits.TheConstants.{MOST_DIGITS}

-- ' '
abbrev pub space : ℕ
space = 32

-- '/'
abbrev pub slash : ℕ
slash = 47

-- the line begins with a lower-case letter and '='
abbrev pub is_typed : List ℕ → Bool
is_typed line = is_ascii_lowercase (slice_index line 0) && slice_index line 1 == 61

-- what follows a text with which the line begins
abbrev pub after_prefix : List ℕ → List ℕ → Option (List ℕ)
after_prefix prefix line =
    if starts_with ◌==◌ line prefix then Some (drop (length prefix) line) else None

-- what stands before and after the first byte of this value, where there is one
abbrev pub cut_at : ℕ → List ℕ → Option (List ℕ × List ℕ)
cut_at byte text =
    option_map (λ at. (take at text, drop (at + 1) text)) (position (λ b. b == byte) text)

-- the words between single spaces
abbrev pub words : List ℕ → List (List ℕ)
words text = slice_split (λ b. b == space) text

-- one to ten digits
abbrev pub is_numeral : List ℕ → Bool
is_numeral text = nat_lt 0 (length text) && nat_le (length text) MOST_DIGITS
    && list_all is_ascii_digit text

-- the number that the text is, from a least one to a greatest
abbrev pub number_in : ℕ → ℕ → List ℕ → Option ℕ
number_in least most text =
    if is_numeral text && nat_le least (digits_value 10 text) && nat_le (digits_value 10 text) most
    then Some (digits_value 10 text)
    else None
