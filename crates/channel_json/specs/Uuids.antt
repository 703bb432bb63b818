-- UUIDs as numbers. (RFC 9562, section 4; AMWA IS-04 gives sources and receivers such ids.)
use Rattle.std.specs.Prelude.{ℕ, List, Option, option_map}
use Rattle.std.specs.Int.{from_be_bytes, to_be_bytes, w128}
use Rattle.uuid.specs.Text.{parsed, hyphenated_text, lower}

-- the number that a text writes: 32 hexadecimal digits in either case, with hyphens after 8, 12,
-- 16 and 20 of them or without; with hyphens also in braces, or after `urn:uuid:`
abbrev pub uuid_of : List ℕ → Option ℕ
uuid_of text = option_map (from_be_bytes w128) (parsed text)

-- the text of a number: in lower case, with hyphens
abbrev pub uuid_text : ℕ → List ℕ
uuid_text number = hyphenated_text lower (to_be_bytes w128 number)
