-- What is said of an error. (AMWA IS-08 v1.0: the error schema.)
use Rattle.std.specs.Prelude.{ℕ, List, codes}
use Rattle.serde_json.specs.Data.{Data, null, number, unsigned, string, object, no_members, member}
use Rattle.serde_json.specs.Written.{compact_text}

-- a status and a text
abbrev pub error_data : ℕ → List ℕ → Data
error_data code text =
    object (member (codes "code") (number (unsigned code))
    (member (codes "debug") null (member (codes "error") (string text) no_members)))

-- its text
abbrev pub error_text : ℕ → List ℕ → List ℕ
error_text code text = compact_text (error_data code text)
