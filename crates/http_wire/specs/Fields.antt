-- What the header fields of a request say of its body and of its connection. A field is its name,
-- and its value without the spaces and tabs round it. (RFC 9112, sections 6 and 9.6; RFC 9110,
-- section 8.6. That a transfer coding, a POST without a length and a long body are refused, and
-- how, is this project's own.)
use Rattle.std.specs.Prelude.{◌≡◌, ℕ, ◌≤◌, List, [], ◌∷◌, map, filter, Bool, length}
use Rattle.std.specs.Prelude.{not, ◌==◌, ◌&&◌, nat_le, if◌then◌else◌, codes}
use Rattle.std.specs.List.{list_all, list_any}
use Rattle.std.specs.Char.{is_ascii_digit}
use Rattle.std.specs.Str.Parse.{digits_value}
use Rattle.std.specs.Str.{str_eq_ignore_ascii_case}
use Rattle.httparse.specs.Spans.{span_bytes, IsWithin}
use Rattle.http_wire.specs.declared.limits.TheConstants.{MOST_BODY}
use Rattle.http_wire.specs.declared.status.TheConstants.{BAD_REQUEST, LENGTH_REQUIRED}
use Rattle.http_wire.specs.declared.status.TheConstants.{CONTENT_TOO_LARGE}
use Rattle.http_wire.specs.declared.request.Method.{Method}
use Rattle.http_wire.specs.declared.request.Method.TheVariants.{Get, Post, Delete, Options, Other}
use Rattle.http_wire.specs.declared.fields.Framing.{Framing}
use Rattle.http_wire.specs.declared.fields.Framing.TheVariants.{Body, Refused}
use Rattle.http_wire.specs.declared.fields.Values.{Values}
use Rattle.http_wire.specs.declared.fields.Values.TheVariants.{Missing, One, Several}

-- the field has this name, in whatever case
abbrev pub is_named : List ℕ → List ℕ × List ℕ → Bool
is_named name field = str_eq_ignore_ascii_case field.0 name

-- the values of the fields of this name
abbrev pub values_of : List ℕ → List (List ℕ × List ℕ) → List (List ℕ)
values_of name fields = map (λ (field : List ℕ × List ℕ). field.1) (filter (is_named name) fields)

-- how many values there are, and where the only one stands
abbrev pub AreValues : List ℕ → List (List ℕ) → Values → Type 0
AreValues bytes values Missing = values ≡ []
AreValues bytes values (One span) = (values ≡ span_bytes bytes span ∷ [])
    × IsWithin (length bytes) span
AreValues bytes values Several = 2 ≤ length values

-- Content-Length = 1*DIGIT
abbrev pub is_number : List ℕ → Bool
is_number value = not (length value == 0) && list_all is_ascii_digit value

-- the body by the one value of Content-Length: of that length, if this is a number that is not too
-- large
abbrev pub framing_by : List ℕ → Framing
framing_by value =
    if is_number value
    then (if nat_le (digits_value 10 value) MOST_BODY then Body (digits_value 10 value)
    else Refused CONTENT_TOO_LARGE)
    else Refused BAD_REQUEST

-- the body without Content-Length: none, but a POST needs to tell its length
abbrev pub framing_without : Method → Framing
framing_without Get = Body 0
framing_without Post = Refused LENGTH_REQUIRED
framing_without Delete = Body 0
framing_without Options = Body 0
framing_without Other = Body 0

-- the body by the values of Content-Length, of which there may be one at most
abbrev pub framing_from : Method → List (List ℕ) → Framing
framing_from method [] = framing_without method
framing_from method (value ∷ []) = framing_by value
framing_from method (value ∷ other ∷ values) = Refused BAD_REQUEST

-- the body by all the fields: no transfer coding is taken, so a message must tell its length
abbrev pub framing_of : Method → List (List ℕ × List ℕ) → Framing
framing_of method fields =
    if list_any (is_named (codes "transfer-encoding")) fields then Refused LENGTH_REQUIRED
    else framing_from method (values_of (codes "content-length") fields)

-- the field says that the connection ends after the request
abbrev pub says_close : List ℕ × List ℕ → Bool
says_close field = is_named (codes "connection") field
    && str_eq_ignore_ascii_case field.1 (codes "close")
