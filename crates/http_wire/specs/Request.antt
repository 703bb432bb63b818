-- The request of a head and a body. (RFC 9112, sections 3 and 9; RFC 9110, section 9.)
use Rattle.std.specs.Prelude.{ℕ, List, [], ◌∷◌, map, Bool, ◌==◌, ◌||◌, if◌then◌else◌, codes}
use Rattle.std.specs.Str.{bytes_eq}
use Rattle.std.specs.List.{list_any}
use Rattle.httparse.specs.Grammar.{RequestHead}
use Rattle.httparse.specs.Spans.{name_and_value}
use Rattle.http_wire.specs.Fields.{framing_of, says_close}
use Rattle.http_wire.specs.declared.fields.Framing.{Framing}
use Rattle.http_wire.specs.declared.request.HttpRequest.{HttpRequest}
use Rattle.http_wire.specs.declared.request.Method.{Method}
use Rattle.http_wire.specs.declared.request.Method.TheVariants.{Get, Post, Delete, Options, Other}

-- the method of a name, in which capital and small letters differ
abbrev pub method_in : List ℕ → Method
method_in name =
    if bytes_eq name (codes "GET") then Get
    else if bytes_eq name (codes "POST") then Post
    else if bytes_eq name (codes "DELETE") then Delete
    else if bytes_eq name (codes "OPTIONS") then Options
    else Other

-- the target up to its first question mark
abbrev pub path_in : List ℕ → List ℕ
path_in [] = []
path_in (b ∷ target) = if b == 63 then [] else b ∷ path_in target

-- how long the body of the head is, or why it is refused
abbrev pub framing_in : RequestHead → Framing
framing_in h = framing_of (method_in h.method) (map name_and_value h.fields)

-- the connection ends after the request: it is of HTTP/1.0, or says so
abbrev pub closes_in : RequestHead → Bool
closes_in h = (h.minor == 0) || list_any says_close (map name_and_value h.fields)

-- the request of a head and a body
abbrev pub request_in : RequestHead → List ℕ → HttpRequest
request_in h body = record {
  method = method_in h.method;
  path = path_in h.target;
  body = body;
  closes = closes_in h;
}
