-- The text of a response: status line, fields, an empty line, body. (RFC 9112, sections 4 and 6;
-- RFC 9110, sections 8.6, 10.2.1 and 15; RFC 8259 for JSON; the Access-Control fields are those of
-- the Fetch standard's CORS protocol. Which fields stand, and in which order, is this project's
-- own.)
use Rattle.std.specs.Prelude.{ℕ, List, [], ◌∷◌, ◌++◌, length, Bool, false, not}
use Rattle.std.specs.Prelude.{◌==◌, ◌||◌, IsTrue, if◌then◌else◌, codes, decimal}
use Rattle.std.specs.List.{list_any}
use Rattle.http_wire.specs.declared.response.Extra.{Extra}
use Rattle.http_wire.specs.declared.response.Extra.TheVariants.{Nothing, Preflight, AllowGet}
use Rattle.http_wire.specs.declared.response.Extra.TheVariants.{AllowPost, AllowDelete}

-- a status that is answered, and its reason phrase
abbrev pub reasons : List (ℕ × List ℕ)
reasons =
    (200, codes "OK") ∷ (202, codes "Accepted") ∷ (204, codes "No Content")
    ∷ (400, codes "Bad Request") ∷ (404, codes "Not Found") ∷ (405, codes "Method Not Allowed")
    ∷ (411, codes "Length Required") ∷ (413, codes "Content Too Large") ∷ (423, codes "Locked")
    ∷ (431, codes "Request Header Fields Too Large") ∷ (503, codes "Service Unavailable")
    ∷ []

-- the phrase that stands beside a status in a table
abbrev pub phrase_in : List (ℕ × List ℕ) → ℕ → List ℕ
phrase_in [] status = []
phrase_in (row ∷ rows) status = if row.0 == status then row.1 else phrase_in rows status

-- the status stands in the table
abbrev pub IsStatus : ℕ → Type 0
IsStatus status = IsTrue (list_any (λ (row : ℕ × List ℕ). row.0 == status) reasons)

-- a response has no body where it is told that there is no content, and to a question for what is
-- allowed
abbrev pub has_body : ℕ → Extra → Bool
has_body status Nothing = not (status == 204)
has_body status Preflight = false
has_body status AllowGet = not (status == 204)
has_body status AllowPost = not (status == 204)
has_body status AllowDelete = not (status == 204)

-- `HTTP/1.1 STATUS REASON`
unfoldable pub status_line : ℕ → List ℕ
status_line status = codes "HTTP/1.1 " ++ decimal status ++ codes " " ++ phrase_in reasons status
    ++ codes "\r\n"

-- the body is JSON of a given number of bytes
unfoldable pub json_lines : ℕ → List ℕ
json_lines length = codes "Content-Type: application/json\r\nContent-Length: " ++ decimal length
    ++ codes "\r\n"

-- what the body is; that there is none is said by the length 0, but not where there is no content
unfoldable pub content_lines : ℕ → Extra → ℕ → List ℕ
content_lines status extra length =
    if has_body status extra then json_lines length
    else if status == 204 then []
    else codes "Content-Length: 0\r\n"

-- the fields of a preflight, and the methods that a resource has
unfoldable pub extra_lines : Extra → List ℕ
extra_lines Nothing = []
extra_lines Preflight =
    codes "Access-Control-Allow-Methods: GET, POST, DELETE, OPTIONS\r\n"
    ++ codes "Access-Control-Allow-Headers: Content-Type, Accept\r\n"
    ++ codes "Access-Control-Max-Age: 3600\r\n"
extra_lines AllowGet = codes "Allow: GET, OPTIONS\r\n"
extra_lines AllowPost = codes "Allow: GET, POST, OPTIONS\r\n"
extra_lines AllowDelete = codes "Allow: GET, DELETE, OPTIONS\r\n"

-- the connection ends after the response where the request asks for it, and where memory ran out
unfoldable pub connection_line : ℕ → Bool → List ℕ
connection_line status closes = if closes || status == 503 then codes "Connection: close\r\n"
    else codes "Connection: keep-alive\r\n"

-- the head of a response whose body has a given number of bytes
unfoldable pub response_head : ℕ → Extra → Bool → ℕ → List ℕ
response_head status extra closes length =
    status_line status ++ content_lines status extra length
    ++ codes "Access-Control-Allow-Origin: *\r\n"
    ++ extra_lines extra ++ connection_line status closes ++ codes "\r\n"

-- the response
abbrev pub response_text : ℕ → Extra → Bool → List ℕ → List ℕ
response_text status extra closes body =
    response_head status extra closes (length body) ++ (if has_body status extra then body else [])
