-- What the bytes that are held begin with, before the head of a request is taken from them. What a
-- head is, and which bytes it has, is httparse's grammar of RFC 9112, sections 2 to 5, in which
-- empty lines may come first and a line may end in LF alone. (The limits, and when a head is
-- refused, are this project's own.)
use Rattle.std.specs.Prelude.{◌≡◌, ℕ, ◌<◌, ◌≤◌, ◌⊎◌, Bool, List, [], ◌∷◌}
use Rattle.std.specs.Prelude.{◌++◌, length, take, ◌==◌, IsTrue, if◌then◌else◌}
use Rattle.std.specs.List.{list_any}
use Rattle.httparse.specs.Grammar.{RequestHead, ReadsRequest, HasNoRequest, print_request}
use Rattle.httparse.specs.Pieces.{is_newline}
use Rattle.http_wire.specs.declared.limits.TheConstants.{MOST_HEAD, MOST_FIELDS}
use Rattle.http_wire.specs.declared.status.TheConstants.{BAD_REQUEST, FIELDS_TOO_LARGE}

-- the bytes are this head and then the rest, and it is within its limits
pub record IsFit (bytes : List ℕ) (h : RequestHead) (rest : List ℕ) : Type 0 where
  pub reads : ReadsRequest bytes h rest
  pub fields : length h.fields ≤ MOST_FIELDS
  pub size : length (print_request h) ≤ MOST_HEAD

-- they begin with a head within its limits
abbrev pub BeginsFit : List ℕ → Type 0
BeginsFit bytes = (h : RequestHead) × (rest : List ℕ) × IsFit bytes h rest

-- whatever bytes follow (or none), they do not begin with a head within its limits
abbrev pub IsDoubtful : List ℕ → Type 0
IsDoubtful bytes = (more : List ℕ) → ¬ (BeginsFit (bytes ++ more))

-- whatever bytes follow (or none), they begin with no head of few enough fields, whatever its size
abbrev pub IsHopeless : List ℕ → Type 0
IsHopeless bytes = (more : List ℕ) (h : RequestHead) (rest : List ℕ)
    → ReadsRequest (bytes ++ more) h rest → MOST_FIELDS < length h.fields

-- some bytes can follow that make a head of any size
abbrev pub CanBecomeHead : List ℕ → Type 0
CanBecomeHead bytes = (more : List ℕ) × (h : RequestHead) × ReadsRequest (bytes ++ more) h []

-- the bytes from the first that is neither CR nor LF
abbrev pub skip_newlines : List ℕ → List ℕ
skip_newlines [] = []
skip_newlines (b ∷ bytes) = if is_newline b then skip_newlines bytes else b ∷ bytes

-- a whole line has come: a line feed follows the first byte that is neither CR nor LF
abbrev pub has_line : List ℕ → Bool
has_line bytes = list_any (λ b. b == 10) (skip_newlines bytes)

-- no head of any size has come, and once a line has, some bytes can follow that make one
abbrev pub IsOpen : List ℕ → Type 0
IsOpen bytes = HasNoRequest bytes × (IsTrue (has_line bytes) → CanBecomeHead bytes)

-- the bytes in which a head must lie
abbrev pub window : List ℕ → List ℕ
window bytes = take MOST_HEAD bytes

-- a head has not come, and the bytes are not too many for one
abbrev pub IsAwaited : List ℕ → Type 0
IsAwaited bytes = (length bytes < MOST_HEAD) × IsOpen bytes

-- The statuses with which a head is refused. It is bad where its window is hopeless, and too large
-- where the window is full and open. Both are allowed just where the window is all three: then it
-- holds no whole line, or can become heads with too many fields alone. While the window is hopeless
-- and open and not full, the head may also be awaited.
abbrev pub IsRefusedHead : List ℕ → ℕ → Type 0
IsRefusedHead bytes status =
    ((status ≡ BAD_REQUEST) × IsHopeless (window bytes))
    ⊎ ((status ≡ FIELDS_TOO_LARGE) × (MOST_HEAD ≤ length bytes) × IsOpen (window bytes))

-- a head is refused only where none within its limits can come
abbrev pub RefusesDoubtful : Type 0
RefusesDoubtful = (bytes : List ℕ) (status : ℕ) → IsRefusedHead bytes status → IsDoubtful bytes

-- once a line has come, both statuses are allowed only where the window can become a head, but none
-- of few enough fields
abbrev pub TellsApart : Type 0
TellsApart = (bytes : List ℕ) → IsTrue (has_line (window bytes))
    → IsRefusedHead bytes BAD_REQUEST → IsRefusedHead bytes FIELDS_TOO_LARGE
    → CanBecomeHead (window bytes) × IsHopeless (window bytes)
