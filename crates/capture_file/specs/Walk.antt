-- Records one after the other, up to a last one, each judged by what stands before it. (This
-- project's own.)
use Rattle.std.specs.Prelude.{◌≡◌, ℕ, ◌+◌, ◌<◌, ◌^◌, List, [], ◌∷◌, ◌++◌, length, Result, Ok, Err}
use Rattle.std.specs.Prelude.{◌⊎◌}
use Rattle.std.specs.List.{flat_map}
use Rattle.io_caps.specs.declared.memory.Or.{Or}
use Rattle.io_caps.specs.declared.memory.Or.TheVariants.{Fault, NoMemory}
use Rattle.exact_text.specs.Spellings.{record_text}
use Rattle.capture_file.specs.declared.walk.Step.{Step}
use Rattle.capture_file.specs.declared.walk.Step.TheVariants.{Next, Last}

-- what is said of a fault; nothing is said where memory ran out
abbrev pub IfFault : {F : Type 0} → Or F → (F → Type 0) → Type 0
IfFault (Fault fault) P = P fault
IfFault NoMemory P = Unit {0}

-- what is said where memory ran out; nothing is said of a fault
abbrev pub IfNoMemory : {F : Type 0} → Or F → Type 0 → Type 0
IfNoMemory (Fault fault) P = Unit {0}
IfNoMemory NoMemory P = P

-- a record was judged rightly, by what it does or by its fault
abbrev pub IsJudged : {S F : Type 0} → (Result S F → Type 0) → Result S (Or F) → Type 0
IsJudged Is (Ok step) = Is (Ok step)
IsJudged Is (Err e) = IfFault e (λ fault. Is (Err fault))

-- a record by its tag and its body: the tag is a byte, and the body's length fits 4 bytes
abbrev pub IsRecord : ℕ × List ℕ → Type 0
IsRecord r = (r.0 < 256) × (length r.1 < 256 ^ 4)

-- the bytes of a record
abbrev pub text_of : ℕ × List ℕ → List ℕ
text_of r = record_text r.0 r.1

-- how records are judged: by what stands before one, its place, its tag and its body, what it does
-- to what stands before it, or its fault
abbrev pub Judging : Type 0 → Type 0 → Type 0 → Type 1
Judging S E F = S → ℕ → ℕ → List ℕ → Result (Step S E) F → Type 0

-- records that are taken one after the other, the first of them at a place, lead from this to that
abbrev pub Leads : {S E F : Type 0} → Judging S E F → S → ℕ → List (ℕ × List ℕ) → S → Type 0
Leads judges s at [] end = s ≡ end
Leads {S = S} judges s at (r ∷ others) end =
    IsRecord r × ((next : S) × (judges s at r.0 r.1 (Ok (Next next))
    × Leads judges next (at + length (text_of r)) others end))

-- A front of the last bytes of a whole, of whole records that are taken: the place in the whole of
-- the first of them, what they lead to, and what follows them.
pub record Front {S E F : Type 0} (judges : Judging S E F) (start : S) (whole : ℕ) (bytes : List ℕ)
    (end : S) (behind : List ℕ) : Type 0 where
  pub from : ℕ
  pub place : from + length bytes ≡ whole
  pub records : List (ℕ × List ℕ)
  pub parts : bytes ≡ flat_map text_of records ++ behind
  pub leads : Leads judges start from records end

-- what stands there is not a whole record
abbrev pub IsCut : List ℕ → Type 0
IsCut bytes = (r : ℕ × List ℕ) (rest : List ℕ) → IsRecord r → bytes ≡ text_of r ++ rest → ⊥

-- this record stands there
pub record Stands (bytes : List ℕ) (r : ℕ × List ℕ) (rest : List ℕ) : Type 0 where
  pub parts : bytes ≡ text_of r ++ rest
  pub fits : IsRecord r

-- the record that stands at this place has this fault
pub record HasFault {S E F : Type 0} (judges : Judging S E F) (s : S) (at : ℕ) (bytes : List ℕ)
    (fault : F) : Type 0 where
  pub of : ℕ × List ℕ
  pub rest : List ℕ
  pub stands : Stands bytes of rest
  pub judged : judges s at of.0 of.1 (Err fault)

-- what stands at this place is faulty in this way: it is not a whole record, which is the fault
-- `cut`, or it is one that has the fault
abbrev pub IsFaulty : {S E F : Type 0} → Judging S E F → F → S → ℕ → List ℕ → F → Type 0
IsFaulty judges cut s at bytes fault =
    (IsCut bytes × (fault ≡ cut)) ⊎ HasFault judges s at bytes fault

-- The first fault of the last bytes of a whole: after a front of good records, up to this place in
-- the whole, stands what is faulty in this way.
pub record FaultAt {S E F : Type 0} (judges : Judging S E F) (cut : F) (start : S) (whole : ℕ)
    (bytes : List ℕ) (at : ℕ) (fault : F) : Type 0 where
  pub before : S
  pub behind : List ℕ
  pub front : Front judges start whole bytes before behind
  pub place : at + length behind ≡ whole
  pub faulty : IsFaulty judges cut before at behind fault

-- The end: after a front of good records stands the last one, at its place, up to this place in the
-- whole.
pub record EndsAt {S E F : Type 0} (judges : Judging S E F) (start : S) (whole : ℕ) (bytes : List ℕ)
    (end : E) (at : ℕ) : Type 0 where
  pub before : S
  pub behind : List ℕ
  pub front : Front judges start whole bytes before behind
  pub last : ℕ × List ℕ
  pub rest : List ℕ
  pub stands : Stands behind last rest
  pub last_at : ℕ
  pub last_place : last_at + length behind ≡ whole
  pub judged : judges before last_at last.0 last.1 (Ok (Last end))
  pub place : at + length rest ≡ whole
