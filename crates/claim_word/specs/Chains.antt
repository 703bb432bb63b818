-- The chains by which a pass finds the entry that rules: from the entry that ruled an output last,
-- each leads to the next that takes effect there. (This project's own.)
use Rattle.std.specs.Prelude.{◌≡◌, ◌≢◌, ℕ, ◌<◌, ◌≤◌, List, length, Option, None, IfSome, IfNone}
use Rattle.std.specs.Prelude.{slice_index_or, vec_capacity}
use Rattle.map_entry.specs.Tick.{frame_key}
use Rattle.claim_rule.specs.Words.{places}
use Rattle.claim_word.specs.declared.chain.Head.{Head}
use Rattle.claim_word.specs.declared.chain.Track.{Track}
use Rattle.claim_word.specs.declared.chain.Chains.{Chains}

-- ---- heads

-- the head that is read where there is none
abbrev pub no_head : Head
no_head = record { output = 0; tick = 0; offset = 0 }

-- the head at a place
abbrev pub head_at : List Head → ℕ → Head
head_at heads place = slice_index_or heads place no_head

-- the output of the entry at a place
abbrev pub output_at : List Head → ℕ → ℕ
output_at heads place = (head_at heads place).output

-- when an entry with this head takes effect
abbrev pub head_due : Head → ℕ
head_due head = frame_key head.tick head.offset

-- when the entry at a place takes effect
abbrev pub due_at : List Head → ℕ → ℕ
due_at heads place = head_due (head_at heads place)

-- ---- chains, each fact over the first n heads

-- no entry further on, of the same output, takes effect earlier
abbrev pub IsLive : List Head → ℕ → ℕ → Type 0
IsLive heads n place =
    (j : ℕ) → place < j → j < n → output_at heads j ≡ output_at heads place
    → due_at heads place ≤ due_at heads j

-- of the entries further on, of the same output, none takes effect before the next one
pub record IsNext (heads : List Head) (n place next : ℕ) : Type 0 where
  pub after : place < next
  pub there : next < n
  pub output : output_at heads next ≡ output_at heads place
  pub first : (j : ℕ) → place < j → j < n → output_at heads j ≡ output_at heads place
      → due_at heads next ≤ due_at heads j

-- no entry of the same output comes further on
abbrev pub IsEnd : List Head → ℕ → ℕ → Type 0
IsEnd heads n place =
    (j : ℕ) → place < j → j < n → output_at heads j ≢ output_at heads place

-- where the entry at a place leads
abbrev pub next_at : List (Option ℕ) → ℕ → Option ℕ
next_at next place = slice_index_or next place None

-- an entry leads to its next one, or to none where there is none
pub record IsLinked (heads : List Head) (n : ℕ) (next : List (Option ℕ)) (place : ℕ) : Type 0 where
  pub some : IfSome (next_at next place) (IsNext heads n place)
  pub none : IfNone (next_at next place) (IsEnd heads n place)

-- the entry at a place is live, and from it on each live one of its output leads to its next one
pub record IsChain (heads : List Head) (n : ℕ) (next : List (Option ℕ)) (from : ℕ) : Type 0 where
  pub there : from < n
  pub live : IsLive heads n from
  pub links : (k : ℕ) → from ≤ k → k < n → output_at heads k ≡ output_at heads from
      → IsLive heads n k → IsLinked heads n next k

-- the chain of an output, and its newest entry
pub record IsTrack (heads : List Head) (n : ℕ) (next : List (Option ℕ)) (output : ℕ) (track : Track)
    : Type 0 where
  pub begins : output_at heads track.at ≡ output
  pub chain : IsChain heads n next track.at
  pub after : track.at ≤ track.newest
  pub there : track.newest < n
  pub newest : output_at heads track.newest ≡ output
  pub end : IsEnd heads n track.newest

-- the chain of an output at this place of a list of them
abbrev pub track_at : List (Option Track) → ℕ → Option Track
track_at tracks output = slice_index_or tracks output None

-- no entry is of the output
abbrev pub IsBare : List Head → ℕ → ℕ → Type 0
IsBare heads n output = (j : ℕ) → j < n → output_at heads j ≢ output

-- the chains of the given number of outputs, which lead through the entries in front
pub record IsChained (heads : List Head) (outputs : ℕ) (chains : Chains) : Type 0 where
  pub room : places ≤ vec_capacity chains.next
  pub few : length chains.next.items ≤ length heads
  pub count : length chains.tracks.items ≡ outputs
  pub tracks : (output : ℕ) → IfSome (track_at chains.tracks.items output)
      (IsTrack heads (length chains.next.items) chains.next.items output)
  pub bare : (output : ℕ) → output < outputs → IfNone (track_at chains.tracks.items output)
      (IsBare heads (length chains.next.items) output)

-- ---- which entries are left out

-- the entries of the output in front of a place take effect no earlier than the one there, unless
-- that one had taken effect when the chain came to it
abbrev pub HasPassed : List Head → ℕ → ℕ → ℕ → Type 0
HasPassed heads reached output place =
    (j : ℕ) → j < place → output_at heads j ≡ output → reached < due_at heads place
    → due_at heads place ≤ due_at heads j

-- so it is with each chain
abbrev pub HavePassed : List Head → ℕ → List (Option Track) → Type 0
HavePassed heads reached tracks =
    (output : ℕ) → IfSome (track_at tracks output) (λ t. HasPassed heads reached output t.at)

-- ---- what is found by them

-- the last entry of an output that has taken effect, of the first n
pub record IsRuling (heads : List Head) (n key output place : ℕ) : Type 0 where
  pub there : place < n
  pub its : output_at heads place ≡ output
  pub come : due_at heads place ≤ key
  pub past : (j : ℕ) → place < j → j < n → output_at heads j ≡ output → key < due_at heads j

-- After a frame of a tick, of the given number, the first at which an entry further on, of the same
-- output, takes effect, or as many as there are.
pub record IsFirstDue (heads : List Head) (tick frame frames upto place : ℕ) : Type 0 where
  pub goes_on : frame < upto
  pub ends : upto ≤ frames
  pub later : (j : ℕ) → place < j → j < length heads → output_at heads j ≡ output_at heads place
      → frame_key tick upto ≤ due_at heads j
  pub first : upto < frames → IsRuling heads (length heads) (frame_key tick upto)
      (output_at heads place) place → ⊥
