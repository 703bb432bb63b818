-- What is written of entries, word by word. (This project's own.)
use Rattle.std.specs.Prelude.{◌≡◌, ℕ, ◌*◌, ◌^◌, ◌<◌, ◌≤◌, List, [], ◌∷◌, ◌++◌, length, drop}
use Rattle.std.specs.Prelude.{slice_index}
use Rattle.io_caps.specs.declared.limits.TheConstants.{MOST_CHANNELS}
use Rattle.map_entry.specs.declared.claims.TheConstants.{CLAIMS_LIMIT}
use Rattle.map_entry.specs.declared.entry.Entry.{Entry}
use Rattle.claim_rule.specs.declared.view.View.{View}
use Rattle.claim_rule.specs.declared.words.TheConstants.{TICKS_LIMIT}
use Rattle.claim_rule.specs.Views.{newcomer, no_plan}
use Rattle.claim_rule.specs.Words.{stride, state_word, IsSpeltAt, Spells}

-- words can spell the entry
pub record IsWide (e : Entry) : Type 0 where
  pub output : e.output < 2 ^ 6
  pub tick : e.tick < TICKS_LIMIT
  pub at : e.at < CLAIMS_LIMIT
  pub offset : e.offset < 2 ^ 8
  pub row : length e.row ≤ MOST_CHANNELS

-- the view after an entry was written at a place: nothing changes but words, and none in front of
-- the place
pub record WroteAt (v w : View) (place : ℕ) (e : Entry) : Type 0 where
  pub only : w ≡ record v { cells = w.cells }
  pub long : length w.cells ≡ length v.cells
  pub spelt : IsSpeltAt w.cells place e
  pub before : (p : ℕ) → p < place * stride → slice_index w.cells p ≡ slice_index v.cells p

-- the view after entries were written after those that it knows
pub record WroteAll (v w : View) (new : List Entry) : Type 0 where
  pub only : w ≡ record v { cells = w.cells }
  pub long : length w.cells ≡ length v.cells
  pub spelt : Spells w.cells (v.entries ++ new)

-- a view of these words alone
abbrev pub holding : List ℕ → View
holding cells = record (newcomer no_plan 0 []) { cells = cells }

-- words with which a table may begin that has these entries
pub record IsLaid (words : List ℕ) (entries : List Entry) : Type 0 where
  pub head : words ≡ state_word (length entries) 0 ∷ drop 1 words
  pub spelt : Spells (drop 1 words) entries
