-- What a look at a table tells, and what a publication asks and gives. (This project's own.)
use Rattle.std.specs.Prelude.{◌≡◌, ℕ, ◌+◌, ◌-◌, ◌<◌, ◌≤◌, Bool, nat_lt, List, ◌++◌, length, max}
use Rattle.std.specs.Prelude.{count_by}
use Rattle.std.specs.List.{All, Contains}
use Rattle.map_entry.specs.declared.claims.TheConstants.{CLAIMS_LIMIT}
use Rattle.map_entry.specs.declared.entry.Entry.{Entry}
use Rattle.map_entry.specs.Entry.{IsEntryOk}
use Rattle.map_entry.specs.Setup.{SetupParts}
use Rattle.map_entry.specs.Tick.{first_tick}
use Rattle.claim_rule.specs.declared.plan.Plan.{Plan}
use Rattle.claim_rule.specs.declared.view.View.{View}
use Rattle.claim_rule.specs.declared.words.TheConstants.{TICKS_LIMIT}
use Rattle.claim_rule.specs.Claims.{claims_at, begin}
use Rattle.claim_rule.specs.Words.{places}
use Rattle.claim_rule.specs.Views.{IsSight, sight, saw}
use Rattle.claim_word.specs.declared.state.State.{State}

-- A state that is seen: its claims are those of its draws, it is not below what was seen or told
-- before, and there are at most as many draws as packets and workers.
pub record IsState (v : View) (s : State) : Type 0 where
  pub claims : s.claims ≡ claims_at v.plan s.raw
  pub few : s.claims < CLAIMS_LIMIT
  pub most : s.raw ≤ v.plan.packets + v.plan.workers
  pub sights : All (IsSight s.entries s.raw) v.sights
  pub told : All (IsSight s.entries s.raw) v.told

-- the view after a state is seen
abbrev pub having_seen : View → State → View
having_seen v s = saw v s.raw s.entries

-- the state is one that the publisher saw, since when it has published nothing
pub record HasSeen (v : View) (s : State) : Type 0 where
  pub seen : Contains v.sights (sight s.raw s.entries)
  pub claims : s.claims ≡ claims_at v.plan s.raw
  pub entries : s.entries ≡ length v.entries

-- What a publication asks of new entries after those published, at a number of claims: there are
-- places for them; they say that they were published at these claims; their outputs are there, and
-- their rows pass the check; words can spell their ticks; and none counts from a tick that has
-- begun.
pub record ArePublishable (s : SetupParts) (claims : ℕ) (entries new : List Entry) : Type 0 where
  pub room : length entries + length new ≤ places
  pub ats : All (λ e. e.at ≡ claims) new
  pub rows : All (IsEntryOk s.device) new
  pub ticks : All (λ e. e.tick < TICKS_LIMIT) new
  pub timely : All (λ e. first_tick s.device.base (length s.device.outputs) e.at ≤ e.tick) new

-- the new entries follow the others, all at once, and nothing else changes but the words of
-- places
abbrev pub IsPublished : View → View → List Entry → Type 0
IsPublished v w new = w ≡ record v { entries = v.entries ++ new; cells = w.cells }

-- that many numbers were drawn: this was seen, no entry is published, and nothing else changes but
-- the words of places
abbrev pub IsMissed : View → View → ℕ → Type 0
IsMissed v w raw = w ≡ record (saw v raw (length v.entries)) { cells = w.cells }

-- whether an entry counted from a tick above the first one not begun when it came to the table
abbrev pub is_above : Plan → Entry → Bool
is_above plan e = nat_lt (begin plan (max plan.from e.at)) e.tick

-- the places left, where an entry that came before its tick keeps a second place for its deletion
abbrev pub places_left : Plan → List Entry → ℕ
places_left plan entries = places - (length entries + count_by (is_above plan) entries)
