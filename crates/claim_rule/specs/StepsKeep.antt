-- That a table may begin so, and that each kind of step keeps the rule and tells what it tells.
-- (This project's own.)
use Rattle.std.specs.Prelude.{◌≡◌, ℕ, ◌+◌, ◌*◌, ◌%◌, ◌^◌, ◌<◌, ◌≤◌}
use Rattle.std.specs.Prelude.{◌==◌, true, false, List, [], length}
use mathlib.Core.Option.{none, some}
use prog.Atomic.{either}
use Rattle.atomic_table.specs.Table.{step, Allows, Splits, Joins, opening}
use Rattle.map_entry.specs.declared.entry.Entry.{Entry}
use Rattle.claim_rule.specs.declared.plan.Start.{Start}
use Rattle.claim_rule.specs.declared.view.View.{View}
use Rattle.claim_rule.specs.Words.{stride, state_word}
use Rattle.claim_rule.specs.Views.{overs, opener, without_part, worker}
use Rattle.claim_rule.specs.Views.{note, noted, taken_in, spent}
use Rattle.claim_rule.specs.Rule.{Kept, Opens}
use Rattle.claim_rule.specs.Plays.{Knows, draws, reads, reads_piece, sees, writes, publishes}
use Rattle.claim_rule.specs.Plays.{MayPublish}

-- a table whose words spell the entries given may begin
abbrev pub OpeningHolds : Type 0
OpeningHolds = (start : Start) (words : List ℕ) → Opens start words
    → Kept start (opening words [] (opener start))

-- a worker that has drawn no number past the packets draws one
abbrev pub DrawKeeps : Type 0
DrawKeeps =
    (start : Start) (slots id : ℕ) (me : Knows) → me.0.live ≡ true → me.0.publishes ≡ false
    → 0 < me.0.parts → overs me.0.plan me.0 ≡ 0
    → Allows (Kept start) slots id me 0 (λ n. (n + 1) % 2 ^ 64) (draws (step slots 0 1 0 none) me)

-- a seat loads a word of an entry
abbrev pub ReadKeeps : Type 0
ReadKeeps = (start : Start) (slots id : ℕ) (me : Knows) (i : ℕ)
    → Allows (Kept start) slots id me i (λ n. n) (reads (step slots i 0 0 none) me)

-- a seat loads a word of a row for a part of a packet
abbrev pub PieceKeeps : Type 0
PieceKeeps = (start : Start) (slots id : ℕ) (me : Knows) (i : ℕ)
    → Allows (Kept start) slots id me i (λ n. n) (reads_piece (step slots i 0 0 none) me)

-- a seat loads word 0
abbrev pub LookKeeps : Type 0
LookKeeps = (start : Start) (slots id : ℕ) (me : Knows)
    → Allows (Kept start) slots id me 0 (λ n. n) (sees (step slots 0 0 0 none) me)

-- the publisher stores a word after those of the entries published
abbrev pub StoreKeeps : Type 0
StoreKeeps =
    (start : Start) (slots id : ℕ) (me : Knows) (i p word : ℕ) → i ≡ p + 1 → me.0.publishes ≡ true
    → length me.0.entries * stride ≤ p
    → Allows (Kept start) slots id me i (λ _. word) (λ _. writes (step slots i word 0 none) me word)

-- the publisher exchanges word 0, whether it finds the word expected or another
abbrev pub ExchangeKeeps : Type 0
ExchangeKeeps =
    (start : Start) (slots id : ℕ) (me : Knows) (new : List Entry) (raw old next : ℕ)
    → me.0.publishes ≡ true → raw < 2 ^ 32
    → old ≡ state_word (length me.0.entries) raw
    → next ≡ state_word (length me.0.entries + length new) raw
    → me.0.live ≡ true → MayPublish me.0.plan me.0 new raw
    → Allows (Kept start) slots id me 0
    (λ n. either (n == old) next n) (publishes (step slots 0 old next (some new)) me)

-- the publisher makes a worker's pass
abbrev pub PassKeeps : Type 0
PassKeeps = (start : Start) (id : ℕ) (v : View) → v.live ≡ true → 0 < v.parts → v.draws ≡ []
    → Splits (Kept start) id v (without_part v) (worker v)

-- a seat makes a note, or the publisher a client's pass
abbrev pub NoteKeeps : Type 0
NoteKeeps = (start : Start) (id : ℕ) (v : View) → v.live ≡ true
    → Splits (Kept start) id v v (note v)

-- a seat takes a note in
abbrev pub NoteInKeeps : Type 0
NoteInKeeps = (start : Start) (id : ℕ) (v : View) (other : ℕ) (w : View) → w.parts ≡ 0
    → Joins (Kept start) id v other w (noted v w) spent

-- the publisher takes a worker's pass in
abbrev pub PassInKeeps : Type 0
PassInKeeps = (start : Start) (id : ℕ) (v : View) (other : ℕ) (w : View)
    → Joins (Kept start) id v other w (taken_in v w) spent
