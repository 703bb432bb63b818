-- The base rows of a setup, as entries from the first tick on: a table may begin with them.
use Rattle.std.proofs.Common.{◌≡◌, ℕ, ◌+◌, ◌<◌, ◌≤◌, true, false, List, [], ◌∷◌, ◌++◌, length}
use Rattle.std.proofs.Common.{get_or, refl, sym, ap, ◌∙◌, arith, length-append}
use Rattle.std.specs.Prelude.{Option, Some, None, IsSomeAnd}
use Rattle.std.specs.List.{All}
use Rattle.std.proofs.lemmas.Bool.{true≢false}
use Rattle.std.proofs.lemmas.Bool.Decides.{nat_tests}
use Rattle.std.proofs.lemmas.List.{get_or_append_left, get_or_at}
use Rattle.std.proofs.lemmas.List.Elements.{All-nil, All-push, All-weaker}
use mathlib.Core.Logic.{dite}
use native.Mathlib.Decide.{ℕ_discrete}
use Rattle.io_caps.specs.declared.device.DeviceParts.{DeviceParts}
use Rattle.map_entry.specs.declared.cell.Cell.{Cell}
use Rattle.map_entry.specs.declared.entry.Entry.{Entry}
use Rattle.map_entry.specs.Entry.{due, rules, selected, IsEntryOk}
use Rattle.map_entry.specs.Row.{channels_of_output}
use Rattle.map_entry.specs.Setup.{SetupParts, IsSetup}
use Rattle.map_entry.proofs.Entries.{selected_row}
use Rattle.map_entry.proofs.Selection.{selected-missed}
use Rattle.claim_rule.specs.declared.words.TheConstants.{TICKS_LIMIT}
use Rattle.claim_rule.proofs.Lists.{rises_append}
use Rattle.claim_word.specs.Starts.{IsBase}
use Rattle.claim_word.proofs.Bounds.{base_few}

-- the first n of them
pub record AreFirst (s : SetupParts) (es : List Entry) (n : ℕ) : Type 0 where
  pub long : length es ≡ n
  pub outputs : (k : ℕ) (d : Entry) → k < n → (get_or es k d).output ≡ k
  pub ticks : All (λ e. e.tick ≡ s.device.base) es
  pub offsets : All (λ e. e.offset ≡ 0) es
  pub ats : All (λ e. e.at ≡ 0) es
  pub rows : All (IsEntryOk s.device) es

pub first_none : (s : SetupParts) → AreFirst s [] 0
first_none s = record {
  long = refl;
  outputs = λ k d lt. absurd (omega arith);
  ticks = All-nil (λ (e : Entry). e.tick ≡ s.device.base);
  offsets = All-nil (λ (e : Entry). e.offset ≡ 0);
  ats = All-nil (λ (e : Entry). e.at ≡ 0);
  rows = All-nil (IsEntryOk s.device);
}

pub first_more : (s : SetupParts) (es : List Entry) (n : ℕ) (e : Entry) → AreFirst s es n
    → e.output ≡ n → e.tick ≡ s.device.base → e.offset ≡ 0 → e.at ≡ 0 → IsEntryOk s.device e
    → AreFirst s (es ++ e ∷ []) (n + 1)
first_more s es n e f output tick offset at ok =
    let l = f.long in let grown = length-append es (e ∷ []) in record {
      long = omega arith;
      outputs = λ k d lt. dite (ℕ_discrete k n)
          (λ same. ap (λ (j : ℕ). (get_or (es ++ e ∷ []) j d).output) same
          ∙ (ap (λ (x : Entry). x.output) (get_or_at es e [] d n l) ∙ (output ∙ sym same)))
          (λ other. ap (λ (x : Entry). x.output) (get_or_append_left es (e ∷ []) d k (omega arith))
          ∙ f.outputs k d (omega arith));
      ticks = All-push (λ (x : Entry). x.tick ≡ s.device.base) es e f.ticks tick;
      offsets = All-push (λ (x : Entry). x.offset ≡ 0) es e f.offsets offset;
      ats = All-push (λ (x : Entry). x.at ≡ 0) es e f.ats at;
      rows = All-push (IsEntryOk s.device) es e f.rows ok;
    }

found_row : (d : DeviceParts) (es : List Entry) (o t : ℕ) (r : Option (List Cell))
    → All (IsEntryOk d) es → selected es o t ≡ r
    → (selected es o t ≡ None → ⊥) → IsSomeAnd r (λ row. length row ≡ channels_of_output d o)
found_row d es o t (Some row) ok is there = (selected_row d es o t row ok is).long
found_row d es o t None ok is there = absurd (there is)

pub first_base : (s : SetupParts) (es : List Entry) → IsSetup s
    → AreFirst s es (length s.device.outputs) → IsBase s 0 es
first_base s es setup f =
    let few = setup.device.bounds.few_outputs in let long = f.long in
    let base = base_few s.device setup.device in record {
      few = omega arith;
      rows = f.rows;
      ticks = All-weaker (λ (e : Entry). e.tick ≡ s.device.base)
          (λ (e : Entry). e.tick < TICKS_LIMIT)
          (λ (e : Entry) (t : e.tick ≡ s.device.base). omega arith) es f.ticks;
      rises = rises_append 0 0 [] es (omega arith) f.ats;
      covers = λ o t there since. found_row s.device es o t (selected es o t) f.rows refl
          (λ missed.
          let e : Entry = record { output = 0; tick = 0; offset = 0; row = []; at = 0 } in
          let fails : rules due o t (get_or es o e) ≡ false =
          selected-missed due es o t missed o e (omega arith) in
          let output : (get_or es o e).output ≡ o = f.outputs o e there in
          let tick : (get_or es o e).tick ≡ s.device.base = f.ticks o e (omega arith) in
          let offset : (get_or es o e).offset ≡ 0 = f.offsets o e (omega arith) in
          let begun : due (get_or es o e) ≤ t = omega arith in
          let hit : rules due o t (get_or es o e) ≡ true = grind (arith, nat_tests) in
          absurd (true≢false (sym hit ∙ fails)));
    }
