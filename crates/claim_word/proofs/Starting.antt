-- How a table starts.
use Rattle.std.proofs.Common.{ℕ, ◌≡◌, ◌+◌, ◌*◌, ◌<◌, ◌≤◌, List, [], ◌∷◌, length, drop, refl, sym}
use Rattle.std.proofs.Common.{ap, ◌∙◌, subst, arith, length-drop}
use Rattle.std.specs.List.{All, AllZip}
use Rattle.std.proofs.Math.Nat.{mul-le-mul_right}
use Rattle.std.proofs.lemmas.List.{drop_all}
use Rattle.std.proofs.lemmas.List.Elements.{All-cons, All-nil}
use Rattle.io_caps.specs.declared.limits.TheConstants.{LAP_TICKS, MOST_OUTPUTS, MOST_WORKERS}
use Rattle.map_entry.specs.declared.cell.Cell.{Cell}
use Rattle.map_entry.specs.declared.claims.TheConstants.{CLAIMS_LIMIT}
use Rattle.map_entry.specs.declared.entry.Entry.{Entry}
use Rattle.map_entry.specs.Entry.{HasRowsFrom}
use Rattle.map_entry.specs.Setup.{SetupParts, IsSetup, HasCells}
use Rattle.map_entry.specs.Tick.{claim_tick}
use Rattle.claim_rule.specs.declared.plan.Plan.{Plan}
use Rattle.claim_rule.specs.declared.plan.Start.{Start}
use Rattle.claim_rule.specs.Claims.{plan_of, claims_at, IsSound, IsFit, IsTimely}
use Rattle.claim_rule.specs.Rule.{IsListed, Opens, Rises}
use Rattle.claim_rule.specs.Views.{opener}
use Rattle.map_entry.specs.Tick.{frame_key}
use Rattle.claim_rule.specs.Words.{places, state_word, stride, Spells}
use Rattle.claim_rule.proofs.Lists.{rises_more}
use Rattle.claim_word.specs.declared.span.Span.{Span}
use Rattle.claim_word.specs.Faces.{IsSpan}
use Rattle.claim_word.specs.Passes.{IsPublisher}
use Rattle.claim_word.specs.Starts.{IsBase, planned}
use Rattle.claim_word.specs.Writings.{IsLaid, IsWide}
use Rattle.claim_word.proofs.Publishing.{all_wide}

-- ---- base entries

rises_end : (low high : ℕ) (es : List Entry) → Rises low es high → low ≤ high
rises_end low high [] r = r
rises_end low high (e ∷ es) r = let a = r.0 in let b = rises_end e.at high es r.1 in omega arith

rises_below : (low high : ℕ) (es : List Entry) → Rises low es high → All (λ e. e.at ≤ high) es
rises_below low high [] r = All-nil (λ (e : Entry). e.at ≤ high)
rises_below low high (e ∷ es) r =
    All-cons (λ (e : Entry). e.at ≤ high) e es (rises_end e.at high es r.1)
    (rises_below e.at high es r.1)

module _ (s : SetupParts) (from ticks workers : ℕ) (base : List Entry) (setup : IsSetup s)
    (few_ticks : ticks ≤ LAP_TICKS) (few_workers : workers ≤ MOST_WORKERS)
    (claims : from + ticks * length s.device.outputs < CLAIMS_LIMIT) (given : IsBase s from base)
  where
    pub planned_sound : IsSound (planned s from ticks workers base)
    planned_sound =
        let n : ℕ = length s.device.outputs in
        let m : ticks * n ≤ LAP_TICKS * n = mul-le-mul_right n few_ticks in
        let outputs : n ≤ MOST_OUTPUTS = setup.device.bounds.few_outputs in
        record { setup = setup; few = omega arith; claims = claims }

    pub planned_fits : All (IsFit (planned s from ticks workers base)) base
    planned_fits i d lt =
        let at = rises_below 0 from base given.rises i d lt in
        record { ok = given.rows i d lt; tick = given.ticks i d lt; at = omega arith }

    pub planned_listed : IsListed (planned s from ticks workers base) base 0
    planned_listed =
        let few = given.few in let plan : Plan = planned s from ticks workers base in
        let start : from ≡ from + 0 = omega arith in
        record {
          room = omega arith;
          given = omega arith;
          fits = planned_fits;
          covers = subst
              (λ (k : ℕ). HasRowsFrom s.device base
              (frame_key (claim_tick s.device.base (length s.device.outputs) k) 0)) start
              given.covers;
          rises = rises_more 0 from (claims_at plan 0) base (omega arith) given.rises;
          timely = subst (All (IsTimely plan)) (sym (drop_all (length base) base (omega arith)))
              (All-nil (IsTimely plan));
        }

    pub planned_wide : All IsWide base
    planned_wide = all_wide (planned s from ticks workers base) base planned_sound planned_fits

-- ---- the start

-- what a start is made of
pub record IsStartOf (start : Start) (s : SetupParts) (from ticks workers : ℕ) (base : List Entry)
    (words : List ℕ) : Type 0 where
  pub plan_is : plan_of start ≡ planned s from ticks workers base
  pub workers_is : start.workers ≡ workers
  pub entries_are : start.entries.value ≡ base
  pub words_are : start.words.value.items ≡ words

pub may_open : (start : Start) (s : SetupParts) (from ticks workers : ℕ) (base : List Entry)
    (words : List ℕ) → IsStartOf start s from ticks workers base words
    → IsSound (planned s from ticks workers base)
    → IsListed (planned s from ticks workers base) base 0 → IsLaid words base
    → Opens start words
may_open start s from ticks workers base words is sound listed laid = record {
  sound = subst IsSound (sym is.plan_is) sound;
  head = laid.head
      ∙ (λ k. state_word (length (sym is.entries_are k)) 0 ∷ drop 1 (sym is.words_are k));
  spelt = subst (λ (z : List ℕ × List Entry). Spells (drop 1 z.0) z.1)
      (λ k. (sym is.words_are k, sym is.entries_are k)) laid.spelt;
  listed = subst (λ (z : Plan × List Entry). IsListed z.0 z.1 0)
      (λ k. (sym is.plan_is k, sym is.entries_are k)) listed;
}

pub opener_keeps : (start : Start) (s : SetupParts) (from ticks workers : ℕ) (base : List Entry)
    (words : List ℕ) (span : Span) (shelf : List Entry) (rows : List (List Cell))
    → IsStartOf start s from ticks workers base words → IsSound (planned s from ticks workers base)
    → IsListed (planned s from ticks workers base) base 0 → IsLaid words base
    → length words ≡ 1 + places * stride → workers ≤ MOST_WORKERS
    → IsSpan (planned s from ticks workers base) span → shelf ≡ base
    → AllZip HasCells s.device.outputs rows
    → IsPublisher (opener start) span 0 0 shelf rows
opener_keeps start s from ticks workers base words span shelf rows is sound listed laid wide few
    span_is same rows_are = record {
      sound = subst IsSound (sym is.plan_is) sound;
      span_is = subst (λ (plan : Plan). IsSpan plan span) (sym is.plan_is) span_is;
      live = refl;
      loud = refl;
      parts = omega arith;
      workers = let w = is.workers_is in omega arith;
      clients_few = omega arith;
      none_drawn = refl;
      long = let l = length-drop 1 start.words.value.items in let n = ap length is.words_are in
          omega arith;
      spelt = subst (λ (z : List ℕ × List Entry). Spells (drop 1 z.0) z.1)
          (λ k. (sym is.words_are k, sym is.entries_are k)) laid.spelt;
      fits = subst (λ (z : Plan × List Entry). All (IsFit z.0) z.1)
          (λ k. (sym is.plan_is k, sym is.entries_are k)) listed.fits;
      few = let l = ap length is.entries_are in let r = listed.room in omega arith;
      entries_are = is.entries_are ∙ sym same;
      rows_are = subst (λ (plan : Plan). AllZip HasCells plan.setup.device.outputs rows)
          (sym is.plan_is) rows_are;
    }
