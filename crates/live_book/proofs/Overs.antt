-- A book over a new table, and between two tables.
use Rattle.std.proofs.Common.{◌≡◌, ℕ, ◌+◌, ◌-◌, ◌*◌, ◌≤◌, List, [], length, refl, sym, ap}
use Rattle.std.proofs.Common.{◌∙◌, subst, arith}
use Rattle.std.proofs.lemmas.List.{append-nil}
use Rattle.io_caps.specs.declared.limits.TheConstants.{CLIENTS}
use Rattle.map_entry.specs.Setup.{SetupParts}
use Rattle.map_entry.specs.declared.entry.Entry.{Entry}
use Rattle.claim_rule.specs.declared.view.View.{View}
use Rattle.book_words.specs.declared.replies.PendingItem.{PendingItem}
use Rattle.plain_book.specs.Carry.{carried}
use Rattle.plain_book.specs.Desk.{IsDesk, BookStateParts, from_claims, looked_at}
use Rattle.plain_book.specs.Places.{places_kept}
use Rattle.plain_book.specs.Time.{begin}
use Rattle.plain_book.proofs.Base.{desk_looked, desk_raised}
use Rattle.plain_book.proofs.Carried.{carried_long, desk_carried, pending_few}
use Rattle.live_book.specs.Books.{IsBook, IsRest, high}
use Rattle.live_book.specs.Places.{PlacesFace, new_places, none_aside, places_first}
use Rattle.live_book.proofs.Placing.{none_sum}

-- over the first table
pub new_desk : (s : SetupParts) (v : View) (p : BookStateParts) → v.plan.setup ≡ s
    → p.from ≡ v.plan.from
    → p.journal ≡ [] → p.pending ≡ [] → length v.entries ≡ length s.device.outputs
    → IsDesk s 0 v.entries p
    → IsBook s v p [] 0 (new_places s (length s.device.outputs))
new_desk s v p setup from journal pending long desk = record {
  setup_is = setup;
  from_is = from;
  desk = desk_raised s 0 (high v) v.entries p desk (omega arith);
  lapped = record {
    start = [];
    calls = [];
    start_is = refl;
    journal_is = journal;
    given_are = (sym journal, omega arith);
    used_is = omega arith;
  };
  placed = record {
    each = refl;
    enough = omega (arith, long, ap places_kept pending);
    room =
        omega (
          arith,
          none_sum (2 * length s.device.outputs) CLIENTS,
          desk.setup.device.bounds.few_outputs,
        );
  };
}

-- how many places are used at first
pub first_used : (s : SetupParts) (base : List Entry) (p : BookStateParts) → IsRest s base p
    → length base ≡ length s.device.outputs + places_kept p.pending
first_used s base p is =
    ap length is.base_is ∙ carried_long s p.journal p.seen
    ∙ ap (λ (items : List PendingItem). length s.device.outputs + places_kept items)
    (sym is.desk.pending_are)

pub first_places : (s : SetupParts) (base : List Entry) (p : BookStateParts) → IsRest s base p
    → places_first s p.journal p.seen ≡ 2 * length base - length s.device.outputs
first_places s base p is =
    let kept : places_first s p.journal p.seen
    ≡ length s.device.outputs + 2 * places_kept p.pending =
    ap (λ (items : List PendingItem). length s.device.outputs + 2 * places_kept items)
    (sym is.desk.pending_are) in
    omega (arith, first_used s base p is, kept)

-- they are few, since a pending activation names each output at most once
pub first_few : (s : SetupParts) (base : List Entry) (p : BookStateParts) → IsRest s base p
    → places_first s p.journal p.seen ≤ 3 * length s.device.outputs
first_few s base p is =
    let kept : places_first s p.journal p.seen
    ≡ length s.device.outputs + 2 * places_kept p.pending =
    ap (λ (items : List PendingItem). length s.device.outputs + 2 * places_kept items)
    (sym is.desk.pending_are) in
    omega (arith, kept, pending_few s p.seen base p is.desk)

-- over a later one
pub over_book : (s : SetupParts) (v : View) (p : BookStateParts) (base : List Entry)
    → v.plan.setup ≡ s → v.plan.from ≡ p.seen → v.entries ≡ carried s p.journal p.seen
    → IsRest s base p
    → IsBook s v p [] (length p.journal) (new_places s (places_first s p.journal p.seen))
over_book s v p base setup from entries is =
    let n : ℕ = length s.device.outputs in
    let kept : places_first s p.journal p.seen ≡ n + 2 * places_kept p.pending =
    ap (λ (items : List PendingItem). n + 2 * places_kept items) (sym is.desk.pending_are) in
    let same : v.entries ≡ base = entries ∙ sym is.base_is in
    let few = pending_few s p.seen base p is.desk in
    record {
      setup_is = setup;
      from_is = is.from_is ∙ sym from;
      desk = desk_raised s p.seen (high v) v.entries p
          (subst (λ (es : List Entry). IsDesk s p.seen es p) (sym same) is.desk)
          (omega (arith, from));
      lapped = record {
        start = p.journal;
        calls = [];
        start_is = refl;
        journal_is = sym (append-nil p.journal);
        given_are = (refl, omega arith);
        used_is =
            let at = ap (places_first s p.journal) from in
            omega (arith, at);
      };
      placed = record {
        each = refl;
        enough = omega (arith, ap length same, first_used s base p is, kept);
        room =
            omega (
              arith,
              kept,
              few,
              none_sum (2 * n) CLIENTS,
              is.desk.setup.device.bounds.few_outputs,
            );
      };
    }

-- ---- between two tables

pub rest_is : (s : SetupParts) (claims : ℕ) (entries base : List Entry) (p : BookStateParts)
    → IsDesk s claims entries p → base ≡ carried s p.journal claims
    → IsRest s base (from_claims (looked_at p (begin s claims) claims) claims)
rest_is s claims entries base p desk base_is =
    let looked = desk_looked s claims entries p desk in
    let on = desk_carried s claims entries (looked_at p (begin s claims) claims) looked refl in
    record {
      desk = subst (λ (es : List Entry).
          IsDesk s claims es (from_claims (looked_at p (begin s claims) claims) claims))
          (sym base_is) on;
      from_is = refl;
      base_is = base_is;
    }

-- before the first table
pub rest_new : (s : SetupParts) (entries base : List Entry) (p : BookStateParts)
    → IsDesk s 0 entries p → p.from ≡ 0 → p.seen ≡ 0 → base ≡ carried s p.journal 0
    → IsRest s base p
rest_new s entries base p desk from seen base_is =
    let on : IsDesk s 0 (carried s p.journal 0) (from_claims p 0) =
    desk_carried s 0 entries p desk seen in
    let same : from_claims p 0 ≡ p = λ k. record p { from = sym from k } in
    record {
      desk =
          subst (λ (c : ℕ). IsDesk s c base p) (sym seen)
          (subst (λ (es : List Entry). IsDesk s 0 es p) (sym base_is)
          (subst (IsDesk s 0 (carried s p.journal 0)) same on));
      from_is = from ∙ sym seen;
      base_is = base_is ∙ ap (carried s p.journal) (sym seen);
    }

-- the places of these numbers
pub places_are : (s : SetupParts) (used each first : ℕ) → used ≡ first
    → each ≡ 2 * length s.device.outputs
    → ◌≡◌ {A = PlacesFace} (record { used = used; each = each; aside = none_aside })
    (new_places s first)
places_are s used each first a b = λ k. record { used = a k; each = b k; aside = none_aside }
