-- The frame of its tick from which an activation counts is one that the format of its capture can
-- hold.
use Rattle.std.proofs.Common.{◌≡◌, ℕ, List, inl, inr, sym, ap, subst, ◌∙◌}
use Rattle.std.proofs.Common.{[], ◌∷◌, ◌++◌, arith}
use Rattle.std.specs.Prelude.{max}
use Rattle.std.proofs.Math.Nat.{mod-lt}
use Rattle.std.proofs.lemmas.Bool.{cases_lt}
use Rattle.map_entry.specs.Setup.{SetupParts}
use Rattle.map_entry.specs.Tick.{frame_in, frame_key}
use Rattle.map_entry.specs.declared.grain.Grain.{Grain}
use Rattle.tai_time.specs.Tick.{tick_up}
use Rattle.tai_time.specs.Time.{nanos_of}
use Rattle.book_words.specs.declared.calls.JournalCall.{JournalCall}
use Rattle.book_words.specs.declared.requests.When.{When}
use Rattle.book_words.specs.declared.requests.When.TheVariants.{Now, At, After}
use Rattle.plain_book.specs.Book.{landing_offset}
use Rattle.plain_book.specs.Legal.{IsAccepted, IsLegalJournal}
use Rattle.plain_book.specs.Time.{key_at, sum_from, tick_after, up, up_by}
use Rattle.plain_book.proofs.Accepted.{cases}
use Rattle.plain_book.proofs.Lists.{IsIn, in_more}
use Rattle.plain_book.proofs.Prefixes.{legal_by}
use Rattle.plain_book.proofs.Waiting.{found_waits}
use Rattle.capture_file.specs.Formats.{AllowsGrain, HoldsOffset}
use Rattle.capture_file.specs.declared.format.Format.{Format}
use Rattle.capture_file.specs.declared.format.Format.TheVariants.{One, Two}

-- ---- where activations land

-- the format can hold the frame of a key
abbrev IsHeldKey : Format → ℕ → Type 0
IsHeldKey format key = HoldsOffset format (frame_in key)

-- format 2 can hold that of each key
any_key : (key : ℕ) → IsHeldKey Two key
any_key key = omega arith

-- the later of two keys
max_held : (format : Format) (a b : ℕ) → IsHeldKey format a → IsHeldKey format b
    → IsHeldKey format (max a b)
max_held format a b first second = elim (cases_lt a b) [
  | inl less ↦
      let is : max a b ≡ b = omega (arith, less) in subst (IsHeldKey format) (sym is) second
  | inr more ↦
      let is : max a b ≡ a = omega (arith, more) in subst (IsHeldKey format) (sym is) first
]

begins_held : (format : Format) (s : SetupParts) (tick : ℕ) → IsHeldKey format (key_at s tick)
begins_held One s tick = omega arith
begins_held Two s tick = any_key (key_at s tick)

up_held : (format : Format) (s : SetupParts) (nanos : ℕ) → AllowsGrain format s.grain
    → IsHeldKey format (up s nanos)
up_held One s nanos whole =
    let key : up s nanos ≡ frame_key (tick_up s.device.rate nanos) 0 =
    ap (λ (grain : Grain). up_by grain s.device.rate nanos) whole in
    ap frame_in key ∙ begins_held One s (tick_up s.device.rate nanos)
up_held Two s nanos allowed = any_key (up s nanos)

pub lands_held : (format : Format) (s : SetupParts) (claims : ℕ) (when : When)
    → AllowsGrain format s.grain → HoldsOffset format (landing_offset s claims when)
lands_held format s claims Now allowed = begins_held format s (tick_after s claims)
lands_held format s claims (At time) allowed =
    max_held format (key_at s (tick_after s claims)) (up s (nanos_of time))
    (begins_held format s (tick_after s claims)) (up_held format s (nanos_of time) allowed)
lands_held format s claims (After time) allowed =
    let sum = sum_from s (tick_after s claims) time in
    max_held format (key_at s (tick_after s claims)) (up s sum)
    (begins_held format s (tick_after s claims)) (up_held format s sum allowed)

-- ---- calls

abbrev pub AreHeldBy : Format → List JournalCall → Type 0
AreHeldBy format journal =
    (call : JournalCall) → IsIn call journal → HoldsOffset format call.offset

one_more : (format : Format) (s : SetupParts) (before : List JournalCall) (call : JournalCall)
    → AllowsGrain format s.grain → IsAccepted s before call → AreHeldBy format before
    → AreHeldBy format (before ++ call ∷ [])
one_more format s before call allowed is so_far c i = elim (in_more c before call i) [
  | inl old ↦ so_far c old
  | inr new ↦
      subst (λ (x : JournalCall). HoldsOffset format x.offset) new
      (elim (cases s before call is) [
        | inl a ↦
            subst (HoldsOffset format) (sym a.2.offset_is)
            (lands_held format s call.at a.0 allowed)
        | inr d ↦
            subst (HoldsOffset format) (sym d.2.offset_is)
            (so_far d.1 (found_waits s before call.at d.0 d.1 d.2.is).0)
      ])
]

-- the frame from which each call of a legal journal counts
pub calls_held : (format : Format) (s : SetupParts) (m : ℕ) (journal : List JournalCall)
    → AllowsGrain format s.grain → IsLegalJournal s m journal → AreHeldBy format journal
calls_held format s m journal allowed legal =
    legal_by s (AreHeldBy format) (λ call i. absurd i)
    (λ before call legal is so_far. one_more format s before call allowed is so_far) m journal legal
