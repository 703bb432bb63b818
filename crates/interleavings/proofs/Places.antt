-- The answers of a book at their places in the whole journal, and the calls that they made.
use Rattle.std.proofs.Common.{◌≡◌, ℕ, ◌+◌, ◌<◌, ◌≤◌, Bool, true, false, eqb, List, [], ◌∷◌, ◌++◌}
use Rattle.std.proofs.Common.{length, take, drop, Option, Some, None, inl, inr, refl, sym, ap}
use Rattle.std.proofs.Common.{subst, ◌∙◌, arith, length-append, append_assoc, eq-eqb}
use Rattle.std.specs.Prelude.{All, IfSome, ◌&&◌, ◌||◌, cond, is_some, option_map, slice_get}
use Rattle.std.specs.List.{AllByRecursion}
use Rattle.std.specs.Option.{option_map_or, option_to_list}
use Rattle.std.proofs.Math.Seq.{take-append_seam, drop-append_seam}
use Rattle.std.proofs.lemmas.Bool.{cases_Bool, cases_lt, false≢true, or_right}
use Rattle.std.proofs.lemmas.List.{append-nil}
use Rattle.std.proofs.lemmas.List.Elements.{All-append, All-cons, All-nil}
use Rattle.std.proofs.lemmas.Option.{slice_get_within}
use Rattle.map_entry.specs.Setup.{SetupParts}
use Rattle.book_words.specs.declared.calls.JournalCall.{JournalCall}
use Rattle.book_words.specs.declared.given.Given.{Given}
use Rattle.book_words.specs.declared.replies.Refusal.{Refusal}
use Rattle.book_words.specs.declared.replies.Refusal.TheVariants.{NotPending}
use Rattle.book_words.specs.declared.replies.Reply.{Reply}
use Rattle.book_words.specs.declared.replies.Reply.TheVariants.{Deleted, Refused}
use Rattle.book_words.specs.declared.requests.Request.{Request}
use Rattle.book_words.specs.declared.requests.Request.TheVariants.{Activate, Delete, Active}
use Rattle.book_words.specs.declared.requests.Request.TheVariants.{Pending}
use Rattle.book_words.specs.declared.requests.Stamp.{Stamp}
use Rattle.book_words.specs.declared.requests.When.{When}
use Rattle.book_words.specs.declared.requests.When.TheVariants.{Now, At, After}
use Rattle.plain_book.specs.Book.{call_of, deletion, landing_offset, landing_tick, refusal_of}
use Rattle.plain_book.specs.Book.{reply_of}
use Rattle.plain_book.specs.Given.{AreGiven, IsGiven, journal_after}
use Rattle.plain_book.specs.Legal.{IsLegalJournal}
use Rattle.plain_book.specs.Pending.{next_id, pending_call}
use Rattle.book_words.specs.Replies.{accepted}
use Rattle.plain_book.proofs.Commits.{legal_later}
use Rattle.plain_book.proofs.Giving.{call_parts, given_below, given_legal}
use Rattle.interleavings.specs.Legal.{IsPlace, accepts, next_floor, reply_at}
use Rattle.interleavings.specs.Told.{given_to}

-- ---- a reply that accepts is one that makes a call

by_when : (s : SetupParts) (journal : List JournalCall) (client claims : ℕ) (request : Request)
    (when : When) (id tick offset : ℕ)
    → is_some (call_of s journal client claims request (accepted when id tick offset))
    ≡ accepts (accepted when id tick offset)
by_when s journal client claims request Now id tick offset = refl
by_when s journal client claims request (At x) id tick offset = refl
by_when s journal client claims request (After x) id tick offset = refl

by_refusal : (s : SetupParts) (journal : List JournalCall) (client claims : ℕ) (request : Request)
    (when : When) (id tick offset : ℕ) (r : Option Refusal)
    → is_some (call_of s journal client claims request
    (option_map_or Refused r (accepted when id tick offset)))
    ≡ accepts (option_map_or Refused r (accepted when id tick offset))
by_refusal s journal client claims request when id tick offset None =
    by_when s journal client claims request when id tick offset
by_refusal s journal client claims request when id tick offset (Some r) = refl

by_found : (s : SetupParts) (journal : List JournalCall) (client claims id : ℕ) (request : Request)
    (o : Option JournalCall) → pending_call s journal claims id ≡ o
    → is_some (call_of s journal client claims request
    (option_map_or (λ c. Deleted id) o (Refused (NotPending id))))
    ≡ accepts (option_map_or (λ c. Deleted id) o (Refused (NotPending id)))
by_found s journal client claims id request None e = refl
by_found s journal client claims id request (Some c) e =
    ap (λ (o : Option JournalCall). is_some (option_map (deletion client claims request) o)) e

pub makes_call : (s : SetupParts) (journal : List JournalCall) (client claims : ℕ)
    (request : Request)
    → is_some (call_of s journal client claims request (reply_of s journal claims request))
    ≡ accepts (reply_of s journal claims request)
unfolding reply_of
makes_call s journal client claims (Activate when action) =
    by_refusal s journal client claims (Activate when action) when (next_id journal)
    (landing_tick s claims when) (landing_offset s claims when)
    (refusal_of s journal claims when action)
makes_call s journal client claims (Delete id) =
    by_found s journal client claims id (Delete id) (pending_call s journal claims id) refl
makes_call s journal client claims Active = refl
makes_call s journal client claims Pending = refl

-- the call of an answer
abbrev pub call_given : SetupParts → List JournalCall → Given → Option JournalCall
call_given s before g = call_of s before g.client g.stamp.claims g.request g.reply

pub given_accepts : (s : SetupParts) (before : List JournalCall) (low : ℕ) (g : Given)
    → IsGiven s before low g → is_some (call_given s before g) ≡ accepts g.reply
given_accepts s before low g is =
    subst (λ (reply : Reply). is_some (call_of s before g.client g.stamp.claims g.request reply)
    ≡ accepts reply) (sym is.reply_is) (makes_call s before g.client g.stamp.claims g.request)

-- ---- further answers only add calls, none at fewer claims

abbrev GoesOnBy : List JournalCall → ℕ → List JournalCall → Type 0
GoesOnBy before low after = (more : List JournalCall) × (after ≡ before ++ more)
    × All (λ c. low ≤ c.at) more

late_call : (s : SetupParts) (before : List JournalCall) (g : Given) (low : ℕ)
    → low ≤ g.stamp.claims → (o : Option JournalCall) → call_given s before g ≡ o
    → All (λ c. low ≤ c.at) (option_to_list o)
late_call s before g low le None e = All-nil (λ (c : JournalCall). low ≤ c.at)
late_call s before g low le (Some call) e =
    let at = (call_parts s before g.client g.stamp.claims g.request g.reply call e).at_is in
    All-cons (λ (c : JournalCall). low ≤ c.at) call [] (omega (arith, at, le))
    (All-nil (λ (c : JournalCall). low ≤ c.at))

pub goes_on : (s : SetupParts) (before : List JournalCall) (low : ℕ) (given : List Given)
    (after : List JournalCall) (high : ℕ) → AreGiven s before low given after high
    → GoesOnBy before low after
goes_on s before low [] after high is =
    ([], sym is.0 ∙ sym (append-nil before), All-nil (λ (c : JournalCall). low ≤ c.at))
goes_on s before low (g ∷ gs) after high is =
    let rest = goes_on s (journal_after s before g) g.stamp.claims gs after high is.1 in
    let call : List JournalCall = option_to_list (call_given s before g) in
    let own = late_call s before g low is.0.claims (call_given s before g) refl in (
      call ++ rest.0,
      rest.1 ∙ append_assoc before call rest.0,
      All-append (λ (c : JournalCall). low ≤ c.at) call rest.0 own
          (λ k d lt. let up = rest.2 k d lt in omega (arith, up, is.0.claims)),
    )

-- ---- an answer at its place of the whole journal

pub record IsAnswerAt (s : SetupParts) (journal : List JournalCall) (claims : ℕ)
    (g : Given) : Type 0 where
  pub place : IsPlace journal claims g.stamp
  pub reply_is : g.reply ≡ reply_at s journal g.stamp g.request
  pub call : IfSome
      (call_of s (take g.stamp.calls journal) g.client g.stamp.claims g.request
      (reply_at s journal g.stamp g.request)) (λ call. slice_get journal g.stamp.calls ≡ Some call)

slice_get_seam : {X : Type 0} (xs : List X) (y : X) (ys : List X)
    → slice_get (xs ++ y ∷ ys) (length xs) ≡ Some y
slice_get_seam [] y ys = refl
slice_get_seam (x ∷ xs) y ys = slice_get_seam xs y ys

its_call : (before more : List JournalCall) (o : Option JournalCall)
    → IfSome o (λ call. slice_get (before ++ (option_to_list o ++ more))
    (length before) ≡ Some call)
its_call before more None = tt
its_call before more (Some call) = slice_get_seam before call more

answer_at : (s : SetupParts) (before after more : List JournalCall) (low claims : ℕ) (g : Given)
    → IsGiven s before low g → IsLegalJournal s g.stamp.claims before
    → after ≡ before ++ (option_to_list (call_given s before g) ++ more) → g.stamp.claims ≤ claims
    → All (λ c. g.stamp.claims ≤ c.at) more → IsAnswerAt s after claims g
answer_at s before after more low claims g is legal whole le late =
    let o : Option JournalCall = call_given s before g in
    let back : List JournalCall = option_to_list o ++ more in
    let front : take g.stamp.calls after ≡ before =
    ap (λ (n : ℕ). take n after) is.calls ∙ ap (take (length before)) whole
    ∙ take-append_seam before back in
    let rest : drop g.stamp.calls after ≡ back =
    ap (λ (n : ℕ). drop n after) is.calls ∙ ap (drop (length before)) whole
    ∙ drop-append_seam before back in
    let same : call_of s (take g.stamp.calls after) g.client g.stamp.claims g.request
    (reply_at s after g.stamp g.request) ≡ o =
    ap (λ (j : List JournalCall).
    call_of s j g.client g.stamp.claims g.request (reply_of s j g.stamp.claims g.request)) front
    ∙ ap (call_of s before g.client g.stamp.claims g.request) (sym is.reply_is) in
    record {
      place = record {
        calls_within = omega (arith, is.calls, ap length whole, length-append before back);
        claims_within = le;
        before = subst (All (λ (c : JournalCall). c.at ≤ g.stamp.claims)) (sym front) legal.within;
        behind = subst (All (λ (c : JournalCall). g.stamp.claims ≤ c.at)) (sym rest)
            (All-append (λ (c : JournalCall). g.stamp.claims ≤ c.at) (option_to_list o) more
            (late_call s before g g.stamp.claims (omega arith) o refl) late);
      };
      reply_is = is.reply_is
          ∙ sym (ap (λ (j : List JournalCall). reply_of s j g.stamp.claims g.request) front);
      call = subst
          (λ (x : Option JournalCall). IfSome x (λ call. slice_get after g.stamp.calls ≡ Some call))
          (sym same)
          (subst (λ (n : ℕ). IfSome o (λ call. slice_get after n ≡ Some call)) (sym is.calls)
          (subst (λ (j : List JournalCall).
          IfSome o (λ call. slice_get j (length before) ≡ Some call)) (sym whole)
          (its_call before more o)));
    }

pub answers_at : (s : SetupParts) (before : List JournalCall) (low : ℕ) (given : List Given)
    (after : List JournalCall) (high : ℕ) → IsLegalJournal s low before
    → AreGiven s before low given after high
    → AllByRecursion (IsAnswerAt s after high) given
answers_at s before low [] after high legal is = tt
answers_at s before low (g ∷ gs) after high legal is =
    let rest = goes_on s (journal_after s before g) g.stamp.claims gs after high is.1 in
    let whole : after ≡ before ++ (option_to_list (call_given s before g) ++ rest.0) =
    rest.1 ∙ append_assoc before (option_to_list (call_given s before g)) rest.0 in
    let next = given_legal s before low (g ∷ []) (journal_after s before g) g.stamp.claims legal
    (is.0, (refl, omega arith)) in (
      answer_at s before after rest.0 low high g is.0
          (legal_later s low g.stamp.claims before is.0.claims legal) whole
          (given_below s (journal_after s before g) g.stamp.claims gs after high is.1) rest.2,
      answers_at s (journal_after s before g) g.stamp.claims gs after high next is.1,
    )

-- ---- each client goes on from where its last answer left it

abbrev pub GoFrom : Stamp → List Given → Type 0
GoFrom floor [] = Unit {0}
GoFrom floor (g ∷ gs) = ((floor.calls ≤ g.stamp.calls) × (floor.claims ≤ g.stamp.claims))
    × GoFrom (next_floor g.stamp (accepts g.reply)) gs

pub floor_calls : (place : Stamp) (b : Bool) → (next_floor place b).calls ≡ place.calls + cond b 1 0
floor_calls place true = refl
floor_calls place false = omega arith

floor_claims : (place : Stamp) (b : Bool) → (next_floor place b).claims ≡ place.claims
floor_claims place true = refl
floor_claims place false = refl

grown : {X : Type 0} (xs : List X) (o : Option X)
    → length (xs ++ option_to_list o) ≡ length xs + cond (is_some o) 1 0
grown xs None = length-append xs []
grown xs (Some x) = length-append xs (x ∷ [])

pub after_length : (s : SetupParts) (before : List JournalCall) (low : ℕ) (g : Given)
    → IsGiven s before low g → length (journal_after s before g)
    ≡ length before + cond (accepts g.reply) 1 0
after_length s before low g is = grown before (call_given s before g)
    ∙ ap (λ (b : Bool). length before + cond b 1 0) (given_accepts s before low g is)

pub go_from : (s : SetupParts) (before : List JournalCall) (low : ℕ) (given : List Given)
    (after : List JournalCall) (high : ℕ) → AreGiven s before low given after high
    → (client : ℕ) (floor : Stamp) → floor.calls ≤ length before → floor.claims ≤ low
    → GoFrom floor (given_to client given)
go_from s before low [] after high is client floor calls claims = tt
go_from s before low (g ∷ gs) after high is client floor calls claims =
    let long = after_length s before low g is.0 in
    elim (cases_Bool (eqb g.client client)) [
      | inl own ↦
          rw own (
            (omega (arith, calls, is.0.calls), omega (arith, claims, is.0.claims)),
            go_from s (journal_after s before g) g.stamp.claims gs after high is.1 client
                (next_floor g.stamp (accepts g.reply))
                (omega (arith, floor_calls g.stamp (accepts g.reply), long, is.0.calls))
                (omega (arith, floor_claims g.stamp (accepts g.reply))),
          )
      | inr other ↦
          rw other (go_from s (journal_after s before g) g.stamp.claims gs after high is.1 client
          floor (omega (arith, calls, long)) (omega (arith, claims, is.0.claims)))
    ]

-- ---- the answer that made the call of a number

abbrev pub is_maker : ℕ → Given → Bool
is_maker number g = eqb g.stamp.calls number && accepts g.reply

abbrev pub has_maker : ℕ → List Given → Bool
has_maker number [] = false
has_maker number (g ∷ gs) = is_maker number g || has_maker number gs

-- a maker among later answers is one among all
kept_maker : (number client : ℕ) (g : Given) (gs : List Given)
    → has_maker number (given_to client gs) ≡ true
    → has_maker number (given_to client (g ∷ gs)) ≡ true
kept_maker number client g gs has = elim (cases_Bool (eqb g.client client)) [
  | inl own ↦ rw own (or_right (is_maker number g) (has_maker number (given_to client gs)) has)
  | inr other ↦ rw other has
]

-- an answer that adds a call accepted it
accepts_more : (n : ℕ) (b : Bool) → n < n + cond b 1 0 → b ≡ true
accepts_more n true lt = refl
accepts_more n false lt = absurd (omega (arith, lt))

few_more : (b : Bool) → cond {A = ℕ} b 1 0 ≤ 1
few_more true = omega arith
few_more false = omega arith

-- an answer that made the call of a number is one to its client
made_here : (s : SetupParts) (before : List JournalCall) (low : ℕ) (g : Given) (gs : List Given)
    (after : List JournalCall) (high : ℕ) → AreGiven s before low (g ∷ gs) after high
    → (number : ℕ) (call : JournalCall) (o : Option JournalCall) → call_given s before g ≡ o
    → accepts g.reply ≡ true → number ≡ length before → slice_get after number ≡ Some call
    → has_maker number (given_to call.client (g ∷ gs)) ≡ true
made_here s before low g gs after high is number call None e hit here at =
    absurd (false≢true (sym (ap is_some e) ∙ given_accepts s before low g is.0 ∙ hit))
made_here s before low g gs after high is number call (Some made) e hit here at =
    let rest = goes_on s (journal_after s before g) g.stamp.claims gs after high is.1 in
    let whole : after ≡ before ++ made ∷ rest.0 =
    rest.1 ∙ append_assoc before (option_to_list (call_given s before g)) rest.0
    ∙ ap (λ (o : Option JournalCall). before ++ (option_to_list o ++ rest.0)) e in
    let there : Some made ≡ Some call =
    sym (slice_get_seam before made rest.0)
    ∙ sym (ap (λ (j : List JournalCall). slice_get j (length before)) whole)
    ∙ sym (ap (slice_get after) here) ∙ at in
    let same : made ≡ call = cc in
    let by : g.client ≡ call.client =
    sym (call_parts s before g.client g.stamp.claims g.request g.reply made e).by
    ∙ ap (λ (c : JournalCall). c.client) same in
    rw (
      eq-eqb g.client call.client by,
      eq-eqb g.stamp.calls number (omega (arith, is.0.calls, here)),
      hit,
    ) refl

-- the call of each number after these was made by an answer to its own client
pub its_maker : (s : SetupParts) (before : List JournalCall) (low : ℕ) (given : List Given)
    (after : List JournalCall) (high : ℕ) → AreGiven s before low given after high
    → (number : ℕ) (call : JournalCall) → length before ≤ number
    → slice_get after number ≡ Some call
    → has_maker number (given_to call.client given) ≡ true
its_maker s before low [] after high is number call le at =
    absurd (omega (arith, le, slice_get_within after number call at, ap length is.0))
its_maker s before low (g ∷ gs) after high is number call le at =
    let long = after_length s before low g is.0 in
    elim (cases_lt number (length (journal_after s before g))) [
      | inl here ↦
          let hit : accepts g.reply ≡ true =
          accepts_more (length before) (accepts g.reply) (omega (arith, le, here, long)) in
          made_here s before low g gs after high is number call (call_given s before g) refl hit
          (omega (arith, le, here, long, few_more (accepts g.reply))) at
      | inr further ↦ kept_maker number call.client g gs
          (its_maker s (journal_after s before g) g.stamp.claims gs after high is.1 number call
          further at)
    ]
