-- What is pending and what counted last, as more claims are made.
use Rattle.std.proofs.Common.{◌≡◌, ℕ, ◌<◌, ◌≤◌, Bool, true, false, eqb, ltb, List, [], ◌∷◌, ◌++◌}
use Rattle.std.proofs.Common.{map, Option, Some, None, inl, inr, refl, sym, ap, ◌∙◌, subst, arith}
use Rattle.std.specs.Prelude.{◌&&◌, ◌||◌, not, filter, find, option_map, if◌then◌else◌}
use Rattle.std.specs.List.{list_any}
use Rattle.std.specs.Option.{option_or}
use Rattle.std.proofs.Math.Bool.{or-false}
use Rattle.std.proofs.lemmas.Bool.{cases_Bool, cases_lt, and_parts, lt-ltb, le-ltb, ltb-false}
use Rattle.std.proofs.lemmas.Bool.{false≢true, not-true}
use Rattle.map_entry.specs.Action.{OutputChangeParts}
use Rattle.map_entry.specs.Setup.{SetupParts}
use Rattle.plain_book.specs.Book.{first_some, locked_at, refusal_of}
use Rattle.book_words.specs.Calls.{call_due, is_activation, is_scheduled}
use Rattle.plain_book.specs.Desk.{held_at, holds_item, is_above, item_at, later_item, latest_item}
use Rattle.plain_book.specs.Desk.{refusal_from}
use Rattle.plain_book.specs.Journal.{entries_of}
use Rattle.plain_book.specs.Legal.{IsAccepted, IsLegalJournal}
use Rattle.plain_book.specs.Pending.{is_active, is_deleted, is_locked, is_pending, last_of, later}
use Rattle.plain_book.specs.Pending.{latest, pending_call, pending_of}
use Rattle.book_words.specs.Replies.{item_of, shown}
use Rattle.plain_book.specs.Time.{begin}
use Rattle.book_words.specs.declared.calls.JournalCall.{JournalCall}
use Rattle.book_words.specs.declared.replies.Activation.{Activation}
use Rattle.book_words.specs.declared.replies.PendingItem.{PendingItem}
use Rattle.book_words.specs.declared.replies.Refusal.TheVariants.{Locked}
use Rattle.book_words.specs.declared.requests.When.TheVariants.{Now, At, After}
use Rattle.book_words.specs.declared.requests.When.{When}
use Rattle.plain_book.proofs.Accepted.{IsActivated, cases}
use Rattle.plain_book.proofs.Lists.{IsIn, in_more}
use Rattle.plain_book.proofs.Prefixes.{legal_by}
use Rattle.plain_book.proofs.Steady.{in_time}
use Rattle.plain_book.proofs.Waiting.{HasOutputs, begin_rises, is_scheduled_activation, waits}

-- ---- filters

pub filter_map_is : {X Y : Type 0} (p : Y → Bool) (f : X → Y) (xs : List X)
    → filter p (map f xs) ≡ map f (filter (λ x. p (f x)) xs)
filter_map_is p f [] = refl
filter_map_is {X} p f (x ∷ xs) = elim (cases_Bool (p (f x))) [
  | inl hit ↦ rw (hit, filter_map_is p f xs) refl
  | inr miss ↦ rw (miss, filter_map_is p f xs) refl
]

pub filter_twice : {X : Type 0} (p q r : X → Bool) → ((x : X) → r x ≡ (q x && p x)) → (xs : List X)
    → filter p (filter q xs) ≡ filter r xs
filter_twice p q r same [] = refl
filter_twice {X} p q r same (x ∷ xs) = elim (cases_Bool (q x)) [
  | inr out ↦ rw (same x, out, filter_twice p q r same xs) refl
  | inl kept ↦ elim (cases_Bool (p x)) [
    | inl hit ↦ rw (same x, kept, hit, filter_twice p q r same xs) refl
    | inr miss ↦ rw (same x, kept, miss, filter_twice p q r same xs) refl
  ]
]

-- ---- what is pending

both_hit : (x y : Bool) → (x && (true && y)) ≡ ((x && (true && y)) && true)
both_hit true true = refl
both_hit true false = refl
both_hit false y = refl

both_miss : (x y z : Bool) → (x && (false && y)) ≡ ((x && (z && y)) && false)
both_miss true true true = refl
both_miss true true false = refl
both_miss true false true = refl
both_miss true false false = refl
both_miss false y z = refl

above_and : (a b d : ℕ) (x y : Bool) → a ≤ b
    → (x && (ltb b d && y)) ≡ ((x && (ltb a d && y)) && ltb b d)
above_and a b d x y le = elim (cases_lt b d) [
  | inl late ↦ rw (lt-ltb b d late, lt-ltb a d (omega (arith, late, le))) (both_hit x y)
  | inr passed ↦ rw (le-ltb b d passed) (both_miss x y (ltb a d))
]

-- of what was pending, what counts from later is pending after more claims
pub still_pending : (s : SetupParts) (journal : List JournalCall) (seen claims : ℕ) → HasOutputs s
    → seen ≤ claims
    → filter (is_above (begin s claims)) (map item_of (pending_of s journal seen))
    ≡ map item_of (pending_of s journal claims)
still_pending s journal seen claims some le =
    filter_map_is (is_above (begin s claims)) item_of (pending_of s journal seen)
    ∙ ap (map item_of)
    (filter_twice (λ (c : JournalCall). ltb (begin s claims) (call_due c))
    (is_pending s journal seen) (is_pending s journal claims)
    (λ c. above_and (begin s seen) (begin s claims) (call_due c) (is_scheduled c.request)
    (not (is_deleted journal c.id)) (begin_rises s seen claims some le)) journal)

-- ---- what counted last

if_one : {X : Type 0} (b : Bool) (x z y : X) (P : X → Type 0) → Some (if b then x else z) ≡ Some y
    → P x → P z
    → P y
if_one true x z y P e px pz = let same : x ≡ y = cc in subst P same px
if_one false x z y P e px pz = let same : z ≡ y = cc in subst P same pz

has_by : (p : JournalCall → Bool) (x y : JournalCall) (rest : Option JournalCall) → p x ≡ true
    → ((z : JournalCall) → rest ≡ Some z → p z ≡ true) → Some (later x rest) ≡ Some y
    → p y ≡ true
has_by p x y None hit more e = let same : x ≡ y = cc in sym (ap p same) ∙ hit
has_by p x y (Some z) hit more e =
    if_one (ltb (call_due z) (call_due x)) x z y (λ (c : JournalCall). p c ≡ true) e hit
    (more z refl)

-- the latest of those that pass passes
pub latest_passes : (p : JournalCall → Bool) (xs : List JournalCall) (y : JournalCall)
    → latest (filter p xs) ≡ Some y
    → p y ≡ true
latest_passes p [] y e = absurd cc
latest_passes p (x ∷ xs) y e = elim (cases_Bool (p x)) [
  | inl hit ↦
      has_by p x y (latest (filter p xs)) hit (λ z is. latest_passes p xs z is) (rw hit at e)
  | inr miss ↦ latest_passes p xs y (rw miss at e)
]

early_by : (key : ℕ) (x : JournalCall) (q p : Option JournalCall) → call_due x ≤ key
    → ((y : JournalCall) → q ≡ Some y → key < call_due y)
    → Some (later x (option_or q p)) ≡ option_or q (Some (later x p))
early_by key x None p low above = refl
early_by key x (Some y) p low above =
    let late = above y refl in rw (le-ltb (call_due y) (call_due x) (omega (arith, late, low))) refl

late_by : (key : ℕ) (x : JournalCall) (q p : Option JournalCall) → key < call_due x
    → ((z : JournalCall) → p ≡ Some z → call_due z ≤ key)
    → Some (later x (option_or q p)) ≡ Some (later x q)
late_by key x (Some y) p high below = refl
late_by key x None None high below = refl
late_by key x None (Some z) high below =
    let low = below z refl in rw (lt-ltb (call_due z) (call_due x) (omega (arith, low, high))) refl

-- the latest of those that pass one of two tests, of which the second is of later keys
latest_or : (key : ℕ) (p q r : JournalCall → Bool)
    → ((x : JournalCall) → p x ≡ true → call_due x ≤ key)
    → ((x : JournalCall) → q x ≡ true → key < call_due x) → (xs : List JournalCall)
    → ((x : JournalCall) → IsIn x xs → r x ≡ (p x || q x))
    → latest (filter r xs) ≡ option_or (latest (filter q xs)) (latest (filter p xs))
latest_or key p q r low high [] is = refl
latest_or key p q r low high (x ∷ xs) is =
    let rest = latest_or key p q r low high xs (λ y i. is y (inr i)) in
    let here : r x ≡ (p x || q x) = is x (inl refl) in
    elim (cases_Bool (p x)) [
      | inl early ↦ elim (cases_Bool (q x)) [
        | inl late ↦ absurd (omega (arith, low x early, high x late))
        | inr absent ↦
            rw (here, early, absent) (ap (λ (o : Option JournalCall). Some (later x o)) rest
            ∙ early_by key x (latest (filter q xs)) (latest (filter p xs)) (low x early)
            (λ y e. high y (latest_passes q xs y e)))
      ]
      | inr out ↦ elim (cases_Bool (q x)) [
        | inl late ↦
            rw (here, out, late) (ap (λ (o : Option JournalCall). Some (later x o)) rest
            ∙ late_by key x (latest (filter q xs)) (latest (filter p xs)) (high x late)
            (λ z e. low z (latest_passes p xs z e)))
        | inr absent ↦ rw (here, out, absent) rest
      ]
    ]

-- an activation at once counts from the first tick that had not begun
abbrev AreAtOnce : SetupParts → List JournalCall → Type 0
AreAtOnce s journal =
    (x : JournalCall) → IsIn x journal → is_activation x.request ≡ true
    → is_scheduled x.request ≡ false → call_due x ≡ begin s x.at

at_once_by : (s : SetupParts) (before : List JournalCall) (call : JournalCall) (when : When)
    (action : List OutputChangeParts) → IsActivated s before call when action
    → is_scheduled call.request ≡ false
    → call_due call ≡ begin s call.at
at_once_by s before call Now action is now = is.lands
at_once_by s before call (At x) action is now =
    absurd (false≢true (sym now ∙ ap is_scheduled is.asks))
at_once_by s before call (After x) action is now =
    absurd (false≢true (sym now ∙ ap is_scheduled is.asks))

more_at_once : (s : SetupParts) (before : List JournalCall) (call : JournalCall)
    → IsAccepted s before call → AreAtOnce s before
    → AreAtOnce s (before ++ call ∷ [])
more_at_once s before call is so_far x member acts now = elim (in_more x before call member) [
  | inl old ↦ so_far x old acts now
  | inr new ↦ elim (cases s before call is) [
    | inl a ↦
        ap call_due (sym new)
        ∙ at_once_by s before call a.0 a.1 a.2
        (ap (λ (c : JournalCall). is_scheduled c.request) new ∙ now)
        ∙ ap (λ (c : JournalCall). begin s c.at) new
    | inr d ↦
        absurd (false≢true (sym (ap is_activation d.2.asks)
        ∙ ap (λ (c : JournalCall). is_activation c.request) new ∙ acts))
  ]
]

at_once : (s : SetupParts) (m : ℕ) (journal : List JournalCall) → IsLegalJournal s m journal
    → AreAtOnce s journal
at_once s m journal legal =
    legal_by s (AreAtOnce s) (λ x i. absurd i)
    (λ before call legal is so_far. more_at_once s before call is so_far) m journal legal

or_same : (b : Bool) → b ≡ (b || (false && true))
or_same true = refl
or_same false = refl

turned : (b stays : Bool) → (not b && stays) ≡ (stays && not b)
turned true true = refl
turned true false = refl
turned false true = refl
turned false false = refl

-- a call that counts after more claims counted before, or was pending
both_ways : (acts timed stays : Bool) (a b d : ℕ) → a ≤ b → (acts ≡ true → timed ≡ false → d ≤ a)
    → (timed ≡ true → acts ≡ true)
    → (acts && (not (ltb b d) && stays))
    ≡ ((acts && (not (ltb a d) && stays)) || ((timed && (ltb a d && stays)) && not (ltb b d)))
both_ways false true stays a b d le once act = absurd (false≢true (act refl))
both_ways false false stays a b d le once act = refl
both_ways true false stays a b d le once act =
    let low : d ≤ a = once refl refl in
    rw (le-ltb a d low, le-ltb b d (omega (arith, low, le))) (sym (or-false stays))
both_ways true true stays a b d le once act = elim (cases_lt a d) [
  | inl late ↦ rw (lt-ltb a d late) (turned (ltb b d) stays)
  | inr low ↦ rw (le-ltb a d low, le-ltb b d (omega (arith, low, le))) (or_same stays)
]

item_later : (x : JournalCall) (rest : Option JournalCall)
    → later_item (item_of x) (option_map shown rest) ≡ shown (later x rest)
item_later x None = refl
item_later x (Some z) = elim (cases_Bool (ltb (call_due z) (call_due x))) [
  | inl less ↦ rw less refl
  | inr more ↦ rw more refl
]

item_latest : (xs : List JournalCall) → latest_item (map item_of xs) ≡ option_map shown (latest xs)
item_latest [] = refl
item_latest (x ∷ xs) =
    ap (λ (o : Option Activation). Some (later_item (item_of x) o)) (item_latest xs)
    ∙ ap Some (item_later x (latest xs))

or_map : (q p : Option JournalCall)
    → option_or (option_map shown q) (option_map shown p) ≡ option_map shown (option_or q p)
or_map None p = refl
or_map (Some y) p = refl

-- whether a call was pending, and counts by now
abbrev passed : SetupParts → List JournalCall → ℕ → ℕ → JournalCall → Bool
passed s journal seen claims call =
    is_pending s journal seen call && not (ltb (begin s claims) (call_due call))

passed_items : (s : SetupParts) (journal : List JournalCall) (seen claims : ℕ)
    → latest_item (filter (λ item. not (is_above (begin s claims) item))
    (map item_of (pending_of s journal seen)))
    ≡ option_map shown (latest (filter (passed s journal seen claims) journal))
passed_items s journal seen claims =
    ap latest_item
    (filter_map_is (λ (i : PendingItem). not (is_above (begin s claims) i)) item_of
    (pending_of s journal seen)
    ∙ ap (map item_of)
    (filter_twice (λ (c : JournalCall). not (ltb (begin s claims) (call_due c)))
    (is_pending s journal seen) (passed s journal seen claims) (λ c. refl) journal))
    ∙ item_latest (filter (passed s journal seen claims) journal)

pub active_low : (s : SetupParts) (journal : List JournalCall) (seen : ℕ) (x : JournalCall)
    → is_active s journal seen x ≡ true
    → call_due x ≤ begin s seen
active_low s journal seen x is =
    let a =
    and_parts (is_activation x.request)
    (not (ltb (begin s seen) (call_due x)) && not (is_deleted journal x.id)) is in
    let b = and_parts (not (ltb (begin s seen) (call_due x))) (not (is_deleted journal x.id)) a.1 in
    ltb-false (begin s seen) (call_due x) (not-true (ltb (begin s seen) (call_due x)) b.0)

passed_high : (s : SetupParts) (journal : List JournalCall) (seen claims : ℕ) (x : JournalCall)
    → passed s journal seen claims x ≡ true
    → begin s seen < call_due x
passed_high s journal seen claims x is =
    (waits s journal seen x
    (and_parts (is_pending s journal seen x) (not (ltb (begin s claims) (call_due x))) is).0).later

-- of what was active and what was pending, the active map shows the same after more claims
pub last_later : (s : SetupParts) (journal : List JournalCall) (seen claims : ℕ) → HasOutputs s
    → IsLegalJournal s seen journal → seen ≤ claims
    → option_or (latest_item (filter (λ item. not (is_above (begin s claims) item))
    (map item_of (pending_of s journal seen))))
    (option_map shown (last_of s journal seen))
    ≡ option_map shown (last_of s journal claims)
last_later s journal seen claims some legal le =
    ap (λ (o : Option Activation). option_or o (option_map shown (last_of s journal seen)))
    (passed_items s journal seen claims)
    ∙ or_map (latest (filter (passed s journal seen claims) journal)) (last_of s journal seen)
    ∙ sym (ap (option_map shown)
    (latest_or (begin s seen) (is_active s journal seen) (passed s journal seen claims)
    (is_active s journal claims)
    (active_low s journal seen) (passed_high s journal seen claims) journal
    (λ x i. both_ways (is_activation x.request) (is_scheduled x.request)
    (not (is_deleted journal x.id)) (begin s seen) (begin s claims) (call_due x)
    (begin_rises s seen claims some le)
    (λ acts now. omega (
      arith,
      at_once s seen journal legal x i acts now,
      begin_rises s x.at seen some (in_time s seen journal legal x i),
    ))
    (λ timed. is_scheduled_activation x.request timed))))

-- ---- what a book finds

pub any_map : {X Y : Type 0} (p : Y → Bool) (f : X → Y) (xs : List X)
    → list_any p (map f xs) ≡ list_any (λ x. p (f x)) xs
any_map p f [] = refl
any_map p f (x ∷ xs) = ap (λ (b : Bool). p (f x) || b) (any_map p f xs)

-- an output is locked where a pending activation names it
pub held_locked : (s : SetupParts) (journal : List JournalCall) (claims o : ℕ)
    → list_any (holds_item o) (map item_of (pending_of s journal claims))
    ≡ is_locked s journal claims o
held_locked s journal claims o = any_map (holds_item o) item_of (pending_of s journal claims)

find_map_is : {X Y : Type 0} (p : Y → Bool) (f : X → Y) (xs : List X)
    → find p (map f xs) ≡ option_map f (find (λ x. p (f x)) xs)
find_map_is p f [] = refl
find_map_is {X} p f (x ∷ xs) = elim (cases_Bool (p (f x))) [
  | inl hit ↦ rw hit refl
  | inr miss ↦ rw (miss, find_map_is p f xs) refl
]

-- the pending activation of an id
pub item_pending : (s : SetupParts) (journal : List JournalCall) (claims id : ℕ)
    → item_at id (map item_of (pending_of s journal claims))
    ≡ option_map item_of (pending_call s journal claims id)
item_pending s journal claims id =
    find_map_is (λ (i : PendingItem). eqb i.id id) item_of (pending_of s journal claims)

first_same : {X Y : Type 0} (f g : X → Option Y) → ((x : X) → f x ≡ g x) → (xs : List X)
    → first_some f xs ≡ first_some g xs
first_same f g same [] = refl
first_same f g same (x ∷ xs) = rw (same x, first_same f g same xs) refl

-- a book finds the refusal
pub refusal_is : (s : SetupParts) (journal : List JournalCall) (claims : ℕ) (when : When)
    (action : List OutputChangeParts)
    → refusal_from s (entries_of s journal) (map item_of (pending_of s journal claims)) claims when
    action
    ≡ refusal_of s journal claims when action
unfolding refusal_from refusal_of
refusal_is s journal claims when action =
    rw (first_same (held_at (map item_of (pending_of s journal claims)))
    (locked_at s journal claims)
    (λ c. ap (λ (b : Bool). if b then Some (Locked c.output) else None)
    (held_locked s journal claims c.output)) action) refl
