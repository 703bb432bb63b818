-- No output is named twice by what is pending, so no more places are kept than there are outputs.
use Rattle.std.proofs.Common.{◌≡◌, ◌≢◌, ℕ, zero, suc, ◌+◌, ◌*◌, ◌<◌, ◌≤◌, Bool, true, false, eqb, List, []}
use Rattle.std.proofs.Common.{◌∷◌, ◌++◌, length, length-append, map, Option, Some, None, inl, inr, refl, sym, ap}
use Rattle.std.proofs.Common.{subst, ◌∙◌, append_assoc, arith, cond, zero-add}
use Rattle.std.specs.Prelude.{All, filter, not, nat_lt, if◌then◌else◌}
use Rattle.std.specs.List.{AllByRecursion, count_by, list_any}
use Rattle.std.specs.Option.{option_to_list}
use Rattle.std.proofs.lemmas.Bool.{cases_Bool, cases_lt, eq-eqb, eqb-true, false≢true, or_parts, ltb-true}
use Rattle.std.proofs.lemmas.List.{append-nil, length-map}
use Rattle.std.proofs.lemmas.List.Elements.{All-head, All-tail}
use Rattle.std.proofs.lemmas.List.Sums.{sum_by-cons}
use Rattle.list_laws.proofs.Items.{count_by-append}
use Rattle.map_entry.specs.Action.{AreAscending, IsAction, OutputChangeParts}
use Rattle.map_entry.specs.Setup.{SetupParts}
use Rattle.map_entry.specs.Tick.{frame_key}
use Rattle.io_caps.specs.declared.device.DeviceParts.{DeviceParts}
use Rattle.plain_book.specs.Book.{first_some, locked_at, locked_by, unknown_at, unknown_by}
use Rattle.plain_book.specs.Desk.{holds_item, item_above}
use Rattle.plain_book.specs.Pending.{is_locked, pending_of}
use Rattle.plain_book.specs.Places.{IsHeldOnce, outputs_held, places_kept, times_in}
use Rattle.book_words.specs.Replies.{item_of, pending_item}
use Rattle.book_words.specs.declared.calls.JournalCall.{JournalCall}
use Rattle.book_words.specs.declared.replies.PendingItem.{PendingItem}
use Rattle.book_words.specs.declared.replies.Refusal.TheVariants.{Locked, Unknown}
use Rattle.book_words.specs.declared.requests.When.{When}
use Rattle.plain_book.proofs.Lists.{IsIn, any_from}
use Rattle.plain_book.proofs.Locks.{first_none, none_told}
use Rattle.plain_book.proofs.Looking.{held_locked}

-- ---- numbers that are below a bound, each at most once, are no more than the bound

abbrev is_it : ℕ → ℕ → Bool
is_it x y = eqb y x

times_cons : (x y : ℕ) (ys : List ℕ)
    → times_in x (y ∷ ys) ≡ cond (eqb y x) 1 0 + times_in x ys
times_cons x y ys = sum_by-cons (λ (z : ℕ). cond (eqb z x) 1 0) y ys

times_hit : (x y : ℕ) (ys : List ℕ) → eqb y x ≡ true → times_in x (y ∷ ys) ≡ 1 + times_in x ys
times_hit x y ys hit =
    times_cons x y ys ∙ ap (λ (b : Bool). cond b 1 0 + times_in x ys) hit

times_miss : (x y : ℕ) (ys : List ℕ) → eqb y x ≡ false → times_in x (y ∷ ys) ≡ times_in x ys
times_miss x y ys miss =
    times_cons x y ys ∙ ap (λ (b : Bool). cond b 1 0 + times_in x ys) miss
    ∙ zero-add (times_in x ys)

kept_first : (p : ℕ → Bool) (y : ℕ) (ys : List ℕ) → p y ≡ true
    → filter p (y ∷ ys) ≡ y ∷ filter p ys
kept_first p y ys keeps = rw keeps refl

left_first : (p : ℕ → Bool) (y : ℕ) (ys : List ℕ) → p y ≡ false → filter p (y ∷ ys) ≡ filter p ys
left_first p y ys drops = rw drops refl

split_by : (x : ℕ) (xs : List ℕ) → length xs ≡ times_in x xs + length (filter (λ y. not (eqb y x)) xs)
split_by x [] = refl
split_by x (y ∷ ys) = elim (cases_Bool (eqb y x)) [
  | inl hit ↦
      omega (
        arith,
        split_by x ys,
        times_hit x y ys hit,
        ap length (left_first (λ (z : ℕ). not (eqb z x)) y ys (ap not hit)),
      )
  | inr miss ↦
      omega (
        arith,
        split_by x ys,
        times_miss x y ys miss,
        ap length (kept_first (λ (z : ℕ). not (eqb z x)) y ys (ap not miss)),
      )
]

fewer_times : (p : ℕ → Bool) (x : ℕ) (xs : List ℕ) → times_in x (filter p xs) ≤ times_in x xs
fewer_times p x [] = omega arith
fewer_times p x (y ∷ ys) = elim (cases_Bool (p y)) [
  | inl keeps ↦
      let f = ap (times_in x) (kept_first p y ys keeps) in
      omega (
        arith,
        fewer_times p x ys,
        f,
        times_cons x y ys,
        times_cons x y (filter p ys),
      )
  | inr drops ↦
      let f = ap (times_in x) (left_first p y ys drops) in
      omega (arith, fewer_times p x ys, f, times_cons x y ys)
]

below_less : (n : ℕ) (xs : List ℕ) → AllByRecursion (λ y. y < suc n) xs
    → AllByRecursion (λ y. y < n) (filter (λ y. not (eqb y n)) xs)
below_less n [] all = tt
below_less n (y ∷ ys) all = elim (cases_Bool (eqb y n)) [
  | inl hit ↦ rw hit (below_less n ys all.1)
  | inr miss ↦
      elim (cases_lt y n) [
        | inl lt ↦ rw miss (lt, below_less n ys all.1)
        | inr ge ↦
            let same : y ≡ n = omega (arith, ge, all.0) in
            absurd (false≢true (sym miss ∙ eq-eqb y n same))
      ]
]

pub few_once : (n : ℕ) (xs : List ℕ) → AllByRecursion (λ y. y < n) xs → ((x : ℕ) → times_in x xs ≤ 1)
    → length xs ≤ n
few_once zero [] all once = omega arith
few_once zero (x ∷ xs) all once = absurd (omega (arith, all.0))
few_once (suc n) xs all once =
    let rest : List ℕ = filter (λ y. not (eqb y n)) xs in
    let less : length rest ≤ n =
    few_once n rest (below_less n xs all)
    (λ x. let f = fewer_times (λ y. not (eqb y n)) x xs in omega (arith, f, once x)) in
    omega (arith, split_by n xs, less, once n)

-- ---- an action names each output once

behind : {X : Type 0} (n : X → ℕ) (x : X) (xs : List X) → AreAscending n (x ∷ xs) → AreAscending n xs
behind n x xs up k d within =
    let place : suc k + 1 ≡ suc (k + 1) = omega arith in
    rw place at (up (suc k) d (omega (arith, within)))

abbrev outputs_in : List OutputChangeParts → List ℕ
outputs_in action = map (λ change. change.output) action

none_below : (low : ℕ) (c : OutputChangeParts) (action : List OutputChangeParts) → low < c.output
    → AreAscending (λ x. x.output) (c ∷ action)
    → times_in low (outputs_in (c ∷ action)) ≡ 0
none_below low c [] less up =
    elim (cases_Bool (eqb c.output low)) [
      | inl hit ↦ absurd (omega (arith, less, eqb-true c.output low hit))
      | inr miss ↦ times_miss low c.output [] miss
    ]
none_below low c (d ∷ action) less up =
    let next : c.output < d.output = up 0 c (omega arith) in
    let rest = none_below low d action (omega (arith, less, next))
    (behind (λ (x : OutputChangeParts). x.output) c (d ∷ action) up) in
    elim (cases_Bool (eqb c.output low)) [
      | inl hit ↦ absurd (omega (arith, less, eqb-true c.output low hit))
      | inr miss ↦ times_miss low c.output (outputs_in (d ∷ action)) miss ∙ rest
    ]

none_behind : (c : OutputChangeParts) (action : List OutputChangeParts)
    → AreAscending (λ x. x.output) (c ∷ action)
    → times_in c.output (outputs_in action) ≡ 0
none_behind c [] up = refl
none_behind c (d ∷ action) up =
    none_below c.output d action (up 0 c (omega arith))
    (behind (λ (x : OutputChangeParts). x.output) c (d ∷ action) up)

named_once : (action : List OutputChangeParts) → AreAscending (λ c. c.output) action → (o : ℕ)
    → times_in o (outputs_in action) ≤ 1
named_once [] up o = omega arith
named_once (c ∷ action) up o = elim (cases_Bool (eqb c.output o)) [
  | inl hit ↦
      let none = none_behind c action up in
      let none_o : times_in o (outputs_in action) ≡ 0 =
      subst (λ (k : ℕ). times_in k (outputs_in action) ≡ 0) (eqb-true c.output o hit) none in
      omega (arith, times_hit o c.output (outputs_in action) hit, none_o)
  | inr miss ↦
      let rest = named_once action (behind (λ (x : OutputChangeParts). x.output) c action up) o in
      omega (arith, times_miss o c.output (outputs_in action) miss, rest)
]

known_below : (d : DeviceParts) (action : List OutputChangeParts) → unknown_by d action ≡ None
    → AllByRecursion (λ y. y < length d.outputs) (outputs_in action)
known_below d [] known = tt
known_below d (c ∷ action) known = elim (cases_Bool (nat_lt c.output (length d.outputs))) [
  | inl there ↦
      let rest : unknown_by d action ≡ None = rw there at known in
      (ltb-true c.output (length d.outputs) there, known_below d action rest)
  | inr out ↦ let e : Some (Unknown c.output) ≡ None = rw out at known in absurd cc
]

-- so it names no more outputs than there are
pub action_few : (d : DeviceParts) (action : List OutputChangeParts) → IsAction action
    → unknown_by d action ≡ None → length action ≤ length d.outputs
action_few d action is known =
    let few = few_once (length d.outputs) (outputs_in action) (known_below d action known)
    (named_once action is.outputs) in
    omega (arith, few, length-map action (λ (c : OutputChangeParts). c.output))

-- ---- what is pending

more : (x : PendingItem) (xs : List PendingItem)
    → places_kept (x ∷ xs) ≡ length x.action + places_kept xs
more x xs = sum_by-cons (λ (i : PendingItem). length i.action) x xs

pub held_long : (items : List PendingItem) → length (outputs_held items) ≡ places_kept items
held_long [] = refl
held_long (x ∷ xs) =
    omega (
      arith,
      length-append (outputs_in x.action) (outputs_held xs),
      length-map x.action (λ (c : OutputChangeParts). c.output),
      held_long xs,
      more x xs,
    )

held_then : (xs ys : List PendingItem)
    → outputs_held (xs ++ ys) ≡ outputs_held xs ++ outputs_held ys
held_then [] ys = refl
held_then (x ∷ xs) ys =
    ap (λ (z : List ℕ). outputs_in x.action ++ z) (held_then xs ys)
    ∙ sym (append_assoc (outputs_in x.action) (outputs_held xs) (outputs_held ys))

held_less : (p : PendingItem → Bool) (o : ℕ) (xs : List PendingItem)
    → times_in o (outputs_held (filter p xs)) ≤ times_in o (outputs_held xs)
held_less p o [] = omega arith
held_less p o (x ∷ xs) =
    let l = held_less p o xs in
    let whole = count_by-append (is_it o) (outputs_in x.action) (outputs_held xs) in
    elim (cases_Bool (p x)) [
      | inl keeps ↦
          rw keeps
          (let part = count_by-append (is_it o) (outputs_in x.action) (outputs_held (filter p xs)) in
          omega (arith, l, whole, part))
      | inr drops ↦ rw drops (omega (arith, l, whole))
    ]

-- of some of them the same holds
pub once_filtered : (p : PendingItem → Bool) (items : List PendingItem) → IsHeldOnce items
    → IsHeldOnce (filter p items)
once_filtered p items once = λ o. let l = held_less p o items in omega (arith, l, once o)

none_in : (o : ℕ) (action : List OutputChangeParts)
    → list_any (λ c. eqb c.output o) action ≡ false
    → times_in o (outputs_in action) ≡ 0
none_in o [] none = refl
none_in o (c ∷ action) none =
    let parts = or_parts (eqb c.output o) (list_any (λ (x : OutputChangeParts). eqb x.output o) action)
    none in
    times_miss o c.output (outputs_in action) parts.0 ∙ none_in o action parts.1

none_held : (o : ℕ) (items : List PendingItem) → list_any (holds_item o) items ≡ false
    → times_in o (outputs_held items) ≡ 0
none_held o [] none = refl
none_held o (x ∷ xs) none =
    let parts = or_parts (holds_item o x) (list_any (holds_item o) xs) none in
    omega (
      arith,
      count_by-append (is_it o) (outputs_in x.action) (outputs_held xs),
      none_in o x.action parts.0,
      none_held o xs parts.1,
    )

one_more : (o : ℕ) (items : List PendingItem) (item : PendingItem)
    → times_in o (outputs_held (items ++ item ∷ []))
    ≡ times_in o (outputs_held items) + times_in o (outputs_in item.action)
one_more o items item =
    ap (times_in o) (held_then items (item ∷ []))
    ∙ count_by-append (is_it o) (outputs_held items) (outputs_in item.action ++ [])
    ∙ ap (λ (z : List ℕ). times_in o (outputs_held items) + times_in o z)
    (append-nil (outputs_in item.action))

-- so does it with an activation more, none of whose outputs was locked
once_pushed : (s : SetupParts) (journal : List JournalCall) (claims : ℕ) (items : List PendingItem)
    (item : PendingItem) → IsHeldOnce items → items ≡ map item_of (pending_of s journal claims)
    → IsAction item.action → locked_by s journal claims item.action ≡ None
    → IsHeldOnce (items ++ item ∷ [])
once_pushed s journal claims items item once are is free o =
    elim (cases_Bool (list_any (λ (c : OutputChangeParts). eqb c.output o) item.action)) [
      | inr other ↦ omega (arith, one_more o items item, none_in o item.action other, once o)
      | inl named ↦
          let f = any_from (λ (c : OutputChangeParts). eqb c.output o) item.action named in
          let at : f.item.output ≡ o = eqb-true f.item.output o f.passes in
          let out = none_told (is_locked s journal claims f.item.output) (Locked f.item.output)
          (first_none (locked_at s journal claims) item.action f.item free f.member) in
          let free_o : is_locked s journal claims o ≡ false =
          subst (λ (k : ℕ). is_locked s journal claims k ≡ false) at out in
          let none : list_any (holds_item o) items ≡ false =
          ap (list_any (holds_item o)) are ∙ held_locked s journal claims o ∙ free_o in
          omega (
            arith,
            one_more o items item,
            none_held o items none,
            named_once item.action is.outputs o,
          )
    ]

pub once_above : (s : SetupParts) (journal : List JournalCall) (claims key id tick offset : ℕ) (when : When)
    (action : List OutputChangeParts) (items : List PendingItem) (b : Bool) → nat_lt key (frame_key tick offset) ≡ b
    → IsHeldOnce items → items ≡ map item_of (pending_of s journal claims)
    → IsAction action → locked_by s journal claims action ≡ None
    → IsHeldOnce (items ++ option_to_list (item_above key id when tick offset action))
once_above s journal claims key id tick offset when action items true above once are is free =
    rw above
    (once_pushed s journal claims items (pending_item id when tick offset action) once are is free)
once_above s journal claims key id tick offset when action items false above once are is free =
    rw (above, append-nil items) once

-- of some of them no more places are kept
pub kept_less : (p : PendingItem → Bool) (items : List PendingItem)
    → places_kept (filter p items) ≤ places_kept items
kept_less p [] = omega arith
kept_less p (x ∷ xs) =
    let l = kept_less p xs in
    elim (cases_Bool (p x)) [
      | inl keeps ↦ rw keeps (omega (arith, l, more x xs, more x (filter p xs)))
      | inr drops ↦ rw drops (omega (arith, l, more x xs))
    ]

-- so no more places are kept than there are outputs
pub kept_few : (n : ℕ) (items : List PendingItem) → IsHeldOnce items
    → AllByRecursion (λ y. y < n) (outputs_held items) → places_kept items ≤ n
kept_few n items once all =
    let few = few_once n (outputs_held items) all once in omega (arith, few, held_long items)
