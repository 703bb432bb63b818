-- The tests that numbers rise.
use Rattle.std.proofs.Common.{◌≡◌, ℕ, zero, suc, ◌+◌, ◌<◌, ◌≤◌, Bool, true, false, ltb, ◌&&◌, not}
use Rattle.std.proofs.Common.{List, [], ◌∷◌, length, get_or, map, refl, arith}
use Rattle.std.specs.Prelude.{All}
use Rattle.std.specs.List.{list_all}
use Rattle.std.specs.List.Sorted.{IsStrictlyIncreasing}
use Rattle.std.proofs.lemmas.Bool.{le-ltb, ltb-false}
use Rattle.std.proofs.lemmas.List.{get_or-map, length-map}
use Rattle.std.proofs.lemmas.List.Elements.{All-head, All-tail, All-cons, All-nil}
use Rattle.map_entry.specs.declared.change.Change.{Change}
use Rattle.map_entry.specs.Action.{OutputChangeParts, AreAscending, IsOutputChange, IsAction}
use Rattle.capture_file.specs.Requests.{rises_from, rises, channels_rise, is_ordered}

pub both_true : (a b : Bool) → (a && b) ≡ true → (a ≡ true) × (b ≡ true)
both_true true b e = (refl, e)
both_true false b e = absurd cc

not_true : (a : Bool) → not a ≡ true → a ≡ false
not_true true e = absurd cc
not_true false e = refl

pub is_false : (a : Bool) → (a ≡ true → ⊥) → a ≡ false
is_false true never = absurd (never refl)
is_false false never = refl

pub first_rises : (least x : ℕ) (xs : List ℕ) → rises_from least (x ∷ xs) ≡ true → least ≤ x
first_rises least x xs e =
    let b = both_true (not (ltb x least)) (rises_from (x + 1) xs) e in
    ltb-false x least (not_true (ltb x least) b.0)

pub rises_rest : (least x : ℕ) (xs : List ℕ) → rises_from least (x ∷ xs) ≡ true
    → rises_from (x + 1) xs ≡ true
rises_rest least x xs e = (both_true (not (ltb x least)) (rises_from (x + 1) xs) e).1

from_rises : (least : ℕ) (xs : List ℕ) → rises_from least xs ≡ true → IsStrictlyIncreasing xs
from_rises least [] e k lt = absurd (omega arith)
from_rises least (x ∷ []) e k lt = absurd (omega arith)
from_rises least (x ∷ y ∷ ys) e zero lt =
    omega (arith, first_rises (x + 1) y ys (rises_rest least x (y ∷ ys) e))
from_rises least (x ∷ y ∷ ys) e (suc k) lt =
    let place : suc k + 1 ≡ suc (k + 1) = omega arith in
    rw place (from_rises (x + 1) (y ∷ ys) (rises_rest least x (y ∷ ys) e) k (omega arith))

above : (x : ℕ) (xs : List ℕ) → IsStrictlyIncreasing (x ∷ xs) → x + 1 ≤ get_or xs 0 (x + 1)
above x [] up = omega arith
above x (y ∷ ys) up = let lt : x < y = up 0 (omega arith) in omega (arith, lt)

rest_increases : (x : ℕ) (xs : List ℕ) → IsStrictlyIncreasing (x ∷ xs) → IsStrictlyIncreasing xs
rest_increases x xs up k lt =
    let place : suc k + 1 ≡ suc (k + 1) = omega arith in
    rw place at (up (suc k) (omega arith))

to_rises : (least : ℕ) (xs : List ℕ) → least ≤ get_or xs 0 least → IsStrictlyIncreasing xs
    → rises_from least xs ≡ true
to_rises least [] first up = refl
to_rises least (x ∷ xs) first up =
    rw (le-ltb x least first) (to_rises (x + 1) xs (above x xs up) (rest_increases x xs up))

pub rises-increase : (xs : List ℕ) → rises xs ≡ true → IsStrictlyIncreasing xs
rises-increase xs e = from_rises 0 xs e

pub increase-rises : (xs : List ℕ) → IsStrictlyIncreasing xs → rises xs ≡ true
increase-rises xs up = to_rises 0 xs (omega arith) up

-- ---- lists of numbered items

ascends : {X : Type 0} (n : X → ℕ) (xs : List X) → AreAscending n xs → X
    → IsStrictlyIncreasing (map n xs)
ascends n xs up d k lt =
    let long : k + 1 < length xs = omega (arith, lt, length-map xs n) in
    rw (get_or-map n xs k d 0 (omega arith), get_or-map n xs (k + 1) d 0 long) (up k d long)

increases : {X : Type 0} (n : X → ℕ) (xs : List X) → IsStrictlyIncreasing (map n xs)
    → AreAscending n xs
increases n xs up k d lt =
    let less : get_or (map n xs) k 0 < get_or (map n xs) (k + 1) 0 =
    up k (omega (arith, lt, length-map xs n)) in
    rw (get_or-map n xs k d 0 (omega arith), get_or-map n xs (k + 1) d 0 lt) at less

pub ascending-rises : {X : Type 0} (n : X → ℕ) (xs : List X) → AreAscending n xs
    → rises (map n xs) ≡ true
ascending-rises n [] up = refl
ascending-rises n (x ∷ xs) up = increase-rises (map n (x ∷ xs)) (ascends n (x ∷ xs) up x)

pub rises-ascending : {X : Type 0} (n : X → ℕ) (xs : List X) → rises (map n xs) ≡ true
    → AreAscending n xs
rises-ascending n xs e = increases n xs (rises-increase (map n xs) e)

-- ---- actions

pub ordered_channels : (c : OutputChangeParts) → IsOutputChange c → channels_rise c ≡ true
ordered_channels c is = ascending-rises (λ (change : Change). change.channel) c.changes is

pub channels_ordered : (c : OutputChangeParts) → channels_rise c ≡ true → IsOutputChange c
channels_ordered c e = rises-ascending (λ (change : Change). change.channel) c.changes e

pub unordered_channels : (c : OutputChangeParts) → (IsOutputChange c → ⊥) → channels_rise c ≡ false
unordered_channels c never = is_false (channels_rise c) (λ e. never (channels_ordered c e))

each_ordered : (action : List OutputChangeParts) → All IsOutputChange action
    → list_all channels_rise action ≡ true
each_ordered [] all = refl
each_ordered (c ∷ action) all =
    rw (ordered_channels c (All-head IsOutputChange c action all))
    (each_ordered action (All-tail IsOutputChange c action all))

ordered_each : (action : List OutputChangeParts) → list_all channels_rise action ≡ true
    → All IsOutputChange action
ordered_each [] e = All-nil IsOutputChange
ordered_each (c ∷ action) e =
    let b = both_true (channels_rise c) (list_all channels_rise action) e in
    All-cons IsOutputChange c action (channels_ordered c b.0) (ordered_each action b.1)

pub ordered_action : (action : List OutputChangeParts) → IsAction action → is_ordered action ≡ true
ordered_action action is =
    rw (ascending-rises (λ (c : OutputChangeParts). c.output) action is.outputs)
    (each_ordered action is.changes)

pub action_ordered : (action : List OutputChangeParts) → is_ordered action ≡ true → IsAction action
action_ordered action e =
    let b = both_true (rises (map (λ c. c.output) action)) (list_all channels_rise action) e in
    record {
      outputs = rises-ascending (λ (c : OutputChangeParts). c.output) action b.0;
      changes = ordered_each action b.1;
    }

pub unordered_action : (action : List OutputChangeParts) → (IsAction action → ⊥)
    → is_ordered action ≡ false
unordered_action action never = is_false (is_ordered action) (λ e. never (action_ordered action e))

-- what the reader of an action needs
pub ruleset tests = (ordered_action, unordered_action)
