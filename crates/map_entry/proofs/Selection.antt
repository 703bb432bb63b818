-- Which entry rules: laws of the selection, over any key.
use Rattle.std.proofs.Common.{◌≡◌, ℕ, suc, ◌+◌, ◌-◌, ◌^◌, ◌<◌, ◌≤◌, Bool, true, false, List, [], ◌∷◌}
use Rattle.std.proofs.Common.{◌++◌, length, get_or, take, Some, None, Option, refl, sym, ap, ◌∙◌, subst, arith, length-append, eqb}
use Rattle.std.specs.Prelude.{All, ◌&&◌, not, option_map}
use Rattle.std.specs.Option.{option_or}
use Rattle.std.proofs.lemmas.Bool.Decides.{nat_tests}
use Rattle.std.proofs.lemmas.List.{take_more, get_or_at, get_or_append_left}
use Rattle.std.proofs.lemmas.List.Elements.{All-head, All-tail, All-cons, All-nil, All-push, All-weaker}
use Rattle.map_entry.specs.declared.cell.Cell.{Cell}
use Rattle.map_entry.specs.declared.entry.Entry.{Entry}
pub use Rattle.list_laws.proofs.Options.{option_or-None}
use Rattle.list_laws.proofs.Options.{option_or-assoc, option_or-first, option_or-second}
use Rattle.map_entry.specs.Tick.{frame_key}
use Rattle.map_entry.specs.Entry.{due, rules, row_where, selected_by, selected, first_where, ruling_by, ruling}
use Rattle.map_entry.specs.Entry.{HaveOffsets, IsFirstRuled, IsPiece, IsUnruled, position_of}
use Rattle.map_entry.specs.Tick.{position_key}
use Rattle.map_entry.proofs.Frames.{later_tick, same_order}

row_where-None : (b : Bool) (e : Entry) → row_where b e ≡ None → b ≡ false
row_where-None true e missed = absurd cc
row_where-None false e missed = refl

-- append: what is selected of the second list, or else of the first
pub selected-append : (key : Entry → ℕ) (a b : List Entry) (o t : ℕ)
    → selected_by key (a ++ b) o t ≡ option_or (selected_by key b o t) (selected_by key a o t)
selected-append key [] b o t = sym (option_or-None (selected_by key b o t))
selected-append key (e ∷ a) b o t =
    ap (λ (r : Option (List Cell)). option_or r (row_where (rules key o t e) e)) (selected-append key a b o t)
    ∙ option_or-assoc (selected_by key b o t) (selected_by key a o t) (row_where (rules key o t e) e)

-- miss: nothing is selected where no entry rules
pub selected-miss : (key : Entry → ℕ) (es : List Entry) (o t : ℕ) → All (λ e. rules key o t e ≡ false) es → selected_by key es o t ≡ None
selected-miss key [] o t none = refl
selected-miss key (e ∷ es) o t none =
    let head : rules key o t e ≡ false = All-head (λ (x : Entry). rules key o t x ≡ false) e es none in
    let rest = selected-miss key es o t (All-tail (λ (x : Entry). rules key o t x ≡ false) e es none) in
    rw (rest, head) refl

-- no entry rules where nothing is selected
pub selected-missed : (key : Entry → ℕ) (es : List Entry) (o t : ℕ) → selected_by key es o t ≡ None → All (λ e. rules key o t e ≡ false) es
selected-missed key [] o t missed = All-nil (λ (x : Entry). rules key o t x ≡ false)
selected-missed key (e ∷ es) o t missed =
    All-cons (λ (x : Entry). rules key o t x ≡ false) e es
    (row_where-None (rules key o t e) e (option_or-second (selected_by key es o t) (row_where (rules key o t e) e) missed))
    (selected-missed key es o t (option_or-first (selected_by key es o t) (row_where (rules key o t e) e) missed))

-- stays: entries that do not rule change nothing
pub selected-stays : (key : Entry → ℕ) (a b : List Entry) (o t : ℕ) → All (λ e. rules key o t e ≡ false) b
    → selected_by key (a ++ b) o t ≡ selected_by key a o t
selected-stays key a b o t none = rw (selected-append key a b o t, selected-miss key b o t none) refl

-- an entry due later rules nothing below
pub rules-later : (key : Entry → ℕ) (o t : ℕ) (e : Entry) → t < key e → rules key o t e ≡ false
rules-later key o t e late = grind arith

none_rules : (key : Entry → ℕ) (es : List Entry) (o t : ℕ) → All (λ e. t < key e) es → All (λ e. rules key o t e ≡ false) es
none_rules key [] o t late = All-nil (λ (x : Entry). rules key o t x ≡ false)
none_rules key (e ∷ es) o t late =
    All-cons (λ (x : Entry). rules key o t x ≡ false) e es
    (rules-later key o t e (All-head (λ (x : Entry). t < key x) e es late))
    (none_rules key es o t (All-tail (λ (x : Entry). t < key x) e es late))

-- later: entries due later change nothing below
pub selected-later : (key : Entry → ℕ) (a b : List Entry) (o t : ℕ) → All (λ e. t < key e) b
    → selected_by key (a ++ b) o t ≡ selected_by key a o t
selected-later key a b o t late = selected-stays key a b o t (none_rules key b o t late)

-- entries of later ticks change no frame of a tick
pub selected-behind : (a b : List Entry) (o t f : ℕ) → f < 2 ^ 16 → All (λ e. t < e.tick) b
    → selected (a ++ b) o (frame_key t f) ≡ selected a o (frame_key t f)
selected-behind a b o t f few later =
    selected-later due a b o (frame_key t f)
    (All-weaker (λ (e : Entry). t < e.tick) (λ e. frame_key t f < due e) (λ e lt. later_tick t e.tick f e.offset lt few) b later)

-- the last entry
pub selected-last : (key : Entry → ℕ) (es : List Entry) (e : Entry) (o t : ℕ)
    → selected_by key (es ++ e ∷ []) o t ≡ option_or (row_where (rules key o t e) e) (selected_by key es o t)
selected-last key es e o t = selected-append key es (e ∷ []) o t

-- hit: an entry that rules, with none after it that does
pub selected-hit : (key : Entry → ℕ) (a : List Entry) (e : Entry) (b : List Entry) (o t : ℕ) → rules key o t e ≡ true
    → All (λ x. rules key o t x ≡ false) b → selected_by key (a ++ e ∷ b) o t ≡ Some e.row
selected-hit key a e b o t hit none =
    let rest : selected_by key b o t ≡ None = selected-miss key b o t none in
    selected-append key a (e ∷ b) o t ∙ rw (rest, hit) refl

-- the first part of a list with its last entry
pub selected-step : (key : Entry → ℕ) (es : List Entry) (at : ℕ) (e : Entry) (o t : ℕ) → 0 < at → at ≤ length es → e ≡ get_or es (at - 1) e
    → selected_by key (take at es) o t ≡ option_or (row_where (rules key o t e) e) (selected_by key (take (at - 1) es) o t)
selected-step key es at e o t some within is =
    let place : at - 1 + 1 ≡ at = omega arith in
    let more : take (at - 1 + 1) es ≡ take (at - 1) es ++ get_or es (at - 1) e ∷ [] = take_more es (at - 1) e (omega arith) in
    ap (λ (xs : List Entry). selected_by key xs o t) (rw (place, ← is) at more) ∙ selected-last key (take (at - 1) es) e o t

-- by keys that order all entries alike the same is selected
alike_by : (a b : Entry → ℕ) (es : List Entry) (o p q : ℕ) → All (λ e. rules a o p e ≡ rules b o q e) es
    → selected_by a es o p ≡ selected_by b es o q
alike_by a b [] o p q same = refl
alike_by a b (e ∷ es) o p q same =
    let head : rules a o p e ≡ rules b o q e = All-head (λ (x : Entry). rules a o p x ≡ rules b o q x) e es same in
    let rest = alike_by a b es o p q (All-tail (λ (x : Entry). rules a o p x ≡ rules b o q x) e es same) in
    rw (rest, head) refl

-- at a position the same is selected as at its frame
pub selected-position : (frames : ℕ) (es : List Entry) (o p : ℕ) → 0 < frames → frames ≤ 2 ^ 16 → HaveOffsets frames es
    → selected es o (position_key frames p) ≡ selected_by (position_of frames) es o p
selected-position frames es o p some few within =
    sym
    (alike_by (position_of frames) due es o p (position_key frames p)
    (All-weaker (λ (e : Entry). e.offset < frames) (λ e. rules (position_of frames) o p e ≡ rules due o (position_key frames p) e)
    (λ e lt. ap (λ (b : Bool). eqb e.output o && not b) (same_order frames p e.tick e.offset some few lt)) es within))

-- ---- the place of the entry that rules

no_place : (r : Option ℕ) → option_map suc r ≡ None → r ≡ None
no_place None none = refl
no_place (Some k) none = absurd cc

-- miss: no place where no entry rules, and the other way round
ruling-miss : (key : Entry → ℕ) (es : List Entry) (o t : ℕ) → All (λ e. rules key o t e ≡ false) es → ruling_by key es o t ≡ None
ruling-miss key [] o t none = refl
ruling-miss key (e ∷ es) o t none =
    let head : rules key o t e ≡ false = All-head (λ (x : Entry). rules key o t x ≡ false) e es none in
    let rest = ruling-miss key es o t (All-tail (λ (x : Entry). rules key o t x ≡ false) e es none) in
    rw (rest, head) refl

place_where : (b : Bool) → first_where b ≡ None → b ≡ false
place_where true none = absurd cc
place_where false none = refl

ruling-missed : (key : Entry → ℕ) (es : List Entry) (o t : ℕ) → ruling_by key es o t ≡ None → All (λ e. rules key o t e ≡ false) es
ruling-missed key [] o t missed = All-nil (λ (x : Entry). rules key o t x ≡ false)
ruling-missed key (e ∷ es) o t missed =
    let place : Option ℕ = first_where (rules key o t e) in
    let later : Option ℕ = option_map suc (ruling_by key es o t) in
    All-cons (λ (x : Entry). rules key o t x ≡ false) e es
    (place_where (rules key o t e) (option_or-second later place missed))
    (ruling-missed key es o t (no_place (ruling_by key es o t) (option_or-first later place missed)))

-- hit: the place of an entry that rules, with none after it that does
pub ruling-hit : (key : Entry → ℕ) (a : List Entry) (e : Entry) (b : List Entry) (o t : ℕ) → rules key o t e ≡ true
    → All (λ x. rules key o t x ≡ false) b → ruling_by key (a ++ e ∷ b) o t ≡ Some (length a)
ruling-hit key [] e b o t hit none = let rest = ruling-miss key b o t none in rw (rest, hit) refl
ruling-hit key (x ∷ a) e b o t hit none = let rest = ruling-hit key a e b o t hit none in rw rest refl

not_first : (r : Option ℕ) (w : Bool) → (r ≡ None → ⊥) → option_or (option_map suc r) (first_where w) ≡ Some 0 → ⊥
not_first None w some is = some refl
not_first (Some k) w some is = absurd cc

not_next : (r : Option ℕ) (w : Bool) (n : ℕ) → option_or (option_map suc r) (first_where w) ≡ Some (suc n) → r ≡ Some n
not_next None true n is = absurd cc
not_next None false n is = absurd cc
not_next (Some k) w n is = cc

-- over: it is another place where one after it rules
pub ruling-over : (key : Entry → ℕ) (a : List Entry) (e : Entry) (b : List Entry) (o t : ℕ) → (All (λ x. rules key o t x ≡ false) b → ⊥)
    → ruling_by key (a ++ e ∷ b) o t ≡ Some (length a) → ⊥
ruling-over key [] e b o t some is =
    not_first (ruling_by key b o t) (rules key o t e) (λ none. some (ruling-missed key b o t none)) is
ruling-over key (x ∷ a) e b o t some is =
    ruling-over key a e b o t some (not_next (ruling_by key (a ++ e ∷ b) o t) (rules key o t x) (length a) is)

-- ---- pieces

-- an entry that rules at a frame does so at all after it
rules_on : (o s t : ℕ) (e : Entry) → s ≤ t → rules due o s e ≡ true → rules due o t e ≡ true
rules_on o s t e le is = grind (arith, nat_tests)

-- from a frame at which an entry rules, with none after it that does, it rules up to the first at
-- which one after it does
pub piece_ruled : (a : List Entry) (e : Entry) (b : List Entry) (o t f frames upto : ℕ) → rules due o (frame_key t f) e ≡ true
    → IsUnruled b o (frame_key t f) → IsFirstRuled b o t f frames upto → IsPiece (a ++ e ∷ b) o t f frames upto
piece_ruled a e b o t f frames upto hit none first =
    let here : ruling (a ++ e ∷ b) o (frame_key t f) ≡ Some (length a) = ruling-hit due a e b o (frame_key t f) hit none in
    record {
      goes_on = first.goes_on;
      ends = first.ends;
      same = λ g from to.
          ruling-hit due a e b o (frame_key t g) (rules_on o (frame_key t f) (frame_key t g) e (omega (arith, from)) hit) (first.none g from to)
          ∙ sym here;
      other = λ lt same. ruling-over due a e b o (frame_key t upto) (first.first lt) (same ∙ here);
    }

unruled_before : (o s t : ℕ) (e : Entry) → s ≤ t → rules due o t e ≡ false → rules due o s e ≡ false
unruled_before o s t e le not = grind (arith, nat_tests)

last_of_all : (P : Entry → Type 0) (es : List Entry) (e : Entry) → All P (es ++ e ∷ []) → P e
last_of_all P es e all =
    subst P (get_or_at es e [] e (length es) refl) (all (length es) e (omega (arith, length-append es (e ∷ []))))

front_of_all : (P : Entry → Type 0) (es : List Entry) (e : Entry) → All P (es ++ e ∷ []) → All P es
front_of_all P es e all =
    λ k d lt. subst P (get_or_append_left es (e ∷ []) d k lt) (all k d (omega (arith, length-append es (e ∷ []), lt)))

-- and its row is selected at them
pub piece_rows : (a : List Entry) (e : Entry) (b : List Entry) (o t f frames upto : ℕ) → rules due o (frame_key t f) e ≡ true
    → IsFirstRuled b o t f frames upto → (g : ℕ) → f ≤ g → g < upto → selected (a ++ e ∷ b) o (frame_key t g) ≡ Some e.row
piece_rows a e b o t f frames upto hit first g from to =
    selected-hit due a e b o (frame_key t g) (rules_on o (frame_key t f) (frame_key t g) e (omega (arith, from)) hit) (first.none g from to)

-- what an entry due before a frame's end does with the first ruled frame of those before it
pub first_more : (es : List Entry) (e : Entry) (o t f frames upto : ℕ) → IsFirstRuled es o t f frames upto
    → rules due o (frame_key t f) e ≡ false → rules due o (frame_key t (upto - 1)) e ≡ true → e.offset < 2 ^ 16 → frames ≤ 2 ^ 16
    → IsFirstRuled (es ++ e ∷ []) o t f frames e.offset
first_more es e o t f frames upto is not hit few more =
    let tick : e.tick ≡ t = grind (arith, nat_tests, is.goes_on, is.ends) in
    let behind : f < e.offset = grind (arith, nat_tests, is.goes_on, is.ends) in
    let before : e.offset < upto = grind (arith, nat_tests, is.goes_on, is.ends) in
    record {
      goes_on = behind;
      ends = omega (arith, before, is.ends);
      none = λ g from to.
          All-push (λ (x : Entry). rules due o (frame_key t g) x ≡ false) es e (is.none g from (omega (arith, before, to)))
          (rules-later due o (frame_key t g) e (omega (arith, tick, to)));
      first = λ lt none.
          let last : rules due o (frame_key t e.offset) e ≡ false =
          last_of_all (λ (x : Entry). rules due o (frame_key t e.offset) x ≡ false) es e none in
          absurd (grind (arith, nat_tests));
    }

pub first_same : (es : List Entry) (e : Entry) (o t f frames upto : ℕ) → IsFirstRuled es o t f frames upto
    → rules due o (frame_key t (upto - 1)) e ≡ false → IsFirstRuled (es ++ e ∷ []) o t f frames upto
first_same es e o t f frames upto is not = record {
  goes_on = is.goes_on;
  ends = is.ends;
  none = λ g from to.
      All-push (λ (x : Entry). rules due o (frame_key t g) x ≡ false) es e (is.none g from to)
      (unruled_before o (frame_key t g) (frame_key t (upto - 1)) e (omega (arith, to)) not);
  first = λ lt none. is.first lt (front_of_all (λ (x : Entry). rules due o (frame_key t upto) x ≡ false) es e none);
}
