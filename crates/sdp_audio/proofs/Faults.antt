-- The first fault of a text, line by line.
use Rattle.std.proofs.Common.{◌≡◌, ℕ, suc, ◌+◌, ◌<◌, ◌≤◌, Bool, true, false, ◌&&◌, cond, List, [], ◌∷◌, ◌++◌, length, get_or, take, drop, filter}
use Rattle.std.proofs.Common.{Option, Some, None, is_some, Result, Ok, Err, refl, sym, ap, ◌∙◌, subst, arith, inl, inr, length-drop, drop-drop}
use Rattle.std.proofs.Common.{get_or-drop, take_all, true≢false, eqb, add-zero}
use Rattle.std.specs.List.{list_all, last_or}
use Rattle.std.specs.Str.Lines.{lines}
use Rattle.exact_text.specs.Readings.{◌>>=◌}
use Rattle.std.proofs.lemmas.Bool.{cases_order, eqb-true}
use Rattle.std.proofs.lemmas.List.{take_more}
use Rattle.std.proofs.lemmas.List.Sums.{AllPass-from_list_all}
use Rattle.sdp_audio.specs.declared.fault.SdpFault.{SdpFault}
use Rattle.sdp_audio.specs.declared.fault.SdpFault.TheVariants.{Start}
use Rattle.sdp_audio.specs.Media.{is_media, line_audio}
use Rattle.sdp_audio.specs.Fault.{is_empty_line, is_blank, media_above, is_in_audio, line_fault, fault_at, IsFirstFault, IsSdpFault, HasNoFault}

-- ---- what lines say of the line below them

and_true : (b : Bool) → (b && true) ≡ b
and_true true = refl
and_true false = refl

and_more : (a b c d : Bool) → b ≡ (c && d) → (a && b) ≡ (a && c && d)
and_more true b c d e = e
and_more false b c d e = refl

all_push : {X : Type 0} (p : X → Bool) (xs : List X) (y : X) → list_all p (xs ++ y ∷ []) ≡ (list_all p xs && p y)
all_push p [] y = and_true (p y)
all_push p (x ∷ xs) y = and_more (p x) (list_all p (xs ++ y ∷ [])) (list_all p xs) (p y) (all_push p xs y)

last_only : {X : Type 0} (o : Option X) (y : X) (test : Bool) → last_or o (cond test (y ∷ []) []) ≡ cond test (Some y) o
last_only o y true = refl
last_only o y false = refl

last_step : {X : Type 0} (o : Option X) (x y : X) (more these : List X) (first test : Bool)
    → ((p : Option X) → last_or p more ≡ cond test (Some y) (last_or p these))
    → last_or o (cond first (x ∷ more) more) ≡ cond test (Some y) (last_or o (cond first (x ∷ these) these))
last_step o x y more these true test h = h (Some x)
last_step o x y more these false test h = h o

-- the last item that passes, with one item more
last_push : {X : Type 0} (p : X → Bool) (o : Option X) (xs : List X) (y : X)
    → last_or o (filter p (xs ++ y ∷ [])) ≡ cond (p y) (Some y) (last_or o (filter p xs))
last_push p o [] y = last_only o y (p y)
last_push p o (x ∷ xs) y = last_step o x y (filter p (xs ++ y ∷ [])) (filter p xs) (p x) (p y) (λ q. last_push p q xs y)

audio_by : (test : Bool) (line : List ℕ) (above : Option (List ℕ))
    → is_some (cond test (Some line) above >>= line_audio) ≡ cond test (is_some (line_audio line)) (is_some (above >>= line_audio))
audio_by true line above = refl
audio_by false line above = refl

-- the lines below one belong to a section of audio
pub audio_push : (above : List (List ℕ)) (line : List ℕ)
    → is_in_audio (above ++ line ∷ []) ≡ cond (is_media line) (is_some (line_audio line)) (is_in_audio above)
audio_push above line =
    ap (λ (o : Option (List ℕ)). is_some (o >>= line_audio)) (last_push is_media None above line) ∙ audio_by (is_media line) line (media_above above)

pub blank_push : (above : List (List ℕ)) (line : List ℕ) → is_blank (above ++ line ∷ []) ≡ (is_blank above && is_empty_line line)
blank_push above line = all_push is_empty_line above line

-- ---- the lines that were checked

-- the lines of a text down to a number have no fault, and what they say of the next one
pub record Checked (text rest : List ℕ) (number : ℕ) (first in_audio : Bool) : Type 0 where
  pub within : number ≤ length (lines text)
  pub rest_is : drop number (lines text) ≡ lines rest
  pub short : number + length rest ≤ length text
  pub good : (k : ℕ) → k < number → fault_at (lines text) k ≡ None
  pub first_is : first ≡ is_blank (take number (lines text))
  pub audio_is : in_audio ≡ is_in_audio (take number (lines text))

-- none of them yet
pub checked_none : (text : List ℕ) → Checked text text 0 true false
checked_none text = record {
  within = omega arith;
  rest_is = refl;
  short = omega arith;
  good = λ k below. absurd (omega (arith, below));
  first_is = refl;
  audio_is = refl;
}

-- the item at a place, and those after it
pub record IsAt {X : Type 0} (xs : List X) (k : ℕ) (x : X) (rest : List X) : Type 0 where
  pub inside : k < length xs
  pub item : (d : X) → get_or xs k d ≡ x
  pub after : drop (k + 1) xs ≡ rest

pub is_at : {X : Type 0} (xs : List X) (k : ℕ) (x : X) (rest : List X) → drop k xs ≡ x ∷ rest → IsAt xs k x rest
is_at xs k x rest e = record {
  inside = (let long : length (drop k xs) ≡ suc (length rest) = ap length e in omega (arith, length-drop k xs, long));
  item = λ d. ap (λ n. get_or xs n d) (sym (add-zero k)) ∙ sym (get_or-drop k xs 0 d) ∙ ap (λ l. get_or l 0 d) e;
  after = sym (drop-drop 1 k xs) ∙ ap (drop 1) e;
}

-- the fault of the next line, by what is known of those above it
pub checked_fault : (text rest line below : List ℕ) (number : ℕ) (first in_audio : Bool) → Checked text rest number first in_audio
    → lines rest ≡ line ∷ lines below → fault_at (lines text) number ≡ line_fault first in_audio (number + 1) line
checked_fault text rest line below number first in_audio known e =
    let here = is_at (lines text) number line (lines below) (known.rest_is ∙ e) in
    rw (here.item [], ← known.first_is, ← known.audio_is) refl

good_more : (all : List (List ℕ)) (number : ℕ) → ((k : ℕ) → k < number → fault_at all k ≡ None) → fault_at all number ≡ None
    → (k : ℕ) → k < number + 1 → fault_at all k ≡ None
good_more all number good none k below = elim (cases_order k number) [
  | inl same ↦ ap (fault_at all) same ∙ none
  | inr (inl less) ↦ good k less
  | inr (inr more) ↦ absurd (omega (arith, below, more))
]

-- one line more
pub checked_more : (text rest line below : List ℕ) (number : ℕ) (first in_audio : Bool) → Checked text rest number first in_audio
    → lines rest ≡ line ∷ lines below → length below < length rest → line_fault first in_audio (number + 1) line ≡ None
    → Checked text below (number + 1) (first && is_empty_line line) (cond (is_media line) (is_some (line_audio line)) in_audio)
checked_more text rest line below number first in_audio known e shorter none =
    let all = lines text in
    let here = is_at all number line (lines below) (known.rest_is ∙ e) in
    let more : take (number + 1) all ≡ take number all ++ line ∷ [] = take_more all number [] here.inside
    ∙ ap (λ (l : List ℕ). take number all ++ l ∷ []) (here.item []) in
    record {
      within = omega (arith, here.inside);
      rest_is = here.after;
      short = omega (arith, known.short, shorter);
      good = good_more all number known.good (checked_fault text rest line below number first in_audio known e ∙ none);
      first_is = ap (λ b. b && is_empty_line line) known.first_is ∙ sym (ap is_blank more ∙ blank_push (take number all) line);
      audio_is = ap (λ b. cond (is_media line) (is_some (line_audio line)) b) known.audio_is
          ∙ sym (ap is_in_audio more ∙ audio_push (take number all) line);
    }

-- the fault of the next line is the text's
pub checked_bad : (text rest line below : List ℕ) (number : ℕ) (first in_audio : Bool) (fault : SdpFault) → Checked text rest number first in_audio
    → lines rest ≡ line ∷ lines below → line_fault first in_audio (number + 1) line ≡ Some fault → IsSdpFault text fault
checked_bad text rest line below number first in_audio fault known e bad =
    let here = is_at (lines text) number line (lines below) (known.rest_is ∙ e) in
    inl (record {
      place = number;
      within = here.inside;
      bad = checked_fault text rest line below number first in_audio known e ∙ bad;
      before = known.good;
    })

-- all lines were checked
whole : (text : List ℕ) (number : ℕ) (first in_audio : Bool) → Checked text [] number first in_audio → number ≡ length (lines text)
whole text number first in_audio known =
    let none : length (drop number (lines text)) ≡ 0 = ap length known.rest_is in
    omega (arith, length-drop number (lines text), none, known.within)

pub checked_blank : (text : List ℕ) (number : ℕ) (in_audio : Bool) → Checked text [] number true in_audio → IsSdpFault text Start
checked_blank text number in_audio known =
    let all = take_all number (lines text) (omega (arith, whole text number true in_audio known)) in
    inr (sym (known.first_is ∙ ap is_blank all), refl)

pub checked_good : (text : List ℕ) (number : ℕ) (in_audio : Bool) → Checked text [] number false in_audio → HasNoFault text
checked_good text number in_audio known =
    let end = whole text number false in_audio known in
    let all = take_all number (lines text) (omega (arith, end)) in
    record { good = λ k below. known.good k (omega (arith, end, below)); begun = sym (known.first_is ∙ ap is_blank all) }

-- what no text is left for
pub ends_good : (text rest : List ℕ) (number : ℕ) (first in_audio : Bool) → Checked text rest number first in_audio → eqb (length rest) 0 ≡ true
    → first ≡ false → HasNoFault text
ends_good text [] number false in_audio known e f = checked_good text number in_audio known
ends_good text [] number true in_audio known e f = absurd cc
ends_good text (b ∷ rest) number first in_audio known e f = absurd (omega (arith, eqb-true (length (b ∷ rest)) 0 e))

pub ends_blank : (text rest : List ℕ) (number : ℕ) (first in_audio : Bool) → Checked text rest number first in_audio → eqb (length rest) 0 ≡ true
    → first ≡ true → IsSdpFault text Start
ends_blank text [] number true in_audio known e f = checked_blank text number in_audio known
ends_blank text [] number false in_audio known e f = absurd cc
ends_blank text (b ∷ rest) number first in_audio known e f = absurd (omega (arith, eqb-true (length (b ∷ rest)) 0 e))

-- ---- a text has one fault, or none

empty_good : (first in_audio : Bool) (number : ℕ) (line : List ℕ) → is_empty_line line ≡ true → line_fault first in_audio number line ≡ None
empty_good first in_audio number [] e = refl
empty_good first in_audio number (b ∷ line) e = absurd (omega (arith, eqb-true (length (b ∷ line)) 0 e))

blank_good : (all : List (List ℕ)) (k : ℕ) → is_blank all ≡ true → k < length all → fault_at all k ≡ None
blank_good all k blank within =
    empty_good (is_blank (take k all)) (is_in_audio (take k all)) (k + 1) (get_or all k [])
    (AllPass-from_list_all is_empty_line all blank k [] within)

first_once : (all : List (List ℕ)) (f g : SdpFault) → IsFirstFault all f → IsFirstFault all g → f ≡ g
first_once all f g a b = elim (cases_order a.place b.place) [
  | inl same ↦
      let at : fault_at all a.place ≡ fault_at all b.place = ap (fault_at all) same in
      let both : Some f ≡ Some g = sym a.bad ∙ at ∙ b.bad in
      cc
  | inr (inl less) ↦ let both : Some f ≡ None = sym a.bad ∙ b.before a.place less in absurd cc
  | inr (inr more) ↦ let both : Some g ≡ None = sym b.bad ∙ a.before b.place more in absurd cc
]

first_not_blank : (all : List (List ℕ)) (f : SdpFault) → IsFirstFault all f → is_blank all ≡ true → ⊥
first_not_blank all f a blank =
    let both : Some f ≡ None = sym a.bad ∙ blank_good all a.place blank a.within in
    absurd cc

pub fault_once : (text : List ℕ) (f g : SdpFault) → IsSdpFault text f → IsSdpFault text g → f ≡ g
fault_once text f g (inl a) (inl b) = first_once (lines text) f g a b
fault_once text f g (inl a) (inr b) = absurd (first_not_blank (lines text) f a b.0)
fault_once text f g (inr a) (inl b) = absurd (first_not_blank (lines text) g b a.0)
fault_once text f g (inr a) (inr b) = a.1 ∙ sym b.1

pub no_fault : (text : List ℕ) (f : SdpFault) → HasNoFault text → IsSdpFault text f → ⊥
no_fault text f none (inl a) = let both : Some f ≡ None = sym a.bad ∙ none.good a.place a.within in absurd cc
no_fault text f none (inr a) = absurd (true≢false (sym a.0 ∙ none.begun))
