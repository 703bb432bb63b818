-- What readers saw is true of the words that the feeders know, and agrees with the blocks set.
use Rattle.std.proofs.Common.{◌≡◌, ℕ, zero, suc, ◌<◌, ◌≤◌, List, [], ◌∷◌, ◌++◌, length, map, get_or}
use Rattle.std.proofs.Common.{set, drop, refl, sym, ap, ◌∙◌, subst, arith, append_assoc}
use Rattle.std.proofs.Common.{length-append}
use Rattle.std.proofs.lemmas.List.{append-nil}
use Rattle.std.proofs.lemmas.List.Elements.{All-nil, All-cons}
use Rattle.std.specs.Prelude.{Option, Some}
use Rattle.std.specs.Option.{option_to_list}
use Rattle.std.specs.List.{All}
use Rattle.list_laws.proofs.Items.{All-right}
use Rattle.input_rule.specs.declared.view.Shape.{Shape}
use Rattle.input_rule.specs.declared.view.View.{View}
use Rattle.input_rule.specs.Rule.{IsHeard, IsLook}
use Rattle.input_rule.specs.Views.{taken_in}
use Rattle.input_cells.specs.Agreement.{AreTrue, AreTrueOf}
use Rattle.input_cells.specs.Faces.{InputFace, IsReadOf, SameWords, SeatFace, face_of}
use Rattle.input_cells.proofs.Passes.{as_many, face_at}

-- ---- one reader's seat

-- what the feeder learned after it took a reader in
pub learned : (v w u : View) → u ≡ taken_in v w → All (IsLook u.shape u.words) u.looks
    → All (IsHeard u.shape u.words) u.heard → AreTrue v w
learned v w u is looks heard = record {
  looks = All-right (IsLook v.shape v.words) v.looks w.looks
      (subst (λ (z : View). All (IsLook z.shape z.words) z.looks) is looks);
  heard = All-right (IsHeard v.shape v.words) v.heard w.heard
      (subst (λ (z : View). All (IsHeard z.shape z.words) z.heard) is heard);
}

-- what is true of a feeder's words is true of the same words
true_of : (f g : SeatFace) (v : View) → g.view.shape ≡ f.view.shape → g.view.words ≡ f.view.words
    → AreTrue g.view v → AreTrue f.view v
true_of f g v s w h = record {
  looks = subst (λ (z : Shape × List ℕ). All (IsLook z.0 z.1) v.looks) (λ k. (s k, w k)) h.looks;
  heard = subst (λ (z : Shape × List ℕ). All (IsHeard z.0 z.1) v.heard) (λ k. (s k, w k)) h.heard;
}

pub true_same : (fs gs ps : List SeatFace) → SameWords fs gs → AreTrueOf gs ps → AreTrueOf fs ps
true_same [] [] ps same h = h
true_same [] (g ∷ gs) ps same h = absurd (let n = ap (λ (l : List InputFace). length l) same.0 in
    omega arith)
true_same (f ∷ fs) [] ps same h = absurd (let n = ap (λ (l : List InputFace). length l) same.0 in
    omega arith)
true_same (f ∷ fs) (g ∷ gs) [] same h = absurd h
true_same (f ∷ fs) (g ∷ gs) (p ∷ ps) same h = (
  true_of f g p.view (ap (λ (l : List InputFace). (get_or l 0 (face_of g)).shape) same.0)
      (ap (λ (l : List (List ℕ)). get_or l 0 g.view.words) same.1) h.0,
  true_same fs gs ps (
    ap (λ (l : List InputFace). drop 1 l) same.0,
    ap (λ (l : List (List ℕ)). drop 1 l) same.1,
  ) h.1,
)

map_set : {A B : Type 0} (g : A → B) (xs : List A) (i : ℕ) (y d : A) → g y ≡ g (get_or xs i d)
    → map g (set xs i y) ≡ map g xs
map_set g [] i y d same = refl
map_set g (x ∷ xs) zero y d same = λ k. same k ∷ map g xs
map_set g (x ∷ xs) (suc i) y d same = λ k. g x ∷ map_set g xs i y d same k

drop_here : {A : Type 0} (xs : List A) (n : ℕ) (d : A) → n < length xs
    → drop n xs ≡ get_or xs n d ∷ drop (suc n) xs
drop_here [] n d lt = absurd (omega arith)
drop_here (x ∷ xs) zero d lt = refl
drop_here (x ∷ xs) (suc n) d lt = drop_here xs n d (omega arith)

at_seam : {A : Type 0} (xs ys : List A) (y d : A) → get_or (xs ++ y ∷ ys) (length xs) d ≡ y
at_seam [] ys y d = refl
at_seam (x ∷ xs) ys y d = at_seam xs ys y d

-- ---- one reader's pass, from its last seat on

pub record IsConfirmed (feeds now pass seats : List SeatFace) : Type 0 where
  pub done : List SeatFace
  pub split : seats ++ done ≡ pass
  pub same : SameWords feeds now
  pub fits : AreTrueOf (drop (length seats) feeds) done

pub confirmed_none : (inputs : List InputFace) (feeds pass : List SeatFace)
    → map face_of feeds ≡ inputs → IsReadOf inputs pass → IsConfirmed feeds feeds pass pass
confirmed_none inputs feeds pass f p = record {
  done = [];
  split = append-nil pass;
  same = (refl, refl);
  fits = subst (λ (l : List SeatFace). AreTrueOf l [])
      (sym (drop_whole feeds (length pass) (let a = as_many inputs feeds f in
      let b = as_many inputs pass p in omega arith))) tt;
}
  where
    drop_whole : (xs : List SeatFace) (n : ℕ) → length xs ≤ n → drop n xs ≡ []
    drop_whole [] zero le = refl
    drop_whole [] (suc n) le = refl
    drop_whole (x ∷ xs) zero le = absurd (omega arith)
    drop_whole (x ∷ xs) (suc n) le = drop_whole xs n (omega arith)

module _ (inputs : List InputFace) (feeds now pass seats left : List SeatFace) (seat : SeatFace)
    (f : map face_of feeds ≡ inputs) (p : IsReadOf inputs pass)
    (i : IsConfirmed feeds now pass seats) (popped : seats ≡ left ++ seat ∷ []) where
  rejoined : left ++ seat ∷ i.done ≡ pass
  rejoined = sym (append_assoc left (seat ∷ []) i.done)
      ∙ (ap (λ (l : List SeatFace). l ++ i.done) (sym popped) ∙ i.split)

  pub below : length left < length inputs
  below = let a = ap (λ (l : List SeatFace). length l) rejoined in
      let b = length-append left (seat ∷ i.done) in let c = as_many inputs pass p in omega arith

  pub feeds_below : length left < length now
  feeds_below = let a = as_many inputs now (i.same.0 ∙ f) in let b = below in omega arith

  pub feed_fits : (d : SeatFace) (e : InputFace)
      → face_of (get_or now (length left) d) ≡ get_or inputs (length left) e
  feed_fits d e = face_at inputs now (length left) d e (i.same.0 ∙ f) below

  pub seat_fits : (e : InputFace) → face_of seat ≡ get_or inputs (length left) e
  seat_fits e =
      ap face_of (sym (at_seam left i.done seat seat)
      ∙ ap (λ (l : List SeatFace). get_or l (length left) seat) rejoined)
      ∙ face_at inputs pass (length left) seat e p below

  pub confirmed_more : (at new : SeatFace) → at ≡ get_or now (length left) at
      → new ≡ record at { view = taken_in at.view seat.view } → AreTrue at.view seat.view
      → IsConfirmed feeds (set now (length left) new) pass left
  confirmed_more at new here is fits =
      let n : ℕ = length left in
      let shorter : length seats ≡ suc n = ap (λ (l : List SeatFace). length l) popped
      ∙ (length-append left (seat ∷ []) ∙ omega arith) in
      let lt : n < length feeds = (let a = as_many inputs feeds f in let b = below in omega arith)
      in
      let face : face_of new ≡ face_of (get_or now n at) = ap face_of is ∙ ap face_of here in
      let words : new.view.words ≡ (get_or now n at).view.words =
      ap (λ (z : SeatFace). z.view.words) is ∙ ap (λ (z : SeatFace). z.view.words) here in
      let old_face : face_of at ≡ face_of (get_or feeds n at) = ap face_of here
      ∙ (face_at inputs now n at (face_of at) (i.same.0 ∙ f) below
      ∙ sym (face_at inputs feeds n at (face_of at) f below)) in
      let old_words : at.view.words ≡ (get_or feeds n at).view.words =
      ap (λ (z : SeatFace). z.view.words) here
      ∙ (word_at now n at (let a = feeds_below in omega arith)
      ∙ (ap (λ (l : List (List ℕ)). get_or l n at.view.words) i.same.1
      ∙ sym (word_at feeds n at lt))) in
      record {
        done = seat ∷ i.done;
        split = rejoined;
        same = (
          map_set face_of now n new at face ∙ i.same.0,
          map_set (λ (z : SeatFace). z.view.words) now n new at words ∙ i.same.1,
        );
        fits = subst (λ (l : List SeatFace). AreTrueOf l (seat ∷ i.done))
            (sym (drop_here feeds n at lt)) (
              true_of (get_or feeds n at) at seat.view (ap (λ (z : InputFace). z.shape) old_face)
                  old_words fits,
              subst (λ (m : ℕ). AreTrueOf (drop m feeds) i.done) shorter i.fits,
            );
      }
    where
      word_at : (xs : List SeatFace) (k : ℕ) (d : SeatFace) → k < length xs
          → (get_or xs k d).view.words ≡ get_or (map (λ (z : SeatFace). z.view.words) xs) k
          d.view.words
      word_at [] k d lt = refl
      word_at (x ∷ xs) zero d lt = refl
      word_at (x ∷ xs) (suc k) d lt = word_at xs k d (omega arith)

-- the pass is confirmed
pub confirmed_all : (feeds now pass seats : List SeatFace) → IsConfirmed feeds now pass seats
    → seats ≡ [] → AreTrueOf feeds pass
confirmed_all feeds now pass seats i none =
    let done : i.done ≡ pass = ap (λ (l : List SeatFace). l ++ i.done) (sym none) ∙ i.split in
    let whole : drop (length seats) feeds ≡ feeds =
    ap (λ (l : List SeatFace). drop (length l) feeds) none in
    subst (λ (z : List SeatFace × List SeatFace). AreTrueOf z.0 z.1) (λ k. (whole k, done k)) i.fits

-- ---- all readers' passes, from the last on

pub record AreConfirmed (feeds now : List SeatFace) (passes left : List (List SeatFace)) : Type 0
  where
    pub done : List (List SeatFace)
    pub split : left ++ done ≡ passes
    pub same : SameWords feeds now
    pub fits : All (AreTrueOf feeds) done

pub all_none : (feeds : List SeatFace) (passes : List (List SeatFace))
    → AreConfirmed feeds feeds passes passes
all_none feeds passes = record {
  done = [];
  split = append-nil passes;
  same = (refl, refl);
  fits = All-nil (AreTrueOf feeds);
}

pub all_more : (feeds now later : List SeatFace) (passes left more : List (List SeatFace))
    (pass : List SeatFace) → AreConfirmed feeds now passes left → left ≡ more ++ pass ∷ []
    → SameWords now later → AreTrueOf now pass → AreConfirmed feeds later passes more
all_more feeds now later passes left more pass i popped same fits = record {
  done = pass ∷ i.done;
  split = sym (append_assoc more (pass ∷ []) i.done)
      ∙ (ap (λ (l : List (List SeatFace)). l ++ i.done) (sym popped) ∙ i.split);
  same = (same.0 ∙ i.same.0, same.1 ∙ i.same.1);
  fits = All-cons (AreTrueOf feeds) pass i.done (true_same feeds now pass i.same fits) i.fits;
}

-- a pass that is left is one of them
pub one_left : (P : List SeatFace → Type 0) (feeds now : List SeatFace)
    (passes left more : List (List SeatFace)) (pass : List SeatFace)
    → AreConfirmed feeds now passes left → left ≡ more ++ pass ∷ [] → All P passes → P pass
one_left P feeds now passes left more pass i popped h =
    let all : more ++ pass ∷ i.done ≡ passes = sym (append_assoc more (pass ∷ []) i.done)
    ∙ (ap (λ (l : List (List SeatFace)). l ++ i.done) (sym popped) ∙ i.split) in
    (All-right P more (pass ∷ i.done) (subst (All P) (sym all) h)) 0 pass (omega arith)

pub all_confirmed : (feeds now : List SeatFace) (passes left : List (List SeatFace))
    → AreConfirmed feeds now passes left → left ≡ [] → All (AreTrueOf feeds) passes
all_confirmed feeds now passes left i none =
    subst (All (AreTrueOf feeds)) (ap (λ (l : List (List SeatFace)). l ++ i.done) (sym none)
    ∙ i.split) i.fits

-- what is popped is the last
pub popped_last : {A : Type 0} (xs ys : List A) (r : Option A) (x : A) → xs ≡ ys ++ option_to_list r
    → r ≡ Some x → xs ≡ ys ++ x ∷ []
popped_last xs ys r x e is = e ∙ ap (λ (o : Option _). ys ++ option_to_list o) is
