-- What passes know only grows.
use Rattle.std.proofs.Common.{◌≡◌, ℕ, zero, suc, ◌<◌, List, [], ◌∷◌, ◌++◌, length, map, get_or}
use Rattle.std.proofs.Common.{refl, sym, ap, ◌∙◌, subst, arith, append_assoc, true, false, Bool}
use Rattle.std.proofs.lemmas.List.{append-nil, get_or_append_left, length-append}
use Rattle.std.proofs.lemmas.List.Elements.{All-append, All-nil, All-push}
use Rattle.std.specs.Prelude.{None, is_some, ℤ}
use Rattle.std.specs.List.{All, Contains}
use Rattle.list_laws.proofs.Items.{All-left, All-right}
use Rattle.packet_writer.specs.Heard.{sample_in}
use Rattle.input_rule.specs.declared.view.HeardSample.{HeardSample}
use Rattle.input_rule.specs.declared.view.Look.{Look}
use Rattle.input_rule.specs.declared.view.View.{View}
use Rattle.input_rule.specs.Views.{HasMissed, HasSeen, closed_of, listened, looked, saw}
use Rattle.input_cells.specs.Faces.{GoesOn, Grows, GrowsAt, HasView, HearsAt, InputFace}
use Rattle.input_cells.specs.Faces.{OnlyHears, SeatFace, changed, face_of, heard_of, looks_of}
use Rattle.input_cells.specs.Looking.{IsUntouched}
use Rattle.input_cells.specs.PassesGrow.{AgreesBefore, GrowsOn, KeepsMissed, KeepsSeen}
use Rattle.input_cells.specs.PassesGrow.{HearingGrows, OwnLooksStay, StaysOfTable, UnreadHasOwn}

-- ---- lists that go on

module _ {A : Type 0} where
  pub on_still : (xs : List A) → GoesOn xs xs
  on_still xs = ([], sym (append-nil xs))

  pub on_then : (xs ys zs : List A) → GoesOn xs ys → GoesOn ys zs → GoesOn xs zs
  on_then xs ys zs f g =
      (f.0 ++ g.0, g.1 ∙ (ap (λ (l : List A). l ++ g.0) f.1 ∙ append_assoc xs f.0 g.0))

  pub on_among : (xs ys : List A) (x : A) → GoesOn xs ys → Contains xs x → Contains ys x
  on_among xs ys x f h = (
    h.0,
    (let l = ap (λ (l : List A). length l) f.1 in let m = length-append xs f.0 in let k = h.1 in
        omega arith),
    ap (λ (l : List A). get_or l h.0 x) f.1 ∙ (get_or_append_left xs f.0 x h.0 h.1 ∙ h.2),
  )

  pub on_all : (P : A → Type 0) (xs ys : List A) → GoesOn xs ys → All P ys → All P xs
  on_all P xs ys f h =
      λ k d lt. subst P (ap (λ (l : List A). get_or l k d) f.1 ∙ get_or_append_left xs f.0 d k lt)
      (h k d (let l = ap (λ (l : List A). length l) f.1 in let m = length-append xs f.0 in
      omega arith))

  pub last_among : (xs : List A) (x : A) → Contains (xs ++ x ∷ []) x
  last_among xs x = (length xs, (let m = length-append xs (x ∷ []) in omega arith), at_end xs x x)
    where
      at_end : (xs : List A) (x d : A) → get_or (xs ++ x ∷ []) (length xs) d ≡ x
      at_end [] x d = refl
      at_end (y ∷ ys) x d = at_end ys x d

-- ---- one input

pub still_at : (p : SeatFace) → GrowsAt p p
still_at p = record {
  face = refl;
  closings = on_still p.view.closings;
  looks = on_still p.view.looks;
  heard = on_still p.view.heard;
  own = λ h. h;
}

pub grows_then : (p q r : SeatFace) → GrowsAt p q → GrowsAt q r → GrowsAt p r
grows_then p q r f g = record {
  face = g.face ∙ f.face;
  closings = on_then p.view.closings q.view.closings r.view.closings f.closings g.closings;
  looks = on_then p.view.looks q.view.looks r.view.looks f.looks g.looks;
  heard = on_then p.view.heard q.view.heard r.view.heard f.heard g.heard;
  own = λ h. g.own (f.own h);
}

pub seen_on : (p q : SeatFace) (tick : ℕ) → GrowsAt p q → HasSeen p.view tick → HasSeen q.view tick
seen_on p q tick g h =
    record {
      look = h.look;
      among = on_among p.view.looks q.view.looks h.look g.looks h.among;
      input_is = h.input_is ∙ ap (λ (z : InputFace). z.shape.input) (sym g.face);
      tick_is = h.tick_is;
      saw_it = h.saw_it;
    }

missed_on : (p q : SeatFace) (tick : ℕ) → GrowsAt p q → HasMissed p.view tick
    → HasMissed q.view tick
missed_on p q tick g h =
    record {
      look = h.look;
      among = on_among p.view.looks q.view.looks h.look g.looks h.among;
      input_is = h.input_is ∙ ap (λ (z : InputFace). z.shape.input) (sym g.face);
      tick_is = h.tick_is;
      missed_it = h.missed_it;
      late = h.late;
    }

pub saw_more : (p : SeatFace) (number : ℕ) → GrowsAt p (record p { view = saw p.view number })
saw_more p number = record {
  face = refl;
  closings = (number ∷ [], refl);
  looks = on_still p.view.looks;
  heard = on_still p.view.heard;
  own = λ h. h;
}

pub looked_more : (p : SeatFace) (tick : ℕ) (present : Bool)
    → GrowsAt p (record p { view = looked p.view tick present })
looked_more p tick present = record {
  face = refl;
  closings = on_still p.view.closings;
  looks = (_, refl);
  heard = on_still p.view.heard;
  own = λ h. All-push (λ (l : Look). l.input ≡ p.view.shape.input) p.view.looks _ h refl;
}

pub listened_more : (p : SeatFace) (tick place : ℕ) (value : ℤ)
    → GrowsAt p (record p { view = listened p.view tick place value })
listened_more p tick place value = record {
  face = refl;
  closings = on_still p.view.closings;
  looks = on_still p.view.looks;
  heard = (_, refl);
  own = λ h. h;
}

-- ---- samples alone

pub hears_still : (p : SeatFace) → HearsAt p p
hears_still p = (
  [],
  ap (λ (l : List HeardSample). record p { view = record p.view { heard = l } })
      (sym (append-nil p.view.heard)),
)

pub hears_then : (p q r : SeatFace) → HearsAt p q → HearsAt q r → HearsAt p r
hears_then p q r f g = (
  f.0 ++ g.0,
  g.1
      ∙ (ap (λ (z : SeatFace). record z { view = record z.view { heard = z.view.heard ++ g.0 } }) f.1
      ∙ ap (λ (l : List HeardSample). record p { view = record p.view { heard = l } })
      (append_assoc p.view.heard f.0 g.0)),
)

pub hears_more : (p : SeatFace) (tick place : ℕ) (value : ℤ)
    → HearsAt p (record p { view = listened p.view tick place value })
hears_more p tick place value = (_, refl)

pub hears_grow : (p q : SeatFace) → HearsAt p q → GrowsAt p q
hears_grow p q f = subst (GrowsAt p) (sym f.1) (record {
  face = refl;
  closings = on_still p.view.closings;
  looks = on_still p.view.looks;
  heard = (f.0, refl);
  own = λ h. h;
})

-- a look that saw the block is one that saw it
pub looked_seen : (v : View) (tick : ℕ) (present : Bool) → present ≡ true
    → HasSeen (looked v tick present) tick
looked_seen v tick present there =
    record {
      look = record {
        input = v.shape.input;
        tick = tick;
        present = present;
        closed = closed_of v;
      };
      among = last_among v.looks _;
      input_is = refl;
      tick_is = refl;
      saw_it = there;
    }

-- ---- all inputs

pub grows_still : (pass : List SeatFace) → Grows pass pass
grows_still [] = tt
grows_still (p ∷ ps) = (still_at p, grows_still ps)

pub grows_on : GrowsOn
grows_on [] [] c f g = g
grows_on [] (q ∷ qs) c f g = absurd f
grows_on (p ∷ ps) [] c f g = absurd f
grows_on (p ∷ ps) (q ∷ qs) [] f g = absurd g
grows_on (p ∷ ps) (q ∷ qs) (r ∷ rs) f g = (grows_then p q r f.0 g.0, grows_on ps qs rs f.1 g.1)

pub grows_changed : (f : View → View) → ((p : SeatFace) → GrowsAt p (record p { view = f p.view }))
    → (i : ℕ) (pass : List SeatFace) → Grows pass (changed f i pass)
grows_changed f more i [] = tt
grows_changed f more zero (p ∷ ps) = (more p, grows_still ps)
grows_changed f more (suc i) (p ∷ ps) = (still_at p, grows_changed f more i ps)

same_faces : (before after : List SeatFace) → Grows before after
    → map face_of after ≡ map face_of before
same_faces [] [] f = refl
same_faces [] (q ∷ qs) f = absurd f
same_faces (p ∷ ps) [] f = absurd f
same_faces (p ∷ ps) (q ∷ qs) f = λ k. f.0.face k ∷ same_faces ps qs f.1 k

pub stays_of_table : StaysOfTable
stays_of_table table before after f is = same_faces before after f ∙ is

pub grown_view : (P Q : View → Type 0) → ((p q : SeatFace) → GrowsAt p q → P p.view → Q q.view)
    → (before after : List SeatFace) → Grows before after → (input : ℕ) → HasView before input P
    → HasView after input Q
grown_view P Q more [] after f input h = absurd h
grown_view P Q more (p ∷ ps) [] f input h = absurd f
grown_view P Q more (p ∷ ps) (q ∷ qs) f zero h = more p q f.0 h
grown_view P Q more (p ∷ ps) (q ∷ qs) f (suc input) h = grown_view P Q more ps qs f.1 input h

pub keeps_seen : KeepsSeen
keeps_seen before after f input tick h =
    grown_view (λ v. HasSeen v tick) (λ v. HasSeen v tick) (λ p q g h. seen_on p q tick g h) before
    after f input h

pub keeps_missed : KeepsMissed
keeps_missed before after f input tick h =
    grown_view (λ v. HasMissed v tick) (λ v. HasMissed v tick) (λ p q g h. missed_on p q tick g h)
    before after f input h

looks_before : (P : Look → Type 0) (before after : List SeatFace) → Grows before after
    → All P (looks_of after) → All P (looks_of before)
looks_before P [] [] f h = h
looks_before P [] (q ∷ qs) f h = absurd f
looks_before P (p ∷ ps) [] f h = absurd f
looks_before P (p ∷ ps) (q ∷ qs) f h =
    All-append P p.view.looks (looks_of ps)
    (on_all P p.view.looks q.view.looks f.0.looks (All-left P q.view.looks (looks_of qs) h))
    (looks_before P ps qs f.1 (All-right P q.view.looks (looks_of qs) h))

heard_before : (P : HeardSample → Type 0) (before after : List SeatFace) → Grows before after
    → All P (heard_of after) → All P (heard_of before)
heard_before P [] [] f h = h
heard_before P [] (q ∷ qs) f h = absurd f
heard_before P (p ∷ ps) [] f h = absurd f
heard_before P (p ∷ ps) (q ∷ qs) f h =
    All-append P p.view.heard (heard_of ps)
    (on_all P p.view.heard q.view.heard f.0.heard (All-left P q.view.heard (heard_of qs) h))
    (heard_before P ps qs f.1 (All-right P q.view.heard (heard_of qs) h))

pub agrees_before : AgreesBefore
agrees_before d blocks before after f a = record {
  seen = looks_before (λ l. l.present ≡ true → is_some (blocks l.input l.tick) ≡ true) before after
      f a.seen;
  missed = looks_before (λ l. l.present ≡ false → l.tick < l.closed → blocks l.input l.tick ≡ None)
      before after f a.missed;
  read = heard_before (λ h. sample_in (blocks h.input h.tick) h.place ≡ h.value) before after f
      a.read;
  shape = a.shape;
}

-- ---- looks at an input are looks at that input

grown_long : (before after : List SeatFace) → Grows before after → length after ≡ length before
grown_long [] [] f = refl
grown_long [] (q ∷ qs) f = absurd f
grown_long (p ∷ ps) [] f = absurd f
grown_long (p ∷ ps) (q ∷ qs) f = ap suc (grown_long ps qs f.1)

-- looks that are at their own inputs stay so
pub own_grown : OwnLooksStay
own_grown [] after f h k d lt = absurd (let e = grown_long [] after f in omega (arith, e, lt))
own_grown (p ∷ ps) [] f h k d lt = absurd f
own_grown (p ∷ ps) (q ∷ qs) f h zero d lt = f.0.own (h 0 p (omega arith))
own_grown (p ∷ ps) (q ∷ qs) f h (suc k) d lt =
    own_grown ps qs f.1 (λ i e low. h (suc i) e (omega arith)) k d (omega arith)

pub unread_own : UnreadHasOwn
unread_own [] k d lt = absurd (omega arith)
unread_own (t ∷ ts) zero d lt = All-nil (λ (l : Look). l.input ≡ t.shape.input)
unread_own (t ∷ ts) (suc k) d lt = unread_own ts k d (omega arith)

-- ---- a pass that only read samples

pub all_hear_still : (pass : List SeatFace) → OnlyHears pass pass
all_hear_still [] = tt
all_hear_still (p ∷ ps) = (hears_still p, all_hear_still ps)

pub all_hear_then : (a b c : List SeatFace) → OnlyHears a b → OnlyHears b c → OnlyHears a c
all_hear_then [] [] c f g = g
all_hear_then [] (q ∷ qs) c f g = absurd f
all_hear_then (p ∷ ps) [] c f g = absurd f
all_hear_then (p ∷ ps) (q ∷ qs) [] f g = absurd g
all_hear_then (p ∷ ps) (q ∷ qs) (r ∷ rs) f g =
    (hears_then p q r f.0 g.0, all_hear_then ps qs rs f.1 g.1)

pub all_hear_grow : (before after : List SeatFace) → OnlyHears before after → Grows before after
all_hear_grow [] [] f = tt
all_hear_grow [] (q ∷ qs) f = absurd f
all_hear_grow (p ∷ ps) [] f = absurd f
all_hear_grow (p ∷ ps) (q ∷ qs) f = (hears_grow p q f.0, all_hear_grow ps qs f.1)

pub looks_heard : (before after : List SeatFace) → OnlyHears before after
    → looks_of after ≡ looks_of before
looks_heard [] [] f = refl
looks_heard [] (q ∷ qs) f = absurd f
looks_heard (p ∷ ps) [] f = absurd f
looks_heard (p ∷ ps) (q ∷ qs) f =
    λ k. ap (λ (z : SeatFace). z.view.looks) f.0.1 k ++ looks_heard ps qs f.1 k

pub untouched_heard : (before after : List SeatFace) → OnlyHears before after → (input : ℕ)
    → IsUntouched before after input
untouched_heard [] [] f input = (refl, refl)
untouched_heard [] (q ∷ qs) f input = absurd f
untouched_heard (p ∷ ps) [] f input = absurd f
untouched_heard (p ∷ ps) (q ∷ qs) f zero =
    (ap (λ (z : SeatFace). z.view.looks) f.0.1, ap (λ (z : SeatFace). z.view.closings) f.0.1)
untouched_heard (p ∷ ps) (q ∷ qs) f (suc input) = untouched_heard ps qs f.1 input

pub hearing_grows : HearingGrows
hearing_grows before after f = (
  all_hear_grow before after f,
  looks_heard before after f,
  λ input. untouched_heard before after f input,
)
