-- Looks of one call, each made once.
use Rattle.std.proofs.Common.{◌≡◌, ◌≢◌, ℕ, zero, suc, ◌+◌, ◌<◌, ◌≤◌, Bool, true, false, true≢false}
use Rattle.std.proofs.Common.{⊎_elim, List, [], ◌∷◌, ◌++◌, length, get_or, set, refl, sym, ap, ◌∙◌, subst}
use Rattle.std.proofs.Common.{arith, get_or-set_same, get_or-set_other, length-set}
use Rattle.std.proofs.lemmas.Bool.{cases_lt}
use Rattle.std.proofs.lemmas.List.Elements.{All-append, All-nil, All-push}
use Rattle.std.specs.List.{All}
use mathlib.Core.Logic.{dite}
use native.Mathlib.Decide.{ℕ_discrete}
use Rattle.list_laws.proofs.Items.{All-left, All-right}
use Rattle.input_rule.specs.declared.view.Look.{Look}
use Rattle.input_rule.specs.declared.view.View.{View}
use Rattle.input_rule.specs.Views.{HasSeen, closed_of, last_of, looked, saw}
use Rattle.packet_writer.specs.Packet.{flag_of}
use Rattle.input_cells.specs.declared.looking.StillOpen.{StillOpen}
use Rattle.input_cells.specs.Agreement.{AreSeen}
use Rattle.input_cells.specs.Faces.{AreNumbered, Grows, HasInput, HasView, InputFace, IsReadOf}
use Rattle.input_cells.specs.Faces.{SeatFace, changed, looks_of}
use Rattle.input_cells.specs.Looking.{HasTickEach, IsLate, IsLoaded, IsLoadedAbove, IsOpenAt}
use Rattle.input_cells.specs.Looking.{IsOpenHere, IsUntouched, LookedClosed, LookedFree}
use Rattle.input_cells.specs.Looking.{LookedOnce, SeesClosed, SeesFree, closings_at, looks_at}
use Rattle.input_cells.proofs.Growing.{grows_on, keeps_seen}
use Rattle.input_cells.proofs.Passes.{as_many, face_at}

-- ---- what one step leaves of the looks and closing numbers

-- the look that a view keeps
abbrev look_of : View → ℕ → Bool → Look
look_of v tick there =
    record { input = v.shape.input; tick = tick; present = there; closed = closed_of v }

looks_put : (pass : List SeatFace) (i : ℕ) (d : SeatFace) → i < length pass → (tick : ℕ)
    (there : Bool)
    → looks_at (changed (λ v. looked v tick there) i pass) i
    ≡ looks_at pass i ++ look_of (get_or pass i d).view tick there ∷ []
looks_put [] i d lt tick there = absurd (omega arith)
looks_put (p ∷ ps) zero d lt tick there = refl
looks_put (p ∷ ps) (suc i) d lt tick there = looks_put ps i d (omega arith) tick there

closings_put : (pass : List SeatFace) (i : ℕ) → i < length pass → (closed : ℕ)
    → closings_at (changed (λ v. saw v closed) i pass) i ≡ closings_at pass i ++ closed ∷ []
closings_put [] i lt closed = absurd (omega arith)
closings_put (p ∷ ps) zero lt closed = refl
closings_put (p ∷ ps) (suc i) lt closed = closings_put ps i (omega arith) closed

saw_looks : (closed : ℕ) (pass : List SeatFace) (i j : ℕ)
    → looks_at (changed (λ v. saw v closed) i pass) j ≡ looks_at pass j
saw_looks closed [] i j = refl
saw_looks closed (p ∷ ps) zero zero = refl
saw_looks closed (p ∷ ps) zero (suc j) = refl
saw_looks closed (p ∷ ps) (suc i) zero = refl
saw_looks closed (p ∷ ps) (suc i) (suc j) = saw_looks closed ps i j

looked_closings : (tick : ℕ) (there : Bool) (pass : List SeatFace) (i j : ℕ)
    → closings_at (changed (λ v. looked v tick there) i pass) j ≡ closings_at pass j
looked_closings tick there [] i j = refl
looked_closings tick there (p ∷ ps) zero zero = refl
looked_closings tick there (p ∷ ps) zero (suc j) = refl
looked_closings tick there (p ∷ ps) (suc i) zero = refl
looked_closings tick there (p ∷ ps) (suc i) (suc j) = looked_closings tick there ps i j

-- the other inputs are not touched
changed_apart : (f : View → View) (pass : List SeatFace) (i j : ℕ) → j ≢ i
    → IsUntouched pass (changed f i pass) j
changed_apart f [] i j ne = (refl, refl)
changed_apart f (p ∷ ps) zero zero ne = absurd (ne refl)
changed_apart f (p ∷ ps) zero (suc j) ne = (refl, refl)
changed_apart f (p ∷ ps) (suc i) zero ne = (refl, refl)
changed_apart f (p ∷ ps) (suc i) (suc j) ne = changed_apart f ps i j (λ e. ne (ap suc e))

pub step_apart : (f : View → View) (pass after : List SeatFace) (i j : ℕ)
    → after ≡ changed f i pass → j ≢ i → IsUntouched pass after j
step_apart f pass after i j is ne =
    subst (λ (l : List SeatFace). IsUntouched pass l j) (sym is) (changed_apart f pass i j ne)

pub untouched_still : (pass : List SeatFace) (i : ℕ) → IsUntouched pass pass i
untouched_still pass i = (refl, refl)

pub untouched_then : (a b c : List SeatFace) (i : ℕ) → IsUntouched a b i → IsUntouched b c i
    → IsUntouched a c i
untouched_then a b c i f g = (g.0 ∙ f.0, g.1 ∙ f.1)

-- the closing number that was loaded is the one seen last
last_put : (xs : List ℕ) (x : ℕ) → last_of (xs ++ x ∷ []) ≡ x
last_put [] x = refl
last_put (y ∷ []) x = refl
last_put (y ∷ z ∷ zs) x = last_put (z ∷ zs) x

closed_at : (pass : List SeatFace) (i : ℕ) (d : SeatFace) (closed : ℕ) → i < length pass
    → closed_of (get_or (changed (λ v. saw v closed) i pass) i d).view ≡ closed
closed_at [] i d closed lt = absurd (omega arith)
closed_at (p ∷ ps) zero d closed lt = last_put p.view.closings closed
closed_at (p ∷ ps) (suc i) d closed lt = closed_at ps i d closed (omega arith)

pub loaded_once : (table : List InputFace) (pass after : List SeatFace) (i closed : ℕ)
    → IsReadOf table pass → i < length table → after ≡ changed (λ v. saw v closed) i pass
    → IsLoaded pass after i closed
loaded_once table pass after i closed of_it lt is =
    ap (λ (l : List SeatFace). closings_at l i) is
    ∙ closings_put pass i (let n = as_many table pass of_it in omega arith) closed

-- ---- one look

module _ (table : List InputFace) (pass after : List SeatFace) (i tick : ℕ) (there : Bool)
    (numbered : AreNumbered table) (of_it : IsReadOf table pass) (inside : HasInput table i)
    (is : after ≡ changed (λ v. looked v tick there) i pass)
    (seen : there ≡ true → HasView after i (λ v. HasSeen v tick))
    (again : HasView pass i (λ v. HasSeen v tick) → there ≡ true) where
  abbrev once_at : (d : SeatFace) → LookedOnce pass after i tick there
  once_at d =
      let face : InputFace = record { id = d.id; shape = d.view.shape } in
      record {
        look = look_of (get_or pass i d).view tick there;
        only = ap (λ (l : List SeatFace). looks_at l i) is
            ∙ looks_put pass i d
            (let n = as_many table pass of_it in omega (arith, n, inside)) tick there;
        input_is = ap (λ (z : InputFace). z.shape.input)
            (face_at table pass i d face of_it (omega (arith, inside)))
            ∙ numbered i face (omega (arith, inside));
        tick_is = refl;
        present_is = refl;
        seen = seen;
        again = again;
      }

  free_at : (d : SeatFace) → LookedFree pass after i tick there
  free_at d = record {
    looked = once_at d;
    closings = ap (λ (l : List SeatFace). closings_at l i) is
        ∙ looked_closings tick there pass i i;
  }

-- whichever seat stands for one that is not there
pub free_once : (table : List InputFace) (pass after : List SeatFace) (i tick : ℕ) (there : Bool)
    → AreNumbered table → IsReadOf table pass → HasInput table i
    → after ≡ changed (λ v. looked v tick there) i pass
    → (there ≡ true → HasView after i (λ v. HasSeen v tick))
    → (HasView pass i (λ v. HasSeen v tick) → there ≡ true)
    → LookedFree pass after i tick there
free_once table [] after i tick there numbered of_it inside is seen again =
    absurd (let n = as_many table [] of_it in omega (arith, n, inside))
free_once table (p ∷ ps) after i tick there numbered of_it inside is seen again =
    free_at table (p ∷ ps) after i tick there numbered of_it inside is seen again p

-- a look after a load of the closing number
module _ (table : List InputFace) (pass mid after : List SeatFace) (i tick closed : ℕ)
    (there : Bool) (numbered : AreNumbered table) (was : IsReadOf table pass)
    (of_it : IsReadOf table mid) (grows : Grows pass mid) (inside : HasInput table i)
    (loads : mid ≡ changed (λ v. saw v closed) i pass)
    (is : after ≡ changed (λ v. looked v tick there) i mid)
    (seen : there ≡ true → HasView after i (λ v. HasSeen v tick))
    (again : HasView mid i (λ v. HasSeen v tick) → there ≡ true) (late : tick < closed) where
  closed_at_once : (d : SeatFace) → LookedClosed pass after i tick there
  closed_at_once d =
      let one = once_at table mid after i tick there numbered of_it inside is seen again d in
      let number : closed_of (get_or mid i d).view ≡ closed =
      ap (λ (l : List SeatFace). closed_of (get_or l i d).view) loads
      ∙ closed_at pass i d closed
      (let n = as_many table pass was in omega (arith, n, inside)) in
      record {
        looked = record {
          look = one.look;
          only = one.only ∙ ap (λ (l : List Look). l ++ one.look ∷ [])
              (ap (λ (l : List SeatFace). looks_at l i) loads ∙ saw_looks closed pass i i);
          input_is = one.input_is;
          tick_is = one.tick_is;
          present_is = one.present_is;
          seen = one.seen;
          again = λ had. one.again (keeps_seen pass mid grows i tick had);
        };
        loaded = ap (λ (l : List SeatFace). closings_at l i) is
            ∙ (looked_closings tick there mid i i
            ∙ (loaded_once table pass mid i closed was (omega (arith, inside)) loads
            ∙ ap (λ (n : ℕ). closings_at pass i ++ n ∷ []) (sym number)));
        late = subst (λ (n : ℕ). tick < n) (sym number) late;
      }

pub closed_once : (table : List InputFace) (pass mid after : List SeatFace) (i tick closed : ℕ)
    (there : Bool) → AreNumbered table → IsReadOf table pass → IsReadOf table mid
    → Grows pass mid → HasInput table i → mid ≡ changed (λ v. saw v closed) i pass
    → after ≡ changed (λ v. looked v tick there) i mid
    → (there ≡ true → HasView after i (λ v. HasSeen v tick))
    → (HasView mid i (λ v. HasSeen v tick) → there ≡ true) → tick < closed
    → LookedClosed pass after i tick there
closed_once table [] mid after i tick closed there numbered was of_it grows inside loads is seen
    again late = absurd (let n = as_many table [] was in omega (arith, n, inside))
closed_once table (p ∷ ps) mid after i tick closed there numbered was of_it grows inside loads is
    seen again late =
    closed_at_once table (p ∷ ps) mid after i tick closed there numbered was of_it grows inside
    loads is seen again late p

-- a closing number that is not above the tick
pub open_once : (table : List InputFace) (pass after : List SeatFace) (i tick : ℕ) (e : StillOpen)
    → IsReadOf table pass → HasInput table i → after ≡ changed (λ v. saw v e.closed) i pass
    → e.input ≡ i → e.closed ≤ tick → IsOpenHere pass after i tick e
open_once table pass after i tick e of_it inside is at low = record {
  input_is = at;
  loaded = loaded_once table pass after i e.closed of_it (omega (arith, inside)) is;
  low = low;
  looks = ap (λ (l : List SeatFace). looks_at l i) is ∙ saw_looks e.closed pass i i;
}

-- ---- what was found stands where the input is not touched, before and after

abbrev once_later : (a b c : List SeatFace) (i tick : ℕ) (there : Bool) → IsUntouched b c i
    → Grows b c → LookedOnce a b i tick there → LookedOnce a c i tick there
once_later a b c i tick there u g h = record {
  look = h.look;
  only = u.0 ∙ h.only;
  input_is = h.input_is;
  tick_is = h.tick_is;
  present_is = h.present_is;
  seen = λ is. keeps_seen b c g i tick (h.seen is);
  again = h.again;
}

abbrev once_sooner : (a b c : List SeatFace) (i tick : ℕ) (there : Bool) → IsUntouched a b i
    → Grows a b → LookedOnce b c i tick there → LookedOnce a c i tick there
once_sooner a b c i tick there u g h = record {
  look = h.look;
  only = h.only ∙ ap (λ (l : List Look). l ++ h.look ∷ []) u.0;
  input_is = h.input_is;
  tick_is = h.tick_is;
  present_is = h.present_is;
  seen = h.seen;
  again = λ had. h.again (keeps_seen a b g i tick had);
}

-- what a look tells, in either form
pub record IsLooking (tick : ℕ) (Found : List SeatFace → List SeatFace → ℕ → Bool → Type 0)
    : Type 0 where
  pub later : (a b c : List SeatFace) (i : ℕ) (there : Bool) → IsUntouched b c i → Grows b c
      → Found a b i there → Found a c i there
  pub sooner : (a b c : List SeatFace) (i : ℕ) (there : Bool) → IsUntouched a b i → Grows a b
      → Found b c i there → Found a c i there
  pub seen : (a b : List SeatFace) (i : ℕ) → Found a b i true → HasView b i (λ v. HasSeen v tick)

abbrev pub Free : ℕ → List SeatFace → List SeatFace → ℕ → Bool → Type 0
Free tick a b i there = LookedFree a b i tick there

abbrev pub Closed : ℕ → List SeatFace → List SeatFace → ℕ → Bool → Type 0
Closed tick a b i there = LookedClosed a b i tick there

pub looking_free : (tick : ℕ) → IsLooking tick (Free tick)
looking_free tick = record {
  later = λ a b c i there u g h. record {
    looked = once_later a b c i tick there u g h.looked;
    closings = u.1 ∙ h.closings;
  };
  sooner = λ a b c i there u g h. record {
    looked = once_sooner a b c i tick there u g h.looked;
    closings = h.closings ∙ u.1;
  };
  seen = λ a b i h. h.looked.seen refl;
}

pub looking_closed : (tick : ℕ) → IsLooking tick (Closed tick)
looking_closed tick = record {
  later = λ a b c i there u g h. record {
    looked = once_later a b c i tick there u g h.looked;
    loaded = u.1 ∙ h.loaded;
    late = h.late;
  };
  sooner = λ a b c i there u g h. record {
    looked = once_sooner a b c i tick there u g h.looked;
    loaded = h.loaded
        ∙ ap (λ (l : List ℕ). l ++ h.looked.look.closed ∷ []) u.1;
    late = h.late;
  };
  seen = λ a b i h. h.looked.seen refl;
}

-- ---- a given number of flags were gone through

pub record LookedUpto (Found : List SeatFace → List SeatFace → ℕ → Bool → Type 0)
    (first now : List SeatFace) (was flags : List Bool) (n : ℕ) : Type 0 where
  pub long : length flags ≡ length was
  pub grows : Grows first now
  pub found : (i : ℕ) → i < n → flag_of was i ≡ true → Found first now i (flag_of flags i)
  pub other : (i : ℕ) → i < n → flag_of was i ≡ false
      → (flag_of flags i ≡ false) × IsUntouched first now i
  pub rest : (i : ℕ) → n ≤ i → (flag_of flags i ≡ flag_of was i) × IsUntouched first now i

pub upto_none : (Found : List SeatFace → List SeatFace → ℕ → Bool → Type 0)
    (first : List SeatFace) (was : List Bool) → Grows first first
    → LookedUpto Found first first was was 0
upto_none Found first was still = record {
  long = refl;
  grows = still;
  found = λ i lt on. absurd (omega arith);
  other = λ i lt off. absurd (omega arith);
  rest = λ i le. (refl, (refl, refl));
}

module _ (Found : List SeatFace → List SeatFace → ℕ → Bool → Type 0) (tick : ℕ)
    (looking : IsLooking tick Found) (first now : List SeatFace) (was flags : List Bool) (n : ℕ)
    (u : LookedUpto Found first now was flags n) where
  -- a flag that is not set
  pub upto_skip : flag_of flags n ≡ false → LookedUpto Found first now was flags (n + 1)
  upto_skip off = record {
    long = u.long;
    grows = u.grows;
    found = λ i lt on. dite (ℕ_discrete i n)
        (λ one. absurd (true≢false (sym on
        ∙ (ap (flag_of was) one ∙ (sym (u.rest n (omega arith)).0 ∙ off)))))
        (λ apart. u.found i (omega (arith, lt, apart)) on);
    other = λ i lt none. dite (ℕ_discrete i n)
        (λ one. (ap (flag_of flags) one ∙ off, (u.rest i (omega (arith, one))).1))
        (λ apart. u.other i (omega (arith, lt, apart)) none);
    rest = λ i le. u.rest i (omega (arith, le));
  }

  -- a flag that is set, and what was found
  pub upto_hit : (later : List SeatFace) (there : Bool) → n < length flags
      → flag_of flags n ≡ true → Found now later n there
      → ((i : ℕ) → i ≢ n → IsUntouched now later i) → Grows now later
      → LookedUpto Found first later was (set flags n there) (n + 1)
  upto_hit later there within on found apart grows = record {
    long = length-set flags n there ∙ u.long;
    grows = grows_on first now later u.grows grows;
    found = λ i lt marked. dite (ℕ_discrete i n)
        (λ one. subst (λ (z : ℕ × Bool). Found first later z.0 z.1)
        (λ k. (
          sym one k,
          (sym (get_or-set_same flags n there false within)
              ∙ ap (flag_of (set flags n there)) (sym one)) k,
        ))
        (looking.sooner first now later n there (u.rest n (omega arith)).1 u.grows found))
        (λ other. subst (Found first later i)
        (sym (get_or-set_other flags n i there false other))
        (looking.later first now later i (flag_of flags i) (apart i other) grows
        (u.found i (omega (arith, lt, other)) marked)));
    other = λ i lt none. dite (ℕ_discrete i n)
        (λ one. absurd (true≢false (sym on ∙ ((u.rest n (omega arith)).0
        ∙ (ap (flag_of was) (sym one) ∙ none)))))
        (λ other. let o = u.other i (omega (arith, lt, other)) none in (
          get_or-set_other flags n i there false other ∙ o.0,
          untouched_then first now later i o.1 (apart i other),
        ));
    rest = λ i le. let r = u.rest i (omega (arith, le)) in (
      get_or-set_other flags n i there false (λ e. absurd (omega (arith, e, le))) ∙ r.0,
      untouched_then first now later i r.1 (apart i (λ e. absurd (omega (arith, e, le)))),
    );
  }

-- ---- all flags were gone through

flag_inside : (flags : List Bool) (i : ℕ) → flag_of flags i ≡ true → i < length flags
flag_inside [] i on = absurd (true≢false (sym on))
flag_inside (f ∷ fs) zero on = omega arith
flag_inside (f ∷ fs) (suc i) on = let k = flag_inside fs i on in omega arith

pub seen_all : (Found : List SeatFace → List SeatFace → ℕ → Bool → Type 0) (tick : ℕ)
    → IsLooking tick Found → (table : List InputFace) (first now : List SeatFace)
    (was flags : List Bool) (n : ℕ) → LookedUpto Found first now was flags n → n ≡ length was
    → length table ≡ length was + 1 → HasTickEach table tick → AreSeen table now tick flags
seen_all Found tick looking table first now was flags n u all long each input on =
    let lt : input < n = (let k = flag_inside flags input on in let l = u.long in
    omega (arith, k, l, all)) in
    let inside : HasInput table input = omega (arith, lt, all, long) in
    (inside, each input inside, by lt (flag_of was input) refl)
  where
    by : input < n → (b : Bool) → flag_of was input ≡ b → HasView now input (λ v. HasSeen v tick)
    by lt true marked = looking.seen first now input
        (subst (Found first now input) on (u.found input lt marked))
    by lt false marked = absurd (true≢false (sym on ∙ (u.other input lt marked).0))

pub free_all : (tick : ℕ) (first now : List SeatFace) (was flags : List Bool) (n : ℕ)
    → LookedUpto (Free tick) first now was flags n → n ≡ length was
    → SeesFree (length was) tick (flag_of was) first now flags
free_all tick first now was flags n u all = record {
  looked = λ i lt marked. u.found i (omega (arith, lt, all)) marked;
  other = λ i lt off. u.other i (omega (arith, lt, all)) off;
  pace = (u.rest (length was) (omega (arith, all))).1;
}

-- ---- closing numbers

above_of : (first mid now : List SeatFace) (i tick : ℕ) (there : Bool) → IsUntouched mid now i
    → Grows mid now → LookedClosed first mid i tick there → IsLoadedAbove first now i tick
above_of first mid now i tick there u g h = record {
  closed = h.looked.look.closed;
  loaded = u.1 ∙ h.loaded;
  late = h.late;
}

module _ (tick : ℕ) (first mid now : List SeatFace) (was flags : List Bool) (n : ℕ)
    (u : LookedUpto (Closed tick) first mid was flags n) (grows : Grows mid now)
    (apart : (i : ℕ) → i ≢ n → IsUntouched mid now i) where
  after_all : (closed : ℕ) → IsLoaded mid now n closed → IsLoaded first now n closed
  after_all closed loaded = loaded
      ∙ ap (λ (l : List ℕ). l ++ closed ∷ []) (u.rest n (omega arith)).1.1

  -- the pace's number was loaded, and is above the tick
  pub closed_all : (closed : ℕ) → n ≡ length was → IsLoaded mid now n closed → tick < closed
      → SeesClosed (length was) tick (flag_of was) first now flags
  closed_all closed all loaded late = record {
    looked = λ i lt marked. (looking_closed tick).later first mid now i (flag_of flags i)
        (apart i (λ e. absurd (omega (arith, e, lt, all)))) grows
        (u.found i (omega (arith, lt, all)) marked);
    other = λ i lt off. let o = u.other i (omega (arith, lt, all)) off in (
      o.0,
      untouched_then first mid now i o.1 (apart i (λ e. absurd (omega (arith, e, lt, all)))),
    );
    pace = record {
      closed = closed;
      loaded = subst (λ (k : ℕ). IsLoaded first now k closed) all (after_all closed loaded);
      late = late;
    };
  }

  -- the number that was loaded is not above the tick
  pub open_at : (e : StillOpen) → n ≤ length was → (n < length was → flag_of flags n ≡ true)
      → e.input ≡ n → IsLoaded mid now n e.closed → e.closed ≤ tick
      → IsOpenAt (length was) tick (flag_of was) first now e
  open_at e within marked at loaded low = record {
    within = omega (arith, at, within);
    named_it = λ lt. ap (flag_of was) at
        ∙ (sym (u.rest n (omega arith)).0 ∙ marked (omega (arith, at, lt)));
    loaded = subst (λ (k : ℕ). IsLoaded first now k e.closed) (sym at)
        (after_all e.closed loaded);
    low = low;
    first = λ i lt named. above_of first mid now i tick (flag_of flags i)
        (apart i (λ e. absurd (omega (arith, e, lt, at)))) grows
        (u.found i (omega (arith, lt, at)) named);
    behind = λ i lt. untouched_then first mid now i (u.rest i (omega (arith, lt, at))).1
        (apart i (λ e. absurd (omega (arith, e, lt, at))));
  }

-- ---- late looks

all_at : (P : Look → Type 0) (pass : List SeatFace) → All P (looks_of pass) → (i : ℕ)
    → All P (looks_at pass i)
all_at P [] h i = All-nil P
all_at P (p ∷ ps) h zero = All-left P p.view.looks (looks_of ps) h
all_at P (p ∷ ps) h (suc i) = all_at P ps (All-right P p.view.looks (looks_of ps) h) i

at_all : (P : Look → Type 0) (pass : List SeatFace) → ((i : ℕ) → All P (looks_at pass i))
    → All P (looks_of pass)
at_all P [] h = All-nil P
at_all P (p ∷ ps) h =
    All-append P p.view.looks (looks_of ps) (h 0) (at_all P ps (λ i. h (suc i)))

late_found : (first mid : List SeatFace) (i tick : ℕ) (there : Bool)
    → LookedClosed first mid i tick there → All IsLate (looks_at first i)
    → All IsLate (looks_at mid i)
late_found first mid i tick there f h =
    subst (All IsLate) (sym f.looked.only)
    (All-push IsLate (looks_at first i) f.looked.look h
    (let a = f.looked.tick_is in let b = f.late in omega (arith, a, b)))

-- where the looks are those that the calls made
pub late_upto : (tick : ℕ) (first mid now : List SeatFace) (was flags : List Bool) (n : ℕ)
    → LookedUpto (Closed tick) first mid was flags n
    → ((i : ℕ) → looks_at now i ≡ looks_at mid i) → All IsLate (looks_of first)
    → All IsLate (looks_of now)
late_upto tick first mid now was flags n u same late =
    at_all IsLate now (λ i. subst (All IsLate) (sym (same i))
    (⊎_elim
    (λ lt. marked i lt (all_at IsLate first late i) (flag_of was i) refl)
    (λ ge. subst (All IsLate) (sym (u.rest i ge).1.0) (all_at IsLate first late i))
    (cases_lt i n)))
  where
    marked : (i : ℕ) → i < n → All IsLate (looks_at first i) → (b : Bool) → flag_of was i ≡ b
        → All IsLate (looks_at mid i)
    marked i lt h true on = late_found first mid i tick (flag_of flags i) (u.found i lt on) h
    marked i lt h false off = subst (All IsLate) (sym (u.other i lt off).1.0) h

-- a closing number alone was loaded
pub looks_loaded : (pass after : List SeatFace) (i closed : ℕ)
    → after ≡ changed (λ v. saw v closed) i pass → (j : ℕ) → looks_at after j ≡ looks_at pass j
looks_loaded pass after i closed is j =
    ap (λ (l : List SeatFace). looks_at l j) is ∙ saw_looks closed pass i j

pub looks_open : (pass after : List SeatFace) (i tick : ℕ) (e : StillOpen)
    → IsOpenHere pass after i tick e → ((j : ℕ) → j ≢ i → IsUntouched pass after j)
    → (j : ℕ) → looks_at after j ≡ looks_at pass j
looks_open pass after i tick e h apart j = dite (ℕ_discrete j i)
    (λ one. subst (λ (k : ℕ). looks_at after k ≡ looks_at pass k) (sym one) h.looks)
    (λ other. (apart j other).0)

-- ---- after all flags, a load of the pace's number

module _ (tick : ℕ) (table : List InputFace) (first mid now : List SeatFace)
    (was flags : List Bool) (n closed : ℕ) (u : LookedUpto (Closed tick) first mid was flags n)
    (all : n ≡ length was) (of_it : IsReadOf table mid) (long : length table ≡ length was + 1)
    (is : now ≡ changed (λ v. saw v closed) (length flags) mid) (grows : Grows mid now) where
  upto_pace : LookedUpto (Closed tick) first mid was flags (length flags)
  upto_pace = subst (LookedUpto (Closed tick) first mid was flags) (all ∙ sym u.long) u

  apart_pace : (i : ℕ) → i ≢ length flags → IsUntouched mid now i
  apart_pace i apart = step_apart (λ (v : View). saw v closed) mid now (length flags) i is apart

  loaded_pace : IsLoaded mid now (length flags) closed
  loaded_pace = loaded_once table mid now (length flags) closed of_it
      (let l = u.long in omega (arith, l, long)) is

  pub pace_closed : tick < closed → SeesClosed (length was) tick (flag_of was) first now flags
  pace_closed late = closed_all tick first mid now was flags (length flags) upto_pace grows
      apart_pace closed u.long loaded_pace late

  pub pace_open : closed ≤ tick
      → IsOpenAt (length was) tick (flag_of was) first now
      (record { input = length flags; closed = closed })
  pace_open low = open_at tick first mid now was flags (length flags) upto_pace grows apart_pace _
      (let l = u.long in omega (arith, l)) (λ lt. absurd (let l = u.long in omega (arith, l, lt)))
      refl loaded_pace low

  pub pace_seen : HasTickEach table tick → AreSeen table now tick flags
  pace_seen each input on =
      let s = seen_all (Closed tick) tick (looking_closed tick) table first mid was flags n u all
      long each input on in
      (s.0, s.1, keeps_seen mid now grows input tick s.2)

  pub pace_late : All IsLate (looks_of first) → All IsLate (looks_of now)
  pace_late = late_upto tick first mid now was flags n u (looks_loaded mid now (length flags) closed is)
