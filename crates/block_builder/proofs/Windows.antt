-- The window, slot by slot.
use Rattle.std.proofs.Common.{◌≡◌, ◌≢◌, ℕ, zero, suc, ◌+◌, ◌-◌, ◌<◌, ◌≤◌, Bool, true, false, cond}
use Rattle.std.proofs.Common.{List, [], ◌∷◌, ◌++◌, length, take, drop, get_or}
use Rattle.std.proofs.Common.{refl, sym, ap, subst, ◌∙◌, ◌⊎◌, inl, inr, arith}
use Rattle.std.specs.Prelude.{All, filter, is_some}
use Rattle.std.specs.List.{list_any}
use Rattle.std.proofs.lemmas.Bool.{cases_lt, cases_eq}
use Rattle.std.proofs.lemmas.List.{take-append-drop, length-take, length-drop, get_or-take}
use Rattle.std.proofs.lemmas.List.{get_or-drop}
use Rattle.std.proofs.lemmas.List.Elements.{All-append, All-take, All-drop, All-cons}
use Rattle.block_builder.specs.declared.intake.Intake.{Intake}
use Rattle.block_builder.specs.declared.slot.Slot.{Slot}
use Rattle.block_builder.specs.Blocks.{Piece, Held}
use Rattle.block_builder.specs.Window.{Meaning, added, IsShown, IsAbsent, IsWindow, IsSlot, HasTick}
use Rattle.block_builder.specs.Window.{IsCut, IsPut, IsFirst, IsPast, IsUntouched}
use Rattle.block_builder.proofs.Blank.{shown_held}
use Rattle.block_builder.proofs.Frames.{not_covered, none_of}
use Rattle.block_builder.proofs.Ranges.{none_any}

-- ---- a tick handed out

pub front_rest : (n : Intake) (m : Meaning) (from : ℕ) (s : Slot) (ss : List Slot) → s.tick ≡ from
    → IsWindow n m from (s ∷ ss) → IsWindow n m (from + 1) ss
front_rest n m from s ss e w = subst (λ (k : ℕ). IsWindow n m (k + 1) ss) e w.4

pub front_shown : (n : Intake) (m : Meaning) (from : ℕ) (s : Slot) (ss : List Slot) → s.tick ≡ from
    → IsWindow n m from (s ∷ ss) → IsShown n (m from) s.samples.items s.held.items
front_shown n m from s ss e w =
    subst (λ (k : ℕ). IsShown n (m k) s.samples.items s.held.items) e w.3

pub first_rest : (n : Intake) (m : Meaning) (from : ℕ) (ss : List Slot) → IsFirst from ss
    → IsWindow n m from ss → IsWindow n m (from + 1) (drop 1 ss)
first_rest n m from [] f w = absurd f
first_rest n m from (s ∷ ss) f w = front_rest n m from s ss f w

pub first_shown : (n : Intake) (m : Meaning) (from : ℕ) (ss : List Slot) (x : Slot)
    → IsFirst from ss → x ≡ get_or ss 0 x → IsWindow n m from ss
    → IsShown n (m from) x.samples.items x.held.items
first_shown n m from [] x f e w = absurd f
first_shown n m from (s ∷ ss) x f e w =
    subst (λ (y : Slot). IsShown n (m from) y.samples.items y.held.items) (sym e)
    (front_shown n m from s ss f w)

pub first_some : (tick : ℕ) (ss : List Slot) → IsFirst tick ss → 0 < length ss
first_some tick [] f = absurd f
first_some tick (s ∷ ss) f = omega arith

pub past_absent : (n : Intake) (m : Meaning) (from : ℕ) (ss : List Slot) → from < n.ticks
    → IsPast from ss → IsWindow n m from ss → IsAbsent n (m from)
past_absent n m from [] lt p w = w from (omega arith) lt
past_absent n m from (s ∷ ss) lt p w =
    w.2 from (omega arith) (omega (arith, w.0, λ (e : from ≡ s.tick). p (sym e)))

pub past_rest : (n : Intake) (m : Meaning) (from : ℕ) (ss : List Slot) → IsPast from ss
    → IsWindow n m from ss → IsWindow n m (from + 1) ss
past_rest n m from [] p w = λ tick le lt. w tick (omega (arith, le)) lt
past_rest n m from (s ∷ ss) p w = (
  omega (arith, w.0, λ (e : from ≡ s.tick). p (sym e)),
  w.1,
  λ tick le lt. w.2 tick (omega (arith, le)) lt,
  w.3,
  w.4,
)

-- ---- a blank slot more

pub put_blank : (n : Intake) (m : Meaning) (from tick : ℕ) (z : Slot) (xs ys : List Slot)
    → from ≤ tick → tick < n.ticks → z.tick ≡ tick
    → ((c : Held) → IsAbsent n c → IsShown n c z.samples.items z.held.items)
    → ((k : ℕ) (d : Slot) → k < length xs → (get_or xs k d).tick < tick)
    → ((k : ℕ) (d : Slot) → k < length ys → tick < (get_or ys k d).tick)
    → IsWindow n m from (xs ++ ys) → IsWindow n m from (xs ++ z ∷ ys)
put_blank n m from tick z [] [] le lt e blank before after w = (
  omega (arith, le, e),
  omega (arith, lt, e),
  λ k a b. w k a (omega (arith, b, e, lt)),
  blank (m z.tick) (w z.tick (omega (arith, e, le)) (omega (arith, e, lt))),
  λ k a b. w k (omega (arith, a, e, le)) b,
)
put_blank n m from tick z [] (y ∷ ys) le lt e blank before after w =
    let next = after 0 y (omega arith) in (
      omega (arith, le, e),
      omega (arith, lt, e),
      λ k a b. w.2 k a (omega (arith, b, e, next)),
      blank (m z.tick) (w.2 z.tick (omega (arith, e, le)) (omega (arith, e, next))),
      (omega (arith, e, next), w.1, λ k a b. w.2 k (omega (arith, a, e, le)) b, w.3, w.4),
    )
put_blank n m from tick z (x ∷ xs) ys le lt e blank before after w = (
  w.0,
  w.1,
  w.2,
  w.3,
  put_blank n m (x.tick + 1) tick z xs ys (omega (arith, before 0 x (omega arith))) lt e blank
      (λ k d l. before (suc k) d (omega (arith, l))) after w.4,
)

pub window_from : (n : Intake) (m : Meaning) (from : ℕ) (ss : List Slot) (k : ℕ) (d : Slot)
    → IsWindow n m from ss → k < length ss → from ≤ (get_or ss k d).tick
window_from n m from [] k d w lt = absurd (omega (arith, lt))
window_from n m from (s ∷ ss) zero d w lt = w.0
window_from n m from (s ∷ ss) (suc k) d w lt =
    omega (arith, w.0, window_from n m (s.tick + 1) ss k d w.4 (omega (arith, lt)))

pub rises : (n : Intake) (m : Meaning) (from : ℕ) (ss : List Slot) (k j : ℕ) (d : Slot)
    → IsWindow n m from ss → k ≤ j → j < length ss → (get_or ss k d).tick ≤ (get_or ss j d).tick
rises n m from [] k j d w le lt = absurd (omega (arith, lt))
rises n m from (s ∷ ss) zero zero d w le lt = omega arith
rises n m from (s ∷ ss) zero (suc j) d w le lt =
    omega (arith, window_from n m (s.tick + 1) ss j d w.4 (omega (arith, lt)))
rises n m from (s ∷ ss) (suc k) zero d w le lt = absurd (omega (arith, le))
rises n m from (s ∷ ss) (suc k) (suc j) d w le lt =
    rises n m (s.tick + 1) ss k j d w.4 (omega (arith, le)) (omega (arith, lt))

pub has_more : (tick : ℕ) (z : Slot) (xs ys : List Slot) → HasTick tick (xs ++ ys)
    → HasTick tick (xs ++ z ∷ ys)
has_more tick z [] ys h = inr h
has_more tick z (x ∷ xs) ys (inl e) = inl e
has_more tick z (x ∷ xs) ys (inr h) = inr (has_more tick z xs ys h)

pub has_new : (tick : ℕ) (z : Slot) (xs ys : List Slot) → z.tick ≡ tick
    → HasTick tick (xs ++ z ∷ ys)
has_new tick z [] ys e = inl e
has_new tick z (x ∷ xs) ys e = inr (has_new tick z xs ys e)

pub has_at : (tick : ℕ) (ss : List Slot) (k : ℕ) (d : Slot) → k < length ss
    → (get_or ss k d).tick ≡ tick → HasTick tick ss
has_at tick [] k d lt e = absurd (omega (arith, lt))
has_at tick (s ∷ ss) zero d lt e = inl e
has_at tick (s ∷ ss) (suc k) d lt e = inr (has_at tick ss k d (omega (arith, lt)) e)

pub has_there : (tick : ℕ) (ss : List Slot) (k : ℕ) → k < length ss
    → ((d : Slot) → (get_or ss k d).tick ≡ tick) → HasTick tick ss
has_there tick [] k lt e = absurd (omega (arith, lt))
has_there tick (s ∷ ss) k lt e = has_at tick (s ∷ ss) k s lt (e s)

pub has_more_at : (tick : ℕ) (z : Slot) (ss : List Slot) (at : ℕ) → HasTick tick ss
    → HasTick tick (take at ss ++ z ∷ drop at ss)
has_more_at tick z ss at h = has_more tick z (take at ss) (drop at ss)
    (subst (HasTick tick) (sym (take-append-drop at ss)) h)

pub put_at_cut : (n : Intake) (m : Meaning) (from tick at : ℕ) (z : Slot) (ss : List Slot)
    → from ≤ tick → tick < n.ticks → z.tick ≡ tick
    → ((c : Held) → IsAbsent n c → IsShown n c z.samples.items z.held.items) → at ≤ length ss
    → IsCut tick at ss
    → ((d : Slot) → at < length ss → (get_or ss at d).tick ≢ tick) → IsWindow n m from ss
    → IsWindow n m from (take at ss ++ z ∷ drop at ss)
put_at_cut n m from tick at z ss le lt e blank within cut other w =
    put_blank n m from tick z (take at ss) (drop at ss) le lt e blank
    (λ k d l.
    let short : k < at = omega (arith, l, length-take at ss) in
    let last : at - 1 + 1 ≡ at = omega (arith, short) in
    let same : (get_or (take at ss) k d).tick ≡ (get_or ss k d).tick =
    ap (λ (s : Slot). s.tick) (get_or-take at ss k d short) in
    omega (
      arith,
      same,
      rises n m from ss k (at - 1) d w (omega (arith, short))
          (omega (arith, short, within)),
      cut.1 (at - 1) d last,
    ))
    (λ k d l.
    let far : at + k < length ss = omega (arith, l, length-drop at ss) in
    let same : (get_or (drop at ss) k d).tick ≡ (get_or ss (at + k) d).tick =
    ap (λ (s : Slot). s.tick) (get_or-drop at ss k d) in
    let head = cut.0 at d (omega arith) (omega (arith, far)) in
    let ne = other d (omega (arith, far)) in
    omega (arith, same, head, ne, rises n m from ss at (at + k) d w (omega arith) far))
    (subst (IsWindow n m from) (sym (take-append-drop at ss)) w)

pub slots_more : (n : Intake) (ss : List Slot) (at : ℕ) (z : Slot) → IsSlot n z → All (IsSlot n) ss
    → All (IsSlot n) (take at ss ++ z ∷ drop at ss)
slots_more n ss at z e h =
    All-append (IsSlot n) (take at ss) (z ∷ drop at ss) (All-take (IsSlot n) at ss h)
    (All-cons (IsSlot n) z (drop at ss) e (All-drop (IsSlot n) at ss h))

has_next : (from k tick : ℕ) (old new : List Slot) → ((t : ℕ) → from ≤ t → t < k → HasTick t old)
    → ((t : ℕ) → HasTick t old → HasTick t new) → HasTick k new
    → from ≤ tick → tick < k + 1 → (tick ≡ k) ⊎ (tick ≢ k) → HasTick tick new
has_next from k tick old new before others here le lt (inl e) =
    subst (λ (t : ℕ). HasTick t new) (sym e) here
has_next from k tick old new before others here le lt (inr ne) =
    others tick (before tick le (omega (arith, lt, ne)))

pub has_range : (from k : ℕ) (old new : List Slot) → ((t : ℕ) → from ≤ t → t < k → HasTick t old)
    → ((t : ℕ) → HasTick t old → HasTick t new) → HasTick k new
    → (tick : ℕ) → from ≤ tick → tick < k + 1 → HasTick tick new
has_range from k old new before others here tick le lt =
    has_next from k tick old new before others here le lt (cases_eq tick k)

pub has_from : (n : Intake) (m : Meaning) (from : ℕ) (ss : List Slot) (tick : ℕ)
    → IsWindow n m from ss → HasTick tick ss → from ≤ tick
has_from n m from [] tick w h = absurd h
has_from n m from (s ∷ ss) tick w (inl e) = omega (arith, w.0, e)
has_from n m from (s ∷ ss) tick w (inr h) =
    omega (arith, w.0, has_from n m (s.tick + 1) ss tick w.4 h)

pub window_few : (n : Intake) (m : Meaning) (from : ℕ) (ss : List Slot) → IsWindow n m from ss
    → from ≤ n.ticks → from + length ss ≤ n.ticks
window_few n m from [] w le = omega (arith, le)
window_few n m from (s ∷ ss) w le =
    omega (arith, w.0, window_few n m (s.tick + 1) ss w.4 (omega (arith, w.1)))

pub shown_at : (n : Intake) (m : Meaning) (from : ℕ) (ss : List Slot) (k : ℕ) (d : Slot)
    → IsWindow n m from ss → k < length ss
    → IsShown n (m (get_or ss k d).tick) (get_or ss k d).samples.items (get_or ss k d).held.items
shown_at n m from [] k d w lt = absurd (omega (arith, lt))
shown_at n m from (s ∷ ss) zero d w lt = w.3
shown_at n m from (s ∷ ss) (suc k) d w lt = shown_at n m (s.tick + 1) ss k d w.4 (omega (arith, lt))

pub tick_at_slot : (n : Intake) (m : Meaning) (from : ℕ) (ss : List Slot) (k : ℕ) (d : Slot)
    → IsWindow n m from ss → k < length ss → (get_or ss k d).tick < n.ticks
tick_at_slot n m from [] k d w lt = absurd (omega (arith, lt))
tick_at_slot n m from (s ∷ ss) zero d w lt = w.1
tick_at_slot n m from (s ∷ ss) (suc k) d w lt =
    tick_at_slot n m (s.tick + 1) ss k d w.4 (omega (arith, lt))

-- ---- a packet put into all slots

still_absent : (n : Intake) (p : Piece) (tick : ℕ) (c : Held) → IsAbsent n c → IsUntouched n p tick
    → IsAbsent n (added n p tick c)
still_absent n p tick c none un = λ f lt. not_covered n p tick c f (un f lt) ∙ none f lt

gap_absent : (n : Intake) (p : Piece) (m : Meaning) (s : Slot) (ss : List Slot) (tick : ℕ)
    → IsWindow n m (s.tick + 1) ss → tick < s.tick → IsAbsent n (m tick)
    → HasTick tick (s ∷ ss) ⊎ IsUntouched n p tick → IsAbsent n (added n p tick (m tick))
gap_absent n p m s ss tick w lt none (inl (inl e)) = absurd (omega (arith, lt, e))
gap_absent n p m s ss tick w lt none (inl (inr h)) =
    absurd (omega (arith, lt, has_from n m (s.tick + 1) ss tick w h))
gap_absent n p m s ss tick w lt none (inr un) = still_absent n p tick (m tick) none un

end_absent : (n : Intake) (p : Piece) (m : Meaning) (tick : ℕ) → IsAbsent n (m tick)
    → HasTick tick [] ⊎ IsUntouched n p tick → IsAbsent n (added n p tick (m tick))
end_absent n p m tick none (inl h) = absurd h
end_absent n p m tick none (inr un) = still_absent n p tick (m tick) none un

pub drop_head : (n : Intake) (p : Piece) (s : Slot) (ss : List Slot) (tick : ℕ) → s.tick + 1 ≤ tick
    → HasTick tick (s ∷ ss) ⊎ IsUntouched n p tick → HasTick tick ss ⊎ IsUntouched n p tick
drop_head n p s ss tick le (inl (inl e)) = absurd (omega (arith, le, e))
drop_head n p s ss tick le (inl (inr h)) = inl h
drop_head n p s ss tick le (inr un) = inr un

pub put_all : (n : Intake) (p : Piece) (m : Meaning) (from : ℕ) (ss ts : List Slot)
    → length ts ≡ length ss
    → ((k : ℕ) (d : Slot) → k < length ss → IsPut n p (get_or ss k d) (get_or ts k d))
    → ((tick : ℕ) → from ≤ tick → tick < n.ticks → HasTick tick ss ⊎ IsUntouched n p tick)
    → IsWindow n m from ss → IsWindow n (λ tick. added n p tick (m tick)) from ts
put_all n p m from [] [] e put all w =
    λ tick le lt. end_absent n p m tick (w tick le lt) (all tick le lt)
put_all n p m from [] (t ∷ ts) e put all w = absurd (omega (arith, e))
put_all n p m from (s ∷ ss) [] e put all w = absurd (omega (arith, e))
put_all n p m from (s ∷ ss) (t ∷ ts) e put all w =
    let here = put 0 s (omega arith) in
    let same = here.same_tick in (
      omega (arith, w.0, same),
      omega (arith, w.1, same),
      λ tick le lt. gap_absent n p m s ss tick w.4 (omega (arith, lt, same))
          (w.2 tick le (omega (arith, lt, same))) (all tick le (omega (arith, lt, same, w.1))),
      subst (λ (k : ℕ). IsShown n (added n p k (m k)) t.samples.items t.held.items) (sym same)
          (here.shown (m s.tick) w.3),
      subst (λ (k : ℕ). IsWindow n (λ tick. added n p tick (m tick)) (k + 1) ts) (sym same)
          (put_all n p m (s.tick + 1) ss ts (omega (arith, e))
          (λ k d lt. put (suc k) d (omega (arith, lt)))
          (λ tick le lt. drop_head n p s ss tick le (all tick (omega (arith, le, w.0)) lt)) w.4),
    )

-- ---- slots that hold nothing let go

before_or : (n : Intake) (m : Meaning) (from next tick : ℕ)
    → ((k : ℕ) → from ≤ k → k < next → IsAbsent n (m k)) → (next ≤ tick → IsAbsent n (m tick))
    → from ≤ tick → (tick < next) ⊎ (next ≤ tick) → IsAbsent n (m tick)
before_or n m from next tick gap rest le (inl lt) = gap tick le lt
before_or n m from next tick gap rest le (inr over) = rest over

gap_or : (n : Intake) (m : Meaning) (s : Slot) (tick : ℕ) → (tick < s.tick → IsAbsent n (m tick))
    → IsAbsent n (m s.tick) → tick ≤ s.tick → (tick < s.tick) ⊎ (s.tick ≤ tick)
    → IsAbsent n (m tick)
gap_or n m s tick gap here le (inl lt) = gap lt
gap_or n m s tick gap here le (inr over) =
    subst (λ (k : ℕ). IsAbsent n (m k)) (omega (arith, le, over)) here

-- what shows more ticks, where those before hold nothing
window_back : (n : Intake) (m : Meaning) (from next : ℕ) (ss : List Slot) → from ≤ next
    → ((tick : ℕ) → from ≤ tick → tick < next → IsAbsent n (m tick)) → IsWindow n m next ss
    → IsWindow n m from ss
window_back n m from next [] le gap w =
    λ tick a b. before_or n m from next tick gap (λ over. w tick over b) a (cases_lt tick next)
window_back n m from next (s ∷ ss) le gap w = (
  omega (arith, le, w.0),
  w.1,
  λ tick a b.
      before_or n m from next tick gap (λ over. w.2 tick over b) a (cases_lt tick next),
  w.3,
  w.4,
)

slot_absent : (n : Intake) (held : Held) (s : Slot)
    → list_any (λ (flag : Bool). flag) s.held.items ≡ false
    → IsShown n held s.samples.items s.held.items → IsAbsent n held
slot_absent n held s none shown =
    λ f lt. none_of (held f) (none_any (λ k. is_some (held k)) 0 n.frames
    (sym (shown_held n held s.samples.items s.held.items shown) ∙ none) f (omega arith)
    (omega (arith, lt)))

kept_step : (n : Intake) (m : Meaning) (from : ℕ) (s : Slot) (ss rest : List Slot) (b : Bool)
    → list_any (λ (flag : Bool). flag) s.held.items ≡ b → IsWindow n m from (s ∷ ss)
    → IsWindow n m (s.tick + 1) rest → IsWindow n m from (cond b (s ∷ rest) rest)
kept_step n m from s ss rest true e w more = (w.0, w.1, w.2, w.3, more)
kept_step n m from s ss rest false e w more =
    window_back n m from (s.tick + 1) rest (omega (arith, w.0))
    (λ tick le lt. gap_or n m s tick (λ below. w.2 tick le below) (slot_absent n (m s.tick) s e w.3)
    (omega (arith, lt)) (cases_lt tick s.tick)) more

pub window_kept : (n : Intake) (m : Meaning) (from : ℕ) (ss : List Slot) → IsWindow n m from ss
    → IsWindow n m from (filter (λ s. list_any (λ (flag : Bool). flag) s.held.items) ss)
window_kept n m from [] w = w
window_kept n m from (s ∷ ss) w =
    kept_step n m from s ss (filter (λ t. list_any (λ (flag : Bool). flag) t.held.items) ss)
    (list_any (λ (flag : Bool). flag) s.held.items) refl w (window_kept n m (s.tick + 1) ss w.4)
