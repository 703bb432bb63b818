-- The loop that puts a packet into the slots.
use Rattle.std.proofs.Common.{◌≡◌, ◌≢◌, ℕ, zero, suc, ◌+◌, ◌*◌, ◌<◌, ◌≤◌, List, [], ◌∷◌, length}
use Rattle.std.proofs.Common.{take, get_or, set, refl, sym, ap, subst, ◌∙◌, ◌⊎◌, inl, inr, arith}
use Rattle.std.proofs.Common.{zero-add}
use Rattle.std.specs.List.{count_by, range_with_len}
use Rattle.std.proofs.lemmas.Bool.{cases_eq}
use Rattle.std.proofs.lemmas.List.{length-set, get_or-set_other, take_more}
use Rattle.std.proofs.lemmas.List.Sums.{sum_by-append, sum_by-cons}
use Rattle.std.proofs.lemmas.Grind.{get_or-set_at}
use Rattle.block_builder.specs.declared.intake.Intake.{Intake}
use Rattle.block_builder.specs.declared.slot.Slot.{Slot}
use Rattle.io_caps.specs.declared.limits.TheConstants.{MOST_FRAMES}
use Rattle.block_builder.specs.Blocks.{Piece, Held}
use Rattle.block_builder.specs.Window.{Meaning, added, IsShown, IsSlot, IsUntouched, IsWindow}
use Rattle.block_builder.specs.Window.{IsPut, fresh_in, is_fresh}
use Rattle.std.specs.Prelude.{All}
use Rattle.block_builder.proofs.Windows.{shown_at}
use Rattle.block_builder.proofs.Frames.{IsShown-same, not_covered}
use Rattle.block_builder.proofs.Fresh.{fresh_by, tick_none}

pub record IsPartly (n : Intake) (p : Piece) (old new : List Slot) (at used : ℕ) : Type 0 where
  pub long : length new ≡ length old
  pub put : (k : ℕ) (d : Slot) → k < at → k < length old
      → IsPut n p (get_or old k d) (get_or new k d)
  pub rest : (k : ℕ) (d : Slot) → at ≤ k → get_or new k d ≡ get_or old k d
  pub count : (m : Meaning) (from : ℕ) → IsWindow n m from old → used ≡ fresh_in n p m (take at old)
  pub bound : used ≤ at * MOST_FRAMES

put_next : (n : Intake) (p : Piece) (old new : List Slot) (at : ℕ) (x : Slot)
    → length new ≡ length old → at < length old
    → ((k : ℕ) (d : Slot) → k < at → k < length old → IsPut n p (get_or old k d) (get_or new k d))
    → ((d : Slot) → IsPut n p (get_or old at d) x)
    → (k : ℕ) (d : Slot) → k < at + 1 → k < length old → (k ≡ at) ⊎ (k ≢ at)
    → IsPut n p (get_or old k d) (get_or (set new at x) k d)
put_next n p old new at x long lt put here k d kl within (inl e) =
    subst (λ (j : ℕ). IsPut n p (get_or old j d) (get_or (set new at x) k d)) (sym e)
    (subst (λ (s : Slot). IsPut n p (get_or old at d) s)
    (sym (get_or-set_at new at k x d e (omega (arith, long, lt)))) (here d))
put_next n p old new at x long lt put here k d kl within (inr ne) =
    subst (λ (s : Slot). IsPut n p (get_or old k d) s) (sym (get_or-set_other new at k x d ne))
    (put k d (omega (arith, kl, ne)) within)

fresh_more : (n : Intake) (p : Piece) (m : Meaning) (old : List Slot) (at : ℕ) (d : Slot)
    → at < length old
    → fresh_in n p m (take (at + 1) old)
    ≡ fresh_in n p m (take at old)
    + count_by (is_fresh n p (get_or old at d).tick (m (get_or old at d).tick))
    (range_with_len 0 n.frames)
fresh_more n p m old at d lt =
    ap (fresh_in n p m) (take_more old at d lt)
    ∙ sum_by-append (λ s. count_by (is_fresh n p s.tick (m s.tick)) (range_with_len 0 n.frames))
    (take at old) (get_or old at d ∷ [])
    ∙ ap (λ (j : ℕ). fresh_in n p m (take at old) + j)
    (zero-add (count_by (is_fresh n p (get_or old at d).tick (m (get_or old at d).tick))
    (range_with_len 0 n.frames)))

pub partly_more : (n : Intake) (p : Piece) (old new : List Slot) (at used more : ℕ) (s x : Slot)
    → at < length old → ((d : Slot) → get_or new at d ≡ s) → IsPut n p s x → more ≤ MOST_FRAMES
    → ((c : Held) → IsShown n c s.samples.items s.held.items
    → more ≡ count_by (is_fresh n p s.tick c) (range_with_len 0 n.frames))
    → IsPartly n p old new at used → IsPartly n p old (set new at x) (at + 1) (used + more)
partly_more n p old new at used more s x lt is put few counted so_far =
    record {
      long = length-set new at x ∙ so_far.long;
      put = λ k d kl within. put_next n p old new at x so_far.long lt so_far.put
          (λ e. subst (λ (y : Slot). IsPut n p y x) (sym (is e) ∙ so_far.rest at e (omega arith))
          put) k d kl within (cases_eq k at);
      rest = λ k d le. get_or-set_other new at k x d (λ e. absurd (omega (arith, le, e)))
          ∙ so_far.rest k d (omega (arith, le));
      count = λ m from w.
          let same : s ≡ get_or old at s = sym (is s) ∙ so_far.rest at s (omega arith) in
          let shown : IsShown n (m s.tick) s.samples.items s.held.items =
          subst (λ (y : Slot). IsShown n (m y.tick) y.samples.items y.held.items) (sym same)
          (shown_at n m from old at s w lt) in
          let here = counted (m s.tick) shown in
          let more_is = fresh_more n p m old at s lt in
          let eq = ap (λ (y : Slot). count_by (is_fresh n p y.tick (m y.tick))
          (range_with_len 0 n.frames)) same in
          omega (arith, so_far.count m from w, here, more_is, eq);
      bound = omega (arith, so_far.bound, few);
    }

untouched_put : (n : Intake) (p : Piece) (s : Slot) → IsSlot n s → IsUntouched n p s.tick
    → IsPut n p s s
untouched_put n p s slot un = record {
  same_tick = refl;
  slot = slot;
  shown = λ c sh. IsShown-same n c (added n p s.tick c) s.samples.items s.held.items
      (λ f lt. sym (not_covered n p s.tick c f (un f lt))) sh;
}

fresh_none : (n : Intake) (p : Piece) (m : Meaning) (ss : List Slot) (start : ℕ)
    → ((k : ℕ) (d : Slot) → k < start → k < length ss → IsUntouched n p (get_or ss k d).tick)
    → fresh_in n p m (take start ss) ≡ 0
fresh_none n p m ss zero un = refl
fresh_none n p m [] (suc start) un = refl
fresh_none n p m (s ∷ ss) (suc start) un =
    let here = tick_none n p m s.tick (un 0 s (omega arith) (omega arith)) in
    let more = fresh_none n p m ss start
    (λ k d lt within. un (suc k) d (omega (arith, lt)) (omega (arith, within))) in
    omega (arith, sum_by-cons (λ (t : Slot). fresh_by n p m t.tick) s (take start ss), here, more)

pub partly_begins : (n : Intake) (p : Piece) (old : List Slot) (start : ℕ) → All (IsSlot n) old
    → ((k : ℕ) (d : Slot) → k < start → k < length old → IsUntouched n p (get_or old k d).tick)
    → IsPartly n p old old start 0
partly_begins n p old start slots un = record {
  long = refl;
  put = λ k d lt within. untouched_put n p (get_or old k d) (slots k d within) (un k d lt within);
  rest = λ k d _. refl;
  count = λ m from w. sym (fresh_none n p m old start un);
  bound = omega arith;
}
