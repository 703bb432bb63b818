-- The loop that puts the frames of a packet into a tick.
use Rattle.std.proofs.Common.{◌≡◌, ℕ, ◌+◌, ◌-◌, ◌*◌, ◌/◌, ◌<◌, ◌≤◌, Bool, true, false, List, ◌++◌}
use Rattle.std.proofs.Common.{length, take, drop, set, get_or, arith, ℤ, ap, subst, ◌∙◌, sym, ◌⊎◌}
use Rattle.std.proofs.Common.{inl, inr, min, max}
use Rattle.std.specs.List.{count_by, range_with_len}
use Rattle.std.proofs.Math.Nat.{div-mul-le_self, mul-le-mul, add-mul}
use Rattle.block_builder.specs.declared.intake.Intake.{Intake}
use Rattle.block_builder.specs.Blocks.{Piece, Held, IsBlock, samples_of, frame_bytes, covers}
use Rattle.block_builder.specs.Blocks.{tick_place, piece_frame}
use Rattle.block_builder.specs.Window.{IsShown, added, added_below, is_fresh}
use Rattle.std.proofs.lemmas.List.{length-set, length-drop, take_all}
use Rattle.std.proofs.lemmas.Bool.{cases_lt}
use Rattle.block_builder.proofs.Frames.{begins, ends, keeps, takes, fresh_false, fresh_kept}
use Rattle.block_builder.proofs.Frames.{fresh_taken}
use Rattle.block_builder.proofs.Ranges.{count_none, count_more, count_rest}

-- how far the loop has come
pub record IsFilled (n : Intake) (p : Piece) (tick : ℕ) (s0 : List ℤ) (h0 : List Bool) (s : List ℤ)
    (h : List Bool) (start limit place used : ℕ) : Type 0 where
  pub from : start ≤ place
  pub upto : place ≤ limit
  pub few : start + used ≤ place
  pub block : IsBlock n s
  pub flags : length h ≡ n.frames
  pub shown : (c : Held) → IsShown n c s0 h0
      → IsShown n (added_below (place - start) n p tick c) s h
  pub count : (c : Held) → IsShown n c s0 h0
      → used ≡ count_by (is_fresh n p tick c) (range_with_len 0 (place - start))

pub covered : (place : ℕ) (p : Piece) → p.first ≤ place → place < p.first + p.count
    → covers place p ≡ true
covered place p le lt = grind arith

pub uncovered_before : (place : ℕ) (p : Piece) → place < p.first → covers place p ≡ false
uncovered_before place p lt = grind arith

pub uncovered_behind : (place : ℕ) (p : Piece) → p.first + p.count ≤ place → covers place p ≡ false
uncovered_behind place p le = grind arith

-- a whole frame is there
pub frame_there : (q len bytes : ℕ) → q < len / bytes → q * bytes + bytes ≤ len
frame_there q len bytes lt =
    let a : q + 1 ≤ len / bytes = omega (arith, lt) in
    let b : (q + 1) * bytes ≤ len / bytes * bytes = mul-le-mul a (omega arith) in
    omega (arith, b, div-mul-le_self len bytes, add-mul q 1 bytes)

before_first : (f start place first here : ℕ) → start ≡ here → f < place - start
    → (place ≤ start) ⊎ (place ≤ first) → here + f < first
before_first f start place first here is lt (inl le) = absurd (omega (arith, lt, le))
before_first f start place first here is lt (inr le) = omega (arith, is, lt, le)

pub fill_begins : (n : Intake) (p : Piece) (tick : ℕ) (s : List ℤ) (h : List Bool)
    (start limit place : ℕ) → start ≡ tick_place n tick → start ≤ place → place ≤ limit
    → (place ≤ start) ⊎ (place ≤ p.first) → IsBlock n s → length h ≡ n.frames
    → limit ≡ start + n.frames → IsFilled n p tick s h s h start limit place 0
fill_begins n p tick s h start limit place is from upto near block flags lim =
    let before : (f : ℕ) → f < place - start → covers (tick_place n tick + f) p ≡ false =
    λ f lt. uncovered_before (tick_place n tick + f) p
    (before_first f start place p.first (tick_place n tick) is lt near) in
    record {
      from = from;
      upto = upto;
      few = omega (arith, from);
      block = block;
      flags = flags;
      shown = λ c sh. begins n p tick (place - start) c s h before sh;
      count = λ c sh. sym (count_none (is_fresh n p tick c) 0 (place - start)
          (λ f _ lt. fresh_false n p tick c f (before f (omega (arith, lt)))));
    }

pub fill_keeps : (n : Intake) (p : Piece) (tick : ℕ) (s0 : List ℤ) (h0 : List Bool) (s : List ℤ)
    (h : List Bool) (start limit place used : ℕ) → limit ≡ start + n.frames → place < limit
    → get_or h (place - start) false ≡ true → IsFilled n p tick s0 h0 s h start limit place used
    → IsFilled n p tick s0 h0 s h start limit (place + 1) used
fill_keeps n p tick s0 h0 s h start limit place used lim lt flag so_far =
    let k = place - start in
    let next : place + 1 - start ≡ k + 1 = omega (arith, so_far.from) in
    let within : k < n.frames = omega (arith, lim, lt, so_far.from) in
    record {
      from = omega (arith, so_far.from);
      upto = omega (arith, lt);
      few = omega (arith, so_far.few);
      block = so_far.block;
      flags = so_far.flags;
      shown = λ c sh. subst (λ (j : ℕ). IsShown n (added_below j n p tick c) s h) (sym next)
          (keeps n p tick k c s h within flag (so_far.shown c sh));
      count = λ c sh.
          let kept = fresh_kept n p tick k c s h within flag (so_far.shown c sh) in
          let more = count_more (is_fresh n p tick c) k false kept in
          let goes = ap (λ (j : ℕ). count_by (is_fresh n p tick c) (range_with_len 0 j)) next in
          omega (arith, so_far.count c sh, more, goes);
    }

pub fill_takes : (n : Intake) (p : Piece) (tick : ℕ) (s0 : List ℤ) (h0 : List Bool) (s t : List ℤ)
    (h g : List Bool) (start limit place used : ℕ) (x : List ℤ) → start ≡ tick_place n tick
    → limit ≡ start + n.frames → place < limit
    → get_or h (place - start) false ≡ false → p.first ≤ place → place < p.first + p.count
    → x ≡ piece_frame n place p
    → t ≡ take ((place - start) * n.channels) s
    ++ (x ++ drop ((place - start) * n.channels + n.channels) s) → g ≡ set h (place - start) true
    → IsBlock n t
    → IsFilled n p tick s0 h0 s h start limit place used
    → IsFilled n p tick s0 h0 t g start limit (place + 1) (used + 1)
fill_takes n p tick s0 h0 s t h g start limit place used x is lim lt flag after before read text
    flagged block so_far =
    let k = place - start in
    let next : place + 1 - start ≡ k + 1 = omega (arith, so_far.from) in
    let within : k < n.frames = omega (arith, lim, lt, so_far.from) in
    let here : tick_place n tick + k ≡ place = omega (arith, is, so_far.from) in
    let cov : covers (tick_place n tick + k) p ≡ true = ap (λ (j : ℕ). covers j p) here
    ∙ covered place p after before in
    let read_here : x ≡ piece_frame n (tick_place n tick + k) p = read
    ∙ ap (λ (j : ℕ). piece_frame n j p) (sym here) in
    record {
      from = omega (arith, so_far.from);
      upto = omega (arith, lt);
      few = omega (arith, so_far.few);
      block = block;
      flags = ap length flagged ∙ length-set h k true ∙ so_far.flags;
      shown = λ c sh.
          subst (λ (j : ℕ). IsShown n (added_below j n p tick c) t g) (sym next)
          (subst (λ (u : List ℤ). IsShown n (added_below (k + 1) n p tick c) u g) (sym text)
          (subst (λ (u : List Bool). IsShown n (added_below (k + 1) n p tick c)
          (take (k * n.channels) s ++ (x ++ drop (k * n.channels + n.channels) s)) u) (sym flagged)
          (takes n p tick k c s h x within flag cov read_here (so_far.shown c sh))));
      count = λ c sh.
          let new = fresh_taken n p tick k c s h within flag cov (so_far.shown c sh) in
          let more = count_more (is_fresh n p tick c) k true new in
          let goes = ap (λ (j : ℕ). count_by (is_fresh n p tick c) (range_with_len 0 j)) next in
          omega (arith, so_far.count c sh, more, goes);
    }

behind : (n : Intake) (p : Piece) (tick start limit place f : ℕ) → start ≡ tick_place n tick
    → limit ≡ start + n.frames → (limit ≤ place) ⊎ (p.first + p.count ≤ place) → start ≤ place
    → place - start ≤ f → f < n.frames
    → covers (tick_place n tick + f) p ≡ false
behind n p tick start limit place f is lim (inl le) from over lt =
    absurd (omega (arith, lim, le, over, lt, from))
behind n p tick start limit place f is lim (inr le) from over lt =
    uncovered_behind (tick_place n tick + f) p (omega (arith, is, le, over, from))

pub fill_shows : (n : Intake) (p : Piece) (tick : ℕ) (s0 : List ℤ) (h0 : List Bool) (s : List ℤ)
    (h : List Bool) (start limit place used : ℕ) → start ≡ tick_place n tick
    → limit ≡ start + n.frames
    → (limit ≤ place) ⊎ (p.first + p.count ≤ place)
    → IsFilled n p tick s0 h0 s h start limit place used → (c : Held) → IsShown n c s0 h0
    → IsShown n (added n p tick c) s h
fill_shows n p tick s0 h0 s h start limit place used is lim past so_far c sh =
    ends n p tick (place - start) c s h
    (λ f over lt. behind n p tick start limit place f is lim past so_far.from over lt)
    (so_far.shown c sh)

pub fill_counts : (n : Intake) (p : Piece) (tick : ℕ) (s0 : List ℤ) (h0 : List Bool) (s : List ℤ)
    (h : List Bool) (start limit place used : ℕ) → start ≡ tick_place n tick
    → limit ≡ start + n.frames
    → (limit ≤ place) ⊎ (p.first + p.count ≤ place)
    → IsFilled n p tick s0 h0 s h start limit place used → (c : Held) → IsShown n c s0 h0
    → used ≡ count_by (is_fresh n p tick c) (range_with_len 0 n.frames)
fill_counts n p tick s0 h0 s h start limit place used is lim past so_far c sh =
    let within : place - start ≤ n.frames = omega (arith, so_far.upto, lim, so_far.from) in
    so_far.count c sh
    ∙ sym (count_rest (is_fresh n p tick c) (place - start) n.frames within
    (λ f over lt. fresh_false n p tick c f
    (behind n p tick start limit place f is lim past so_far.from over lt)))

near_by : (first start from : ℕ) → from ≤ max first start → (first < start) ⊎ (start ≤ first)
    → (from ≤ start) ⊎ (from ≤ first)
near_by first start from e (inl lt) = inl (omega (arith, e, lt))
near_by first start from e (inr le) = inr (omega (arith, e, le))

past_by : (end limit place : ℕ) → min end limit ≤ place → (end < limit) ⊎ (limit ≤ end)
    → (limit ≤ place) ⊎ (end ≤ place)
past_by end limit place e (inl lt) = inr (omega (arith, e, lt))
past_by end limit place e (inr le) = inl (omega (arith, e, le))

pub near_from : (first start limit from : ℕ) → from ≤ max first start
    → (from ≤ start) ⊎ (from ≤ first)
near_from first start limit from e = near_by first start from e (cases_lt first start)

-- where the loop ends, the tick or the packet ends
pub past_to : (end limit to place : ℕ) → min end limit ≤ to → to ≤ place
    → (limit ≤ place) ⊎ (end ≤ place)
past_to end limit to place e le =
    past_by end limit place (omega (arith, e, le)) (cases_lt end limit)

pub subst3 : {A B C : Type 0} (P : A → B → C → Type 0) {a d : A} {b e : B} {c f : C} → a ≡ d → b ≡ e
    → c ≡ f → P a b c → P d e f
subst3 {A} {B} {C} P {a} {d} {b} {e} {c} {f} x y z h =
    subst (λ (k : C). P d e k) z (subst (λ (k : B). P d k c) y (subst (λ (k : A). P k b c) x h))

-- the samples of one frame, after a given number of others
pub frame_is : (n : Intake) (payload : List ℕ) (q bytes : ℕ) → bytes ≡ frame_bytes n
    → samples_of n (take (length payload - q * bytes) (drop (q * bytes) payload))
    ≡ samples_of n (drop (q * frame_bytes n) payload)
frame_is n payload q bytes e =
    ap (samples_of n) (take_all (length payload - q * bytes) (drop (q * bytes) payload)
    (omega (arith, length-drop (q * bytes) payload)))
    ∙ ap (λ (b : ℕ). samples_of n (drop (q * b) payload)) e

pub subst2 : {A B : Type 0} (P : A → B → Type 0) {a d : A} {b e : B} → a ≡ d → b ≡ e → P a b → P d e
subst2 {A} {B} P {a} {d} {b} {e} x y h = subst (λ (k : B). P d k) y (subst (λ (k : A). P k b) x h)
