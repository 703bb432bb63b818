-- The ticks that a packet touches.
use Rattle.std.proofs.Common.{◌≡◌, ℕ, ◌+◌, ◌-◌, ◌*◌, ◌/◌, ◌<◌, ◌≤◌, get_or, max, min, List, length}
use Rattle.std.proofs.Common.{◌⊎◌, inl, inr, arith}
use Rattle.std.proofs.Math.Nat.{div-mul-le_self, lt-div-mul-add, mul-le-mul, add-mul}
use Rattle.std.proofs.lemmas.Bool.{cases_lt}
use Rattle.block_builder.specs.declared.intake.Intake.{Intake}
use Rattle.block_builder.specs.declared.slot.Slot.{Slot}
use Rattle.block_builder.specs.Blocks.{Piece, tick_place, tick_at}
use Rattle.block_builder.specs.Window.{Meaning, IsUntouched, IsWindow, HasTick, IsCut}
use Rattle.block_builder.proofs.Windows.{rises, window_from}
use Rattle.block_builder.proofs.Filling.{uncovered_before, uncovered_behind}

-- a tick before that of the first frame lies before it
pub far_before : (half first frames tick f : ℕ) → f < frames → tick < (first - half) / frames
    → half + tick * frames + f < first
far_before half first frames tick f lt before =
    let a : tick + 1 ≤ (first - half) / frames = omega (arith, before) in
    let b : (tick + 1) * frames ≤ (first - half) / frames * frames = mul-le-mul a (omega arith) in
    omega (arith, b, div-mul-le_self (first - half) frames, add-mul tick 1 frames, lt)

-- a tick after that of the last frame lies after it
pub far_behind : (half end frames tick f : ℕ) → 0 < frames → (end - 1 - half) / frames < tick
    → end ≤ half + tick * frames + f
far_behind half end frames tick f some behind =
    let x = end - 1 - half in
    let a : x / frames + 1 ≤ tick = omega (arith, behind) in
    let b : (x / frames + 1) * frames ≤ tick * frames = mul-le-mul a (omega arith) in
    let c : x < x / frames * frames + frames = lt-div-mul-add some in
    let d : x ≡ end - 1 - half = omega arith in
    omega (arith, b, c, d, add-mul (x / frames) 1 frames)

pub before_untouched : (n : Intake) (p : Piece) (tick : ℕ) → tick < tick_at n p.first
    → IsUntouched n p tick
before_untouched n p tick lt =
    λ f fl. uncovered_before (tick_place n tick + f) p (far_before _ p.first n.frames tick f fl lt)

pub behind_untouched : (n : Intake) (p : Piece) (tick : ℕ) → 0 < n.frames
    → tick_at n (p.first + p.count - 1) < tick → IsUntouched n p tick
behind_untouched n p tick some lt =
    λ f fl. uncovered_behind (tick_place n tick + f) p
    (far_behind _ (p.first + p.count) n.frames tick f some lt)

-- each tick has a slot, or is not touched
touched_by : (n : Intake) (p : Piece) (from to given tick : ℕ) (ss : List Slot) → 0 < n.frames
    → from ≤ max (tick_at n p.first) given
    → min (tick_at n (p.first + p.count - 1) + 1) n.ticks ≤ to
    → ((t : ℕ) → from ≤ t → t < to → HasTick t ss) → given ≤ tick → tick < n.ticks
    → (tick < tick_at n p.first) ⊎ (tick_at n p.first ≤ tick)
    → (tick_at n (p.first + p.count - 1) < tick) ⊎ (tick ≤ tick_at n (p.first + p.count - 1))
    → HasTick tick ss ⊎ IsUntouched n p tick
touched_by n p from to given tick ss some f t has le lt (inl before) b =
    inr (before_untouched n p tick before)
touched_by n p from to given tick ss some f t has le lt (inr a) (inl behind) =
    inr (behind_untouched n p tick some behind)
touched_by n p from to given tick ss some f t has le lt (inr a) (inr b) =
    inl (has tick (omega (arith, f, a, le)) (omega (arith, t, b, lt)))

pub touched : (n : Intake) (p : Piece) (from to given tick : ℕ) (ss : List Slot) → 0 < n.frames
    → from ≤ max (tick_at n p.first) given
    → min (tick_at n (p.first + p.count - 1) + 1) n.ticks ≤ to
    → ((t : ℕ) → from ≤ t → t < to → HasTick t ss) → given ≤ tick → tick < n.ticks
    → HasTick tick ss ⊎ IsUntouched n p tick
touched n p from to given tick ss some f t has le lt =
    touched_by n p from to given tick ss some f t has le lt (cases_lt tick (tick_at n p.first))
    (cases_lt (tick_at n (p.first + p.count - 1)) tick)

-- the slots in front of the packet's place are not touched
pub front_untouched : (n : Intake) (p : Piece) (m : Meaning) (given from start : ℕ) (ss : List Slot)
    → from ≡ max (tick_at n p.first) given → start ≤ length ss → IsCut from start ss
    → IsWindow n m given ss
    → (k : ℕ) (d : Slot) → k < start → k < length ss → IsUntouched n p (get_or ss k d).tick
front_untouched n p m given from start ss e within cut w k d lt kl =
    let last = cut.1 (start - 1) d (omega (arith, lt)) in
    let up = rises n m given ss k (start - 1) d w (omega (arith, lt)) (omega (arith, lt, within)) in
    let low = window_from n m given ss k d w kl in
    before_untouched n p (get_or ss k d).tick (omega (arith, last, up, low, e))
