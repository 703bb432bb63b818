-- How many frames a packet is the first to hold: over the slots as over all ticks.
use Rattle.std.proofs.Common.{◌≡◌, ℕ, ◌+◌, ◌-◌, ◌<◌, ◌≤◌, suc, List, [], ◌∷◌, ◌++◌, ◌⊎◌, inl, inr}
use Rattle.std.proofs.Common.{arith, sym, ap, ◌∙◌}
use Rattle.std.specs.List.{sum_by, range_with_len}
use Rattle.std.proofs.lemmas.List.Sums.{sum_by-append, sum_by-cons}
use Rattle.block_builder.specs.declared.intake.Intake.{Intake}
use Rattle.block_builder.specs.declared.slot.Slot.{Slot}
use Rattle.block_builder.specs.Blocks.{Piece}
use Rattle.block_builder.specs.Window.{Meaning, IsUntouched, IsWindow, HasTick, is_fresh, fresh_in}
use Rattle.block_builder.specs.Window.{fresh_at, fresh_from}
use Rattle.block_builder.proofs.Windows.{has_from, drop_head}
use Rattle.block_builder.proofs.Frames.{fresh_false}
use Rattle.block_builder.proofs.Ranges.{range_split, count_none, sum_none}

-- how many frames of a tick a packet is the first to hold
abbrev pub fresh_by : Intake → Piece → Meaning → ℕ → ℕ
fresh_by n p m tick = fresh_at n p tick (m tick)

pub tick_none : (n : Intake) (p : Piece) (m : Meaning) (tick : ℕ) → IsUntouched n p tick
    → fresh_by n p m tick ≡ 0
tick_none n p m tick un = count_none (is_fresh n p tick (m tick)) 0 n.frames
    (λ f _ lt. fresh_false n p tick (m tick) f (un f (omega (arith, lt))))

gap_untouched : (n : Intake) (p : Piece) (m : Meaning) (s : Slot) (ss : List Slot) (tick : ℕ)
    → IsWindow n m (s.tick + 1) ss → tick < s.tick → HasTick tick (s ∷ ss) ⊎ IsUntouched n p tick
    → IsUntouched n p tick
gap_untouched n p m s ss tick w lt (inl (inl e)) = absurd (omega (arith, lt, e))
gap_untouched n p m s ss tick w lt (inl (inr h)) =
    absurd (omega (arith, lt, has_from n m (s.tick + 1) ss tick w h))
gap_untouched n p m s ss tick w lt (inr un) = un

end_untouched : (n : Intake) (p : Piece) (tick : ℕ) → HasTick tick [] ⊎ IsUntouched n p tick
    → IsUntouched n p tick
end_untouched n p tick (inl h) = absurd h
end_untouched n p tick (inr un) = un

pub fresh_slots : (n : Intake) (p : Piece) (m : Meaning) (from : ℕ) (ss : List Slot)
    → ((tick : ℕ) → from ≤ tick → tick < n.ticks → HasTick tick ss ⊎ IsUntouched n p tick)
    → IsWindow n m from ss → fresh_in n p m ss ≡ fresh_from n p m from
fresh_slots n p m from [] all w =
    sym (sum_none (fresh_by n p m) from (n.ticks - from)
    (λ k le lt. tick_none n p m k (end_untouched n p k (all k le (omega (arith, lt, le))))))
fresh_slots n p m from (s ∷ ss) all w =
    let i = s.tick - from in
    let rest = n.ticks - (s.tick + 1) in
    let e : n.ticks - from ≡ i + suc rest = omega (arith, w.0, w.1) in
    let here : from + i ≡ s.tick = omega (arith, w.0) in
    let split : range_with_len from (n.ticks - from)
    ≡ range_with_len from i ++ s.tick ∷ range_with_len (s.tick + 1) rest =
    ap (range_with_len from) e ∙ range_split from i rest
    ∙ ap (λ (k : ℕ). range_with_len from i ++ k ∷ range_with_len (k + 1) rest) here in
    let gap = sum_none (fresh_by n p m) from i
    (λ k le lt. tick_none n p m k (gap_untouched n p m s ss k w.4 (omega (arith, lt, here))
    (all k le (omega (arith, lt, here, w.1))))) in
    let more = fresh_slots n p m (s.tick + 1) ss
    (λ tick le lt. drop_head n p s ss tick le (all tick (omega (arith, le, w.0)) lt)) w.4 in
    let sum = ap (sum_by (fresh_by n p m)) split
    ∙ sum_by-append (fresh_by n p m) (range_with_len from i)
    (s.tick ∷ range_with_len (s.tick + 1) rest) in
    omega (
      arith,
      sum_by-cons (λ (t : Slot). fresh_by n p m t.tick) s ss,
      sum,
      gap,
      more,
      sum_by-cons (fresh_by n p m) s.tick (range_with_len (s.tick + 1) rest),
    )
