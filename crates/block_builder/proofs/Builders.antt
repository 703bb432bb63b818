-- What a builder keeps, call by call.
use Rattle.std.proofs.Common.{◌≡◌, ℕ, ◌+◌, ◌-◌, ◌<◌, ◌≤◌, min, max, List, [], ◌∷◌, ◌++◌, None}
use Rattle.std.proofs.Common.{arith, refl, sym, ap, subst, ◌∙◌}
use Rattle.std.specs.Prelude.{All}
use Rattle.block_builder.specs.declared.arrival.Arrival.{Arrival}
use Rattle.block_builder.specs.declared.intake.Intake.{Intake}
use Rattle.block_builder.specs.declared.slot.Slot.{Slot}
use Rattle.block_builder.specs.Blocks.{Piece, clock_piece, closed_by, tick_place, pieces_by}
use Rattle.block_builder.specs.Blocks.{pieces_of, held_at, block_by, block_at}
use Rattle.block_builder.specs.Building.{IsBuilder, IsDrained}
use Rattle.block_builder.specs.Window.{Meaning, IsIntake, IsSlot, IsWindow, added}
use Rattle.block_builder.proofs.BlockLaws.{held_open, held_uncovered, clock_covers, pieces_more}
use Rattle.block_builder.proofs.BlockLaws.{closed_append, open_from}
use Rattle.block_builder.proofs.Frames.{IsShown-same}

-- the window looks at the ticks from one on
pub window_same : (n : Intake) (m k : Meaning) (from : ℕ) (ss : List Slot)
    → ((tick : ℕ) → from ≤ tick → tick < n.ticks → (f : ℕ) → m tick f ≡ k tick f)
    → IsWindow n m from ss → IsWindow n k from ss
window_same n m k from [] same w = λ tick le lt. λ f fl. sym (same tick le lt f) ∙ w tick le lt f fl
window_same n m k from (s ∷ ss) same w = (
  w.0,
  w.1,
  λ tick le lt. λ f fl. sym (same tick le (omega (arith, lt, w.1)) f) ∙ w.2 tick le lt f fl,
  IsShown-same n (m s.tick) (k s.tick) s.samples.items s.held.items (λ f fl. same s.tick w.0 w.1 f)
      w.3,
  window_same n m k (s.tick + 1) ss (λ tick le lt. same tick (omega (arith, le, w.0)) lt) w.4,
)

-- the block of a tick that is handed out
pub block_given : (n : Intake) (arrivals : List Arrival) (given : ℕ)
    → block_by n (held_at n (pieces_of n arrivals) given) ≡ block_at n arrivals (n.base + given)
unfolding block_at
block_given n arrivals given =
    let e : given ≡ n.base + given - n.base = omega arith in
    ap (λ (k : ℕ). block_by n (held_at n (pieces_of n arrivals) k)) e

-- a reading of the clock, or the end
pub clock_keeps : (n : Intake) (arrivals : List Arrival) (a : Arrival) (last : ℕ)
    (slots : List Slot) (given closed upto : ℕ) → pieces_by n a ≡ clock_piece last ∷ []
    → upto ≡ min (last - n.hold) n.ticks → IsBuilder n arrivals slots given closed
    → IsBuilder n (arrivals ++ a ∷ []) slots given (max closed upto)
clock_keeps n arrivals a last slots given closed upto is e b =
    let more : pieces_of n (arrivals ++ a ∷ []) ≡ pieces_of n arrivals ++ clock_piece last ∷ [] =
    pieces_more n arrivals a ∙ ap (λ (ps : List Piece). pieces_of n arrivals ++ ps) is in
    record {
      numbers = b.numbers;
      closed_is = omega (
        arith,
        e,
        b.closed_is,
        ap (closed_by n) more,
        closed_append n (pieces_of n arrivals) (clock_piece last ∷ []),
      );
      handed = omega (arith, b.handed);
      slots_fit = b.slots_fit;
      window =
          subst (λ (ps : List Piece). IsWindow n (held_at n ps) given slots) (sym more)
          (window_same n (held_at n (pieces_of n arrivals))
          (held_at n (pieces_of n arrivals ++ clock_piece last ∷ [])) given slots
          (λ tick le lt f. sym (held_uncovered n (clock_piece last) (pieces_of n arrivals) tick f
          (clock_covers (tick_place n tick + f) last))) b.window);
    }

-- a packet that counts, while no closed tick is left
pub packet_window : (n : Intake) (ps : List Piece) (p : Piece) (slots : List Slot) (given : ℕ)
    → closed_by n ps ≤ given
    → IsWindow n (λ tick. added n p tick (held_at n ps tick)) given slots
    → IsWindow n (held_at n (ps ++ p ∷ [])) given slots
packet_window n ps p slots given le w =
    window_same n (λ tick. added n p tick (held_at n ps tick)) (held_at n (ps ++ p ∷ [])) given
    slots (λ tick from lt f. sym (held_open n p ps tick
    (open_from n tick ps (omega (arith, le, from)) lt) f)) w

-- a packet, while no closed tick is left
pub packet_keeps : (n : Intake) (arrivals : List Arrival) (a : Arrival) (old new : List Slot)
    (given closed upto : ℕ) → closed_by n (pieces_of n arrivals) ≡ given
    → upto ≡ closed_by n (pieces_by n a)
    → All (IsSlot n) new → ((ps : List Piece) → closed_by n ps ≡ given
    → IsWindow n (held_at n ps) given old → IsWindow n (held_at n (ps ++ pieces_by n a)) given new)
    → IsBuilder n arrivals old given closed
    → IsBuilder n (arrivals ++ a ∷ []) new given (max closed upto)
packet_keeps n arrivals a old new given closed upto drained e slots_fit w b =
    record {
      numbers = b.numbers;
      closed_is = omega (
        arith,
        e,
        b.closed_is,
        ap (closed_by n) (pieces_more n arrivals a),
        closed_append n (pieces_of n arrivals) (pieces_by n a),
      );
      handed = omega (arith, b.handed);
      slots_fit = slots_fit;
      window = subst (λ (ps : List Piece). IsWindow n (held_at n ps) given new)
          (sym (pieces_more n arrivals a)) (w (pieces_of n arrivals) drained b.window);
    }

pub drained_is : (n : Intake) (arrivals : List Arrival) (slots : List Slot) (given closed : ℕ)
    → IsDrained (record { intake = n; arrivals = arrivals; given = given })
    → IsBuilder n arrivals slots given closed → closed_by n (pieces_of n arrivals) ≡ given
drained_is n arrivals slots given closed d b = omega (arith, d, b.handed, b.closed_is)

-- before anything came nothing is held
begin_held : (n : Intake) (tick f : ℕ) → held_at n (pieces_of n []) tick f ≡ None
unfolding held_at pieces_of
begin_held n tick f = refl

pub begin_closed : (n : Intake) → 0 ≡ closed_by n (pieces_of n [])
unfolding pieces_of
begin_closed n = refl

pub builder_begins : (n : Intake) → IsIntake n → IsBuilder n [] [] 0 0
builder_begins n numbers = record {
  numbers = numbers;
  closed_is = begin_closed n;
  handed = omega arith;
  slots_fit = λ k d lt. absurd (omega (arith, lt));
  window = λ tick le lt f fl. begin_held n tick f;
}
