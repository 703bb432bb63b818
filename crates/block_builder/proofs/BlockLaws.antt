-- Laws of input blocks: what one piece or one arrival more makes of them.
use Rattle.std.proofs.Common.{◌≡◌, ℕ, ◌+◌, ◌-◌, ◌*◌, ◌<◌, ◌≤◌, Bool, true, false, cond, List, []}
use Rattle.std.proofs.Common.{◌∷◌, ◌++◌, length, append_assoc, ◌%◌, ◌^◌, Option, Some, None, refl}
use Rattle.std.proofs.Common.{sym, ap, ◌∙◌, ◌⊎◌, inl, inr, min, max, arith}
use Rattle.std.specs.Prelude.{◌||◌, ◌↔◌, option_and_then, is_some, IfSome, ℤ, pos, unwrap_or}
use Rattle.std.specs.Prelude.{replicate}
use Rattle.std.specs.List.{find, list_any, flat_map}
use Rattle.std.proofs.lemmas.List.{append-nil, length-replicate}
use Rattle.std.proofs.lemmas.List.FromFn.{length-map-range_with_len}
use Rattle.std.proofs.lemmas.List.Concat.{flat_map-cons}
use Rattle.std.proofs.lemmas.Grind.{flat_map-append}
use Rattle.std.proofs.lemmas.Bool.{cases_lt, or_parts, or_from, lt-ltb, le-ltb}
use Rattle.std.specs.Option.{option_map, option_or}
use Rattle.list_laws.proofs.Ranges.{flat_map_same, any_same}
use Rattle.block_builder.specs.declared.intake.Intake.{Intake}
use Rattle.io_caps.specs.declared.device.DeviceParts.{DeviceParts}
use Rattle.block_builder.specs.declared.arrival.Arrival.{Arrival}
use Rattle.block_builder.specs.declared.arrival.Arrival.TheVariants.{End}
use Rattle.block_builder.specs.Blocks.{Piece, Held, block_by, block_at, block_of, intake_of}
use Rattle.block_builder.specs.Blocks.{is_held, tick_samples, first_place, pieces_by, pieces_of}
use Rattle.block_builder.specs.Blocks.{is_closed, closed_by, closed_of, clock_piece, covers, closes}
use Rattle.block_builder.specs.Blocks.{decides, holder, held_at, piece_frame, tick_place}
use Rattle.block_builder.specs.Window.{added}
use Rattle.block_builder.proofs.Ranges.{flat_map_long}

-- ---- the holder of a frame

last_one : (c l : Bool) (p : Piece) (keep : Piece → Option Piece) → keep p ≡ cond c (Some p) None
    → option_and_then keep (cond (c || l) (Some p) None) ≡ cond c (Some p) None
last_one true l p keep e = e
last_one false true p keep e = e
last_one false false p keep e = refl

before_open : (c l : Bool) (q : Piece) (keep : Piece → Option Piece) (a b fresh : Option Piece)
    → keep q ≡ cond c (Some q) None → l ≡ false
    → option_and_then keep a ≡ option_or (option_and_then keep b) fresh
    → option_and_then keep (cond (c || l) (Some q) a)
    ≡ option_or (option_and_then keep (cond (c || l) (Some q) b)) fresh
before_open true l q keep a b fresh e n h = rw e refl
before_open false true q keep a b fresh e n h = absurd cc
before_open false false q keep a b fresh e n h = h

-- an open tick: the first that covers a frame holds it
pub holder_open : (n : Intake) (tick place : ℕ) (p : Piece) (ps : List Piece)
    → list_any (closes n tick) ps ≡ false
    → holder n (ps ++ p ∷ []) tick place
    ≡ option_or (holder n ps tick place) (cond (covers place p) (Some p) None)
holder_open n tick place p [] h =
    last_one (covers place p) (closes n tick p) p (λ q. cond (covers place q) (Some q) None) refl
holder_open n tick place p (q ∷ qs) h =
    let both = or_parts (closes n tick q) (list_any (closes n tick) qs) h in
    before_open (covers place q) (closes n tick q) q (λ r. cond (covers place r) (Some r) None)
    (find (decides n tick place) (qs ++ p ∷ [])) (find (decides n tick place) qs)
    (cond (covers place p) (Some p) None) refl both.0
    (holder_open n tick place p qs both.1)

before_closed : (c l m : Bool) (q : Piece) (keep : Piece → Option Piece) (a b : Option Piece)
    → (l || m) ≡ true
    → (m ≡ true → option_and_then keep a ≡ option_and_then keep b)
    → option_and_then keep (cond (c || l) (Some q) a)
    ≡ option_and_then keep (cond (c || l) (Some q) b)
before_closed true l m q keep a b h g = refl
before_closed false true m q keep a b h g = refl
before_closed false false m q keep a b h g = g h

-- a closed tick: nothing that comes later changes it
pub holder_closed : (n : Intake) (tick place : ℕ) (more ps : List Piece)
    → list_any (closes n tick) ps ≡ true
    → holder n (ps ++ more) tick place ≡ holder n ps tick place
holder_closed n tick place more [] h = absurd cc
holder_closed n tick place more (q ∷ qs) h =
    before_closed (covers place q) (closes n tick q) (list_any (closes n tick) qs) q
    (λ r. cond (covers place r) (Some r) None)
    (find (decides n tick place) (qs ++ more)) (find (decides n tick place) qs) h
    (holder_closed n tick place more qs)

before_uncovered : (c l : Bool) (q : Piece) (keep : Piece → Option Piece) (a b : Option Piece)
    → option_and_then keep a ≡ option_and_then keep b
    → option_and_then keep (cond (c || l) (Some q) a)
    ≡ option_and_then keep (cond (c || l) (Some q) b)
before_uncovered true l q keep a b h = refl
before_uncovered false true q keep a b h = refl
before_uncovered false false q keep a b h = h

-- what covers no frame of a tick changes none of it
pub holder_uncovered : (n : Intake) (tick place : ℕ) (p : Piece) (ps : List Piece)
    → covers place p ≡ false
    → holder n (ps ++ p ∷ []) tick place ≡ holder n ps tick place
holder_uncovered n tick place p [] h =
    last_one (covers place p) (closes n tick p) p (λ q. cond (covers place q) (Some q) None) refl
    ∙ ap (λ (b : Bool). cond b (Some p) None) h
holder_uncovered n tick place p (q ∷ qs) h =
    before_uncovered (covers place q) (closes n tick q) q (λ r. cond (covers place r) (Some r) None)
    (find (decides n tick place) (qs ++ p ∷ [])) (find (decides n tick place) qs)
    (holder_uncovered n tick place p qs h)

-- ---- what a frame holds

map_either : (f : Piece → List ℤ) (o : Option Piece) (c : Bool) (p : Piece)
    → option_map f (option_or o (cond c (Some p) None))
    ≡ option_or (option_map f o) (cond c (Some (f p)) None)
map_either f None true p = refl
map_either f None false p = refl
map_either f (Some q) c p = refl

pub held_open : (n : Intake) (p : Piece) (ps : List Piece) (tick : ℕ)
    → list_any (closes n tick) ps ≡ false → (frame : ℕ)
    → held_at n (ps ++ p ∷ []) tick frame ≡ added n p tick (held_at n ps tick) frame
unfolding held_at
held_open n p ps tick h frame =
    ap (option_map (piece_frame n (tick_place n tick + frame)))
    (holder_open n tick (tick_place n tick + frame) p ps h)
    ∙ map_either (piece_frame n (tick_place n tick + frame))
    (holder n ps tick (tick_place n tick + frame)) (covers (tick_place n tick + frame) p) p

pub held_closed : (n : Intake) (more ps : List Piece) (tick : ℕ)
    → list_any (closes n tick) ps ≡ true → (frame : ℕ)
    → held_at n (ps ++ more) tick frame ≡ held_at n ps tick frame
unfolding held_at
held_closed n more ps tick h frame =
    ap (option_map (piece_frame n (tick_place n tick + frame)))
    (holder_closed n tick (tick_place n tick + frame) more ps h)

pub held_uncovered : (n : Intake) (p : Piece) (ps : List Piece) (tick frame : ℕ)
    → covers (tick_place n tick + frame) p ≡ false
    → held_at n (ps ++ p ∷ []) tick frame ≡ held_at n ps tick frame
unfolding held_at
held_uncovered n p ps tick frame h =
    ap (option_map (piece_frame n (tick_place n tick + frame)))
    (holder_uncovered n tick (tick_place n tick + frame) p ps h)

-- a reading of the clock covers nothing
pub clock_covers : (place tick : ℕ) → covers place (clock_piece tick) ≡ false
clock_covers place tick = grind arith

-- ---- one arrival more

pub pieces_more : (n : Intake) (arrivals : List Arrival) (a : Arrival)
    → pieces_of n (arrivals ++ a ∷ []) ≡ pieces_of n arrivals ++ pieces_by n a
unfolding pieces_of
pieces_more n arrivals a =
    flat_map-append (pieces_by n) arrivals (a ∷ [])
    ∙ ap (λ (ps : List Piece). flat_map (pieces_by n) arrivals ++ ps)
    (flat_map-cons (pieces_by n) a [] ∙ append-nil (pieces_by n a))

-- ---- closed ticks

pub closed_append : (n : Intake) (ps qs : List Piece)
    → closed_by n (ps ++ qs) ≡ max (closed_by n ps) (closed_by n qs)
closed_append n [] qs = omega arith
closed_append n (p ∷ ps) qs = omega (arith, closed_append n ps qs)

pub closed_le : (n : Intake) (ps : List Piece) → closed_by n ps ≤ n.ticks
closed_le n [] = omega arith
closed_le n (p ∷ ps) = omega (arith, closed_le n ps)

pub open_from : (n : Intake) (tick : ℕ) (ps : List Piece) → closed_by n ps ≤ tick → tick < n.ticks
    → list_any (closes n tick) ps ≡ false
open_from n tick [] le lt = refl
open_from n tick (p ∷ ps) le lt =
    or_from (closes n tick p) (list_any (closes n tick) ps)
    (le-ltb (tick + n.hold) p.last (omega (arith, le, lt)))
    (open_from n tick ps (omega (arith, le)) lt)

or_true : (a b : Bool) → (a ≡ true) ⊎ (b ≡ true) → (a || b) ≡ true
or_true a b (inl e) = rw e refl
or_true true b (inr f) = refl
or_true false b (inr f) = f

closed_by_one : (n : Intake) (tick : ℕ) (p : Piece) (rest : ℕ)
    → tick < max (min n.ticks (p.last - n.hold)) rest → (rest ≤ tick) ⊎ (tick < rest)
    → (closes n tick p ≡ true) ⊎ (tick < rest)
closed_by_one n tick p rest lt (inl le) =
    inl (lt-ltb (tick + n.hold) p.last (omega (arith, lt, le)))
closed_by_one n tick p rest lt (inr more) = inr more

closed_step : (n : Intake) (tick : ℕ) (p : Piece) (ps : List Piece)
    → (tick < closed_by n ps → list_any (closes n tick) ps ≡ true)
    → (closes n tick p ≡ true) ⊎ (tick < closed_by n ps) → list_any (closes n tick) (p ∷ ps) ≡ true
closed_step n tick p ps more (inl e) =
    or_true (closes n tick p) (list_any (closes n tick) ps) (inl e)
closed_step n tick p ps more (inr lt) =
    or_true (closes n tick p) (list_any (closes n tick) ps) (inr (more lt))

le_or : (a b : ℕ) → (b ≤ a) ⊎ (a < b)
le_or a b = elim (cases_lt a b) [
  | inl lt ↦ inr lt
  | inr le ↦ inl le
]

pub closed_below : (n : Intake) (tick : ℕ) (ps : List Piece) → tick < closed_by n ps
    → list_any (closes n tick) ps ≡ true
closed_below n tick [] lt = absurd (omega (arith, lt))
closed_below n tick (p ∷ ps) lt =
    closed_step n tick p ps (closed_below n tick ps)
    (closed_by_one n tick p (closed_by n ps) lt (le_or tick (closed_by n ps)))

-- ---- blocks

pieces_append : (n : Intake) (xs ys : List Arrival)
    → pieces_of n (xs ++ ys) ≡ pieces_of n xs ++ pieces_of n ys
unfolding pieces_of
pieces_append n xs ys = flat_map-append (pieces_by n) xs ys

block_by_same : (n : Intake) (c d : Held) → ((f : ℕ) → c f ≡ d f) → block_by n c ≡ block_by n d
block_by_same n c d h =
    ap (λ (b : Bool). cond b (Some (tick_samples n c)) None)
    (any_same (λ f. is_some (c f)) (λ f. is_some (d f)) 0 n.frames (λ f _ _. ap is_some (h f)))
    ∙ ap (λ (s : List ℤ). cond (is_held n d) (Some s) None)
    (flat_map_same (λ f. unwrap_or (c f) (replicate n.channels (pos 0)))
    (λ f. unwrap_or (d f) (replicate n.channels (pos 0))) 0 n.frames
    (λ f _ _. ap (λ (o : Option (List ℤ)). unwrap_or o (replicate n.channels (pos 0))) (h f)))

-- The block of a closed tick is settled: whatever comes later leaves it.
pub block_stays : (n : Intake) (arrivals more : List Arrival) (tick : ℕ)
    → tick - n.base < closed_by n (pieces_of n arrivals)
    → block_at n (arrivals ++ more) tick ≡ block_at n arrivals tick
unfolding block_at
block_stays n arrivals more tick lt =
    block_by_same n (held_at n (pieces_of n (arrivals ++ more)) (tick - n.base))
    (held_at n (pieces_of n arrivals) (tick - n.base))
    (λ f. ap (λ (ps : List Piece). held_at n ps (tick - n.base) f) (pieces_append n arrivals more)
    ∙ held_closed n (pieces_of n more) (pieces_of n arrivals) (tick - n.base)
    (closed_below n (tick - n.base) (pieces_of n arrivals) lt) f)

-- A reading of the clock or the end that comes last changes no block.
pub block_mark : (n : Intake) (arrivals : List Arrival) (a : Arrival) (last tick : ℕ)
    → pieces_by n a ≡ clock_piece last ∷ []
    → block_at n (arrivals ++ a ∷ []) tick ≡ block_at n arrivals tick
unfolding block_at
block_mark n arrivals a last tick is =
    block_by_same n (held_at n (pieces_of n (arrivals ++ a ∷ [])) (tick - n.base))
    (held_at n (pieces_of n arrivals) (tick - n.base))
    (λ f. ap (λ (ps : List Piece). held_at n ps (tick - n.base) f)
    (pieces_more n arrivals a ∙ ap (λ (ps : List Piece). pieces_of n arrivals ++ ps) is)
    ∙ held_uncovered n (clock_piece last) (pieces_of n arrivals) (tick - n.base) f
    (clock_covers (tick_place n (tick - n.base) + f) last))

-- The end closes all ticks of the session.
pub end_closes : (n : Intake) (arrivals : List Arrival)
    → closed_by n (pieces_of n (arrivals ++ End ∷ [])) ≡ n.ticks
end_closes n arrivals =
    omega (
      arith,
      ap (closed_by n) (pieces_more n arrivals End),
      closed_append n (pieces_of n arrivals) (pieces_by n End),
      closed_le n (pieces_of n arrivals),
    )

-- What comes after the end changes no block of the session.
pub block_end : (n : Intake) (arrivals after : List Arrival) (tick : ℕ) → tick - n.base < n.ticks
    → block_at n (arrivals ++ (End ∷ [] ++ after)) tick ≡ block_at n arrivals tick
block_end n arrivals after tick lt =
    ap (λ (all : List Arrival). block_at n all tick) (sym (append_assoc arrivals (End ∷ []) after))
    ∙ block_stays n (arrivals ++ End ∷ []) after tick (omega (arith, lt, end_closes n arrivals))
    ∙ block_mark n arrivals End (n.ticks + n.hold) tick refl

-- Closed ticks stay closed.
pub closed_grows : (n : Intake) (arrivals more : List Arrival)
    → closed_of n arrivals ≤ closed_of n (arrivals ++ more)
closed_grows n arrivals more =
    omega (
      arith,
      ap (closed_by n) (pieces_append n arrivals more),
      closed_append n (pieces_of n arrivals) (pieces_of n more),
    )

closed_or : (n : Intake) (tick : ℕ) (ps : List Piece) → tick < n.ticks → is_closed n ps tick ≡ true
    → (tick < closed_by n ps) ⊎ (closed_by n ps ≤ tick) → tick < closed_by n ps
closed_or n tick ps lt is (inl below) = below
closed_or n tick ps lt is (inr le) = let no = open_from n tick ps le lt in absurd cc

-- The closed ticks of a session are its first ones, as many as are closed.
pub closed_are : (n : Intake) (tick : ℕ) (ps : List Piece) → tick < n.ticks
    → (is_closed n ps tick ≡ true) ↔ (tick < closed_by n ps)
closed_are n tick ps lt = (
  λ is. closed_or n tick ps lt is (cases_lt tick (closed_by n ps)),
  closed_below n tick ps,
)

-- ---- the shape of a block

map_long : (f : Piece → List ℤ) (o : Option Piece) (k : ℕ) → ((p : Piece) → length (f p) ≡ k)
    → IfSome (option_map f o) (λ x. length x ≡ k)
map_long f None k h = tt
map_long f (Some p) k h = h p

held_long : (n : Intake) (ps : List Piece) (tick frame : ℕ)
    → IfSome (held_at n ps tick frame) (λ x. length x ≡ n.channels)
unfolding held_at
held_long n ps tick frame =
    let place = tick_place n tick + frame in
    map_long (piece_frame n place) (holder n ps tick place) n.channels
    (λ p. length-map-range_with_len _ 0 n.channels)

frame_long : (k : ℕ) (o : Option (List ℤ)) → IfSome o (λ x. length x ≡ k)
    → length (unwrap_or o (replicate k (pos 0))) ≡ k
frame_long k None h = length-replicate k (pos 0)
frame_long k (Some x) h = h

block_is : (b : Bool) (samples block : List ℤ) → cond b (Some samples) None ≡ Some block
    → block ≡ samples
block_is true samples block e = cc
block_is false samples block e = absurd cc

-- A block has a sample for each channel of each frame.
pub block_long : (n : Intake) (arrivals : List Arrival) (tick : ℕ) (block : List ℤ)
    → block_at n arrivals tick ≡ Some block → length block ≡ n.frames * n.channels
unfolding block_at
block_long n arrivals tick block e =
    let held = held_at n (pieces_of n arrivals) (tick - n.base) in
    let silence = replicate n.channels (pos 0) in
    ap length (block_is (is_held n held) (tick_samples n held) block e)
    ∙ flat_map_long (λ f. unwrap_or (held f) silence) n.channels 0 n.frames
    (λ f _ _. frame_long n.channels (held f) (held_long n (pieces_of n arrivals) (tick - n.base) f))

-- ---- by a device's parts

of_some : {X Y : Type 0} (f : X → Option Y) (o : Option X) (x : X) → o ≡ Some x
    → option_and_then f o ≡ f x
of_some f None x e = absurd cc
of_some f (Some y) x e = let same : y ≡ x = cc in ap f same

-- The block of a device's input is that by what rules it.
pub block_of_is : (d : DeviceParts) (input ticks : ℕ) (n : Intake) (arrivals : List Arrival)
    (tick : ℕ) → intake_of d input ticks ≡ Some n
    → block_of d input ticks arrivals tick ≡ block_at n arrivals tick
block_of_is d input ticks n arrivals tick e =
    of_some (λ (k : Intake). block_at k arrivals tick) (intake_of d input ticks) n e

-- ---- the place of a first frame

place_is : (r timestamp : ℕ) → (r + (timestamp + 2 ^ 31 + (2 ^ 32 - r % 2 ^ 32)) % 2 ^ 32) % 2 ^ 32
    ≡ (timestamp + 2 ^ 31) % 2 ^ 32
place_is r timestamp = omega arith

-- It is below 2^32, and that many frames after the place 2^31 frames before the session's first
-- one the packet's timestamp
-- stands: the only such place. (RFC 3550, section 5.1)
pub first_place_is : (n : Intake) (timestamp : ℕ)
    → (n.base * n.frames + first_place n timestamp) % 2 ^ 32 ≡ (timestamp + 2 ^ 31) % 2 ^ 32
first_place_is n timestamp = place_is (n.base * n.frames) timestamp
