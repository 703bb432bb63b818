-- All arrivals looked at for one frame, and all frames of a tick.
use Rattle.std.proofs.Common.{◌≡◌, ℕ, suc, ◌<◌, ◌≤◌, ◌+◌, Bool, true, false, cond, List, [], ◌∷◌}
use Rattle.std.proofs.Common.{◌++◌, length, drop, get_or, Option, Some, None, refl, sym, ap, ◌∙◌}
use Rattle.std.proofs.Common.{arith}
use Rattle.std.specs.Prelude.{◌||◌, ◌-◌, ◌*◌, is_some, option_and_then, pos, replicate, unwrap_or}
use Rattle.std.specs.Prelude.{ℤ}
use Rattle.std.specs.List.{find, flat_map, list_any, range_with_len}
use Rattle.std.specs.Option.{option_map}
use Rattle.std.proofs.Common.{zero-add}
use Rattle.std.proofs.Math.Nat.{add-mul, mul-le-mul}
use Rattle.std.proofs.lemmas.List.{drop_all}
use Rattle.std.proofs.lemmas.List.Concat.{flat_map-cons}
use Rattle.std.proofs.Math.Seq.{drop-cons}
use Rattle.list_laws.proofs.Ranges.{range_parts, flat_map_more}
use Rattle.io_caps.specs.declared.device.DeviceParts.{DeviceParts}
use Rattle.block_builder.specs.declared.arrival.Arrival.{Arrival}
use Rattle.block_builder.specs.declared.intake.Intake.{Intake}
use Rattle.block_builder.specs.Blocks.{Piece, Held, block_at, block_by, block_of, intake_of, closes}
use Rattle.block_builder.specs.Blocks.{covers, decides, held_at, holder, is_held, piece_frame}
use Rattle.block_builder.specs.Blocks.{pieces_by, pieces_of, tick_place}
use Rattle.block_builder.proofs.BlockLaws.{block_of_is}
use Rattle.block_builder.proofs.Runs.{intake_ticks}
use Rattle.block_builder.proofs.Holders.{found_here, goes_on, keep, kept}

pieces_first : (n : Intake) (a : Arrival) (rest : List Arrival)
    → pieces_of n (a ∷ rest) ≡ pieces_by n a ++ pieces_of n rest
unfolding pieces_of
pieces_first n a rest = flat_map-cons (pieces_by n) a rest

-- the arrivals from a place on
next_is : (arrivals : List Arrival) (i : ℕ) (a : Arrival) → i < length arrivals
    → a ≡ get_or arrivals i a → drop i arrivals ≡ a ∷ drop (i + 1) arrivals
next_is arrivals i a lt is =
    let e : suc i ≡ i + 1 = omega arith in
    drop-cons arrivals i a lt ∙ ap (λ (b : Arrival). b ∷ drop (suc i) arrivals) (sym is)
    ∙ ap (λ (k : ℕ). a ∷ drop k arrivals) e

pieces_next : (n : Intake) (arrivals : List Arrival) (i : ℕ) (a : Arrival) (ps : List Piece)
    → i < length arrivals → a ≡ get_or arrivals i a → ps ≡ pieces_by n a
    → pieces_of n (drop i arrivals) ≡ ps ++ pieces_of n (drop (i + 1) arrivals)
pieces_next n arrivals i a ps lt is brings =
    ap (pieces_of n) (next_is arrivals i a lt is) ∙ pieces_first n a (drop (i + 1) arrivals)
    ∙ ap (λ (qs : List Piece). qs ++ pieces_of n (drop (i + 1) arrivals)) (sym brings)

-- an arrival that brings nothing
pub passes_none : (n : Intake) (arrivals : List Arrival) (tick place i : ℕ) (a : Arrival)
    → i < length arrivals → a ≡ get_or arrivals i a → [] ≡ pieces_by n a
    → holder n (pieces_of n (drop i arrivals)) tick place
    ≡ holder n (pieces_of n (drop (i + 1) arrivals)) tick place
passes_none n arrivals tick place i a lt is brings =
    ap (λ (ps : List Piece). holder n ps tick place) (pieces_next n arrivals i a [] lt is brings)

-- a piece that decides nothing
pub passes_piece : (n : Intake) (arrivals : List Arrival) (tick place i : ℕ) (a : Arrival)
    (p : Piece) → i < length arrivals → a ≡ get_or arrivals i a → p ∷ [] ≡ pieces_by n a
    → covers place p ≡ false → closes n tick p ≡ false
    → holder n (pieces_of n (drop i arrivals)) tick place
    ≡ holder n (pieces_of n (drop (i + 1) arrivals)) tick place
passes_piece n arrivals tick place i a p lt is brings uncovered opened =
    ap (λ (ps : List Piece). holder n ps tick place)
    (pieces_next n arrivals i a (p ∷ []) lt is brings)
    ∙ goes_on place p (covers place p) (closes n tick p)
    (find (decides n tick place) (pieces_of n (drop (i + 1) arrivals))) uncovered opened

-- a packet that covers the frame
pub finds : (n : Intake) (arrivals : List Arrival) (tick place i : ℕ) (a : Arrival) (p : Piece)
    → i < length arrivals → a ≡ get_or arrivals i a → p ∷ [] ≡ pieces_by n a
    → covers place p ≡ true → holder n (pieces_of n (drop i arrivals)) tick place ≡ Some p
finds n arrivals tick place i a p lt is brings covered =
    ap (λ (ps : List Piece). holder n ps tick place)
    (pieces_next n arrivals i a (p ∷ []) lt is brings)
    ∙ found_here place p (covers place p) (closes n tick p)
    (find (decides n tick place) (pieces_of n (drop (i + 1) arrivals))) (kept place p true covered)
    covered

stops_here : (place : ℕ) (p : Piece) (c l : Bool) (rest : Option Piece) → keep place p ≡ None
    → c ≡ false → l ≡ true → option_and_then (keep place) (cond (c || l) (Some p) rest) ≡ None
stops_here place p true l rest k e f = absurd cc
stops_here place p false true rest k e f = k
stops_here place p false false rest k e f = absurd cc

-- a piece that closes the tick
pub stops : (n : Intake) (arrivals : List Arrival) (tick place i : ℕ) (a : Arrival) (p : Piece)
    → i < length arrivals → a ≡ get_or arrivals i a → p ∷ [] ≡ pieces_by n a
    → covers place p ≡ false → closes n tick p ≡ true
    → holder n (pieces_of n (drop i arrivals)) tick place ≡ None
stops n arrivals tick place i a p lt is brings uncovered closed =
    ap (λ (ps : List Piece). holder n ps tick place)
    (pieces_next n arrivals i a (p ∷ []) lt is brings)
    ∙ stops_here place p (covers place p) (closes n tick p)
    (find (decides n tick place) (pieces_of n (drop (i + 1) arrivals)))
    (kept place p false uncovered) uncovered closed

none_left : (n : Intake) (tick place : ℕ) → holder n (pieces_of n []) tick place ≡ None
unfolding pieces_of
none_left n tick place = refl

-- no arrival is left
pub ends_none : (n : Intake) (arrivals : List Arrival) (tick place i : ℕ) → length arrivals ≤ i
    → holder n (pieces_of n (drop i arrivals)) tick place ≡ None
ends_none n arrivals tick place i le =
    ap (λ (xs : List Arrival). holder n (pieces_of n xs) tick place) (drop_all i arrivals le)
    ∙ none_left n tick place

-- a frame of a packet whose frames are all there
pub frame_within : (place first count bytes len : ℕ) → first ≤ place → place < first + count
    → count * bytes ≤ len → (place - first) * bytes + bytes ≤ len
frame_within place first count bytes len from to whole =
    let more : place - first + 1 ≤ count = omega (arith, from, to) in
    let b : (place - first + 1) * bytes ≤ count * bytes = mul-le-mul more (omega arith) in
    omega (arith, b, add-mul (place - first) 1 bytes, whole)

-- what was found for the frame
pub held_is : (n : Intake) (ps : List Piece) (tick frame : ℕ) (o : Option Piece)
    → o ≡ holder n ps tick (tick_place n tick + frame)
    → option_map (piece_frame n (tick_place n tick + frame)) o ≡ held_at n ps tick frame
unfolding held_at
held_is n ps tick frame o e = ap (option_map (piece_frame n (tick_place n tick + frame))) e

-- ---- the frames of a tick

any_push : (g : ℕ → Bool) (xs : List ℕ) (k : ℕ) → list_any g (xs ++ k ∷ []) ≡ (list_any g xs || g k)
any_push g [] k = grind arith
any_push g (x ∷ xs) k = grind (arith, any_push g xs k)

pub any_more : (g : ℕ → Bool) (k : ℕ)
    → list_any g (range_with_len 0 (k + 1)) ≡ (list_any g (range_with_len 0 k) || g k)
any_more g k =
    let z : 0 + k ≡ k = zero-add k in
    ap (list_any g) (range_parts 0 k 1 ∙ ap (λ (j : ℕ). range_with_len 0 k ++ j ∷ []) z)
    ∙ any_push g (range_with_len 0 k) k

-- how far the loop has come
pub record IsGathered (n : Intake) (held : Held) (frame : ℕ) (samples : List ℤ) (is_held : Bool) :
    Type 0 where
  pub upto : frame ≤ n.frames
  pub samples_are : samples ≡ flat_map (λ f. unwrap_or (held f) (replicate n.channels (pos 0)))
      (range_with_len 0 frame)
  pub flag : is_held ≡ list_any (λ f. is_some (held f)) (range_with_len 0 frame)

pub gather_begins : (n : Intake) (held : Held) → IsGathered n held 0 [] false
gather_begins n held = record { upto = omega arith; samples_are = refl; flag = refl }

gather_more : (n : Intake) (held : Held) (frame : ℕ) (samples x : List ℤ) (was is : Bool)
    → frame < n.frames → x ≡ unwrap_or (held frame) (replicate n.channels (pos 0))
    → is ≡ (was || is_some (held frame))
    → IsGathered n held frame samples was → IsGathered n held (frame + 1) (samples ++ x) is
gather_more n held frame samples x was is lt read e so_far = record {
  upto = omega (arith, lt);
  samples_are =
      ap (λ (s : List ℤ). s ++ x) so_far.samples_are
      ∙ ap (λ (s : List ℤ). flat_map (λ f. unwrap_or (held f) (replicate n.channels (pos 0)))
      (range_with_len 0 frame) ++ s) read
      ∙ sym (flat_map_more (λ f. unwrap_or (held f) (replicate n.channels (pos 0))) frame);
  flag = e ∙ ap (λ (b : Bool). b || is_some (held frame)) so_far.flag
      ∙ sym (any_more (λ f. is_some (held f)) frame);
}

some_flag : (was : Bool) (o : Option (List ℤ)) (x : List ℤ) → o ≡ Some x → true ≡ (was || is_some o)
some_flag true o x e = refl
some_flag false o x e = sym (ap is_some e)

none_flag : (was : Bool) (o : Option (List ℤ)) → o ≡ None → was ≡ (was || is_some o)
none_flag true o e = refl
none_flag false o e = sym (ap is_some e)

pub gather_some : (n : Intake) (held : Held) (frame : ℕ) (samples x : List ℤ) (was : Bool)
    → frame < n.frames → held frame ≡ Some x → IsGathered n held frame samples was
    → IsGathered n held (frame + 1) (samples ++ x) true
gather_some n held frame samples x was lt e so_far =
    gather_more n held frame samples x was true lt
    (sym (ap (λ (o : Option (List ℤ)). unwrap_or o (replicate n.channels (pos 0))) e))
    (some_flag was (held frame) x e) so_far

pub gather_none : (n : Intake) (held : Held) (frame : ℕ) (samples x : List ℤ) (was : Bool)
    → frame < n.frames → held frame ≡ None → x ≡ replicate n.channels (pos 0)
    → IsGathered n held frame samples was
    → IsGathered n held (frame + 1) (samples ++ x) was
gather_none n held frame samples x was lt e silent so_far =
    gather_more n held frame samples x was was lt
    (silent ∙ sym (ap (λ (o : Option (List ℤ)). unwrap_or o (replicate n.channels (pos 0))) e))
    (none_flag was (held frame) e) so_far

pub gather_ends : (n : Intake) (held : Held) (frame : ℕ) (samples : List ℤ) (is : Bool)
    → n.frames ≤ frame → IsGathered n held frame samples is
    → cond is (Some samples) None ≡ block_by n held
gather_ends n held frame samples is le all =
    let e : frame ≡ n.frames = omega (arith, le, all.upto) in
    ap (λ (b : Bool). cond b (Some samples) None)
    (all.flag ∙ ap (λ (k : ℕ). list_any (λ f. is_some (held f)) (range_with_len 0 k)) e)
    ∙ ap (λ (s : List ℤ). cond (is_held n held) (Some s) None)
    (all.samples_are ∙ ap (λ (k : ℕ).
    flat_map (λ f. unwrap_or (held f) (replicate n.channels (pos 0))) (range_with_len 0 k)) e)

-- the block by a device's parts
pub by_rule : (d : DeviceParts) (input ticks : ℕ) (n : Intake) (arrivals : List Arrival)
    (tick base : ℕ) → intake_of d input ticks ≡ Some n → base ≡ d.base
    → block_by n (held_at n (pieces_of n arrivals) (tick - base))
    ≡ block_of d input ticks arrivals tick
unfolding block_at
by_rule d input ticks n arrivals tick base known is =
    let numbers = intake_ticks d input ticks n known in
    ap (λ (b : ℕ). block_by n (held_at n (pieces_of n arrivals) (tick - b))) (is ∙ sym numbers.1)
    ∙ sym (block_of_is d input ticks n arrivals tick known)
