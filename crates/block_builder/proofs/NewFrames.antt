-- How many frames a packet is the first to hold: by the definition, and by what is held.
use Rattle.std.proofs.Common.{◌≡◌, ℕ, ◌+◌, ◌-◌, ◌≤◌, Bool, true, false, cond, not, List, [], ◌∷◌}
use Rattle.std.proofs.Common.{◌++◌, Option, Some, None, arith, ℤ, refl, sym, ap, ◌∙◌, zero-add}
use Rattle.std.specs.Prelude.{◌&&◌, ◌||◌, option_and_then, is_some}
use Rattle.std.specs.Option.{option_map}
use Rattle.std.specs.List.{find, list_any, count_by, sum_by, range_with_len}
use Rattle.std.proofs.lemmas.List.Sums.{sum_by-append}
use Rattle.std.proofs.lemmas.Bool.{or_parts}
use Rattle.list_laws.proofs.Ranges.{range_parts}
use Rattle.block_builder.specs.declared.intake.Intake.{Intake}
use Rattle.rtp_pcm.specs.declared.packet.Head.{Head}
use Rattle.block_builder.specs.Blocks.{Piece, closed_by, closes, covers, decides, holder, held_at}
use Rattle.block_builder.specs.Blocks.{piece_frame, tick_place, counts, packet_pieces, piece_at}
use Rattle.block_builder.specs.Blocks.{first_place}
use Rattle.block_builder.specs.Taken.{is_new, new_frames}
use Rattle.block_builder.specs.Window.{is_fresh, fresh_from}
use Rattle.block_builder.proofs.Ranges.{count_none, sum_none, sum_same}
use Rattle.block_builder.proofs.Fresh.{fresh_by}
use Rattle.block_builder.proofs.BlockLaws.{closed_below, open_from, closed_le}

some_map : (g : Piece → List ℤ) (o : Option Piece) → is_some (option_map g o) ≡ is_some o
some_map g None = refl
some_map g (Some p) = refl

some_step : (c l : Bool) (q : Piece) (keep : Piece → Option Piece) (a : Option Piece) (rest : Bool)
    → keep q ≡ cond c (Some q) None → l ≡ false → is_some (option_and_then keep a) ≡ rest
    → is_some (option_and_then keep (cond (c || l) (Some q) a)) ≡ ((c || l) || rest)
some_step true l q keep a rest e n h = ap is_some e
some_step false true q keep a rest e n h = absurd cc
some_step false false q keep a rest e n h = h

holder_some : (n : Intake) (tick place : ℕ) (ps : List Piece) → list_any (closes n tick) ps ≡ false
    → is_some (holder n ps tick place) ≡ list_any (decides n tick place) ps
holder_some n tick place [] h = refl
holder_some n tick place (q ∷ qs) h =
    let both = or_parts (closes n tick q) (list_any (closes n tick) qs) h in
    some_step (covers place q) (closes n tick q) q (λ r. cond (covers place r) (Some r) None)
    (find (decides n tick place) qs) (list_any (decides n tick place) qs) refl both.0
    (holder_some n tick place qs both.1)

held_some : (n : Intake) (ps : List Piece) (tick frame : ℕ) → list_any (closes n tick) ps ≡ false
    → is_some (held_at n ps tick frame) ≡ list_any (decides n tick (tick_place n tick + frame)) ps
unfolding held_at
held_some n ps tick frame h = some_map (piece_frame n (tick_place n tick + frame))
    (holder n ps tick (tick_place n tick + frame))
    ∙ holder_some n tick (tick_place n tick + frame) ps h

decided_step : (c l m rest : Bool) → (l || m) ≡ true → (m ≡ true → rest ≡ true)
    → ((c || l) || rest) ≡ true
decided_step true l m rest h g = refl
decided_step false true m rest h g = refl
decided_step false false m rest h g = g h

closed_decided : (n : Intake) (tick place : ℕ) (ps : List Piece)
    → list_any (closes n tick) ps ≡ true → list_any (decides n tick place) ps ≡ true
closed_decided n tick place [] h = absurd cc
closed_decided n tick place (q ∷ qs) h =
    decided_step (covers place q) (closes n tick q) (list_any (closes n tick) qs)
    (list_any (decides n tick place) qs) h (closed_decided n tick place qs)

not_new : (c d : Bool) → d ≡ true → (c && not d) ≡ false
not_new true true h = refl
not_new true false h = absurd cc
not_new false d h = refl

closed_none : (n : Intake) (ps : List Piece) (p : Piece) (tick : ℕ)
    → list_any (closes n tick) ps ≡ true
    → count_by (is_new n ps p tick) (range_with_len 0 n.frames) ≡ 0
closed_none n ps p tick h =
    count_none (is_new n ps p tick) 0 n.frames
    (λ f le lt. not_new (covers (tick_place n tick + f) p)
    (list_any (decides n tick (tick_place n tick + f)) ps)
    (closed_decided n tick (tick_place n tick + f) ps h))

open_same : (n : Intake) (ps : List Piece) (p : Piece) (tick : ℕ)
    → list_any (closes n tick) ps ≡ false
    → count_by (is_new n ps p tick) (range_with_len 0 n.frames) ≡ fresh_by n p (held_at n ps) tick
open_same n ps p tick h =
    sum_same (λ f. cond (is_new n ps p tick f) 1 0)
    (λ f. cond (is_fresh n p tick (held_at n ps tick) f) 1 0) 0 n.frames
    (λ f le lt. ap (λ (d : Bool). cond (covers (tick_place n tick + f) p && not d) 1 0)
    (sym (held_some n ps tick f h)))

pub new_is_fresh : (n : Intake) (ps : List Piece) (p : Piece) (given : ℕ) → closed_by n ps ≡ given
    → new_frames n ps p ≡ fresh_from n p (held_at n ps) given
unfolding new_frames
new_is_fresh n ps p given e =
    let le : given ≤ n.ticks = omega (arith, e, closed_le n ps) in
    let t : n.ticks ≡ given + (n.ticks - given) = omega (arith, le) in
    let z : 0 + given ≡ given = zero-add given in
    let count = λ (tick : ℕ). count_by (is_new n ps p tick) (range_with_len 0 n.frames) in
    let split = ap (range_with_len 0) t ∙ range_parts 0 given (n.ticks - given)
    ∙ ap (λ (k : ℕ). range_with_len 0 given ++ range_with_len k (n.ticks - given)) z in
    let sum = ap (sum_by count) split
    ∙ sum_by-append count (range_with_len 0 given) (range_with_len given (n.ticks - given)) in
    let none = sum_none count 0 given
    (λ k _ lt. closed_none n ps p k (closed_below n k ps (omega (arith, lt, e)))) in
    let more = sum_same count (fresh_by n p (held_at n ps)) given (n.ticks - given)
    (λ k from lt. open_same n ps p k
    (open_from n k ps (omega (arith, from, e)) (omega (arith, lt, le)))) in
    omega (arith, sum, none, more)

-- ---- what a packet brings

pub not_counted : (n : Intake) (head : Head) (payload : List ℕ) → counts n head payload ≡ false
    → packet_pieces n head payload ≡ []
not_counted n head payload h =
    ap (λ (b : Bool). cond b (piece_at n (first_place n head.timestamp) payload ∷ []) []) h

pub is_counted : (n : Intake) (head : Head) (payload : List ℕ) → counts n head payload ≡ true
    → packet_pieces n head payload ≡ piece_at n (first_place n head.timestamp) payload ∷ []
is_counted n head payload h = ap
    (λ (b : Bool). cond b (piece_at n (first_place n head.timestamp) payload ∷ []) []) h
