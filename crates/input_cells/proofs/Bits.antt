-- One place is put into a set of places.
use Rattle.std.proofs.Common.{◌≡◌, ◌≢◌, ℕ, ◌*◌, ◌/◌, ◌%◌, ◌^◌, ◌<◌, List, length, get_or, set}
use Rattle.std.proofs.Common.{bit_or, sym, ap, ◌∙◌, arith, w64, get_or-set_same, get_or-set_other}
use Rattle.std.proofs.Common.{div-add-mod'}
use Rattle.std.proofs.lemmas.Nat.Bits.{bit_at_set_same, bit_at_set_other}
use Rattle.std.specs.Int.{bit_at}
use mathlib.Core.Logic.{dite}
use native.Mathlib.Decide.{ℕ_discrete}
use Rattle.io_caps.specs.declared.limits.TheConstants.{LAP_TICKS}
use Rattle.input_cells.specs.Ticks.{bit_of}

-- the words with the place
abbrev pub with_place : List ℕ → ℕ → List ℕ
with_place words at =
    set words (at / 64) (bit_or (get_or words (at / 64) 0) (1 * 2 ^ (at % 64) % 2 ^ 64))

pub placed_here : (words : List ℕ) (at : ℕ) → at / 64 < length words
    → bit_of (with_place words at) at ≡ 1
placed_here words at room =
    ap (λ (n : ℕ). bit_at n (at % 64)) (get_or-set_same words (at / 64) _ 0 room)
    ∙ bit_at_set_same w64 (get_or words (at / 64) 0) (at % 64) (omega arith)

pub placed_others : (words : List ℕ) (at k : ℕ) → at / 64 < length words → k ≢ at
    → bit_of (with_place words at) k ≡ bit_of words k
placed_others words at k room apart = dite (ℕ_discrete (k / 64) (at / 64))
    (λ one. ap (λ (n : ℕ). bit_at n (k % 64)) (ap (λ (i : ℕ). get_or (with_place words at) i 0) one
    ∙ get_or-set_same words (at / 64) _ 0 room)
    ∙ (bit_at_set_other w64 (get_or words (at / 64) 0) (at % 64) (omega arith) (k % 64)
    (λ same. apart (omega (arith, div-add-mod' k 64, div-add-mod' at 64)))
    ∙ ap (λ (i : ℕ). bit_at (get_or words i 0) (k % 64)) (sym one)))
    (λ other. ap (λ (n : ℕ). bit_at n (k % 64))
    (get_or-set_other words (at / 64) (k / 64) _ 0 other))

pub word_inside : (words : List ℕ) (at : ℕ) → length words * 64 ≡ LAP_TICKS → at < LAP_TICKS
    → at / 64 < length words
word_inside words at all below = omega (arith, div-add-mod' at 64)
