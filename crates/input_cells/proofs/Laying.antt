-- How the tables of the inputs are laid out.
use Rattle.std.proofs.Common.{◌≡◌, ℕ, zero, suc, ◌+◌, ◌-◌, ◌*◌, ◌≤◌, List, [], ◌∷◌, length, take}
use Rattle.std.proofs.Common.{replicate, refl, ◌∙◌, arith, mul-le-mul_right}
use Rattle.io_caps.specs.declared.port.Input.{Input}
use Rattle.map_entry.specs.Row.{channels_of}
use Rattle.input_rule.specs.declared.view.Shape.{Shape}
use Rattle.input_rule.specs.Words.{block_len, first_words, words_len}
use Rattle.input_cells.specs.Shapes.{BeginsUnfed}

-- the first of many zeros
take_zeros : (m n : ℕ) → m ≤ n → take m (replicate {A = ℕ} n 0) ≡ replicate m 0
take_zeros zero n le = refl
take_zeros (suc m) zero le = absurd (omega arith)
take_zeros (suc m) (suc n) le = λ k. 0 ∷ take_zeros m n (omega arith) k

-- the row begins with the table's words
pub first_part : (shape : Shape) (row : List ℕ) → BeginsUnfed shape row
    → take (words_len shape) row ≡ first_words shape
first_part shape row b =
    let n : ℕ = shape.ticks + shape.ticks * block_len shape in
    let count : words_len shape ≡ suc n = omega arith in
    (λ k. take (count k) (b.row_is k))
    ∙ (λ k. shape.from ∷ take_zeros n b.rest (let l = b.long in omega arith) k)

-- an input that is not there has no channels
pub no_channels : (inputs : List Input) (input : ℕ) → length inputs ≤ input
    → channels_of inputs input ≡ 0
no_channels [] input le = refl
no_channels (i ∷ is) zero le = absurd (omega arith)
no_channels (i ∷ is) (suc input) le = no_channels is input (omega arith)

-- the widest row has the words of each table
pub wide : (t f c m : ℕ) → c ≤ m → 1 + (t + t * (f * c)) ≤ 1 + (1 + (t + t * (f * m)) - 1)
wide t f c m le =
    let a : c * f ≤ m * f = mul-le-mul_right f le in
    let b : c * f * t ≤ m * f * t = mul-le-mul_right t a in
    let x : t * (f * c) ≡ c * f * t = grind arith in
    let y : t * (f * m) ≡ m * f * t = grind arith in omega arith
