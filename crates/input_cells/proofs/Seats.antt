-- Words and seats of one input's table.
use Rattle.std.proofs.Common.{◌/◌, ◌%◌, ◌≡◌, ℕ, ◌+◌, ◌-◌, ◌*◌, ◌<◌, ◌≤◌, ◌^◌, ap, sym}
use Rattle.std.proofs.Common.{◌∙◌, arith}
use Rattle.std.proofs.lemmas.Nat.{div-mul-add, mod-mul-add}
use Rattle.std.proofs.Math.Nat.{le_of_mul-le-mul_right, mul-le-mul_right}
use Rattle.std.proofs.Common.{w32, to_z, of_z}
use Rattle.std.proofs.lemmas.Int.{to_z-of_z}
use lib.Signed.{mag}
use Rattle.std.specs.Prelude.{Bool, ℤ}
use Rattle.atomic_table.specs.Seated.{TableId}
use Rattle.input_rule.specs.declared.view.Shape.{Shape}
use Rattle.input_rule.specs.declared.view.View.{View}
use Rattle.input_rule.specs.Words.{HasTick, block_len, block_start, place_in_block, presence}
use Rattle.input_rule.specs.Words.{sample_word, word_in_block}
use Rattle.input_rule.proofs.Planes.{place_back as place_in_back, word_below, word_of_frame}
use Rattle.input_rule.specs.Views.{listened, looked}
use Rattle.input_rule.specs.Plays.{presence_tick, sample_place, sample_tick}
use Rattle.input_cells.specs.Faces.{IsInput}

-- there is a word for the closing number
pub some_word : (key : Shape) (id : TableId) (shape : Shape) (block : ℕ)
    → IsInput key id shape block → 0 < id.words
some_word key id shape block is = let w = is.words_are in
    let n : ℕ = shape.ticks * block_len shape in omega arith

pub presence_back : (shape : Shape) (tick : ℕ) → HasTick shape tick
    → presence_tick shape (presence shape tick) ≡ tick
presence_back shape tick inside = let a = inside.0 in omega arith

-- a sample's word tells its tick and its place
pub tick_back : (shape : Shape) (tick place : ℕ) → HasTick shape tick → place < block_len shape
    → sample_tick shape (sample_word shape tick place) ≡ tick
tick_back shape tick place inside below =
    let row : ℕ = (tick - shape.from) * block_len shape in
    let w : ℕ = word_in_block shape place in
    let offset : sample_word shape tick place - (1 + shape.ticks) ≡ row + w = omega arith in
    let e : (sample_word shape tick place - (1 + shape.ticks)) / block_len shape
    ≡ tick - shape.from = ap (λ (n : ℕ). n / block_len shape) offset
    ∙ div-mul-add (tick - shape.from) (block_len shape) w (word_below shape place below) in
    let a = inside.0 in omega arith

pub place_back : (shape : Shape) (tick place : ℕ) → place < block_len shape
    → sample_place shape (sample_word shape tick place) ≡ place
place_back shape tick place below =
    let row : ℕ = (tick - shape.from) * block_len shape in
    let w : ℕ = word_in_block shape place in
    let offset : sample_word shape tick place - (1 + shape.ticks) ≡ row + w = omega arith in
    ap (place_in_block shape) (ap (λ (n : ℕ). n % block_len shape) offset
    ∙ mod-mul-add (tick - shape.from) (block_len shape) w (word_below shape place below))
    ∙ place_in_back shape place below

-- the word of a frame and a channel
pub frame_word : (shape : Shape) (tick frame channel : ℕ) → channel < shape.channels
    → block_start shape tick + (channel * shape.frames + frame)
    ≡ sample_word shape tick (frame * shape.channels + channel)
frame_word shape tick frame channel below =
    ap (λ (n : ℕ). block_start shape tick + n) (sym (word_of_frame shape frame channel below))

-- the frames of a channel end before those of the next
pub channel_ends : (frames channels channel : ℕ) → channel < channels
    → channel * frames + frames ≤ frames * channels
channel_ends frames channels channel below =
    let m : (channel + 1) * frames ≤ channels * frames = mul-le-mul_right frames (omega arith) in
    grind arith

-- where there is room for frames, the blocks have them
pub frames_inside : (channels frames count : ℕ) → 0 < channels
    → count * channels ≤ frames * channels → count ≤ frames
frames_inside channels frames count some_channel room =
    le_of_mul-le-mul_right room some_channel

-- what a look at a word tells, by its tick
pub looked_at : (v : View) (tick word : ℕ) (present : Bool) → HasTick v.shape tick
    → word ≡ presence v.shape tick
    → looked v (presence_tick v.shape word) present ≡ looked v tick present
looked_at v tick word present inside is =
    ap (λ (t : ℕ). looked v t present) (ap (presence_tick v.shape) is
    ∙ presence_back v.shape tick inside)

-- what a sample's word tells, by its tick and its place
pub listened_at : (v : View) (tick place word : ℕ) (value result : ℤ) → HasTick v.shape tick
    → place < block_len v.shape → word ≡ sample_word v.shape tick place → value ≡ result
    → listened v (sample_tick v.shape word) (sample_place v.shape word) value ≡ listened v tick
    place result
listened_at v tick place word value result inside below is same k =
    listened v ((ap (sample_tick v.shape) is ∙ tick_back v.shape tick place inside below) k)
    ((ap (sample_place v.shape) is ∙ place_back v.shape tick place below) k) (same k)

-- a number of 32 bits is what its bits say
pub whole : (z : ℤ) → mag z < 2 ^ 31 → to_z w32 (of_z w32 z) ≡ z
whole z fits = to_z-of_z w32 z (record { sfits = fits })
