-- The words of a block: each place has its own, and the place is told by the word.
use Rattle.std.proofs.Common.{◌≡◌, ℕ, zero, suc, ◌+◌, ◌*◌, ◌/◌, ◌%◌, ◌<◌, ◌∙◌, arith}
use Rattle.std.proofs.Math.Nat.{div-lt_iff_lt-mul, mod-lt}
use Rattle.std.proofs.lemmas.Nat.{div-add-mod', div-mul-add, mod-mul-add, mul-add-lt}
use Rattle.input_rule.specs.declared.view.Shape.{Shape}
use Rattle.input_rule.specs.Words.{block_len, place_in_block, word_in_block}

-- where there is a place there is a channel
some_channel : (frames channels place : ℕ) → place < frames * channels → 0 < channels
some_channel frames zero place below = omega (arith, below)
some_channel frames (suc channels) place below = omega arith

-- the frame of a place
pub frame_below : (frames channels place : ℕ) → place < frames * channels
    → place / channels < frames
frame_below frames channels place below =
    (div-lt_iff_lt-mul (some_channel frames channels place below)).1 below

-- the channel of a place
pub channel_below : (frames channels place : ℕ) → place < frames * channels
    → place % channels < channels
channel_below frames channels place below =
    mod-lt place (some_channel frames channels place below)

-- the word of a place is one of the block's
pub word_below : (shape : Shape) (place : ℕ) → place < block_len shape
    → word_in_block shape place < block_len shape
word_below shape place below =
    mul-add-lt (place % shape.channels) shape.frames (place / shape.channels) shape.channels
    (channel_below shape.frames shape.channels place below)
    (frame_below shape.frames shape.channels place below)

-- the place of a place's word
pub place_back : (shape : Shape) (place : ℕ) → place < block_len shape
    → place_in_block shape (word_in_block shape place) ≡ place
place_back shape place below =
    let f = frame_below shape.frames shape.channels place below in
    (λ k. mod-mul-add (place % shape.channels) shape.frames (place / shape.channels) f k
    * shape.channels
    + div-mul-add (place % shape.channels) shape.frames (place / shape.channels) f k)
    ∙ div-add-mod' place shape.channels

-- the word of a frame and a channel
pub word_of_frame : (shape : Shape) (frame channel : ℕ) → channel < shape.channels
    → word_in_block shape (frame * shape.channels + channel) ≡ channel * shape.frames + frame
word_of_frame shape frame channel below =
    λ k. mod-mul-add frame shape.channels channel below k * shape.frames
    + div-mul-add frame shape.channels channel below k
