-- Frames of all inputs, which were tested one after the other.
use Rattle.std.proofs.Common.{◌≡◌, ℕ, ◌<◌, ◌≤◌, List, ℤ, length, None, Some, Option, inl, inr}
use Rattle.std.proofs.Common.{subst, sym, ap, arith}
use Rattle.std.proofs.lemmas.Bool.{cases_lt}
use Rattle.std.proofs.lemmas.Option.{slice_get_past}
use Rattle.std.specs.Option.{option_map_or}
use Rattle.io_caps.specs.declared.port.Input.{Input}
use Rattle.map_entry.specs.Row.{channels_of}
use Rattle.packet_writer.specs.Heard.{HasFrames, HaveFrames, TickBlocks}

-- an input that is not there has no channels
no_channels : (inputs : List Input) (input : ℕ) → length inputs ≤ input
    → channels_of inputs input ≡ 0
no_channels inputs input past =
    ap (λ (i : Option Input). option_map_or (λ i. length i.labels) i 0)
    (slice_get_past inputs input past)

frames_of_none : (block : Option (List ℤ)) (frames : ℕ) → HasFrames block 0 frames
frames_of_none None frames = tt
frames_of_none (Some samples) frames = omega arith

-- all inputs were tested
pub frames_of_all : (inputs : List Input) (blocks others : TickBlocks) (frames n : ℕ)
    → ((input : ℕ) → others input ≡ blocks input) → length inputs ≤ n
    → ((input : ℕ) → input < n → HasFrames (blocks input) (channels_of inputs input) frames)
    → HaveFrames inputs others frames
frames_of_all inputs blocks others frames n same whole tested input =
    subst (λ (b : Option (List ℤ)). HasFrames b (channels_of inputs input) frames)
    (sym (same input))
    (elim (cases_lt input n) [
      | inl lt ↦ tested input lt
      | inr behind ↦
          let past : length inputs ≤ input = omega (arith, whole, behind) in
          subst (λ (c : ℕ). HasFrames (blocks input) c frames) (sym (no_channels inputs input past))
          (frames_of_none (blocks input) frames)
    ])
