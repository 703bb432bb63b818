-- What the three monitors say. (This project's own.)
use Rattle.std.specs.Prelude.{ℕ, ◌^◌, ◌-◌, ◌==◌, Bool, true, false, not, List, [], ◌∷◌, ◌++◌, map}
use Rattle.std.specs.Prelude.{replicate, codes, decimal, min, max, Option, Some, None, is_some}
use Rattle.std.specs.List.{cons_option, find, prefix_len}
use Rattle.std.specs.Option.{option_map, option_map_or, option_or}
use Rattle.monitors.specs.declared.packets.Seen.{Seen}
use Rattle.monitors.specs.declared.meters.Mark.{Mark}
use Rattle.monitors.specs.Lines.{Meaning}
use Rattle.monitors.specs.Packets.{greatest, is_silent, level_of}

-- ---- the greatest sample

-- a packet's level, and its claim
abbrev pub mark_of : Seen → Mark
mark_of seen = record { level = level_of seen; claim = seen.claim }

-- the greatest level, and 0 where there is none
abbrev pub highest_of : List Mark → ℕ
highest_of marks = greatest (map (λ m. m.level) marks)

-- the first claim with a level, and 0 where there is none
abbrev pub first_with : ℕ → List Mark → ℕ
first_with level marks = option_map_or (λ m. m.claim) (find (λ m. m.level == level) marks) 0

-- a level, with the first claim that has it
abbrev pub mark_with : ℕ → List Mark → Mark
mark_with level marks = record { level = level; claim = first_with level marks }

-- the greatest level, with the first claim that has it
abbrev pub peak_of : List Mark → Mark
peak_of marks = mark_with (highest_of marks) marks

-- the line of a peak
unfoldable pub peak_line : Mark → List ℕ
peak_line mark =
    codes "peak " ++ (decimal mark.level
    ++ (codes " at claim " ++ (decimal mark.claim ++ codes "\n")))

-- what `Peak` says, which keeps the peak of what it saw
abbrev pub peak_meter : Option Mark → Meaning
peak_meter highest =
    record {
      line = λ packets. peak_line (peak_of (cons_option highest (map mark_of packets)));
      is_finished = λ packets. false;
    }

-- ---- the longest silence

-- the longest run of flags that are set, one after the other: of those that begin at each place
abbrev pub longest_run : List Bool → ℕ
longest_run [] = 0
longest_run (flag ∷ flags) = max (prefix_len (λ f. f) (flag ∷ flags)) (longest_run flags)

-- the line of a number of silent packets
unfoldable pub silence_line : ℕ → List ℕ
silence_line run = codes "silence " ++ (decimal run ++ codes "\n")

-- What `SilenceRun` says, which keeps the longest run that has ended and the one that goes on. A
-- run counts up to 2^64 - 1 packets.
abbrev pub silence_meter : ℕ → ℕ → Meaning
silence_meter longest current =
    record {
      line = λ packets. silence_line (min (2 ^ 64 - 1)
          (max longest (longest_run (replicate current true ++ map is_silent packets))));
      is_finished = λ packets. false;
    }

-- ---- the first sound

-- the claim of the first packet that is not silent
abbrev pub first_sound : List Seen → Option ℕ
first_sound packets = option_map (λ seen. seen.claim) (find (λ seen. not (is_silent seen)) packets)

-- the line of the claim of a first sound
unfoldable pub first_line : ℕ → List ℕ
first_line claim = codes "first sound " ++ (decimal claim ++ codes "\n")

-- the line of a first sound, where there is one
abbrev pub sound_line : Option ℕ → List ℕ
sound_line None = codes "no sound\n"
sound_line (Some claim) = first_line claim

-- what `FirstChange` says, which keeps the first sound that it saw
abbrev pub sound_meter : Option ℕ → Meaning
sound_meter kept =
    record {
      line = λ packets. sound_line (option_or kept (first_sound packets));
      is_finished = λ packets. is_some (option_or kept (first_sound packets));
    }
