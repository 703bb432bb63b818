-- The lines of monitors that see packets. (This project's own.)
use Rattle.std.specs.Prelude.{ℕ, ◌+◌, ◌==◌, Bool, not, List, [], ◌∷◌, length, map, take}
use Rattle.std.specs.List.{filter, flat_map, position_or_len, range_with_len}
use Rattle.monitors.specs.declared.packets.Seen.{Seen}

-- What a monitor says: the line that it would write after these further packets, and whether it
-- would then be finished.
pub record Meaning : Type 0 where
  pub line : List Seen → List ℕ
  pub is_finished : List Seen → Bool

-- all fronts of a list that have an item, the shortest first
abbrev pub fronts : {X : Type 0} → List X → List (List X)
fronts xs = map (λ k. take (k + 1) xs) (range_with_len 0 (length xs))

-- The place of the packet after which a monitor's run ends: the first after which it is finished.
-- Where it is finished after none of them, the number of all packets.
abbrev pub end_of : List Seen → Meaning → ℕ
end_of packets m = position_or_len m.is_finished (fronts packets)

-- the lines of those whose run ends at a place, each after the packets that it saw
abbrev pub lines_at : List Meaning → List Seen → ℕ → List ℕ
lines_at monitors packets place =
    flat_map (λ m. m.line (take (place + 1) packets))
    (filter (λ m. end_of packets m == place) monitors)

-- The lines of monitors, in list order: packet by packet of those whose run ends there, and then of
-- the others.
unfoldable pub lines_of : List Meaning → List Seen → List ℕ
lines_of monitors packets =
    flat_map (lines_at monitors packets) (range_with_len 0 (length packets + 1))

-- ---- packet by packet

-- what a monitor says after a packet
abbrev pub after : Seen → Meaning → Meaning
after packet m =
    record {
      line = λ more. m.line (packet ∷ more);
      is_finished = λ more. m.is_finished (packet ∷ more);
    }

-- it is finished by a packet
abbrev pub retires : Seen → Meaning → Bool
retires packet m = m.is_finished (packet ∷ [])

-- the lines of those that a packet finishes
abbrev pub retired_lines : Seen → List Meaning → List ℕ
retired_lines packet monitors =
    flat_map (λ m. m.line (packet ∷ [])) (filter (retires packet) monitors)

-- what is left of monitors after a packet
abbrev pub remaining : Seen → List Meaning → List Meaning
remaining packet monitors = map (after packet) (filter (λ m. not (retires packet m)) monitors)

-- the lines of monitors that see no packet more
abbrev pub last_lines : List Meaning → List ℕ
last_lines monitors = flat_map (λ m. m.line []) monitors
