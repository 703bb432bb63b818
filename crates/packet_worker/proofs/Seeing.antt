-- What a call saw of the inputs that a packet names, after its samples were read, and by other
-- names.
use Rattle.std.proofs.Common.{◌≡◌, ℕ, ◌<◌, Bool, List, sym, ◌∙◌, arith}
use Rattle.input_cells.specs.declared.looking.StillOpen.{StillOpen}
use Rattle.input_cells.specs.Faces.{OnlyHears, SeatFace}
use Rattle.input_cells.specs.Looking.{IsLoadedAbove, IsOpenAt, IsUntouched, SeesClosed, SeesFree}
use Rattle.input_cells.proofs.Growing.{hearing_grows}
use Rattle.input_cells.proofs.Once.{looking_closed, looking_free, untouched_then}
use Rattle.packet_writer.specs.Packet.{flag_of}

-- ---- samples were read since

-- a number that was loaded once is still the only one
above_heard : (before mid after : List SeatFace) (input tick : ℕ) → IsUntouched mid after input
    → IsLoadedAbove before mid input tick → IsLoadedAbove before after input tick
above_heard before mid after input tick u h =
    record { closed = h.closed; loaded = u.1 ∙ h.loaded; late = h.late }

pub closed_heard : (inputs tick : ℕ) (named : ℕ → Bool) (before mid after : List SeatFace)
    (found : List Bool) → OnlyHears mid after → SeesClosed inputs tick named before mid found
    → SeesClosed inputs tick named before after found
closed_heard inputs tick named before mid after found hears h =
    let on = hearing_grows mid after hears in
    record {
      looked = λ i lt is. (looking_closed tick).later before mid after i (flag_of found i)
          (on.2 i) on.0 (h.looked i lt is);
      other = λ i lt off. let o = h.other i lt off in
          (o.0, untouched_then before mid after i o.1 (on.2 i));
      pace = above_heard before mid after inputs tick (on.2 inputs) h.pace;
    }

pub free_heard : (inputs tick : ℕ) (named : ℕ → Bool) (before mid after : List SeatFace)
    (found : List Bool) → OnlyHears mid after → SeesFree inputs tick named before mid found
    → SeesFree inputs tick named before after found
free_heard inputs tick named before mid after found hears h =
    let on = hearing_grows mid after hears in
    record {
      looked = λ i lt is. (looking_free tick).later before mid after i (flag_of found i)
          (on.2 i) on.0 (h.looked i lt is);
      other = λ i lt off. let o = h.other i lt off in
          (o.0, untouched_then before mid after i o.1 (on.2 i));
      pace = untouched_then before mid after inputs h.pace (on.2 inputs);
    }

-- ---- the same names

pub closed_named : (inputs tick : ℕ) (named others : ℕ → Bool) (before after : List SeatFace)
    (found : List Bool) → ((i : ℕ) → i < inputs → named i ≡ others i)
    → SeesClosed inputs tick named before after found
    → SeesClosed inputs tick others before after found
closed_named inputs tick named others before after found same h = record {
  looked = λ i lt on. h.looked i lt (same i lt ∙ on);
  other = λ i lt off. h.other i lt (same i lt ∙ off);
  pace = h.pace;
}

pub open_named : (inputs tick : ℕ) (named others : ℕ → Bool) (before after : List SeatFace)
    (e : StillOpen) → ((i : ℕ) → i < inputs → named i ≡ others i)
    → IsOpenAt inputs tick named before after e → IsOpenAt inputs tick others before after e
open_named inputs tick named others before after e same h = record {
  within = h.within;
  named_it = λ lt. sym (same e.input lt) ∙ h.named_it lt;
  loaded = h.loaded;
  low = h.low;
  first = λ i lt on. h.first i lt (same i (let w = h.within in omega arith) ∙ on);
  behind = h.behind;
}

pub free_named : (inputs tick : ℕ) (named others : ℕ → Bool) (before after : List SeatFace)
    (found : List Bool) → ((i : ℕ) → i < inputs → named i ≡ others i)
    → SeesFree inputs tick named before after found
    → SeesFree inputs tick others before after found
free_named inputs tick named others before after found same h = record {
  looked = λ i lt on. h.looked i lt (same i lt ∙ on);
  other = λ i lt off. h.other i lt (same i lt ∙ off);
  pace = h.pace;
}
