-- What a pass sees later, and its looks for a packet.
use Rattle.std.proofs.Common.{◌≡◌, ℕ, zero, suc, Bool, true, false, List, [], ◌∷◌, ◌++◌}
use Rattle.std.proofs.Common.{sym, subst}
use Rattle.std.proofs.lemmas.List.Elements.{Contains-append_left, Contains-append_right}
use Rattle.std.specs.List.{Contains}
use Rattle.io_caps.specs.declared.device.DeviceParts.{DeviceParts}
use Rattle.input_rule.specs.declared.view.Look.{Look}
use Rattle.input_cells.specs.Faces.{Grows, SeatFace, heard_of, looks_of}
use Rattle.input_cells.specs.Looking.{LookedClosed, LookedOnce, looks_at}
use Rattle.input_cells.proofs.Growing.{agrees_before, last_among}
use Rattle.session_laws.specs.Steps.{KnowsMore, FlagClosed, FlagFree}

-- ---- blocks that agree

-- what is seen later leaves fewer blocks that agree
pub knows_on : (d : DeviceParts) (before after : List SeatFace) → Grows before after
    → KnowsMore d (looks_of before) (heard_of before) (looks_of after) (heard_of after)
knows_on d before after f blocks a = agrees_before d blocks before after f a

-- ---- looks

-- a look at an input is one of all looks
at_among : (reads : List SeatFace) (i : ℕ) (l : Look) → Contains (looks_at reads i) l
    → Contains (looks_of reads) l
at_among [] i l h = h
at_among (p ∷ ps) zero l h = Contains-append_left p.view.looks (looks_of ps) l h
at_among (p ∷ ps) (suc i) l h =
    Contains-append_right p.view.looks (looks_of ps) l (at_among ps i l h)

-- the look that was made is one of them
look_among : (after : List SeatFace) (i : ℕ) (l : Look) (was : List Look)
    → looks_at after i ≡ was ++ l ∷ [] → Contains (looks_of after) l
look_among after i l was only =
    at_among after i l (subst (λ (ls : List Look). Contains ls l) (sym only) (last_among was l))

pub flag_closed : (before after : List SeatFace) (i tick : ℕ) (flag : Bool)
    → LookedClosed before after i tick flag → FlagClosed (looks_of after) i tick flag
flag_closed before after i tick true h = record {
  look = h.looked.look;
  among = look_among after i h.looked.look (looks_at before i) h.looked.only;
  input_is = h.looked.input_is;
  tick_is = h.looked.tick_is;
  saw_it = h.looked.present_is;
}
flag_closed before after i tick false h = record {
  look = h.looked.look;
  among = look_among after i h.looked.look (looks_at before i) h.looked.only;
  input_is = h.looked.input_is;
  tick_is = h.looked.tick_is;
  missed_it = h.looked.present_is;
  late = h.late;
}

pub flag_free : (before after : List SeatFace) (i tick : ℕ) (flag : Bool)
    → LookedOnce before after i tick flag → FlagFree (looks_of after) i tick flag
flag_free before after i tick true h = record {
  look = h.look;
  among = look_among after i h.look (looks_at before i) h.only;
  input_is = h.input_is;
  tick_is = h.tick_is;
  saw_it = h.present_is;
}
flag_free before after i tick false h = tt
