-- A gathered packet is the claim of its draw; and a worker's job goes on draw by draw.
use Rattle.std.proofs.Common.{◌≡◌, ℕ, ◌<◌, ◌≤◌, Bool, true, false, List, [], ◌∷◌, ◌++◌, get_or}
use Rattle.std.proofs.Common.{None, inl, inr, refl, sym, ap, ◌∙◌, arith}
use Rattle.std.specs.Prelude.{All, filter, is_some}
use Rattle.std.specs.List.{AllZip, Contains}
use Rattle.std.proofs.lemmas.Bool.{cases_Bool, lt-ltb, le-ltb, false≢true}
use Rattle.std.proofs.lemmas.List.{append-nil}
use Rattle.std.proofs.lemmas.List.Elements.{All-contains, filter-append}
use Rattle.io_caps.specs.declared.device.DeviceParts.{DeviceParts}
use Rattle.map_entry.specs.Setup.{SetupParts}
use Rattle.packet_writer.specs.Flags.{Sights, names_by}
use Rattle.packet_writer.specs.Heard.{sample_in}
use Rattle.packet_writer.specs.Packet.{Blocks, flag_of, tick_of_claim}
use Rattle.book_words.specs.declared.history.ClaimItem.{ClaimItem}
use Rattle.claim_rule.specs.declared.view.Draw.{Draw}
use Rattle.input_cells.specs.Agreement.{Agrees}
use Rattle.input_rule.specs.declared.view.HeardSample.{HeardSample}
use Rattle.input_rule.specs.declared.view.Look.{Look}
use Rattle.session_laws.specs.Facts.{Gathering, IsItem, IsWorked, Made, is_packet}
use Rattle.session_laws.specs.Facts.Gathering.{GatherClosed, GatherFree}
use Rattle.session_laws.specs.Steps.{FlagClosed, FlagFree, GathersClosed, GathersFree, IsSeenBefore}
use Rattle.session_laws.specs.Steps.{KnowsMore, MissedBlock, SawBlock, made_more, made_over}
use Rattle.session_laws.specs.Steps.{made_still}

-- ---- what was seen

-- a view that has all looks and samples of another one knows more
pub known : (d : DeviceParts) (looks more : List Look) (heard further : List HeardSample)
    → All (Contains more) looks → All (Contains further) heard
    → KnowsMore d looks heard more further
known d looks more heard further looked read blocks is = record {
  seen = λ i e lt.
      All-contains (λ (l : Look). l.present ≡ true → is_some (blocks l.input l.tick) ≡ true) more
      (get_or looks i e) is.seen (looked i e lt);
  missed = λ i e lt.
      All-contains
      (λ (l : Look). l.present ≡ false → l.tick < l.closed → blocks l.input l.tick ≡ None) more
      (get_or looks i e) is.missed (looked i e lt);
  read = λ i e lt. All-contains (λ (h : HeardSample). sample_in (blocks h.input h.tick) h.place
      ≡ h.value)
      further (get_or heard i e) is.read (read i e lt);
  shape = is.shape;
}

-- a block that was seen is there
seen_there : (d : DeviceParts) (looks : List Look) (heard : List HeardSample) (blocks : Blocks)
    (input tick : ℕ) → Agrees d looks heard blocks → SawBlock looks input tick
    → is_some (blocks input tick) ≡ true
seen_there d looks heard blocks input tick is saw =
    ap (λ (i : ℕ). is_some (blocks i tick)) (sym saw.input_is)
    ∙ ap (λ (t : ℕ). is_some (blocks saw.look.input t)) (sym saw.tick_is)
    ∙ All-contains (λ (l : Look). l.present ≡ true → is_some (blocks l.input l.tick) ≡ true) looks
    saw.look is.seen saw.among saw.saw_it

-- one that was missed at a closed tick is not
missed_none : (d : DeviceParts) (looks : List Look) (heard : List HeardSample) (blocks : Blocks)
    (input tick : ℕ) → Agrees d looks heard blocks → MissedBlock looks input tick
    → is_some (blocks input tick) ≡ false
missed_none d looks heard blocks input tick is missed =
    ap (λ (i : ℕ). is_some (blocks i tick)) (sym missed.input_is)
    ∙ ap (λ (t : ℕ). is_some (blocks missed.look.input t)) (sym missed.tick_is)
    ∙ ap is_some
    (All-contains
    (λ (l : Look). l.present ≡ false → l.tick < l.closed → blocks l.input l.tick ≡ None) looks
    missed.look is.missed missed.among missed.missed_it
    (omega (arith, missed.tick_is, missed.late)))

-- ---- closed form

closed_flag : (d : DeviceParts) (looks : List Look) (heard : List HeardSample) (blocks : Blocks)
    (input tick : ℕ) (flag : Bool) → Agrees d looks heard blocks
    → FlagClosed looks input tick flag → flag ≡ is_some (blocks input tick)
closed_flag d looks heard blocks input tick true is looked =
    sym (seen_there d looks heard blocks input tick is looked)
closed_flag d looks heard blocks input tick false is looked =
    sym (missed_none d looks heard blocks input tick is looked)

pub closed_item : (s : SetupParts) (from : ℕ) (d : Draw) (looks : List Look)
    (heard : List HeardSample)
    (item : ClaimItem) (blocks : Blocks) → GathersClosed s from d looks heard item
    → Agrees s.device looks heard blocks
    → IsItem s GatherClosed blocks from d item
closed_item s from d looks heard item blocks g is = record {
  number = g.number;
  flags = record {
    long = g.long;
    each = λ input lt. elim (cases_Bool (names_by s d.found item.k input)) [
      | inl named ↦
          rw named (closed_flag s.device looks heard blocks input (tick_of_claim s item.k)
          (flag_of item.found input) is (g.named input lt named))
      | inr other ↦ rw other (g.other input lt other)
    ];
  };
  packet = g.packet blocks is;
}

-- ---- free form

free_there : (d : DeviceParts) (looks : List Look) (heard : List HeardSample) (blocks : Blocks)
    (input tick : ℕ) (flag : Bool) → Agrees d looks heard blocks → FlagFree looks input tick flag
    → flag ≡ true → is_some (blocks input tick) ≡ true
free_there d looks heard blocks input tick true is looked on =
    seen_there d looks heard blocks input tick is looked
free_there d looks heard blocks input tick false is looked on = absurd (false≢true on)

pub free_item : (s : SetupParts) (seen : Sights) (from : ℕ) (d : Draw) (before looks : List Look)
    (heard : List HeardSample) (item : ClaimItem) (blocks : Blocks)
    → GathersFree s from d before looks heard item → IsSeenBefore s seen before item.k
    → Agrees s.device looks heard blocks → IsItem s (GatherFree seen) blocks from d item
free_item s seen from d before looks heard item blocks g saw is = record {
  number = g.number;
  flags = record {
    long = g.long;
    each = λ input lt. record {
      only = λ on. elim (cases_Bool (names_by s d.found item.k input)) [
        | inl named ↦ (
          named,
          free_there s.device looks heard blocks input (tick_of_claim s item.k)
              (flag_of item.found input) is (g.named input lt named) on,
        )
        | inr other ↦ absurd (false≢true (sym (g.other input lt other) ∙ on))
      ];
      wherever = λ named seen_it. g.again input lt named (saw input seen_it);
    };
  };
  packet = g.packet blocks is;
}

-- ---- a worker's job

zip_push : {X Y : Type 0} (R : X → Y → Type 0) (xs : List X) (ys : List Y) (x : X) (y : Y)
    → AllZip R xs ys → R x y → AllZip R (xs ++ x ∷ []) (ys ++ y ∷ [])
zip_push R [] [] x y all one = (one, tt)
zip_push R [] (b ∷ ys) x y all one = absurd all
zip_push R (a ∷ xs) [] x y all one = absurd all
zip_push R (a ∷ xs) (b ∷ ys) x y all one = (all.0, zip_push R xs ys x y all.1 one)

-- one more draw with its claim
pub worked_more : (s : SetupParts) (g : Gathering) (from packets : ℕ) (w : Made) (d : Draw)
    (looks : List Look) (heard : List HeardSample) (item : ClaimItem) → IsWorked s g from packets w
    → d.number < packets → KnowsMore s.device w.looks w.heard looks heard
    → ((blocks : Blocks) → Agrees s.device looks heard blocks → IsItem s g blocks from d item)
    → IsWorked s g from packets (made_more w d looks heard item)
worked_more s g from packets w d looks heard item is early more gathered blocks agrees =
    let one : filter (is_packet packets) (d ∷ []) ≡ d ∷ [] =
    rw (lt-ltb d.number packets early) refl in
    rw (filter-append (is_packet packets) w.draws (d ∷ []), one)
    (zip_push (IsItem s g blocks from) (filter (is_packet packets) w.draws) w.items d item
    (is blocks (more blocks agrees)) (gathered blocks agrees))

-- a draw past the packets makes no claim
pub worked_over : (s : SetupParts) (g : Gathering) (from packets : ℕ) (w : Made) (d : Draw)
    → IsWorked s g from packets w → packets ≤ d.number → IsWorked s g from packets (made_over w d)
worked_over s g from packets w d is late blocks agrees =
    let none : filter (is_packet packets) (d ∷ []) ≡ [] = rw (le-ltb d.number packets late) refl in
    rw (
      filter-append (is_packet packets) w.draws (d ∷ []),
      none,
      append-nil (filter (is_packet packets) w.draws),
    ) (is blocks agrees)

-- looks alone, as of a call that was refused, change nothing
pub worked_still : (s : SetupParts) (g : Gathering) (from packets : ℕ) (w : Made)
    (looks : List Look) (heard : List HeardSample) → IsWorked s g from packets w
    → KnowsMore s.device w.looks w.heard looks heard
    → IsWorked s g from packets (made_still w looks heard)
worked_still s g from packets w looks heard is more blocks agrees = is blocks (more blocks agrees)
