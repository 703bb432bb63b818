-- Steps of walking over records, and that a walk comes to one end.
use Rattle.std.proofs.Common.{◌≡◌, ℕ, ◌+◌, ◌-◌, ◌<◌, ◌≤◌, List, [], ◌∷◌, ◌++◌, length, Option, Some}
use Rattle.std.proofs.Common.{None, Result, Ok, Err, refl, sym, ap, subst, ◌∙◌, append_assoc, arith}
use Rattle.std.proofs.Common.{inl, inr, ◌⊎◌}
use Rattle.std.specs.List.{flat_map}
use Rattle.std.proofs.lemmas.List.{append-nil, length-append}
use Rattle.std.proofs.lemmas.List.Concat.{flat_map-cons}
use Rattle.exact_text.specs.declared.misread.Misread.{Misread}
use Rattle.exact_text.specs.declared.misread.Misread.TheVariants.{NoReading, NoMemory}
use Rattle.exact_text.specs.Readings.{Fails, record_at}
use Rattle.exact_text.proofs.Exact.{IsBytes, some_is}
use Rattle.exact_text.proofs.WholeLaws.{record_exact}
use Rattle.capture_file.specs.declared.walk.Step.{Step}
use Rattle.capture_file.specs.declared.walk.Step.TheVariants.{Next, Last}
use Rattle.capture_file.specs.Walk.{Judging, IsRecord, text_of, Leads, Front, IsCut, Stands}
use Rattle.capture_file.specs.Walk.{HasFault, FaultAt, EndsAt}

-- ---- one record

pub stands_reads : (bytes : List ℕ) (r : ℕ × List ℕ) (rest : List ℕ) → Stands bytes r rest
    → record_at bytes ≡ Some (r, rest)
stands_reads bytes r rest h =
    ap record_at h.parts ∙ record_exact.again r rest tt (h.fits.0, (h.fits.1, tt))

pub reads_stands : (bytes : List ℕ) (r : ℕ × List ℕ) (rest : List ℕ) → IsBytes bytes
    → record_at bytes ≡ Some (r, rest) → Stands bytes r rest
reads_stands bytes r rest are e = let t = record_exact.takes bytes r rest are e in
    record { parts = t.0.parts; fits = (t.2.0, t.2.1.0) }

pub reads_bytes : (bytes : List ℕ) (r : ℕ × List ℕ) (rest : List ℕ) → IsBytes bytes
    → record_at bytes ≡ Some (r, rest) → IsBytes rest
reads_bytes bytes r rest are e = (record_exact.takes bytes r rest are e).0.rest_fits

pub none_cut : (bytes : List ℕ) → record_at bytes ≡ None → IsCut bytes
none_cut bytes none r rest fits parts = let again : record_at bytes ≡ Some (r, rest) =
    stands_reads bytes r rest (record { parts = parts; fits = fits }) in absurd cc

pub stands_shorter : (bytes : List ℕ) (r : ℕ × List ℕ) (rest : List ℕ) → Stands bytes r rest
    → length rest < length bytes
stands_shorter bytes r rest h = omega (arith, ap length h.parts, length-append (text_of r) rest)

-- one record alone stands at a place
pub stands_once : (bytes : List ℕ) (r q : ℕ × List ℕ) (rest after : List ℕ) → Stands bytes r rest
    → Stands bytes q after → (r ≡ q) × (rest ≡ after)
stands_once bytes r q rest after h k =
    let same = some_is (r, rest) (q, after) (sym (stands_reads bytes r rest h)
    ∙ stands_reads bytes q after k) in
    (ap (λ (p : (ℕ × List ℕ) × List ℕ). p.0) same, ap (λ (p : (ℕ × List ℕ) × List ℕ). p.1) same)

-- ---- fronts

leads_more : {S E F : Type 0} (judges : S → ℕ → ℕ → List ℕ → Result (Step S E) F
    → Type 0) (s : S) (at : ℕ) (records : List (ℕ × List ℕ)) (m : S) (to : ℕ) (r : ℕ × List ℕ)
    (end : S) → Leads judges s at records m → to ≡ at + length (flat_map text_of records)
    → IsRecord r → judges m to r.0 r.1 (Ok (Next end)) → Leads judges s at (records ++ r ∷ []) end
leads_more judges s at [] m to r end h place fits j =
    let same : at ≡ to = omega (arith, place) in (fits, (end, (rw (h, same) j, refl)))
leads_more judges s at (q ∷ records) m to r end h place fits j =
    let later : to ≡ at + length (text_of q) + length (flat_map text_of records) =
    omega (
      arith,
      place,
      ap length (flat_map-cons text_of q records),
      length-append (text_of q) (flat_map text_of records),
    ) in (
      h.0,
      (
        h.1.0,
        (
          h.1.1.0,
          leads_more judges h.1.0 (at + length (text_of q)) records m to r end
              h.1.1.1 later fits j,
        ),
      ),
    )

last_text : (records : List (ℕ × List ℕ)) (r : ℕ × List ℕ)
    → flat_map text_of records ++ text_of r ≡ flat_map text_of (records ++ r ∷ [])
last_text [] r = sym (append-nil (text_of r))
last_text (q ∷ records) r =
    ap (λ (z : List ℕ). z ++ text_of r) (flat_map-cons text_of q records)
    ∙ append_assoc (text_of q) (flat_map text_of records) (text_of r)
    ∙ ap (λ (z : List ℕ). text_of q ++ z) (last_text records r)
    ∙ sym (flat_map-cons text_of q (records ++ r ∷ []))

pub front_none : {S E F : Type 0} (judges : S → ℕ → ℕ → List ℕ → Result (Step S E) F
    → Type 0) (s : S) (whole : ℕ) (bytes : List ℕ) → length bytes ≤ whole
    → Front judges s whole bytes s bytes
front_none judges s whole bytes le = record {
  from = whole - length bytes;
  place = omega (arith, le);
  records = [];
  parts = refl;
  leads = refl;
}

-- the place of what follows a front
front_place : {S E F : Type 0} (judges : S → ℕ → ℕ → List ℕ → Result (Step S E) F
    → Type 0) (s : S) (whole : ℕ) (bytes : List ℕ) (m : S) (behind : List ℕ) (at : ℕ)
    (front : Front judges s whole bytes m behind) → at + length behind ≡ whole
    → at ≡ front.from + length (flat_map text_of front.records)
front_place judges s whole bytes m behind at front place =
    omega (
      arith,
      place,
      front.place,
      ap length front.parts,
      length-append (flat_map text_of front.records) behind,
    )

pub front_more : {S E F : Type 0} (judges : S → ℕ → ℕ → List ℕ → Result (Step S E) F
    → Type 0) (s : S) (whole : ℕ) (bytes : List ℕ) (m : S) (behind : List ℕ) (at : ℕ) (r : ℕ
    × List ℕ) (rest : List ℕ) (end : S) → Front judges s whole bytes m behind
    → at + length behind ≡ whole → Stands behind r rest → judges m at r.0 r.1 (Ok (Next end))
    → Front judges s whole bytes end rest
front_more judges s whole bytes m behind at r rest end front place h j = record {
  from = front.from;
  place = front.place;
  records = front.records ++ r ∷ [];
  parts = front.parts ∙ ap (λ (z : List ℕ). flat_map text_of front.records ++ z) h.parts
      ∙ sym (append_assoc (flat_map text_of front.records) (text_of r) rest)
      ∙ ap (λ (z : List ℕ). z ++ rest) (last_text front.records r);
  leads = leads_more judges s front.from front.records m at r end front.leads
      (front_place judges s whole bytes m behind at front place) h.fits j;
}

-- ---- one end

-- no record that stands at this place is taken
abbrev pub Stops : {S E F : Type 0} → Judging S E F → S → ℕ → List ℕ → Type 0
Stops {S} {E} {F} judges s at bytes =
    (r : ℕ × List ℕ) (rest : List ℕ) (next : S) → Stands bytes r rest
    → judges s at r.0 r.1 (Ok (Next next)) → ⊥

-- each record is judged in one way alone
abbrev pub JudgesOnce : {S E F : Type 0} → Judging S E F → Type 0
JudgesOnce {S} {E} {F} judges =
    (s : S) (at tag : ℕ) (body : List ℕ) (a b : Result (Step S E) F) → judges s at tag body a
    → judges s at tag body b → a ≡ b

abbrev step_to : {S E F : Type 0} → S → Result (Step S E) F
step_to s = Ok (Next s)

abbrev pub last_step : {S E F : Type 0} → E → Result (Step S E) F
last_step end = Ok (Last end)

abbrev pub fault_step : {S E F : Type 0} → F → Result (Step S E) F
fault_step f = Err f

next_is : {S E F : Type 0} (a b : S)
    → step_to {S = S} {E = E} {F = F} a ≡ step_to {S = S} {E = E} {F = F} b → a ≡ b
next_is a b e = cc

behind_first : (x : ℕ × List ℕ) (xs : List (ℕ × List ℕ)) (u : List ℕ)
    → flat_map text_of (x ∷ xs) ++ u ≡ text_of x ++ (flat_map text_of xs ++ u)
behind_first x xs u =
    ap (λ (z : List ℕ). z ++ u) (flat_map-cons text_of x xs)
    ∙ append_assoc (text_of x) (flat_map text_of xs) u

-- the place of what stands behind a record
later_place : (bytes : List ℕ) (x : ℕ × List ℕ) (rest u : List ℕ) (at to : ℕ)
    → bytes ≡ text_of x ++ rest → to + length u ≡ at + length bytes
    → to + length u ≡ at + length (text_of x) + length rest
later_place bytes x rest u at to parts place =
    omega (arith, place, ap length parts, length-append (text_of x) rest)

same_place : (whole : ℕ) (behind other : List ℕ) (at to : ℕ) → behind ≡ other
    → at + length behind ≡ whole → to + length other ≡ whole → at ≡ to
same_place whole behind other at to same p q = omega (arith, p, q, ap length same)

-- where two fronts of one text stop, they are the same
pub stops_once : {S E F : Type 0} (judges : S → ℕ → ℕ → List ℕ → Result (Step S E) F → Type 0)
    → JudgesOnce judges → (s : S) (at : ℕ) (bytes : List ℕ) (xs ys : List (ℕ × List ℕ)) (a b : S)
    (p q : ℕ) (u v : List ℕ)
    → Leads judges s at xs a → Leads judges s at ys b → bytes ≡ flat_map text_of xs ++ u
    → bytes ≡ flat_map text_of ys ++ v → p + length u ≡ at + length bytes
    → q + length v ≡ at + length bytes → Stops judges a p u → Stops judges b q v
    → (a ≡ b) × (u ≡ v)
stops_once judges once s at bytes [] [] a b p q u v la lb pa pb hp hq sa sb =
    (sym la ∙ lb, sym pa ∙ pb)
stops_once judges once s at bytes [] (y ∷ ys) a b p q u v la lb pa pb hp hq sa sb =
    let here : p ≡ at = same_place (at + length bytes) u bytes p at (sym pa) hp refl in
    absurd (sa y (flat_map text_of ys ++ v) lb.1.0 (record {
      parts = sym pa ∙ pb
          ∙ behind_first y ys v;
      fits = lb.0;
    }) (rw (here, ← la) lb.1.1.0))
stops_once judges once s at bytes (x ∷ xs) [] a b p q u v la lb pa pb hp hq sa sb =
    let here : q ≡ at = same_place (at + length bytes) v bytes q at (sym pb) hq refl in
    absurd (sb x (flat_map text_of xs ++ u) la.1.0 (record {
      parts = sym pb ∙ pa
          ∙ behind_first x xs u;
      fits = la.0;
    }) (rw (here, ← lb) la.1.1.0))
stops_once {S} {E} {F} judges once s at bytes (x ∷ xs) (y ∷ ys) a b p q u v la lb pa pb hp hq sa
    sb =
    let first = pa ∙ behind_first x xs u in
    let same = stands_once bytes x y (flat_map text_of xs ++ u) (flat_map text_of ys ++ v)
    (record { parts = first; fits = la.0 })
    (record { parts = pb ∙ behind_first y ys v; fits = lb.0 }) in
    let judged : judges s at x.0 x.1 (Ok (Next lb.1.0)) =
    subst (λ (q : ℕ × List ℕ). judges s at q.0 q.1 (Ok (Next lb.1.0))) (sym same.0) lb.1.1.0 in
    let next : la.1.0 ≡ lb.1.0 =
    next_is {S = S} {E = E} {F = F} la.1.0 lb.1.0
    (once s at x.0 x.1 (Ok (Next la.1.0)) (Ok (Next lb.1.0)) la.1.1.0 judged) in
    let others : Leads judges la.1.0 (at + length (text_of x)) ys b = rw (next, same.0) lb.1.1.1 in
    stops_once judges once la.1.0 (at + length (text_of x)) (flat_map text_of xs ++ u) xs ys a b p q
    u v la.1.1.1 others refl same.1
    (later_place bytes x (flat_map text_of xs ++ u) u at p first hp)
    (later_place bytes x (flat_map text_of xs ++ u) v at q first hq) sa sb

-- where two fronts of the last bytes of a whole stop, they are the same
fronts_once : {S E F : Type 0} (judges : S → ℕ → ℕ → List ℕ → Result (Step S E) F → Type 0)
    → JudgesOnce judges → (s : S) (whole : ℕ) (bytes : List ℕ) (a b : S) (p q : ℕ) (u v : List ℕ)
    → Front judges s whole bytes a u → Front judges s whole bytes b v → p + length u ≡ whole
    → q + length v ≡ whole → Stops judges a p u → Stops judges b q v → (a ≡ b) × (u ≡ v)
fronts_once judges once s whole bytes a b p q u v h k hp hq sa sb =
    let from : k.from ≡ h.from =
    same_place whole bytes bytes k.from h.from refl k.place h.place in
    stops_once judges once s h.from bytes h.records k.records a b p q u v h.leads
    (subst (λ (n : ℕ). Leads judges s n k.records b) from k.leads) h.parts k.parts
    (hp ∙ sym h.place) (hq ∙ sym h.place) sa sb

-- ---- steps of the loop

pub no_reading : {Y : Type 0} (e : Misread) (o : Option Y) → Fails e o → (e ≡ NoMemory → ⊥)
    → o ≡ None
no_reading NoReading o h never = h
no_reading NoMemory o h never = absurd (never refl)

place_of : (whole : ℕ) (behind : List ℕ) → length behind ≤ whole
    → whole - length behind + length behind ≡ whole
place_of whole behind le = omega arith

pub walked_cut : {S E F : Type 0} (judges : S → ℕ → ℕ → List ℕ → Result (Step S E) F
    → Type 0) (cut : F) (start : S) (whole : ℕ) (bytes : List ℕ) (s : S) (behind : List ℕ)
    → Front judges start whole bytes s behind → length behind ≤ whole → record_at behind ≡ None
    → FaultAt judges cut start whole bytes (whole - length behind) cut
walked_cut judges cut start whole bytes s behind front le none =
    record {
      before = s;
      behind = behind;
      front = front;
      place = place_of whole behind le;
      faulty = inl (none_cut behind none, refl);
    }

pub walked_fault : {S E F : Type 0} (judges : S → ℕ → ℕ → List ℕ → Result (Step S E) F
    → Type 0) (cut : F) (start : S) (whole : ℕ) (bytes : List ℕ) (s : S) (behind : List ℕ) (tag : ℕ)
    (body rest : List ℕ) (fault : F) → Front judges start whole bytes s behind
    → length behind ≤ whole → IsBytes behind → record_at behind ≡ Some ((tag, body), rest)
    → judges s (whole - length behind) tag body (Err fault)
    → FaultAt judges cut start whole bytes (whole - length behind) fault
walked_fault judges cut start whole bytes s behind tag body rest fault front le are e j =
    record {
      before = s;
      behind = behind;
      front = front;
      place = place_of whole behind le;
      faulty = inr (record {
        of = (tag, body);
        rest = rest;
        stands = reads_stands behind (tag, body) rest are e;
        judged = j;
      });
    }

pub walked_last : {S E F : Type 0} (judges : S → ℕ → ℕ → List ℕ → Result (Step S E) F
    → Type 0) (start : S) (whole : ℕ) (bytes : List ℕ) (s : S) (behind : List ℕ) (tag : ℕ)
    (body rest : List ℕ) (end : E) → Front judges start whole bytes s behind
    → length behind ≤ whole → IsBytes behind → record_at behind ≡ Some ((tag, body), rest)
    → judges s (whole - length behind) tag body (Ok (Last end))
    → EndsAt judges start whole bytes end (whole - length rest)
walked_last judges start whole bytes s behind tag body rest end front le are e j =
    let h = reads_stands behind (tag, body) rest are e in
    record {
      before = s;
      behind = behind;
      front = front;
      last = (tag, body);
      rest = rest;
      stands = h;
      last_at = whole - length behind;
      last_place = place_of whole behind le;
      judged = j;
      place =
          place_of whole rest (omega (arith, stands_shorter behind (tag, body) rest h));
    }

pub walked_next : {S E F : Type 0} (judges : S → ℕ → ℕ → List ℕ → Result (Step S E) F
    → Type 0) (start : S) (whole : ℕ) (bytes : List ℕ) (s : S) (behind : List ℕ) (tag : ℕ)
    (body rest : List ℕ) (next : S) → Front judges start whole bytes s behind
    → length behind ≤ whole → IsBytes behind → record_at behind ≡ Some ((tag, body), rest)
    → judges s (whole - length behind) tag body (Ok (Next next))
    → Front judges start whole bytes next rest
walked_next judges start whole bytes s behind tag body rest next front le are e j =
    front_more judges start whole bytes s behind (whole - length behind) (tag, body) rest next front
    (place_of whole behind le) (reads_stands behind (tag, body) rest are e) j

pub shorter : (bytes : List ℕ) (tag : ℕ) (body rest : List ℕ) → IsBytes bytes
    → record_at bytes ≡ Some ((tag, body), rest) → length rest < length bytes
shorter bytes tag body rest are e =
    stands_shorter bytes (tag, body) rest (reads_stands bytes (tag, body) rest are e)

-- ---- one outcome

not_both : {S E F : Type 0} (f : F) (s : S)
    → fault_step {S = S} {E = E} {F = F} f ≡ step_to {S = S} {E = E} {F = F} s → ⊥
not_both f s e = absurd cc

not_last : {S E F : Type 0} (end : E) (s : S)
    → last_step {S = S} {E = E} {F = F} end ≡ step_to {S = S} {E = E} {F = F} s → ⊥
not_last end s e = absurd cc

fault_not_last : {S E F : Type 0} (f : F) (end : E)
    → fault_step {S = S} {E = E} {F = F} f ≡ last_step {S = S} {E = E} {F = F} end → ⊥
fault_not_last f end e = absurd cc

fault_is : {S E F : Type 0} (f g : F)
    → fault_step {S = S} {E = E} {F = F} f ≡ fault_step {S = S} {E = E} {F = F} g → f ≡ g
fault_is f g e = cc

last_is : {S E F : Type 0} (x y : E)
    → last_step {S = S} {E = E} {F = F} x ≡ last_step {S = S} {E = E} {F = F} y → x ≡ y
last_is x y e = cc

-- what stands there and is judged is no record that is taken
stops_by : {S E F : Type 0} (judges : S → ℕ → ℕ → List ℕ → Result (Step S E) F → Type 0)
    → JudgesOnce judges → (s : S) (at : ℕ) (bytes : List ℕ) (r : ℕ × List ℕ) (rest : List ℕ)
    (o : Result (Step S E) F) → ((next : S) → o ≡ step_to {S = S} {E = E} {F = F} next → ⊥)
    → Stands bytes r rest → judges s at r.0 r.1 o → Stops judges s at bytes
stops_by {S} {E} {F} judges once s at bytes r rest o other h j q after next k i =
    let same = stands_once bytes q r after rest k h in
    let judged : judges s at r.0 r.1 (Ok (Next next)) =
    subst (λ (p : ℕ × List ℕ). judges s at p.0 p.1 (Ok (Next next))) same.0 i in
    other next (once s at r.0 r.1 o (Ok (Next next)) j judged)

faulty_stops : {S E F : Type 0} (judges : S → ℕ → ℕ → List ℕ → Result (Step S E) F → Type 0)
    (cut : F) → JudgesOnce judges → (s : S) (at : ℕ) (bytes : List ℕ) (f : F)
    → (IsCut bytes × (f ≡ cut)) ⊎ HasFault judges s at bytes f → Stops judges s at bytes
faulty_stops judges cut once s at bytes f (inl h) =
    λ q after next k i. h.0 q after k.fits k.parts
faulty_stops {S} {E} {F} judges cut once s at bytes f (inr h) =
    stops_by judges once s at bytes h.of h.rest (Err f)
    (λ next e. not_both {S = S} {E = E} {F = F} f next e) h.stands h.judged

same_fault : {S E F : Type 0} (judges : S → ℕ → ℕ → List ℕ → Result (Step S E) F → Type 0) (cut : F)
    → JudgesOnce judges → (s : S) (at : ℕ) (bytes : List ℕ) (f g : F)
    → (IsCut bytes × (f ≡ cut)) ⊎ HasFault judges s at bytes f
    → (IsCut bytes × (g ≡ cut)) ⊎ HasFault judges s at bytes g → f ≡ g
same_fault judges cut once s at bytes f g (inl h) (inl k) = h.1 ∙ sym k.1
same_fault judges cut once s at bytes f g (inl h) (inr k) =
    absurd (h.0 k.of k.rest k.stands.fits k.stands.parts)
same_fault judges cut once s at bytes f g (inr h) (inl k) =
    absurd (k.0 h.of h.rest h.stands.fits h.stands.parts)
same_fault {S} {E} {F} judges cut once s at bytes f g (inr h) (inr k) =
    let same = stands_once bytes k.of h.of k.rest h.rest k.stands h.stands in
    let judged : judges s at h.of.0 h.of.1 (Err g) =
    subst (λ (p : ℕ × List ℕ). judges s at p.0 p.1 (Err g)) same.0 k.judged in
    fault_is {S = S} {E = E} {F = F} f g (once s at h.of.0 h.of.1 (Err f) (Err g) h.judged judged)

-- There is one first fault.
pub fault_once : {S E F : Type 0} (judges : S → ℕ → ℕ → List ℕ → Result (Step S E) F → Type 0)
    (cut : F) → JudgesOnce judges → (start : S) (whole : ℕ) (bytes : List ℕ) (at to : ℕ) (f g : F)
    → FaultAt judges cut start whole bytes at f → FaultAt judges cut start whole bytes to g
    → (at ≡ to) × (f ≡ g)
fault_once {S} {E} {F} judges cut once start whole bytes at to f g h k =
    let same = fronts_once judges once start whole bytes h.before k.before at to h.behind k.behind
    h.front k.front h.place k.place
    (faulty_stops judges cut once h.before at h.behind f h.faulty)
    (faulty_stops judges cut once k.before to k.behind g k.faulty) in
    let place = same_place whole h.behind k.behind at to same.1 h.place k.place in
    let other : (IsCut h.behind × (g ≡ cut)) ⊎ HasFault judges h.before at h.behind g =
    rw (same.0, same.1, place) k.faulty in
    (place, same_fault judges cut once h.before at h.behind f g h.faulty other)

end_stops : {S E F : Type 0} (judges : S → ℕ → ℕ → List ℕ → Result (Step S E) F → Type 0)
    → JudgesOnce judges → (start : S) (whole : ℕ) (bytes : List ℕ) (end : E) (at : ℕ)
    (h : EndsAt judges start whole bytes end at) → Stops judges h.before h.last_at h.behind
end_stops {S} {E} {F} judges once start whole bytes end at h =
    stops_by judges once h.before h.last_at h.behind h.last h.rest (Ok (Last end))
    (λ next e. not_last {S = S} {E = E} {F = F} end next e) h.stands h.judged

-- There is one end.
pub end_once : {S E F : Type 0} (judges : S → ℕ → ℕ → List ℕ → Result (Step S E) F → Type 0)
    → JudgesOnce judges → (start : S) (whole : ℕ) (bytes : List ℕ) (at to : ℕ) (x y : E)
    → EndsAt judges start whole bytes x at → EndsAt judges start whole bytes y to
    → (at ≡ to) × (x ≡ y)
end_once {S} {E} {F} judges once start whole bytes at to x y h k =
    let same = fronts_once judges once start whole bytes h.before k.before h.last_at k.last_at
    h.behind k.behind h.front k.front h.last_place k.last_place
    (end_stops judges once start whole bytes x at h)
    (end_stops judges once start whole bytes y to k) in
    let place = same_place whole h.behind k.behind h.last_at k.last_at same.1 h.last_place
    k.last_place in
    let stands : Stands h.behind k.last k.rest = rw same.1 k.stands in
    let one = stands_once h.behind h.last k.last h.rest k.rest h.stands stands in
    let judged : judges h.before h.last_at h.last.0 h.last.1 (Ok (Last y)) =
    rw (same.0, one.0, place) k.judged in (
      same_place whole h.rest k.rest at to one.1 h.place k.place,
      last_is {S = S} {E = E} {F = F} x y
          (once h.before h.last_at h.last.0 h.last.1 (Ok (Last x)) (Ok (Last y)) h.judged judged),
    )

last_fault : {S E F : Type 0} (judges : S → ℕ → ℕ → List ℕ → Result (Step S E) F → Type 0) (cut : F)
    → JudgesOnce judges → (s : S) (at : ℕ) (bytes : List ℕ) (f : F) (end : E) (r : ℕ
    × List ℕ) (rest : List ℕ) → (IsCut bytes × (f ≡ cut)) ⊎ HasFault judges s at bytes f
    → Stands bytes r rest → judges s at r.0 r.1 (Ok (Last end)) → ⊥
last_fault judges cut once s at bytes f end r rest (inl h) k j = h.0 r rest k.fits k.parts
last_fault {S} {E} {F} judges cut once s at bytes f end r rest (inr h) k j =
    let same = stands_once bytes r h.of rest h.rest k h.stands in
    let judged : judges s at h.of.0 h.of.1 (Ok (Last end)) =
    subst (λ (p : ℕ × List ℕ). judges s at p.0 p.1 (Ok (Last end))) same.0 j in
    fault_not_last {S = S} {E = E} {F = F} f end
    (once s at h.of.0 h.of.1 (Err f) (Ok (Last end)) h.judged judged)

-- Where there is an end there is no fault before it.
pub end_no_fault : {S E F : Type 0} (judges : S → ℕ → ℕ → List ℕ → Result (Step S E) F
    → Type 0) (cut : F) → JudgesOnce judges
    → (start : S) (whole : ℕ) (bytes : List ℕ) (at to : ℕ) (x : E) (f : F)
    → EndsAt judges start whole bytes x at → FaultAt judges cut start whole bytes to f → ⊥
end_no_fault {S} {E} {F} judges cut once start whole bytes at to x f h k =
    let same = fronts_once judges once start whole bytes h.before k.before h.last_at to h.behind
    k.behind h.front k.front h.last_place k.place
    (end_stops judges once start whole bytes x at h)
    (faulty_stops judges cut once k.before to k.behind f k.faulty) in
    let place = same_place whole h.behind k.behind h.last_at to same.1 h.last_place k.place in
    let other : (IsCut h.behind × (f ≡ cut)) ⊎ HasFault judges h.before h.last_at h.behind f =
    rw (same.0, same.1, place) k.faulty in
    last_fault judges cut once h.before h.last_at h.behind f x h.last h.rest other h.stands h.judged
