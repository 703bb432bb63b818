-- A walk over the records after an opening comes to a capture exactly where its text stands, and
-- to a fault exactly at the first.
use Rattle.std.proofs.Common.{◌≡◌, ℕ, ◌+◌, ◌^◌, ◌<◌, Bool, true, false, cond, eqb, List, [], ◌∷◌}
use Rattle.std.proofs.Common.{◌++◌, length, take, drop, map, Result, Ok, Err, refl, sym, ap, subst}
use Rattle.std.proofs.Common.{◌∙◌, append_assoc, arith, inl, inr}
use Rattle.std.specs.Prelude.{IfOk, IfErr}
use Rattle.std.specs.List.{flat_map, AllByRecursion}
use Rattle.std.proofs.lemmas.Bool.{eqb-true}
use Rattle.std.proofs.lemmas.List.{append-nil, take_at, take-append-drop, length-append}
use Rattle.std.proofs.lemmas.List.{length-drop}
use Rattle.std.proofs.lemmas.List.Concat.{flat_map-cons}
use Rattle.std.proofs.lemmas.List.Elements.{recursion_from_All, All-from_recursion}
use Rattle.io_caps.specs.declared.memory.Or.{Or}
use Rattle.io_caps.specs.declared.memory.Or.TheVariants.{Fault, NoMemory}
use Rattle.map_entry.specs.Setup.{SetupParts}
use Rattle.map_entry.specs.declared.grain.Grain.{Grain}
use Rattle.exact_text.specs.Spellings.{record_text}
use Rattle.capture_file.specs.declared.items.Item.{Item}
use Rattle.capture_file.specs.declared.items.Item.TheVariants.{Packet, Piece, Ask, Work}
use Rattle.capture_file.specs.declared.before.RecordKind.{RecordKind}
use Rattle.capture_file.specs.declared.before.RecordKind.TheVariants.{ItemRecord, EndRecord}
use Rattle.capture_file.specs.declared.before.RecordKind.TheVariants.{NoRecord}
use Rattle.capture_file.specs.declared.fault.CaptureFault.{CaptureFault}
use Rattle.capture_file.specs.declared.fault.CaptureKind.{CaptureKind}
use Rattle.capture_file.specs.declared.fault.CaptureKind.TheVariants.{Cut, Tag, Order}
use Rattle.capture_file.specs.declared.walk.Step.TheVariants.{Next, Last}
use Rattle.capture_file.specs.declared.format.Format.{Format}
use Rattle.capture_file.specs.declared.format.Format.TheVariants.{One, Two}
use Rattle.capture_file.specs.declared.opening.Opening.{Opening}
use Rattle.capture_file.specs.Formats.{capture_magic, grain_text}
use Rattle.capture_file.specs.Tags.{end_tag, grain_tag}
use Rattle.capture_file.specs.Items.{item, item_tag, item_body, end_text, IsItemThere}
use Rattle.capture_file.specs.Walk.{IfFault, IsRecord, text_of, Leads, Front, IsFaulty, FaultAt}
use Rattle.capture_file.specs.Walk.{EndsAt}
use Rattle.capture_file.specs.Capture.{CaptureParts, capture_of, opening_of, HasNoGrain, SaysGrain}
use Rattle.capture_file.specs.Capture.{Opens, AreItems, IsCaptureText, IsCaptureAt, IsAnswer}
use Rattle.capture_file.specs.Fault.{FrontParts, before, sort_of, IsRead, IsEnded, IsLater, Judges}
use Rattle.capture_file.specs.Fault.{StopsAt, FaultIs, IsRefusal}
use Rattle.capture_file.proofs.RecordLaws.{item_law}
use Rattle.capture_file.proofs.Once.{judges_once}
use Rattle.capture_file.proofs.OpeningLaws.{bad_magic, bad_no_device, bad_once, no_device_once}
use Rattle.capture_file.proofs.OpeningLaws.{opens_magic, opens_no_bad, opens_no_fault, opens_once}
use Rattle.capture_file.proofs.WalkLaws.{fault_once, end_once, end_no_fault}

heads : (a b : ℕ) (xs ys : List ℕ) → a ∷ xs ≡ b ∷ ys → a ≡ b
heads a b xs ys e = cc

-- ---- records after the device are the texts of the items that they add

item_same : (setup : SetupParts) (tag : ℕ) (body : List ℕ) (x : Item) → IsRead setup tag body x
    → record_text tag body ≡ item.text x
item_same setup tag body x h =
    let is : item_tag x ≡ tag = (item_law tag).tells x h.1.0 in
    subst (λ (n : ℕ). record_text tag body ≡ record_text n ((item_body n).text x)) (sym is)
    (ap (λ (z : List ℕ). record_text tag z) h.1.1)

item_fits : (setup : SetupParts) (tag : ℕ) (body : List ℕ) (x : Item) → IsRecord (tag, body)
    → IsRead setup tag body x → item.Fits x
item_fits setup tag body x fits h =
    let is : item_tag x ≡ tag = (item_law tag).tells x h.1.0 in
    subst (λ (n : ℕ). (n < 256)
    × ((length ((item_body n).text x) < 256 ^ 4) × (item_body n).Fits x)) (sym is)
    (fits.0, (subst (λ (z : List ℕ). length z < 256 ^ 4) h.1.1 fits.1, h.1.0))

one_item : (sort : RecordKind) (b : FrontParts) (tag : ℕ) (body : List ℕ) (next : FrontParts)
    → IsLater sort b tag body (Ok (Next next))
    → (x : Item) × (IsRead b.opening.setup tag body x × (next ≡ before b.opening (b.items ++ x ∷ [])))
one_item (NoRecord kind) b tag body next h = absurd cc
one_item ItemRecord b tag body next h = h
one_item EndRecord b tag body next h = absurd h

record Adds (o : Opening) (items : List Item) (records : List (ℕ × List ℕ))
    (end : FrontParts) : Type 0 where
  pub more : List Item
  pub is : end ≡ before o (items ++ more)
  pub text : flat_map text_of records ≡ flat_map item.text more
  pub there : AllByRecursion (IsItemThere (length o.setup.device.inputs)) more
  pub fit : AllByRecursion item.Fits more

adds : (o : Opening) (items : List Item) (at : ℕ) (records : List (ℕ × List ℕ))
    (end : FrontParts) → Leads Judges (before o items) at records end → Adds o items records end
adds o items at [] end h =
    record {
      more = [];
      is = sym h
          ∙ ap (λ (l : List Item). before o l) (sym (append-nil items));
      text = refl;
      there =
          tt;
      fit = tt;
    }
adds o items at (r ∷ records) end h =
    let t = one_item (sort_of o.format r.0) (before o items) r.0 r.1 h.1.0 h.1.1.0 in
    let later = at + length (text_of r) in
    let u = adds o (items ++ t.0 ∷ []) later records end
    (subst (λ (b : FrontParts). Leads Judges b later records end) t.1.1 h.1.1.1) in
    record {
      more = t.0 ∷ u.more;
      is = u.is ∙ ap (λ (l : List Item). before o l) (append_assoc items (t.0 ∷ []) u.more);
      text = flat_map-cons text_of r records
          ∙ ap (λ (z : List ℕ). z ++ flat_map text_of records) (item_same o.setup r.0 r.1 t.0 t.1.0)
          ∙ ap (λ (z : List ℕ). item.text t.0 ++ z) u.text
          ∙ sym (flat_map-cons item.text t.0 u.more);
      there = (t.1.0.0, u.there);
      fit = (item_fits o.setup r.0 r.1 t.0 h.0 t.1.0, u.fit);
    }

added : (o : Opening) (records : List (ℕ × List ℕ)) (end : FrontParts)
    (a : Adds o [] records end) → AreItems (length o.setup.device.inputs) a.more
added o records end a = record {
  there = All-from_recursion (IsItemThere (length o.setup.device.inputs)) a.more a.there;
  fit = All-from_recursion item.Fits a.more a.fit;
}

-- ---- the items' texts lead there

abbrev record_for : Item → ℕ × List ℕ
record_for x = (item_tag x, (item_body (item_tag x)).text x)

records_text : (items : List Item)
    → flat_map text_of (map record_for items) ≡ flat_map item.text items
records_text [] = refl
records_text (x ∷ items) =
    flat_map-cons text_of (record_for x) (map record_for items)
    ∙ ap (λ (z : List ℕ). item.text x ++ z) (records_text items)
    ∙ sym (flat_map-cons item.text x items)

is_item : (format : Format) (x : Item) → sort_of format (item_tag x) ≡ ItemRecord
is_item format (Packet input bytes) = refl
is_item format (Piece client bytes) = refl
is_item format (Ask client request) = refl
is_item format (Work claims) = refl

item_taken : (o : Opening) (items : List Item) (x : Item)
    → IsItemThere (length o.setup.device.inputs) x → item.Fits x
    → IsLater (sort_of o.format (item_tag x)) (before o items) (item_tag x)
    ((item_body (item_tag x)).text x) (Ok (Next (before o (items ++ x ∷ []))))
item_taken o items x there fits =
    subst (λ (s : RecordKind). IsLater s (before o items) (item_tag x)
    ((item_body (item_tag x)).text x) (Ok (Next (before o (items ++ x ∷ [])))))
    (sym (is_item o.format x)) (x, ((there, (fits.1.1, refl)), refl))

items_lead : (o : Opening) (items : List Item) (at : ℕ) (more : List Item)
    → AllByRecursion (IsItemThere (length o.setup.device.inputs)) more → AllByRecursion item.Fits more
    → Leads Judges (before o items) at (map record_for more) (before o (items ++ more))
items_lead o items at [] there fits =
    ap (λ (l : List Item). before o l) (sym (append-nil items))
items_lead o items at (x ∷ more) there fits =
    let later = at + length (text_of (record_for x)) in (
      (fits.0.0, fits.0.1.0),
      (
        before o (items ++ x ∷ []),
        (
          item_taken o items x there.0 fits.0,
          subst (λ (l : List Item). Leads Judges (before o (items ++ x ∷ [])) later
              (map record_for more) (before o l)) (append_assoc items (x ∷ []) more)
              (items_lead o (items ++ x ∷ []) later more there.1 fits.1),
        ),
      ),
    )

items_front : (o : Opening) (items : List Item) (behind : List ℕ) (whole : ℕ)
    → o.items_at + length (flat_map item.text items ++ behind) ≡ whole
    → AreItems (length o.setup.device.inputs) items
    → Front Judges (before o []) whole (flat_map item.text items ++ behind)
    (before o items) behind
items_front o items behind whole place good = record {
  from = o.items_at;
  place = place;
  records = map record_for items;
  parts = ap (λ (z : List ℕ). z ++ behind) (sym (records_text items));
  leads = items_lead o [] o.items_at items
      (recursion_from_All (IsItemThere (length o.setup.device.inputs)) items good.there)
      (recursion_from_All item.Fits items good.fit);
}

-- ---- the last record

ends : (a b c d : Bool) (kind : CaptureKind)
    → cond a (NoRecord Order)
    (cond b ItemRecord (cond c EndRecord (cond d (NoRecord kind) (NoRecord Tag)))) ≡ EndRecord
    → c ≡ true
ends true b c d kind e = absurd cc
ends false true c d kind e = absurd cc
ends false false true d kind e = refl
ends false false false true kind e = absurd cc
ends false false false false kind e = absurd cc

last_is : (sort : RecordKind) (b : FrontParts) (tag : ℕ) (body : List ℕ) (c : CaptureParts)
    → (sort ≡ EndRecord → tag ≡ end_tag) → IsLater sort b tag body (Ok (Last c))
    → (tag ≡ end_tag) × IsEnded b body (Ok (Last c))
last_is (NoRecord kind) b tag body c is h = absurd cc
last_is ItemRecord b tag body c is h = absurd h
last_is EndRecord b tag body c is h = (is refl, h)

-- ---- what the walk comes to

-- an opening, and what follows it in other words
opens_as : (bytes : List ℕ) (o : Opening) (behind other : List ℕ) → behind ≡ other
    → Opens bytes o behind → Opens bytes o other
opens_as bytes o behind other same h = subst (λ (z : List ℕ). Opens bytes o z) same h

-- a text in front of bytes, by its place
front_of : (bytes text rest : List ℕ) (at : ℕ) → bytes ≡ text ++ rest
    → at + length rest ≡ length bytes → take at bytes ≡ text
front_of bytes text rest at parts place =
    ap (take at) parts ∙ take_at text rest at
    (omega (arith, place, ap length parts, length-append text rest))

-- no record of a grain stands at the front of bytes, where none stands at that of more bytes
none_in_front : (bytes rest : List ℕ) → HasNoGrain (bytes ++ rest) → HasNoGrain bytes
none_in_front bytes rest none r after stands is =
    none r (after ++ rest)
    (record {
      parts = ap (λ (z : List ℕ). z ++ rest) stands.parts
          ∙ append_assoc (text_of r) after rest;
      fits = stands.fits;
    }) is

-- what says the grain in front of bytes says it in front of more
grain_front : (format : Format) (bytes : List ℕ) (grain : Grain) (behind rest : List ℕ)
    → SaysGrain format bytes grain (behind ++ rest)
    → (said : List ℕ) × ((bytes ≡ said ++ rest) × SaysGrain format said grain behind)
grain_front One bytes grain behind rest (is, same) = (behind, (same, (is, refl)))
grain_front Two bytes grain behind rest (inl p) = (
  grain_text grain ++ behind,
  (p ∙ sym (append_assoc (grain_text grain) behind rest), inl refl),
)
grain_front Two bytes grain behind rest (inr (is, (same, none))) =
    (behind, (same, inr (is, (refl, none_in_front behind rest none))))

split_front : (magic first after rest : List ℕ)
    → magic ++ (first ++ (after ++ rest)) ≡ (magic ++ (first ++ after)) ++ rest
split_front magic first after rest = simp append_assoc refl

-- an opening of a whole is one of its front
opens_front : (bytes : List ℕ) (o : Opening) (behind rest : List ℕ) (at : ℕ)
    → Opens bytes o (behind ++ rest) → at + length rest ≡ length bytes
    → Opens (take at bytes) o behind
opens_front bytes o behind rest at h place =
    let g = grain_front o.format h.after o.setup.grain behind rest h.grain in
    let text = capture_magic o.format ++ (text_of h.begins.of ++ g.0) in
    let whole : bytes ≡ text ++ rest = h.begins.parts
    ∙ ap (λ (z : List ℕ). capture_magic o.format ++ (text_of h.begins.of ++ z)) g.1.0
    ∙ split_front (capture_magic o.format) (text_of h.begins.of) g.0 rest in
    let front = front_of bytes text rest at whole place in
    record {
      after = g.0;
      begins = record { of = h.begins.of; device = h.begins.device; parts = front };
      grain = g.1.1;
      place = omega (
        arith,
        h.place,
        place,
        length-append behind rest,
        ap (λ (z : List ℕ). length z) front,
        ap (λ (z : List ℕ). length z) whole,
        length-append text rest,
      );
    }

-- the records of a capture's text begin with none of a grain
first_tag : (bytes : List ℕ) (tag : ℕ) (others : List ℕ) → bytes ≡ tag ∷ others
    → (tag ≡ grain_tag → ⊥) → HasNoGrain bytes
first_tag bytes tag others is other r rest stands grain =
    let same : tag ∷ others ≡ r.0 ∷ drop 1 (text_of r ++ rest) = sym is ∙ stands.parts in
    other (heads _ _ _ _ same ∙ grain)

item_other : (x : Item) → item_tag x ≡ grain_tag → ⊥
item_other (Packet input bytes) e = omega (arith, e)
item_other (Piece client bytes) e = omega (arith, e)
item_other (Ask client request) e = omega (arith, e)
item_other (Work claims) e = omega (arith, e)

pub no_grain : (items : List Item) (rest : List ℕ)
    → HasNoGrain (flat_map item.text items ++ (end_text ++ rest))
no_grain [] rest = first_tag _ end_tag _ refl (λ e. omega (arith, e))
no_grain (x ∷ items) rest =
    first_tag _ (item_tag x) _
    (ap (λ (z : List ℕ). z ++ (end_text ++ rest)) (flat_map-cons item.text x items)) (item_other x)

-- what says the grain in front of a capture's records says it whatever follows these
grain_more : (format : Format) (bytes : List ℕ) (grain : Grain) (items : List Item)
    (behind rest : List ℕ) → behind ≡ flat_map item.text items ++ end_text
    → SaysGrain format bytes grain behind → SaysGrain format (bytes ++ rest) grain (behind ++ rest)
grain_more One bytes grain items behind rest text (is, same) =
    (is, ap (λ (z : List ℕ). z ++ rest) same)
grain_more Two bytes grain items behind rest text (inl p) =
    inl (ap (λ (z : List ℕ). z ++ rest) p ∙ append_assoc (grain_text grain) behind rest)
grain_more Two bytes grain items behind rest text (inr (is, (same, none))) =
    let whole : flat_map item.text items ++ (end_text ++ rest) ≡ behind ++ rest =
    sym (append_assoc (flat_map item.text items) end_text rest)
    ∙ ap (λ (z : List ℕ). z ++ rest) (sym text) in
    inr (is, (ap (λ (z : List ℕ). z ++ rest) same, subst HasNoGrain whole (no_grain items rest)))

-- an opening of a capture's text is one of the whole
opens_whole : (bytes : List ℕ) (o : Opening) (items : List Item) (rest text : List ℕ)
    → bytes ≡ text ++ rest → Opens text o (flat_map item.text items ++ end_text)
    → Opens bytes o (flat_map item.text items ++ (end_text ++ rest))
opens_whole bytes o items rest text parts h =
    let behind = flat_map item.text items ++ end_text in
    let of = h.begins.of in
    opens_as bytes o (behind ++ rest) _ (append_assoc (flat_map item.text items) end_text rest)
    (record {
      after = h.after ++ rest;
      begins = record {
        of = of;
        device = h.begins.device;
        parts = parts ∙ ap (λ (z : List ℕ). z ++ rest) h.begins.parts
            ∙ sym (split_front (capture_magic o.format) (text_of of) h.after rest);
      };
      grain = grain_more o.format h.after o.setup.grain items behind rest refl h.grain;
      place = omega (
        arith,
        h.place,
        length-append behind rest,
        ap (λ (z : List ℕ). length z) parts,
        length-append text rest,
      );
    })

-- where a walk ends there is a capture
pub end_captures : (bytes : List ℕ) (o : Opening) (behind : List ℕ) (c : CaptureParts)
    (at : ℕ) → Opens bytes o behind → EndsAt Judges (before o []) (length bytes) behind c at
    → IsCaptureAt bytes c at
end_captures bytes o behind c at opens h =
    let a = adds o [] h.front.from h.front.records h.before h.front.leads in
    let judged : IsLater (sort_of o.format h.last.0) (before o a.more) h.last.0 h.last.1
    (Ok (Last c)) =
    subst (λ (b : FrontParts). Judges b h.last_at h.last.0 h.last.1 (Ok (Last c))) a.is h.judged in
    let l = last_is (sort_of o.format h.last.0) (before o a.more) h.last.0 h.last.1 c
    (λ e. eqb-true h.last.0 end_tag (ends _ _ (eqb h.last.0 end_tag) _ _ e)) judged in
    let is : c ≡ capture_of o a.more c.ticks = l.1.1.1.0 in
    let last : text_of h.last ≡ end_text =
    ap (λ (n : ℕ). record_text n h.last.1) l.0 ∙ ap (λ (z : List ℕ). record_text end_tag z) l.1.0 in
    let parts : behind ≡ flat_map item.text a.more ++ (end_text ++ h.rest) =
    h.front.parts ∙ ap (λ (z : List ℕ). z ++ h.behind) a.text
    ∙ ap (λ (z : List ℕ). flat_map item.text a.more ++ z) (h.stands.parts
    ∙ ap (λ (z : List ℕ). z ++ h.rest) last) in
    let text : IsCaptureText (capture_of o a.more c.ticks) (take at bytes) = record {
      opens = opens_front bytes o (flat_map item.text a.more ++ end_text) h.rest at
          (opens_as bytes o behind _ (parts
          ∙ sym (append_assoc (flat_map item.text a.more) end_text h.rest)) opens) h.place;
      items = added o h.front.records h.before a;
      work = l.1.1.1.1;
    } in
    record {
      within = omega (arith, h.place);
      text = subst (λ (d : CaptureParts). IsCaptureText d (take at bytes)) (sym is) text;
    }

-- the opening of a capture
abbrev opening_in : CaptureParts → Opening
opening_in c = opening_of c.format c.setup c.items_at

-- what a walk comes to, after the opening
record Comes (bytes : List ℕ) (o : Opening) (There : List ℕ → Type 0) : Type 0 where
  pub behind : List ℕ
  pub opens : Opens bytes o behind
  pub there : There behind

-- where there is a capture a walk ends
capture_ends : (bytes : List ℕ) (c : CaptureParts) (at : ℕ) → IsCaptureAt bytes c at
    → Comes bytes (opening_in c)
    (λ behind. EndsAt Judges (before (opening_in c) []) (length bytes) behind c at)
capture_ends bytes c at h =
    let rest = drop at bytes in
    let items = flat_map item.text c.items in
    let opens = opens_whole bytes (opening_in c) c.items rest (take at bytes)
    (sym (take-append-drop at bytes)) h.text.opens in
    record {
      behind = items ++ (end_text ++ rest);
      opens = opens;
      there = record {
        before = before (opening_in c) c.items;
        behind = end_text ++ rest;
        front = items_front (opening_in c) c.items (end_text ++ rest) (length bytes) opens.place
            h.text.items;
        last = (end_tag, []);
        rest = rest;
        stands = record { parts = refl; fits = (omega arith, omega arith) };
        last_at = c.items_at + length items;
        last_place = omega (arith, opens.place, length-append items (end_text ++ rest));
        judged = (
          refl,
          (
            h.text.opens.begins.device.base.0.device.bounds.some_output,
            (refl, h.text.work),
          ),
        );
        place = omega (arith, h.within, length-drop at bytes);
      };
    }

-- where a walk finds a fault, bytes stop
pub fault_stops : (bytes : List ℕ) (o : Opening) (behind : List ℕ) (at : ℕ)
    (kind : CaptureKind) → Opens bytes o behind
    → FaultAt Judges Cut (before o []) (length bytes) behind at kind → FaultIs bytes at kind
fault_stops bytes o behind at kind opens h =
    let a = adds o [] h.front.from h.front.records h.before h.front.leads in
    inr (inr (inr (record {
      opening = o;
      items = a.more;
      behind = h.behind;
      opens = opens_as bytes o behind _ (h.front.parts
          ∙ ap (λ (z : List ℕ). z ++ h.behind) a.text) opens;
      good = added o h.front.records h.before a;
      place = h.place;
      faulty = subst (λ (b : FrontParts). IsFaulty Judges Cut b at h.behind kind) a.is h.faulty;
    })))

-- where bytes stop, a walk finds a fault
stops_fault : (bytes : List ℕ) (at : ℕ) (kind : CaptureKind) (h : StopsAt bytes at kind)
    → Comes bytes h.opening
    (λ behind. FaultAt Judges Cut (before h.opening []) (length bytes) behind at kind)
stops_fault bytes at kind h = record {
  behind = flat_map item.text h.items ++ h.behind;
  opens = h.opens;
  there = record {
    before = before h.opening h.items;
    behind = h.behind;
    front = items_front h.opening h.items h.behind (length bytes) h.opens.place h.good;
    place = h.place;
    faulty = h.faulty;
  };
}

-- ---- one outcome

-- what a walk comes to after one opening it comes to after the other, which is the same
moved : (bytes : List ℕ) (a b : Opening) (u : List ℕ) (There : Opening → List ℕ → Type 0)
    → Opens bytes a u → (k : Comes bytes b (There b)) → There a u
moved bytes a b u There opens k =
    let same = opens_once bytes a b u k.behind opens k.opens in
    subst (λ (s : Opening). There s u) (sym same.0)
    (subst (λ (z : List ℕ). There b z) (sym same.1) k.there)

-- one capture stands at the front of bytes, to one place
capture_once : (bytes : List ℕ) (c d : CaptureParts) (at to : ℕ) → IsCaptureAt bytes c at
    → IsCaptureAt bytes d to → (at ≡ to) × (c ≡ d)
capture_once bytes c d at to h k =
    let x = capture_ends bytes c at h in
    end_once Judges judges_once (before (opening_in c) []) (length bytes) x.behind at to c d x.there
    (moved bytes (opening_in c) (opening_in d) x.behind (λ s z. EndsAt Judges (before s []) (length bytes) z d to)
    x.opens (capture_ends bytes d to k))

-- where a capture stands there is no fault
capture_no_fault : (bytes : List ℕ) (c : CaptureParts) (at to : ℕ) (kind : CaptureKind)
    → IsCaptureAt bytes c at → FaultIs bytes to kind → ⊥
capture_no_fault bytes c at to kind h (inl k) = let x = capture_ends bytes c at h in
    opens_magic bytes (opening_in c) x.behind x.opens k.0
capture_no_fault bytes c at to kind h (inr (inl k)) = let x =
    capture_ends bytes c at h in opens_no_fault bytes (opening_in c) x.behind to kind x.opens k
capture_no_fault bytes c at to kind h (inr (inr (inl k))) = let x =
    capture_ends bytes c at h in opens_no_bad bytes (opening_in c) x.behind to kind x.opens k
capture_no_fault bytes c at to kind h (inr (inr (inr k))) =
    let x = capture_ends bytes c at h in
    end_no_fault Judges Cut judges_once (before (opening_in c) []) (length bytes) x.behind at to c kind
    x.there (moved bytes (opening_in c) k.opening x.behind
    (λ s z. FaultAt Judges Cut (before s []) (length bytes) z to kind) x.opens
    (stops_fault bytes to kind k))

-- there is one first fault
fault_is_once : (bytes : List ℕ) (at to : ℕ) (e f : CaptureKind) → FaultIs bytes at e
    → FaultIs bytes to f → (at ≡ to) × (e ≡ f)
fault_is_once bytes at to e f (inl h) (inl k) = (h.1.0 ∙ sym k.1.0, h.1.1 ∙ sym k.1.1)
fault_is_once bytes at to e f (inl h) (inr (inl k)) = absurd (h.0 k.format k.behind k.parts)
fault_is_once bytes at to e f (inl h) (inr (inr (inl k))) = absurd (bad_magic bytes to f k h.0)
fault_is_once bytes at to e f (inl h) (inr (inr (inr k))) =
    absurd (opens_magic bytes k.opening _ k.opens h.0)
fault_is_once bytes at to e f (inr (inl h)) (inl k) = absurd (k.0 h.format h.behind h.parts)
fault_is_once bytes at to e f (inr (inl h)) (inr (inl k)) = no_device_once bytes at to e f h k
fault_is_once bytes at to e f (inr (inl h)) (inr (inr (inl k))) =
    absurd (bad_no_device bytes to at f e k h)
fault_is_once bytes at to e f (inr (inl h)) (inr (inr (inr k))) =
    absurd (opens_no_fault bytes k.opening _ at e k.opens h)
fault_is_once bytes at to e f (inr (inr (inl h))) (inl k) = absurd (bad_magic bytes at e h k.0)
fault_is_once bytes at to e f (inr (inr (inl h))) (inr (inl k)) =
    absurd (bad_no_device bytes at to e f h k)
fault_is_once bytes at to e f (inr (inr (inl h))) (inr (inr (inl k))) =
    bad_once bytes at to e f h k
fault_is_once bytes at to e f (inr (inr (inl h))) (inr (inr (inr k))) =
    absurd (opens_no_bad bytes k.opening _ at e k.opens h)
fault_is_once bytes at to e f (inr (inr (inr h))) (inl k) =
    absurd (opens_magic bytes h.opening _ h.opens k.0)
fault_is_once bytes at to e f (inr (inr (inr h))) (inr (inl k)) =
    absurd (opens_no_fault bytes h.opening _ to f h.opens k)
fault_is_once bytes at to e f (inr (inr (inr h))) (inr (inr (inl k))) =
    absurd (opens_no_bad bytes h.opening _ to f h.opens k)
fault_is_once bytes at to e f (inr (inr (inr h))) (inr (inr (inr k))) =
    let x = stops_fault bytes at e h in
    fault_once Judges Cut judges_once (before h.opening []) (length bytes) x.behind at to e f x.there
    (moved bytes h.opening k.opening x.behind
    (λ s z. FaultAt Judges Cut (before s []) (length bytes) z to f) x.opens
    (stops_fault bytes to f k))

-- ---- what is answered

abbrev Answer : Type 0
Answer = Result (CaptureParts × ℕ) (Or CaptureFault)

pub answers : (bytes : List ℕ) (r : Answer) → IfOk r (λ x. IsCaptureAt bytes x.0 x.1)
    → IfErr r (λ e. IfFault e (λ f. FaultIs bytes f.at f.kind)) → (c : CaptureParts) (at : ℕ)
    → IsCaptureAt bytes c at → IsAnswer r c at
answers bytes (Ok x) found fault c at h = let same = capture_once bytes x.0 c x.1 at found h in
    (same.1, same.0)
answers bytes (Err (Fault f)) found fault c at h = capture_no_fault bytes c at f.at f.kind h fault
answers bytes (Err NoMemory) found fault c at h = tt

pub refuses : (bytes : List ℕ) (r : Answer) → IfOk r (λ x. IsCaptureAt bytes x.0 x.1)
    → IfErr r (λ e. IfFault e (λ f. FaultIs bytes f.at f.kind)) → (at : ℕ) (kind : CaptureKind)
    → FaultIs bytes at kind → IsRefusal r at kind
refuses bytes (Ok x) found fault at kind h = capture_no_fault bytes x.0 x.1 at kind found h
refuses bytes (Err (Fault f)) found fault at kind h =
    fault_is_once bytes f.at at f.kind kind fault h
refuses bytes (Err NoMemory) found fault at kind h = tt
