-- A walk over the records after a result's magic comes to an end exactly where a result's text
-- stands, and to a fault exactly at the first.
use Rattle.std.proofs.Common.{◌≡◌, ℕ, ◌+◌, ◌-◌, ◌^◌, ◌<◌, ◌≤◌, Bool, true, false, cond, eqb, List}
use Rattle.std.proofs.Common.{[], ◌∷◌, ◌++◌, length, drop, map, Result, Ok, Err, refl, sym, ap}
use Rattle.std.proofs.Common.{subst, ◌∙◌, append_assoc, arith, inl, inr}
use Rattle.std.specs.Prelude.{IfOk, IfErr}
use Rattle.std.specs.List.{flat_map, AllByRecursion}
use Rattle.std.proofs.lemmas.Bool.{eqb-true}
use Rattle.std.proofs.lemmas.List.{append-nil, drop_at, length-append, length-drop, nil_from_length}
use Rattle.std.proofs.lemmas.List.Concat.{flat_map-cons}
use Rattle.std.proofs.lemmas.List.Elements.{recursion_from_All, All-from_recursion}
use Rattle.io_caps.specs.declared.device.DeviceParts.{DeviceParts}
use Rattle.io_caps.specs.declared.memory.Or.{Or}
use Rattle.io_caps.specs.declared.memory.Or.TheVariants.{Fault, NoMemory}
use Rattle.exact_text.specs.Spellings.{record_text}
use Rattle.capture_file.specs.declared.before.RecordKind.{RecordKind}
use Rattle.capture_file.specs.declared.before.RecordKind.TheVariants.{ItemRecord, EndRecord}
use Rattle.capture_file.specs.declared.before.RecordKind.TheVariants.{NoRecord}
use Rattle.capture_file.specs.declared.entries.ResultItem.{ResultItem}
use Rattle.capture_file.specs.declared.entries.ResultItem.TheVariants.{Claim, Call, Reply, End}
use Rattle.capture_file.specs.declared.fault.CaptureFault.{CaptureFault}
use Rattle.capture_file.specs.declared.fault.CaptureKind.{CaptureKind}
use Rattle.capture_file.specs.declared.fault.CaptureKind.TheVariants.{Magic, Cut, Tag, Trailing}
use Rattle.capture_file.specs.declared.format.Format.{Format}
use Rattle.capture_file.specs.declared.format.Format.TheVariants.{One, Two}
use Rattle.capture_file.specs.declared.walk.Step.TheVariants.{Next, Last}
use Rattle.capture_file.specs.Tags.{end_tag}
use Rattle.capture_file.specs.Items.{end_text}
use Rattle.capture_file.specs.Walk.{IfFault, IsRecord, text_of, Leads, Front, IsFaulty, FaultAt}
use Rattle.capture_file.specs.Walk.{EndsAt}
use Rattle.capture_file.specs.Formats.{result_magic}
use Rattle.capture_file.specs.Result.{result_tag, result_body, result_item}
use Rattle.capture_file.specs.ResultText.{IsClientThere, AreRecords, placed, file_of, IsResultAt}
use Rattle.capture_file.specs.ResultText.{IsFile}
use Rattle.capture_file.specs.Fault.{IsRefusal}
use Rattle.capture_file.specs.ResultFault.{result_sort, ResultFrontParts, result_front, with_record}
use Rattle.capture_file.specs.ResultFault.{IsItemRead}
use Rattle.capture_file.specs.ResultFault.{IsClosed, IsStep, JudgesResult, BreaksAt, RunsPast}
use Rattle.capture_file.specs.ResultFault.{ResultFaultIs}
use Rattle.capture_file.proofs.ResultLaws.{result_law}
use Rattle.capture_file.proofs.ResultOnce.{result_once}
use Rattle.capture_file.proofs.WalkLaws.{fault_once, end_once, end_no_fault}

-- ---- records are the texts of the items that they add

item_same : (format : Format) (d : DeviceParts) (tag : ℕ) (body : List ℕ) (x : ResultItem)
    → IsItemRead format d tag body x
    → record_text tag body ≡ (result_item format d).text x
item_same format d tag body x h =
    let is : result_tag x ≡ tag = (result_law format d tag).tells x h.1.0 in
    subst (λ (n : ℕ). record_text tag body ≡ record_text n ((result_body format d n).text x))
    (sym is)
    (ap (λ (z : List ℕ). record_text tag z) h.1.1)

item_fits : (format : Format) (d : DeviceParts) (tag : ℕ) (body : List ℕ) (x : ResultItem)
    → IsRecord (tag, body)
    → IsItemRead format d tag body x → (result_item format d).Fits x
item_fits format d tag body x fits h =
    let is : result_tag x ≡ tag = (result_law format d tag).tells x h.1.0 in
    subst (λ (n : ℕ). (n < 256)
    × ((length ((result_body format d n).text x) < 256 ^ 4) × (result_body format d n).Fits x))
    (sym is)
    (fits.0, (subst (λ (z : List ℕ). length z < 256 ^ 4) h.1.1 fits.1, h.1.0))

one_item : (sort : RecordKind) (b : ResultFrontParts) (at tag : ℕ) (body : List ℕ)
    (next : ResultFrontParts) → IsStep sort b at tag body (Ok (Next next))
    → (x : ResultItem) × (IsItemRead b.format b.device tag body x
    × (next ≡ with_record b at x))
one_item (NoRecord kind) b at tag body next h = absurd cc
one_item ItemRecord b at tag body next h = h
one_item EndRecord b at tag body next h = absurd h

record Adds (format : Format) (d : DeviceParts) (before : List (ℕ × ResultItem)) (at : ℕ)
    (records : List (ℕ × List ℕ)) (end : ResultFrontParts) : Type 0 where
  pub more : List ResultItem
  pub is : end ≡ result_front format d (before ++ placed format d at more)
  pub text : flat_map text_of records ≡ flat_map (result_item format d).text more
  pub there : AllByRecursion IsClientThere more
  pub fit : AllByRecursion (result_item format d).Fits more

adds : (format : Format) (d : DeviceParts) (before : List (ℕ × ResultItem)) (at : ℕ)
    (records : List (ℕ × List ℕ))
    (end : ResultFrontParts) → Leads JudgesResult (result_front format d before) at records end
    → Adds format d before at records end
adds format d before at [] end h =
    record {
      more = [];
      is = sym h
          ∙ ap (λ (l : List (ℕ × ResultItem)). result_front format d l) (sym (append-nil before));
      text = refl;
      there =
          tt;
      fit = tt;
    }
adds format d before at (r ∷ records) end h =
    let t = one_item (result_sort r.0) (result_front format d before) at r.0 r.1 h.1.0 h.1.1.0 in
    let same = item_same format d r.0 r.1 t.0 t.1.0 in
    let later = at + length (text_of r) in
    let u = adds format d (before ++ (at, t.0) ∷ []) later records end
    (subst (λ (b : ResultFrontParts). Leads JudgesResult b later records end) t.1.1 h.1.1.1) in
    record {
      more = t.0 ∷ u.more;
      is = u.is ∙ ap (λ (l : List (ℕ × ResultItem)). result_front format d l)
          (append_assoc before ((at, t.0) ∷ []) (placed format d later u.more)
          ∙ ap (λ (z : List ℕ). before ++ (at, t.0) ∷ placed format d (at + length z) u.more) same);
      text = flat_map-cons text_of r records
          ∙ ap (λ (z : List ℕ). z ++ flat_map text_of records) same
          ∙ ap (λ (z : List ℕ). (result_item format d).text t.0 ++ z) u.text
          ∙ sym (flat_map-cons (result_item format d).text t.0 u.more);
      there = (t.1.0.0, u.there);
      fit = (item_fits format d r.0 r.1 t.0 h.0 t.1.0, u.fit);
    }

added : (format : Format) (d : DeviceParts) (before : List (ℕ × ResultItem)) (at : ℕ)
    (records : List (ℕ × List ℕ))
    (end : ResultFrontParts) (a : Adds format d before at records end) → AreRecords format d a.more
added format d before at records end a = record {
  there = All-from_recursion IsClientThere a.more a.there;
  fit = All-from_recursion (result_item format d).Fits a.more a.fit;
}

-- ---- the items' texts lead there

abbrev record_for : Format → DeviceParts → ResultItem → ℕ × List ℕ
record_for format d x = (result_tag x, (result_body format d (result_tag x)).text x)

records_text : (format : Format) (d : DeviceParts) (items : List ResultItem)
    → flat_map text_of (map (record_for format d) items) ≡ flat_map (result_item format d).text
    items
records_text format d [] = refl
records_text format d (x ∷ items) =
    flat_map-cons text_of (record_for format d x) (map (record_for format d) items)
    ∙ ap (λ (z : List ℕ). (result_item format d).text x ++ z) (records_text format d items)
    ∙ sym (flat_map-cons (result_item format d).text x items)

no_end : (format : Format) (d : DeviceParts) → (result_body format d end_tag).Fits End → ⊥
unfolding result_body
no_end format d (inl h) = h.1
no_end format d (inr h) = elim h.1 [ inl k ↦ k.1 | inr k ↦ elim k.1 [ inl l ↦ l.1 | inr l ↦ l.1 ] ]

is_item : (format : Format) (d : DeviceParts) (x : ResultItem) → (result_item format d).Fits x
    → result_sort (result_tag x) ≡ ItemRecord
is_item format d (Claim c) fits = refl
is_item format d (Call c) fits = refl
is_item format d (Reply r) fits = refl
is_item format d End fits = absurd (no_end format d fits.1.1)

item_taken : (format : Format) (d : DeviceParts) (before : List (ℕ × ResultItem)) (at : ℕ)
    (x : ResultItem)
    → IsClientThere x → (result_item format d).Fits x
    → IsStep (result_sort (result_tag x)) (result_front format d before) at (result_tag x)
    ((result_body format d (result_tag x)).text x)
    (Ok (Next (result_front format d (before ++ (at, x) ∷ []))))
item_taken format d before at x there fits =
    subst (λ (s : RecordKind). IsStep s (result_front format d before) at (result_tag x)
    ((result_body format d (result_tag x)).text x)
    (Ok (Next (result_front format d (before ++ (at, x) ∷ [])))))
    (sym (is_item format d x fits)) (x, ((there, (fits.1.1, refl)), refl))

items_lead : (format : Format) (d : DeviceParts) (before : List (ℕ × ResultItem)) (at : ℕ)
    (more : List ResultItem)
    → AllByRecursion IsClientThere more → AllByRecursion (result_item format d).Fits more
    → Leads JudgesResult (result_front format d before) at (map (record_for format d) more)
    (result_front format d (before ++ placed format d at more))
items_lead format d before at [] there fits =
    ap (λ (l : List (ℕ × ResultItem)). result_front format d l) (sym (append-nil before))
items_lead format d before at (x ∷ more) there fits =
    let later = at + length ((result_item format d).text x) in (
      (fits.0.0, fits.0.1.0),
      (
        result_front format d (before ++ (at, x) ∷ []),
        (
          item_taken format d before at x there.0 fits.0,
          subst (λ (l : List (ℕ × ResultItem)).
              Leads JudgesResult (result_front format d (before ++ (at, x) ∷ [])) later
              (map (record_for format d) more) (result_front format d l))
              (append_assoc before ((at, x) ∷ []) (placed format d later more))
              (items_lead format d (before ++ (at, x) ∷ []) later more there.1 fits.1),
        ),
      ),
    )

-- ---- places

-- the place behind the magic
magic_place : (format : Format) (bytes : List ℕ) (start : ℕ) (behind : List ℕ)
    → start ≤ length bytes
    → drop start bytes ≡ result_magic format ++ behind
    → start + length (result_magic format) + length behind ≡ length bytes
magic_place format bytes start behind within text =
    omega (
      arith,
      within,
      ap length text,
      length-drop start bytes,
      length-append
          (result_magic format) behind,
    )

-- the place of the last record
placed_last : (format : Format) (d : DeviceParts) (at : ℕ) (items : List ResultItem)
    → placed format d at (items ++ End ∷ [])
    ≡ placed format d at items ++ (at + length (flat_map (result_item format d).text items), End) ∷
    []
placed_last format d at [] =
    let none : at ≡ at + 0 = omega arith in
    ap (λ (n : ℕ). (n, End) ∷ []) none
placed_last format d at (x ∷ items) =
    let text = (result_item format d).text x in
    let more : at + length text + length (flat_map (result_item format d).text items)
    ≡ at + length (flat_map (result_item format d).text (x ∷ items)) =
    omega (
      arith,
      ap length (flat_map-cons (result_item format d).text x items),
      length-append text (flat_map (result_item format d).text items),
    ) in
    ap (λ (l : List (ℕ × ResultItem)). (at, x) ∷ l) (placed_last format d (at + length text) items
    ∙ ap (λ (n : ℕ). placed format d (at + length text) items ++ (n, End) ∷ []) more)

items_front : (format : Format) (d : DeviceParts) (bytes : List ℕ) (start : ℕ)
    (items : List ResultItem)
    (behind : List ℕ) → start ≤ length bytes
    → drop start bytes ≡ result_magic format ++
    (flat_map (result_item format d).text items ++ behind)
    → AreRecords format d items
    → Front JudgesResult (result_front format d []) (length bytes)
    (flat_map (result_item format d).text items ++ behind)
    (result_front format d (placed format d (start + length (result_magic format)) items)) behind
items_front format d bytes start items behind within text good = record {
  from = start + length (result_magic format);
  place = magic_place format bytes start (flat_map (result_item format d).text items ++ behind)
      within text;
  records = map (record_for format d) items;
  parts = ap (λ (z : List ℕ). z ++ behind) (sym (records_text format d items));
  leads = items_lead format d [] (start + length (result_magic format)) items
      (recursion_from_All IsClientThere items good.there)
      (recursion_from_All (result_item format d).Fits items good.fit);
}

-- ---- the last record

ends : (a b : Bool) → cond a ItemRecord (cond b EndRecord (NoRecord Tag)) ≡ EndRecord → b ≡ true
ends true b e = absurd cc
ends false true e = refl
ends false false e = absurd cc

last_is : (sort : RecordKind) (b : ResultFrontParts) (at tag : ℕ) (body : List ℕ)
    (file : List (ℕ × ResultItem)) → (sort ≡ EndRecord → tag ≡ end_tag)
    → IsStep sort b at tag body (Ok (Last file))
    → (tag ≡ end_tag) × IsClosed b at body (Ok (Last file))
last_is (NoRecord kind) b at tag body file is h = absurd cc
last_is ItemRecord b at tag body file is h = absurd h
last_is EndRecord b at tag body file is h = (is refl, h)

-- ---- what the walk comes to

-- a result from a place on, up to another one
pub record IsResultUpTo (format : Format) (d : DeviceParts) (bytes : List ℕ) (start : ℕ)
    (file : List (ℕ × ResultItem)) (at : ℕ) : Type 0 where
  pub items : List ResultItem
  pub records : AreRecords format d items
  pub behind : List ℕ
  pub text : drop start bytes
      ≡ result_magic format ++ (flat_map (result_item format d).text items ++ (end_text ++ behind))
  pub place : at + length behind ≡ length bytes
  pub places : file ≡ file_of format d start items

same_from : (at to n m : ℕ) → at + n ≡ m → to + n ≡ m → at ≡ to
same_from at to n m p q = omega (arith, p, q)

-- where a walk ends there is a result up to that place
pub end_is : (format : Format) (d : DeviceParts) (bytes : List ℕ) (start : ℕ) (behind : List ℕ)
    (file : List (ℕ × ResultItem)) (at : ℕ) → start ≤ length bytes
    → drop start bytes ≡ result_magic format ++ behind
    → EndsAt JudgesResult (result_front format d []) (length bytes) behind file at
    → IsResultUpTo format d bytes start file at
end_is format d bytes start behind file at within magic h =
    let a = adds format d [] h.front.from h.front.records h.before h.front.leads in
    let items = flat_map (result_item format d).text a.more in
    let front = result_front format d (placed format d h.front.from a.more) in
    let judged : IsStep (result_sort h.last.0) front h.last_at h.last.0 h.last.1 (Ok (Last file)) =
    subst (λ (b : ResultFrontParts). JudgesResult b h.last_at h.last.0 h.last.1 (Ok (Last file)))
    a.is h.judged in
    let l = last_is (result_sort h.last.0) front h.last_at h.last.0 h.last.1 file
    (λ e. eqb-true h.last.0 end_tag (ends _ (eqb h.last.0 end_tag) e)) judged in
    let last : text_of h.last ≡ end_text =
    ap (λ (n : ℕ). record_text n h.last.1) l.0
    ∙ ap (λ (z : List ℕ). record_text end_tag z) l.1.0 in
    let parts : behind ≡ items ++ h.behind =
    h.front.parts ∙ ap (λ (z : List ℕ). z ++ h.behind) a.text in
    let from = same_from h.front.from (start + length (result_magic format)) (length behind)
    (length bytes)
    h.front.place (magic_place format bytes start behind within magic) in
    let last_at : h.last_at ≡ h.front.from + length items =
    omega (
      arith,
      h.front.place,
      h.last_place,
      ap length parts,
      length-append items h.behind,
    ) in
    record {
      items = a.more;
      records = added format d [] h.front.from h.front.records h.before a;
      behind = h.rest;
      text = magic ∙ ap (λ (z : List ℕ). result_magic format ++ z) (parts
          ∙ ap (λ (z : List ℕ). items ++ z) (h.stands.parts
          ∙ ap (λ (z : List ℕ). z ++ h.rest) last));
      place = h.place;
      places = l.1.1
          ∙ ap (λ (n : ℕ). placed format d h.front.from a.more ++ (n, End) ∷ []) last_at
          ∙ sym (placed_last format d h.front.from a.more)
          ∙ ap (λ (n : ℕ). placed format d n (a.more ++ End ∷ [])) from;
    }

-- what a walk comes to after the magic
record Comes (format : Format) (bytes : List ℕ) (start : ℕ) (There : List ℕ → Type 0) : Type 0 where
  pub behind : List ℕ
  pub magic : drop start bytes ≡ result_magic format ++ behind
  pub there : There behind

-- where there is a result up to a place a walk ends there
is_end : (format : Format) (d : DeviceParts) (bytes : List ℕ) (start : ℕ)
    (file : List (ℕ × ResultItem)) (at : ℕ)
    → start ≤ length bytes → IsResultUpTo format d bytes start file at
    → Comes format bytes start
    (λ behind. EndsAt JudgesResult (result_front format d []) (length bytes) behind file at)
is_end format d bytes start file at within h =
    let items = flat_map (result_item format d).text h.items in
    let from = start + length (result_magic format) in
    let place = magic_place format bytes start (items ++ (end_text ++ h.behind)) within h.text in
    record {
      behind = items ++ (end_text ++ h.behind);
      magic = h.text;
      there = record {
        before = result_front format d (placed format d from h.items);
        behind = end_text ++ h.behind;
        front = items_front format d bytes start h.items (end_text ++ h.behind) within h.text
            h.records;
        last = (end_tag, []);
        rest = h.behind;
        stands = record { parts = refl; fits = (omega arith, omega arith) };
        last_at = from + length items;
        last_place = omega (arith, place, length-append items (end_text ++ h.behind));
        judged = (refl, h.places ∙ placed_last format d from h.items);
        place = h.place;
      };
    }

-- where a walk finds a fault, bytes break
pub fault_breaks : (format : Format) (d : DeviceParts) (bytes : List ℕ) (start : ℕ)
    (behind : List ℕ) (at : ℕ)
    (kind : CaptureKind) → start ≤ length bytes → drop start bytes ≡ result_magic format ++ behind
    → FaultAt JudgesResult Cut (result_front format d []) (length bytes) behind at kind
    → ResultFaultIs format d bytes start at kind
fault_breaks format d bytes start behind at kind within magic h =
    let a = adds format d [] h.front.from h.front.records h.before h.front.leads in
    let from = same_from h.front.from (start + length (result_magic format)) (length behind)
    (length bytes)
    h.front.place (magic_place format bytes start behind within magic) in
    let before : h.before ≡ result_front format d
    (placed format d (start + length (result_magic format)) a.more) =
    a.is ∙ ap (λ (n : ℕ). result_front format d (placed format d n a.more)) from in
    inr (inl (record {
      items = a.more;
      records = added format d [] h.front.from h.front.records h.before a;
      behind = h.behind;
      text = magic ∙ ap (λ (z : List ℕ). result_magic format ++ z) (h.front.parts
          ∙ ap (λ (z : List ℕ). z ++ h.behind) a.text);
      place = h.place;
      faulty = subst (λ (b : ResultFrontParts). IsFaulty JudgesResult Cut b at h.behind kind)
          before h.faulty;
    }))

-- where bytes break, a walk finds a fault
breaks_fault : (format : Format) (d : DeviceParts) (bytes : List ℕ) (start at : ℕ)
    (kind : CaptureKind)
    → start ≤ length bytes → BreaksAt format d bytes start at kind
    → Comes format bytes start
    (λ behind. FaultAt JudgesResult Cut (result_front format d []) (length bytes) behind at kind)
breaks_fault format d bytes start at kind within h = record {
  behind = flat_map (result_item format d).text h.items ++ h.behind;
  magic = h.text;
  there = record {
    before = result_front format d (placed format d (start + length (result_magic format)) h.items);
    behind = h.behind;
    front = items_front format d bytes start h.items h.behind within h.text h.records;
    place = h.place;
    faulty = h.faulty;
  };
}

-- ---- one outcome

same_rest : (format : Format) (a b text : List ℕ) → text ≡ result_magic format ++ a
    → text ≡ result_magic format ++ b → a ≡ b
same_rest One a b text p q =
    sym (drop_at (result_magic One) a 8 refl) ∙ ap (drop 8) (sym p ∙ q)
    ∙ drop_at (result_magic One) b 8 refl
same_rest Two a b text p q =
    sym (drop_at (result_magic Two) a 8 refl) ∙ ap (drop 8) (sym p ∙ q)
    ∙ drop_at (result_magic Two) b 8 refl

-- what a walk comes to after one magic it comes to after the other, which is the same
moved : (format : Format) (bytes : List ℕ) (start : ℕ) (u : List ℕ) (There : List ℕ → Type 0)
    → drop start bytes ≡ result_magic format ++ u → (k : Comes format bytes start There) → There u
moved format bytes start u There magic k =
    subst There (sym (same_rest format u k.behind (drop start bytes) magic k.magic)) k.there

-- one result begins at a place, and it ends at one place
up_to_once : (format : Format) (d : DeviceParts) (bytes : List ℕ) (start : ℕ)
    (f g : List (ℕ × ResultItem))
    (at to : ℕ) → start ≤ length bytes → IsResultUpTo format d bytes start f at
    → IsResultUpTo format d bytes start g to → (at ≡ to) × (f ≡ g)
up_to_once format d bytes start f g at to within h k =
    let x = is_end format d bytes start f at within h in
    end_once JudgesResult result_once (result_front format d []) (length bytes) x.behind at to f g
    x.there
    (moved format bytes start x.behind
    (λ z. EndsAt JudgesResult (result_front format d []) (length bytes) z g to) x.magic
    (is_end format d bytes start g to within k))

-- where a result ends, nothing broke before
up_to_whole : (format : Format) (d : DeviceParts) (bytes : List ℕ) (start : ℕ)
    (f : List (ℕ × ResultItem))
    (at to : ℕ) (kind : CaptureKind) → start ≤ length bytes → IsResultUpTo format d bytes start f at
    → BreaksAt format d bytes start to kind → ⊥
up_to_whole format d bytes start f at to kind within h k =
    let x = is_end format d bytes start f at within h in
    end_no_fault JudgesResult Cut result_once (result_front format d []) (length bytes) x.behind at
    to f
    kind x.there (moved format bytes start x.behind
    (λ z. FaultAt JudgesResult Cut (result_front format d []) (length bytes) z to kind) x.magic
    (breaks_fault format d bytes start to kind within k))

-- a whole result ends at the end of the bytes
pub whole_ends : (format : Format) (d : DeviceParts) (bytes : List ℕ) (start : ℕ)
    (file : List (ℕ × ResultItem))
    → IsResultAt format d bytes start file → IsResultUpTo format d bytes start file (length bytes)
whole_ends format d bytes start file h = record {
  items = h.items;
  records = h.records;
  behind = [];
  text = h.text ∙ ap (λ (z : List ℕ). result_magic format ++
      (flat_map (result_item format d).text h.items ++ z))
      (sym (append-nil end_text));
  place = omega arith;
  places = h.places;
}

-- a result that ends at the end of the bytes is a whole one
pub ends_whole : (format : Format) (d : DeviceParts) (bytes : List ℕ) (start : ℕ)
    (file : List (ℕ × ResultItem))
    (at : ℕ) → length bytes ≤ at → IsResultUpTo format d bytes start file at
    → IsResultAt format d bytes start file
ends_whole format d bytes start file at all h =
    let none : h.behind ≡ [] = nil_from_length h.behind (omega (arith, all, h.place)) in
    record {
      items = h.items;
      records = h.records;
      text = h.text
          ∙ ap (λ (z : List ℕ). result_magic format ++ (flat_map (result_item format d).text h.items
          ++ (end_text ++ z))) none
          ∙ ap (λ (z : List ℕ). result_magic format ++
          (flat_map (result_item format d).text h.items ++ z))
          (append-nil end_text);
      places = h.places;
    }

-- a result that ends before the end of the bytes runs past its last record
pub ends_past : (format : Format) (d : DeviceParts) (bytes : List ℕ) (start : ℕ)
    (file : List (ℕ × ResultItem))
    (at : ℕ) → (at ≡ length bytes → ⊥) → IsResultUpTo format d bytes start file at
    → ResultFaultIs format d bytes start at Trailing
ends_past format d bytes start file at short h =
    inr (inr (
      record {
        items = h.items;
        records = h.records;
        behind = h.behind;
        text = h.text;
        more = λ none. short (omega (arith, h.place, ap length none));
        place = h.place;
      },
      refl,
    ))

-- what runs past its last record is a result up to there
past_ends : (format : Format) (d : DeviceParts) (bytes : List ℕ) (start at : ℕ)
    (h : RunsPast format d bytes start at)
    → IsResultUpTo format d bytes start (file_of format d start h.items) at
past_ends format d bytes start at h = record {
  items = h.items;
  records = h.records;
  behind = h.behind;
  text = h.text;
  place = h.place;
  places = refl;
}

past_short : (format : Format) (d : DeviceParts) (bytes : List ℕ) (start at : ℕ)
    → RunsPast format d bytes start at
    → at ≡ length bytes → ⊥
past_short format d bytes start at h all =
    h.more (nil_from_length h.behind (omega (arith, all, h.place)))

-- one result stands at a place
file_once : (format : Format) (d : DeviceParts) (bytes : List ℕ) (start : ℕ)
    (f g : List (ℕ × ResultItem))
    → start ≤ length bytes → IsResultAt format d bytes start f → IsResultAt format d bytes start g
    → f ≡ g
file_once format d bytes start f g within h k =
    (up_to_once format d bytes start f g (length bytes) (length bytes) within
    (whole_ends format d bytes start f h) (whole_ends format d bytes start g k)).1

-- where a result stands there is no fault
file_no_fault : (format : Format) (d : DeviceParts) (bytes : List ℕ) (start : ℕ)
    (f : List (ℕ × ResultItem)) (to : ℕ)
    (kind : CaptureKind) → start ≤ length bytes → IsResultAt format d bytes start f
    → ResultFaultIs format d bytes start to kind → ⊥
file_no_fault format d bytes start f to kind within h (inl k) = k.0 _ h.text
file_no_fault format d bytes start f to kind within h (inr (inl k)) =
    up_to_whole format d bytes start f (length bytes) to kind within
    (whole_ends format d bytes start f h) k
file_no_fault format d bytes start f to kind within h (inr (inr k)) =
    past_short format d bytes start to k.0
    (sym (up_to_once format d bytes start f (file_of format d start k.0.items) (length bytes) to
    within
    (whole_ends format d bytes start f h) (past_ends format d bytes start to k.0)).0)

-- there is one first fault
fault_is_once : (format : Format) (d : DeviceParts) (bytes : List ℕ) (start at to : ℕ)
    (e f : CaptureKind)
    → start ≤ length bytes → ResultFaultIs format d bytes start at e
    → ResultFaultIs format d bytes start to f
    → (at ≡ to) × (e ≡ f)
fault_is_once format d bytes start at to e f within (inl h) (inl k) =
    (h.1.0 ∙ sym k.1.0, h.1.1 ∙ sym k.1.1)
fault_is_once format d bytes start at to e f within (inl h) (inr (inl k)) = absurd (h.0 _ k.text)
fault_is_once format d bytes start at to e f within (inl h) (inr (inr k)) = absurd (h.0 _ k.0.text)
fault_is_once format d bytes start at to e f within (inr (inl h)) (inl k) = absurd (k.0 _ h.text)
fault_is_once format d bytes start at to e f within (inr (inl h)) (inr (inl k)) =
    let x = breaks_fault format d bytes start at e within h in
    fault_once JudgesResult Cut result_once (result_front format d []) (length bytes) x.behind at to
    e f
    x.there (moved format bytes start x.behind
    (λ z. FaultAt JudgesResult Cut (result_front format d []) (length bytes) z to f) x.magic
    (breaks_fault format d bytes start to f within k))
fault_is_once format d bytes start at to e f within (inr (inl h)) (inr (inr k)) =
    absurd (up_to_whole format d bytes start (file_of format d start k.0.items) to at e within
    (past_ends format d bytes start to k.0) h)
fault_is_once format d bytes start at to e f within (inr (inr h)) (inl k) = absurd (k.0 _ h.0.text)
fault_is_once format d bytes start at to e f within (inr (inr h)) (inr (inl k)) =
    absurd (up_to_whole format d bytes start (file_of format d start h.0.items) at to f within
    (past_ends format d bytes start at h.0) k)
fault_is_once format d bytes start at to e f within (inr (inr h)) (inr (inr k)) = (
  (up_to_once format d bytes start (file_of format d start h.0.items)
      (file_of format d start k.0.items) at to within
      (past_ends format d bytes start at h.0) (past_ends format d bytes start to k.0)).0,
  h.1 ∙ sym k.1,
)

-- ---- what is answered

abbrev Answer : Type 0
Answer = Result (List (ℕ × ResultItem)) (Or CaptureFault)

pub file_answers : (format : Format) (d : DeviceParts) (bytes : List ℕ) (start : ℕ) (r : Answer)
    → start ≤ length bytes → IfOk r (λ file. IsResultAt format d bytes start file)
    → IfErr r (λ e. IfFault e (λ f. ResultFaultIs format d bytes start f.at f.kind))
    → (file : List (ℕ × ResultItem)) → IsResultAt format d bytes start file → IsFile r file
file_answers format d bytes start (Ok x) within found fault file h =
    file_once format d bytes start x file within found h
file_answers format d bytes start (Err (Fault f)) within found fault file h =
    file_no_fault format d bytes start file f.at f.kind within h fault
file_answers format d bytes start (Err NoMemory) within found fault file h = tt

pub file_refuses : (format : Format) (d : DeviceParts) (bytes : List ℕ) (start : ℕ) (r : Answer)
    → start ≤ length bytes → IfOk r (λ file. IsResultAt format d bytes start file)
    → IfErr r (λ e. IfFault e (λ f. ResultFaultIs format d bytes start f.at f.kind)) → (at : ℕ)
    (kind : CaptureKind) → ResultFaultIs format d bytes start at kind → IsRefusal r at kind
file_refuses format d bytes start (Ok x) within found fault at kind h =
    file_no_fault format d bytes start x at kind within found h
file_refuses format d bytes start (Err (Fault f)) within found fault at kind h =
    fault_is_once format d bytes start f.at at f.kind kind within fault h
file_refuses format d bytes start (Err NoMemory) within found fault at kind h = tt
