-- The front of a capture: one opening stands there, or one fault comes there.
use Rattle.std.proofs.Common.{◌≡◌, ℕ, ◌+◌, ◌-◌, ◌≤◌, Bool, true, false, cond, eqb, List, ◌++◌, length, take}
use Rattle.std.proofs.Common.{Some, None, Result, Ok, Err, refl, sym, ap, subst, ◌∙◌, inl, inr, ◌⊎◌}
use Rattle.std.proofs.Common.{drop, arith}
use Rattle.std.specs.Prelude.{slice_index_or}
use Rattle.std.proofs.lemmas.Bool.{eqb-true}
use Rattle.std.proofs.lemmas.List.{drop_at, take_at, length-append}
use Rattle.io_caps.specs.declared.memory.Or.{Or}
use Rattle.io_caps.specs.declared.memory.Or.TheVariants.{Fault, NoMemory}
use Rattle.map_entry.specs.Setup.{SetupParts, setup_of, setup_with}
use Rattle.map_entry.specs.declared.grain.Grain.{Grain}
use Rattle.map_entry.specs.declared.grain.Grain.TheVariants.{Tick, Frame}
use Rattle.exact_text.specs.Readings.{literal_at, record_at}
use Rattle.exact_text.proofs.Exact.{IsBytes, IsBytes-drop}
use Rattle.exact_text.proofs.FieldLaws.{literal_again}
use Rattle.capture_file.specs.declared.fault.CaptureFault.{CaptureFault}
use Rattle.capture_file.specs.declared.fault.CaptureKind.{CaptureKind}
use Rattle.capture_file.specs.declared.fault.CaptureKind.TheVariants.{Cut, Tag, Order, Body}
use Rattle.capture_file.specs.declared.before.DeviceForm.{DeviceForm}
use Rattle.capture_file.specs.declared.before.DeviceForm.TheVariants.{Plain, Json}
use Rattle.capture_file.specs.declared.format.Format.{Format}
use Rattle.capture_file.specs.declared.format.Format.TheVariants.{One, Two}
use Rattle.capture_file.specs.declared.opening.Opening.{Opening}
use Rattle.capture_file.specs.Tags.{device_tag, json_device_tag, grain_tag}
use Rattle.capture_file.specs.Formats.{capture_magic, grain_body, grain_text, misplaced_grain}
use Rattle.capture_file.specs.Device.{device}
use Rattle.capture_file.specs.Walk.{IfFault, IsCut, Stands, text_of}
use Rattle.capture_file.specs.Capture.{form_tag, opening_of, IsBase, IsDeviceRecord, Begins}
use Rattle.capture_file.specs.Capture.{HasNoGrain, SaysGrain, Opens}
use Rattle.capture_file.specs.Fault.{device_form, IsFirst, HasNoMagic, OpensNothing, HasNoDevice}
use Rattle.capture_file.specs.Fault.{SaysNoGrain, HasBadGrain, FaultIs}
use Rattle.capture_file.proofs.DeviceLaws.{device_law}
use Rattle.capture_file.proofs.RecordLaws.{spelled_reads, base_once}
use Rattle.capture_file.proofs.JsonLaws.{says_once}
use Rattle.capture_file.proofs.Grains.{record_ticks}
use Rattle.capture_file.proofs.WalkLaws.{none_cut, reads_stands, stands_once}

-- ---- the tag of the first record

abbrev Formed : Type 0
Formed = Result DeviceForm CaptureKind

abbrev formed : DeviceForm → Formed
formed form = Ok form

opens : (tag : ℕ) (a b c d : Bool) (kind : CaptureKind) (form : DeviceForm)
    → (a ≡ true → tag ≡ device_tag) → (b ≡ true → tag ≡ json_device_tag)
    → cond a (Ok Plain) (cond b (Ok Json) (cond c (Err Order) (cond d (Err kind) (Err Tag))))
    ≡ formed form → tag ≡ form_tag form
opens tag true b c d kind Plain plain json e = plain refl
opens tag true b c d kind Json plain json e = absurd cc
opens tag false true c d kind Plain plain json e = absurd cc
opens tag false true c d kind Json plain json e = json refl
opens tag false false true d kind form plain json e = absurd cc
opens tag false false false true kind form plain json e = absurd cc
opens tag false false false false kind form plain json e = absurd cc

tag_is : (format : Format) (tag : ℕ) (form : DeviceForm) → device_form format tag ≡ formed form
    → tag ≡ form_tag form
tag_is format tag form e = opens tag (eqb tag device_tag) (eqb tag json_device_tag) _
    (eqb tag grain_tag) (misplaced_grain format) form (eqb-true tag device_tag)
    (eqb-true tag json_device_tag) e

-- a device in some form, which a tag and a body say
record IsSaid (tag : ℕ) (body : List ℕ) (setup : SetupParts) : Type 0 where
  pub form : DeviceForm
  pub is : tag ≡ form_tag form
  pub base : IsBase form body setup

first_is : (o : Formed) (tag : ℕ) (body : List ℕ) (setup : SetupParts)
    → ((form : DeviceForm) → o ≡ formed form → tag ≡ form_tag form) → IsFirst o body (Ok setup)
    → IsSaid tag body setup
first_is (Err kind) tag body setup is h = absurd cc
first_is (Ok form) tag body setup is h = record { form = form; is = is form refl; base = h }

-- a record that opens a device is one of it
first_opens : (format : Format) (tag : ℕ) (body : List ℕ) (setup : SetupParts)
    → IsFirst (device_form format tag) body (Ok setup) → IsSaid tag body setup
first_opens format tag body setup h =
    first_is (device_form format tag) tag body setup (tag_is format tag) h

form_opens : (format : Format) (form : DeviceForm) (body : List ℕ) (setup : SetupParts)
    → IsBase form body setup → IsFirst (device_form format (form_tag form)) body (Ok setup)
form_opens format Plain body setup h = h
form_opens format Json body setup h = h

-- a record of a device opens it
opens_first : (format : Format) (setup : SetupParts) (r : ℕ × List ℕ) → IsDeviceRecord setup r
    → IsFirst (device_form format r.0) r.1 (Ok setup)
opens_first format setup r h =
    subst (λ (tag : ℕ). IsFirst (device_form format tag) r.1 (Ok setup)) (sym h.tag)
    (form_opens format h.form r.1 setup h.base)

-- ---- what the reader finds

no_case : (magic bytes rest : List ℕ) → literal_at magic bytes ≡ None → bytes ≡ magic ++ rest → ⊥
no_case magic bytes rest none parts = let again : literal_at magic bytes ≡ Some rest =
    ap (literal_at magic) parts ∙ literal_again magic rest in absurd cc

-- no magic
pub no_magic : (bytes : List ℕ) → literal_at (capture_magic One) bytes ≡ None
    → literal_at (capture_magic Two) bytes ≡ None → HasNoMagic bytes
no_magic bytes one two One rest parts = no_case (capture_magic One) bytes rest one parts
no_magic bytes one two Two rest parts = no_case (capture_magic Two) bytes rest two parts

-- the bytes after others are bytes
bytes_behind : (bytes front rest : List ℕ) → bytes ≡ front ++ rest → IsBytes bytes → IsBytes rest
bytes_behind bytes front rest parts are =
    subst IsBytes (ap (drop (length front)) parts ∙ drop_at front rest (length front) refl)
    (IsBytes-drop (length front) bytes are)

-- the place of the last bytes of a whole
pub place_of : (bytes front rest : List ℕ) → bytes ≡ front ++ rest
    → length bytes - length rest + length rest ≡ length bytes
place_of bytes front rest parts =
    omega (arith, ap (λ (z : List ℕ). length z) parts, length-append front rest)

-- the fault that is told is the first one
pub told_fault : (r : Or CaptureFault) (bytes : List ℕ) (at : ℕ) (kind : CaptureKind)
    → FaultIs bytes at kind → IfFault r (λ f. (f.at ≡ at) × (f.kind ≡ kind))
    → IfFault r (λ f. FaultIs bytes f.at f.kind)
told_fault (Fault f) bytes at kind is told = rw (told.0, told.1) is
told_fault NoMemory bytes at kind is told = tt

pub cut_first : (bytes rest : List ℕ) (format : Format) (at : ℕ) (kind : CaptureKind)
    → bytes ≡ capture_magic format ++ rest → record_at rest ≡ None
    → at + length rest ≡ length bytes → kind ≡ Cut → FaultIs bytes at kind
cut_first bytes rest format at kind parts none place is =
    inr (inl (record {
      format = format;
      behind = rest;
      parts = parts;
      place = place;
      faulty = inl (none_cut rest none, is);
    }))

pub fault_first : (bytes rest : List ℕ) (format : Format) (at : ℕ) (told kind : CaptureKind)
    (tag : ℕ) (body behind : List ℕ) → IsBytes bytes → bytes ≡ capture_magic format ++ rest
    → record_at rest ≡ Some ((tag, body), behind)
    → IsFirst (device_form format tag) body (Err kind) → at + length rest ≡ length bytes
    → told ≡ kind → FaultIs bytes at told
fault_first bytes rest format at told kind tag body behind are parts read judged place is =
    let stands = reads_stands rest (tag, body) behind
    (bytes_behind bytes (capture_magic format) rest parts are) read in
    rw is (inr (inl (record {
      format = format;
      behind = rest;
      parts = parts;
      place = place;
      faulty =
          inr (record { of = (tag, body); rest = behind; stands = stands; judged = judged });
    })))

pub begun : (bytes rest : List ℕ) (format : Format) (setup : SetupParts) (tag : ℕ)
    (body behind : List ℕ) → IsBytes bytes → bytes ≡ capture_magic format ++ rest
    → record_at rest ≡ Some ((tag, body), behind)
    → IsFirst (device_form format tag) body (Ok setup) → Begins bytes format setup behind
begun bytes rest format setup tag body behind are parts read judged =
    let stands = reads_stands rest (tag, body) behind
    (bytes_behind bytes (capture_magic format) rest parts are) read in
    let f = first_opens format tag body setup judged in
    record {
      of = (tag, body);
      device = record { fits = stands.fits; form = f.form; tag = f.is; base = f.base };
      parts = parts ∙ ap (λ (z : List ℕ). capture_magic format ++ z) stands.parts;
    }

-- a record of a grain stands there, which says this one
pub grain_said : (behind : List ℕ) (grain : Grain) (body rest : List ℕ) → IsBytes behind
    → record_at behind ≡ Some ((grain_tag, body), rest) → body ≡ grain_body grain
    → SaysGrain Two behind grain rest
grain_said behind grain body rest are read is =
    let stands = reads_stands behind (grain_tag, body) rest are read in
    inl (stands.parts ∙ ap (λ (z : List ℕ). text_of (grain_tag, z) ++ rest) is)

-- a record of a grain stands there, which says none
pub none_said : (behind body rest : List ℕ) → IsBytes behind
    → record_at behind ≡ Some ((grain_tag, body), rest)
    → ((grain : Grain) → body ≡ grain_body grain → ⊥) → SaysNoGrain behind
none_said behind body rest are read none =
    record {
      body = body;
      rest = rest;
      stands = reads_stands behind (grain_tag, body) rest are read;
      none = none;
    }

-- another record stands there
pub other_stands : (behind : List ℕ) (tag : ℕ) (body rest : List ℕ) → IsBytes behind
    → record_at behind ≡ Some ((tag, body), rest) → (tag ≡ grain_tag → ⊥)
    → SaysGrain Two behind Tick behind
other_stands behind tag body rest are read other =
    let stands = reads_stands behind (tag, body) rest are read in
    inr (
      refl,
      (
        refl,
        λ r after h is.
            other (ap (λ (x : ℕ × List ℕ). x.0)
            (stands_once behind (tag, body) r rest after stands h).0 ∙ is),
      ),
    )

-- no whole record stands there
pub nothing_stands : (behind : List ℕ) → record_at behind ≡ None → SaysGrain Two behind Tick behind
nothing_stands behind none =
    inr (refl, (refl, λ r after h is. none_cut behind none r after h.fits h.parts))

pub bad_grain : (bytes : List ℕ) (format : Format) (setup : SetupParts) (behind : List ℕ) (at : ℕ)
    (kind : CaptureKind) → Begins bytes format setup behind
    → (format ≡ Two) × SaysNoGrain behind → at + length behind ≡ length bytes → kind ≡ Body
    → FaultIs bytes at kind
bad_grain bytes format setup behind at kind begins bad place is =
    inr (inr (inl (record {
      setup = setup;
      behind = behind;
      begins = subst (λ (f : Format). Begins bytes f setup behind) bad.0 begins;
      place = place;
      faulty = bad.1;
      is = is;
    })))

grain_within : (format : Format) (bytes : List ℕ) (grain : Grain) (behind : List ℕ)
    → SaysGrain format bytes grain behind → length behind ≤ length bytes
grain_within One bytes grain behind (is, same) = omega (arith, ap (λ (z : List ℕ). length z) same)
grain_within Two bytes grain behind (inl p) =
    omega (arith, ap (λ (z : List ℕ). length z) p, length-append (grain_text grain) behind)
grain_within Two bytes grain behind (inr (is, (same, none))) =
    omega (arith, ap (λ (z : List ℕ). length z) same)

-- the place behind an opening
pub opening_place : (bytes : List ℕ) (format : Format) (setup : SetupParts) (behind : List ℕ)
    (grain : Grain) (rest : List ℕ) → Begins bytes format setup behind
    → SaysGrain format behind grain rest → length bytes - length rest + length rest ≡ length bytes
opening_place bytes format setup behind grain rest begins says =
    let front = capture_magic format in
    omega (
      arith,
      ap (λ (z : List ℕ). length z) begins.parts,
      length-append front (text_of begins.of ++ behind),
      length-append (text_of begins.of) behind,
      grain_within format behind grain rest says,
    )

-- an opening by its parts
pub opened : (bytes : List ℕ) (format : Format) (setup : SetupParts) (behind : List ℕ)
    (grain : Grain) (rest : List ℕ) (at : ℕ) → Begins bytes format setup behind
    → SaysGrain format behind grain rest → at + length rest ≡ length bytes
    → Opens bytes (opening_of format (setup_with setup.device setup.rows grain) at) rest
opened bytes format setup behind grain rest at begins says place =
    record {
      after = behind;
      begins = subst (λ (s : SetupParts). Begins bytes format s behind)
          (record_ticks setup begins.of begins.device) begins;
      grain = says;
      place = place;
    }

-- ---- one front

-- the digit of a magic
abbrev digit : List ℕ → ℕ
digit magic = slice_index_or magic 6 0

magics_same : (f g : Format) → capture_magic f ≡ capture_magic g → f ≡ g
magics_same One One e = refl
magics_same One Two e = let same : 49 ≡ 50 = ap digit e in absurd (omega (arith, same))
magics_same Two One e = let same : 50 ≡ 49 = ap digit e in absurd (omega (arith, same))
magics_same Two Two e = refl

magic_long : (format : Format) → length (capture_magic format) ≡ 8
magic_long One = refl
magic_long Two = refl

magic_front : (format : Format) (a bytes : List ℕ) → bytes ≡ capture_magic format ++ a
    → take 8 bytes ≡ capture_magic format
magic_front format a bytes parts =
    ap (take 8) parts ∙ take_at (capture_magic format) a 8 (magic_long format)

magic_rest : (format : Format) (a bytes : List ℕ) → bytes ≡ capture_magic format ++ a
    → drop 8 bytes ≡ a
magic_rest format a bytes parts =
    ap (drop 8) parts ∙ drop_at (capture_magic format) a 8 (magic_long format)

-- one magic stands there
same_front : (f g : Format) (a b bytes : List ℕ) → bytes ≡ capture_magic f ++ a
    → bytes ≡ capture_magic g ++ b → (f ≡ g) × (a ≡ b)
same_front f g a b bytes p q = (
  magics_same f g (sym (magic_front f a bytes p) ∙ magic_front g b bytes q),
  sym (magic_rest f a bytes p) ∙ magic_rest g b bytes q,
)

-- one tag says one form
forms_same : (f g : DeviceForm) → form_tag f ≡ form_tag g → f ≡ g
forms_same Plain Plain e = refl
forms_same Plain Json e = let same : device_tag ≡ json_device_tag = e in let never : ⊥ =
    omega (arith, same) in absurd never
forms_same Json Plain e = let same : json_device_tag ≡ device_tag = e in let never : ⊥ =
    omega (arith, same) in absurd never
forms_same Json Json e = refl

-- a body says one device in a form
bases_same : (form : DeviceForm) (body : List ℕ) (a b : SetupParts) → IsBase form body a
    → IsBase form body b → a ≡ b
bases_same Plain body a b h k =
    sym (base_once body a.device a.rows
    (spelled_reads device device_law body (a.device, a.rows) h.1.0) a h)
    ∙ base_once body a.device a.rows
    (spelled_reads device device_law body (a.device, a.rows) h.1.0) b k
bases_same Json body a b h k = says_once body a b h.1 k.1

devices_same : (r s : ℕ × List ℕ) (a b : SetupParts) → r ≡ s
    → (h : IsDeviceRecord a r) (k : IsDeviceRecord b s) → a ≡ b
devices_same r s a b same h k =
    let form : h.form ≡ k.form =
    forms_same h.form k.form (sym h.tag ∙ ap (λ (x : ℕ × List ℕ). x.0) same ∙ k.tag) in
    bases_same h.form r.1 a b h.base (rw (form, same) k.base)

-- the record of a device follows the magic
record_stands : (bytes : List ℕ) (f g : Format) (setup : SetupParts) (behind rest : List ℕ)
    (h : Begins bytes f setup behind) → bytes ≡ capture_magic g ++ rest
    → (f ≡ g) × Stands rest h.of behind
record_stands bytes f g setup behind rest h parts =
    let same = same_front f g (text_of h.of ++ behind) rest bytes h.parts parts in
    (same.0, record { parts = sym same.1; fits = h.device.fits })

-- one device stands there
record Same (f g : Format) (a b : SetupParts) (u v : List ℕ) : Type 0 where
  pub format : f ≡ g
  pub setup : a ≡ b
  pub behind : u ≡ v

begins_once : (bytes : List ℕ) (f g : Format) (a b : SetupParts) (u v : List ℕ)
    → Begins bytes f a u → Begins bytes g b v → Same f g a b u v
begins_once bytes f g a b u v h k =
    let rest = text_of h.of ++ u in
    let other = record_stands bytes g f b v rest k h.parts in
    let same = stands_once rest h.of k.of u v
    (record { parts = refl; fits = h.device.fits }) other.1 in
    record {
      format = sym other.0;
      setup = devices_same h.of k.of a b same.0 h.device k.device;
      behind = same.1;
    }

-- ---- one grain

bodies_same : (g h : Grain) → grain_body g ≡ grain_body h → g ≡ h
bodies_same Tick Tick e = refl
bodies_same Tick Frame e = absurd cc
bodies_same Frame Tick e = absurd cc
bodies_same Frame Frame e = refl

grain_stands : (bytes : List ℕ) (grain : Grain) (behind : List ℕ)
    → bytes ≡ grain_text grain ++ behind → Stands bytes (grain_tag, grain_body grain) behind
grain_stands bytes Tick behind parts =
    record { parts = parts; fits = (omega arith, omega arith) }
grain_stands bytes Frame behind parts =
    record { parts = parts; fits = (omega arith, omega arith) }

grain_once : (format : Format) (bytes : List ℕ) (g h : Grain) (u v : List ℕ)
    → SaysGrain format bytes g u → SaysGrain format bytes h v → (g ≡ h) × (u ≡ v)
grain_once One bytes g h u v (gx, pu) (hx, pv) = (gx ∙ sym hx, sym pu ∙ pv)
grain_once Two bytes g h u v (inl p) (inl q) =
    let same = stands_once bytes (grain_tag, grain_body g) (grain_tag, grain_body h) u v
    (grain_stands bytes g u p) (grain_stands bytes h v q) in
    (bodies_same g h (ap (λ (x : ℕ × List ℕ). x.1) same.0), same.1)
grain_once Two bytes g h u v (inl p) (inr (is, (same, none))) =
    absurd (none (grain_tag, grain_body g) u (rw (← same) (grain_stands bytes g u p)) refl)
grain_once Two bytes g h u v (inr (is, (same, none))) (inl q) =
    absurd (none (grain_tag, grain_body h) v (rw (← same) (grain_stands bytes h v q)) refl)
grain_once Two bytes g h u v (inr (is, (same, none))) (inr (other, (alike, never))) =
    (is ∙ sym other, sym same ∙ alike)

-- ---- one opening

rebuilt : (s t : SetupParts) → setup_of s.device s.rows ≡ setup_of t.device t.rows
    → s.grain ≡ t.grain → s ≡ t
rebuilt s t base grain =
    ap (λ (b : SetupParts). setup_with b.device b.rows s.grain) base
    ∙ ap (λ (g : Grain). setup_with t.device t.rows g) grain

openings_same : (o p : Opening) → o.format ≡ p.format → o.setup ≡ p.setup
    → o.items_at ≡ p.items_at → o ≡ p
openings_same o p format setup at =
    ap (λ (f : Format). opening_of f o.setup o.items_at) format
    ∙ ap (λ (s : SetupParts). opening_of p.format s o.items_at) setup
    ∙ ap (λ (n : ℕ). opening_of p.format p.setup n) at

-- bytes open in one way alone
pub opens_once : (bytes : List ℕ) (o p : Opening) (u v : List ℕ) → Opens bytes o u
    → Opens bytes p v → (o ≡ p) × (u ≡ v)
opens_once bytes o p u v h k =
    let same = begins_once bytes o.format p.format (setup_of o.setup.device o.setup.rows)
    (setup_of p.setup.device p.setup.rows) h.after k.after h.begins k.begins in
    let other : SaysGrain o.format h.after p.setup.grain v = rw (same.format, same.behind) k.grain in
    let grain = grain_once o.format h.after o.setup.grain p.setup.grain u v h.grain other in (
      openings_same o p same.format (rebuilt o.setup p.setup same.setup grain.0)
          (omega (arith, h.place, k.place, ap (λ (z : List ℕ). length z) grain.1)),
      grain.1,
    )

-- bytes that open begin with the magic
pub opens_magic : (bytes : List ℕ) (o : Opening) (behind : List ℕ) → Opens bytes o behind
    → HasNoMagic bytes → ⊥
opens_magic bytes o behind h never = never o.format (text_of h.begins.of ++ h.after) h.begins.parts

not_opened : (o : Formed) (body : List ℕ) (setup : SetupParts) (kind : CaptureKind)
    → IsFirst o body (Ok setup) → IsFirst o body (Err kind) → ⊥
not_opened (Err other) body setup kind h k = absurd cc
not_opened (Ok form) body setup kind h k = k.1 setup h

-- where a device stands no fault stands there
begins_no_fault : (bytes : List ℕ) (format : Format) (setup : SetupParts) (behind : List ℕ)
    (at : ℕ) (kind : CaptureKind) → Begins bytes format setup behind → HasNoDevice bytes at kind
    → ⊥
begins_no_fault bytes format setup behind at kind h k =
    let stands = record_stands bytes format k.format setup behind k.behind h k.parts in
    elim k.faulty [
      | inl cut ↦ cut.0 h.of behind stands.1.fits stands.1.parts
      | inr none ↦
          let same = stands_once k.behind h.of none.of behind none.rest stands.1 none.stands in
          not_opened (device_form k.format h.of.0) h.of.1 setup kind
          (opens_first k.format setup h.of h.device) (rw same.0 none.judged)
    ]

-- where bytes open no fault stands at their device
pub opens_no_fault : (bytes : List ℕ) (o : Opening) (behind : List ℕ) (at : ℕ)
    (kind : CaptureKind) → Opens bytes o behind → HasNoDevice bytes at kind → ⊥
opens_no_fault bytes o behind at kind h k =
    begins_no_fault bytes o.format (setup_of o.setup.device o.setup.rows) h.after at kind
    h.begins k

says_none : (bytes : List ℕ) (grain : Grain) (behind : List ℕ) → SaysGrain Two bytes grain behind
    → SaysNoGrain bytes → ⊥
says_none bytes grain behind (inl p) k =
    let same = stands_once bytes (grain_tag, grain_body grain) (grain_tag, k.body) behind k.rest
    (grain_stands bytes grain behind p) k.stands in
    k.none grain (sym (ap (λ (x : ℕ × List ℕ). x.1) same.0))
says_none bytes grain behind (inr (is, (same, none))) k =
    none (grain_tag, k.body) k.rest (rw (← same) k.stands) refl

-- where bytes open no fault stands at their grain
pub opens_no_bad : (bytes : List ℕ) (o : Opening) (behind : List ℕ) (at : ℕ) (kind : CaptureKind)
    → Opens bytes o behind → HasBadGrain bytes at kind → ⊥
opens_no_bad bytes o behind at kind h k =
    let same = begins_once bytes o.format Two (setup_of o.setup.device o.setup.rows) k.setup
    h.after k.behind h.begins k.begins in
    let says : SaysGrain Two h.after o.setup.grain behind =
    subst (λ (f : Format). SaysGrain f h.after o.setup.grain behind) same.format h.grain in
    says_none h.after o.setup.grain behind says (rw same.behind k.faulty)

kinds_same : (o : Formed) (body : List ℕ) (e f : CaptureKind) → IsFirst o body (Err e)
    → IsFirst o body (Err f) → e ≡ f
kinds_same (Err kind) body e f h k = cc
kinds_same (Ok form) body e f h k = h.0 ∙ sym k.0

place_same : (a b n m whole : ℕ) → n ≡ m → a + n ≡ whole → b + m ≡ whole → a ≡ b
place_same a b n m whole same p q = omega (arith, same, p, q)

-- one fault stands at the device
pub no_device_once : (bytes : List ℕ) (at to : ℕ) (e f : CaptureKind) → HasNoDevice bytes at e
    → HasNoDevice bytes to f → (at ≡ to) × (e ≡ f)
no_device_once bytes at to e f h k =
    let same = same_front h.format k.format h.behind k.behind bytes h.parts k.parts in
    let other : (IsCut h.behind × (f ≡ Cut)) ⊎ OpensNothing h.format h.behind f =
    rw (same.0, same.1) k.faulty in (
      place_same at to (length h.behind) (length k.behind) (length bytes)
          (ap (λ (z : List ℕ). length z) same.1) h.place k.place,
      elim h.faulty [
        | inl cut ↦ elim other [
          | inl too ↦ cut.1 ∙ sym too.1
          | inr none ↦ absurd (cut.0 none.of none.rest none.stands.fits none.stands.parts)
        ]
        | inr some ↦ elim other [
          | inl too ↦ absurd (too.0 some.of some.rest some.stands.fits some.stands.parts)
          | inr none ↦
              let same = stands_once h.behind some.of none.of some.rest none.rest some.stands
              none.stands in
              kinds_same (device_form h.format some.of.0) some.of.1 e f some.judged
              (rw same.0 none.judged)
        ]
      ],
    )

-- a fault at the grain is none at the device
pub bad_no_device : (bytes : List ℕ) (at to : ℕ) (e f : CaptureKind) → HasBadGrain bytes at e
    → HasNoDevice bytes to f → ⊥
bad_no_device bytes at to e f h k =
    begins_no_fault bytes Two h.setup h.behind to f h.begins k

-- one fault stands at the grain
pub bad_once : (bytes : List ℕ) (at to : ℕ) (e f : CaptureKind) → HasBadGrain bytes at e
    → HasBadGrain bytes to f → (at ≡ to) × (e ≡ f)
bad_once bytes at to e f h k =
    let same = begins_once bytes Two Two h.setup k.setup h.behind k.behind h.begins k.begins in (
      place_same at to (length h.behind) (length k.behind) (length bytes)
          (ap (λ (z : List ℕ). length z) same.behind) h.place k.place,
      h.is ∙ sym k.is,
    )

-- bytes with a fault at the grain begin with the magic
pub bad_magic : (bytes : List ℕ) (at : ℕ) (kind : CaptureKind) → HasBadGrain bytes at kind
    → HasNoMagic bytes → ⊥
bad_magic bytes at kind h never =
    never Two (text_of h.begins.of ++ h.behind) h.begins.parts
