-- Forms whose reading takes just the spellings of the values that fit.
use Rattle.std.proofs.Common.{◌≡◌, ℕ, zero, suc, ◌^◌, ◌<◌, Bool, true, false, cond, eqb, List, []}
use Rattle.std.proofs.Common.{◌∷◌, ◌++◌, length, Option, Some, None, refl, sym, ap, subst, ◌∙◌}
use Rattle.std.proofs.Common.{append_assoc, arith, inl, inr, ◌⊎◌, eq-eqb}
use Rattle.std.proofs.lemmas.Bool.{eqb-true, eqb-false}
use Rattle.std.proofs.lemmas.List.{append-nil}
use Rattle.exact_text.specs.Readings.{◌>>=◌, byte_at, record_at, nothing_at, whole_of}
use Rattle.exact_text.specs.Spellings.{record_text}
use Rattle.exact_text.proofs.Exact.{IsBytes, Exact, some_is, bind_some, guard_some, given}
use Rattle.exact_text.proofs.FieldLaws.{IsWide, byte_exact, number_exact, text_exact, many_exact}
use Rattle.exact_text.proofs.WholeLaws.{record_exact, body_bytes, nothing_parts}
use Rattle.exact_text.specs.Forms.{Form, byte, number_text, number, text_of, many_of, all_left, led}
use Rattle.exact_text.specs.Forms.{◌▸◌, struct, checked, tested, passing, text_if, FitsIf, variant}
use Rattle.exact_text.specs.Forms.{constant, no_form, choose, tagged, in_record, counted}
use Rattle.exact_text.specs.Forms.{counted_text}

-- what was read stands at the front
pub record Reads {A : Type 0} (f : Form A) (bytes : List ℕ) (x : A) (rest : List ℕ) : Type 0 where
  pub parts : bytes ≡ f.text x ++ rest
  pub rest_bytes : IsBytes rest
  pub fits : f.Fits x

-- What is read is spelled so and fits, and what fits and is spelled so is read again, whatever
-- Follows.
pub record Lawful {A : Type 0} (Follows : List ℕ → Type 0) (f : Form A) : Type 0 where
  pub takes : (bytes : List ℕ) (x : A) (rest : List ℕ) → IsBytes bytes
      → f.read bytes ≡ Some (x, rest) → Reads f bytes x rest
  pub again : (x : A) (rest : List ℕ) → f.Fits x → Follows rest
      → f.read (f.text x ++ rest) ≡ Some (x, rest)

-- anything may follow
abbrev pub Anything : List ℕ → Type 0
Anything rest = Unit {0}

-- nothing may follow
abbrev pub Nothing : List ℕ → Type 0
Nothing rest = rest ≡ []

-- a field of exact_text
from_exact : {A : Type 0} (f : Form A) (Follows : List ℕ → Type 0) → Exact f.read f.text f.Fits
    → Lawful Follows f
from_exact f Follows exact = record {
  takes = λ bytes x rest are e. let t = exact.takes bytes x rest are e in
      record { parts = t.0.parts; rest_bytes = t.0.rest_fits; fits = t.2 };
  again = λ x rest fits follows. exact.again x rest tt fits;
}

to_exact : {A : Type 0} (f : Form A) → Lawful Anything f → Exact f.read f.text f.Fits
to_exact f lawful = record {
  takes = λ bytes x rest are e. let t = lawful.takes bytes x rest are e in
      (record { parts = t.parts; rest_fits = t.rest_bytes }, tt, t.fits);
  again = λ x rest known fits. lawful.again x rest fits tt;
}

-- ---- fields

pub byte_law : {Follows : List ℕ → Type 0} → Lawful Follows byte
byte_law {Follows} = from_exact byte Follows byte_exact

pub number_law : {Follows : List ℕ → Type 0} (k : ℕ) → IsWide k → Lawful Follows (number k)
unfolding number_text
number_law {Follows} k wide = from_exact (number k) Follows (number_exact k wide)

pub text_law : {Follows : List ℕ → Type 0} (n : ℕ) → Lawful Follows (text_of n)
text_law {Follows} n = from_exact (text_of n) Follows (text_exact n)

pub many_law : {A : Type 0} {Follows : List ℕ → Type 0} {f : Form A} (n : ℕ) → Lawful Anything f
    → Lawful Follows (many_of n f)
many_law {A} {Follows} {f} n lawful =
    from_exact (many_of n f) Follows (many_exact f.read f.text f.Fits (to_exact f lawful) n)

pub left_law : Lawful Nothing all_left
left_law = record {
  takes = λ bytes x rest are e.
      let same = some_is (bytes, []) (x, rest) e in
      subst (λ (y : List ℕ × List ℕ). Reads all_left bytes y.0 y.1) same
      (record { parts = sym (append-nil bytes); rest_bytes = λ i. omega arith; fits = tt });
  again = λ x rest fits follows. rw (follows, append-nil) refl;
}

-- ---- one after the other

pub led_law : {A B : Type 0} {Follows : List ℕ → Type 0} {f : Form A} {g : A → Form B}
    → Lawful Anything f → ((a : A) → Lawful Follows (g a)) → Lawful Follows (led f g)
led_law {A} {B} {Follows} {f} {g} first second = record {
  takes = λ bytes x rest are e.
      let a = bind_some (f.read bytes) (λ a. (g a.0).read a.1 >>= λ b. given ((a.0, b.0), b.1))
      (x, rest) e in
      let b = bind_some ((g a.0.0).read a.0.1) (λ b. given ((a.0.0, b.0), b.1)) (x, rest) a.2 in
      let t = first.takes bytes a.0.0 a.0.1 are a.1 in
      let u = (second a.0.0).takes a.0.1 b.0.0 b.0.1 t.rest_bytes b.1 in
      let same = some_is ((a.0.0, b.0.0), b.0.1) (x, rest) b.2 in
      let parts : bytes ≡ (f.text a.0.0 ++ (g a.0.0).text b.0.0) ++ b.0.1 = t.parts
      ∙ ap (λ (z : List ℕ). f.text a.0.0 ++ z) u.parts
      ∙ sym (append_assoc (f.text a.0.0) ((g a.0.0).text b.0.0) b.0.1) in
      subst (λ (y : (A × B) × List ℕ). Reads (led f g) bytes y.0 y.1) same
      (record { parts = parts; rest_bytes = u.rest_bytes; fits = (t.fits, u.fits) });
  again = λ x rest fits follows.
      ap (led f g).read (append_assoc (f.text x.0) ((g x.0).text x.1) rest)
      ∙ rw (
        first.again x.0 ((g x.0).text x.1 ++ rest) fits.0 tt,
        (second x.0).again x.1 rest fits.1 follows,
      ) refl;
}

pub then_law : {A B : Type 0} {Follows : List ℕ → Type 0} {f : Form A} {g : Form B}
    → Lawful Anything f → Lawful Follows g → Lawful Follows (f ▸ g)
then_law {A} {B} {Follows} {f} {g} first second = led_law first (λ a. second)

-- ---- values of a type of their own

pub struct_law : {A B : Type 0} {Follows : List ℕ → Type 0} {f : Form A} (fields : B → A)
    (make : A → B) → Lawful Follows f → ((a : A) → f.Fits a → fields (make a) ≡ a)
    → ((x : B) → f.Fits (fields x) → make (fields x) ≡ x) → Lawful Follows (struct f fields make)
struct_law {A} {B} {Follows} {f} fields make lawful back forth = record {
  takes = λ bytes x rest are e.
      let a = bind_some (f.read bytes) (λ a. given (make a.0, a.1)) (x, rest) e in
      let t = lawful.takes bytes a.0.0 a.0.1 are a.1 in
      let is : fields (make a.0.0) ≡ a.0.0 = back a.0.0 t.fits in
      let same = some_is (make a.0.0, a.0.1) (x, rest) a.2 in
      subst (λ (y : B × List ℕ). Reads (struct f fields make) bytes y.0 y.1) same
      (record {
        parts = t.parts ∙ ap (λ (z : A). f.text z ++ a.0.1) (sym is);
        rest_bytes = t.rest_bytes;
        fits = subst f.Fits (sym is) t.fits;
      });
  again = λ x rest fits follows. rw (lawful.again (fields x) rest fits follows, forth x fits) refl;
}

pub checked_law : {A B : Type 0} {Follows : List ℕ → Type 0} {f : Form A} (tell : B → A)
    (make : A → Option B) → Lawful Follows f
    → ((a : A) (x : B) → f.Fits a → make a ≡ Some x → tell x ≡ a)
    → Lawful Follows (checked f tell make)
checked_law {A} {B} {Follows} {f} tell make lawful back = record {
  takes = λ bytes x rest are e.
      let a = bind_some (f.read bytes) (λ a. make a.0 >>= λ b. given (b, a.1)) (x, rest) e in
      let m = bind_some (make a.0.0) (λ b. given (b, a.0.1)) (x, rest) a.2 in
      let t = lawful.takes bytes a.0.0 a.0.1 are a.1 in
      let is : tell m.0 ≡ a.0.0 = back a.0.0 m.0 t.fits m.1 in
      let same = some_is (m.0, a.0.1) (x, rest) m.2 in
      subst (λ (y : B × List ℕ). Reads (checked f tell make) bytes y.0 y.1) same
      (record {
        parts = t.parts ∙ ap (λ (z : A). f.text z ++ a.0.1) (sym is);
        rest_bytes = t.rest_bytes;
        fits = (subst f.Fits (sym is) t.fits, ap make is ∙ m.1);
      });
  again = λ x rest fits follows. rw (lawful.again (tell x) rest fits.0 follows, fits.1) refl;
}

pub passing_law : {A B : Type 0} {Follows : List ℕ → Type 0} {f : Form A} (fields : B → A)
    (test : A → Bool) (make : A → B) → Lawful Follows f → ((a : A) → fields (make a) ≡ a)
    → Lawful Follows (passing f fields test make)
passing_law {A} {B} {Follows} {f} fields test make lawful back =
    checked_law fields (λ a. tested (test a) (make a)) lawful
    (λ a x fits e. sym (ap fields (guard_some (test a) (make a) x e).1) ∙ back a)

-- a struct some of whose fields the others tell
pub made_law : {A B : Type 0} {Follows : List ℕ → Type 0} {f : Form A} (fields : B → A)
    (make : A → B) → Lawful Follows f → ((a : A) → fields (make a) ≡ a)
    → Lawful Follows (checked f fields (λ a. Some (make a)))
made_law {A} {B} {Follows} {f} fields make lawful back =
    checked_law fields (λ a. Some (make a)) lawful
    (λ a x fits e. sym (ap fields (some_is (make a) x e)) ∙ back a)

-- ---- tags

-- a form of the values of one tag
pub record Tagged {B : Type 0} (Follows : List ℕ → Type 0) (tag : B → ℕ) (t : ℕ) (f : Form B) :
    Type 0 where
  pub lawful : Lawful Follows f
  pub tells : (x : B) → f.Fits x → tag x ≡ t

variant_again : {A B : Type 0} {Follows : List ℕ → Type 0} (f : Form A) (make : A → B)
    (held : B → Option A) → Lawful Follows f → (x : B) (rest : List ℕ) (o : Option A)
    → FitsIf f make x o → Follows rest
    → (variant f make held).read (text_if f o ++ rest) ≡ Some (x, rest)
variant_again f make held lawful x rest None fits follows = absurd fits
variant_again f make held lawful x rest (Some a) fits follows =
    rw (lawful.again a rest fits.0 follows, fits.1) refl

pub variant_law : {A B : Type 0} {Follows : List ℕ → Type 0} {f : Form A} (make : A → B)
    (held : B → Option A) → Lawful Follows f → ((a : A) → held (make a) ≡ Some a)
    → Lawful Follows (variant f make held)
variant_law {A} {B} {Follows} {f} make held lawful holds = record {
  takes = λ bytes x rest are e.
      let a = bind_some (f.read bytes) (λ a. given (make a.0, a.1)) (x, rest) e in
      let t = lawful.takes bytes a.0.0 a.0.1 are a.1 in
      let same = some_is (make a.0.0, a.0.1) (x, rest) a.2 in
      let is = holds a.0.0 in
      subst (λ (y : B × List ℕ). Reads (variant f make held) bytes y.0 y.1) same
      (record {
        parts = t.parts ∙ ap (λ (o : Option A). text_if f o ++ a.0.1) (sym is);
        rest_bytes = t.rest_bytes;
        fits = subst (λ (o : Option A). FitsIf f make (make a.0.0) o) (sym is) (t.fits, refl);
      });
  again = λ x rest fits follows. variant_again f make held lawful x rest (held x) fits follows;
}

variant_tells : {A B : Type 0} (f : Form A) (make : A → B) (tag : B → ℕ) (t : ℕ)
    → ((a : A) → tag (make a) ≡ t) → (x : B) (o : Option A) → FitsIf f make x o → tag x ≡ t
variant_tells f make tag t same x None fits = absurd fits
variant_tells f make tag t same x (Some a) fits = sym (ap tag fits.1) ∙ same a

pub variant_tagged : {A B : Type 0} {Follows : List ℕ → Type 0} {f : Form A} (tag : B → ℕ) (t : ℕ)
    (make : A → B) (held : B → Option A) → Lawful Follows f → ((a : A) → held (make a) ≡ Some a)
    → ((a : A) → tag (make a) ≡ t) → Tagged Follows tag t (variant f make held)
variant_tagged {A} {B} {Follows} {f} tag t make held lawful holds same = record {
  lawful = variant_law make held lawful holds;
  tells = λ x fits. variant_tells f make tag t same x (held x) fits;
}

pub constant_tagged : {B : Type 0} {Follows : List ℕ → Type 0} (tag : B → ℕ) (t : ℕ) (value : B)
    → tag value ≡ t → Tagged Follows tag t (constant value)
constant_tagged {B} tag t value same = record {
  lawful = record {
    takes = λ bytes x rest are e.
        let is = some_is (value, bytes) (x, rest) e in
        subst (λ (y : B × List ℕ). Reads (constant value) bytes y.0 y.1) is
        (record { parts = refl; rest_bytes = are; fits = refl });
    again = λ x rest fits follows. rw fits refl;
  };
  tells = λ x fits. sym (ap tag fits) ∙ same;
}

pub no_form_tagged : {B : Type 0} {Follows : List ℕ → Type 0} (tag : B → ℕ) (t : ℕ)
    → Tagged Follows tag t no_form
no_form_tagged tag t = record {
  lawful = record {
    takes = λ bytes x rest are e. absurd cc;
    again = λ x rest fits follows. absurd fits;
  };
  tells = λ x fits. absurd fits;
}

-- the same form at a tag that is told
choose_is : {B : Type 0} {Follows : List ℕ → Type 0} (tag : B → ℕ) (t value : ℕ)
    (this that : Form B) (b : Bool) → (b ≡ eqb t value) → (t ≡ value → Tagged Follows tag t this)
    → ((t ≡ value → ⊥) → Tagged Follows tag t that)
    → Tagged Follows tag t (record {
      text = λ x. cond b (this.text x) (that.text x);
      read = λ bytes. cond b (this.read bytes) (that.read bytes);
      Fits =
          λ x. ((t ≡ value) × this.Fits x) ⊎ ((t ≡ value → ⊥) × that.Fits x);
    })
choose_is tag t value this that true b yes_is no_is =
    let same : t ≡ value = eqb-true t value (sym b) in
    let h = yes_is same in
    record {
      lawful = record {
        takes = λ bytes x rest are e. let r = h.lawful.takes bytes x rest are e in
            record { parts = r.parts; rest_bytes = r.rest_bytes; fits = inl (same, r.fits) };
        again = λ x rest fits follows.
            h.lawful.again x rest (elim fits [ inl p ↦ p.1 | inr p ↦ absurd (p.0 same) ]) follows;
      };
      tells = λ x fits. h.tells x (elim fits [ inl p ↦ p.1 | inr p ↦ absurd (p.0 same) ]);
    }
choose_is tag t value this that false b yes_is no_is =
    let other : t ≡ value → ⊥ = eqb-false t value (sym b) in
    let h = no_is other in
    record {
      lawful = record {
        takes = λ bytes x rest are e. let r = h.lawful.takes bytes x rest are e in
            record { parts = r.parts; rest_bytes = r.rest_bytes; fits = inr (other, r.fits) };
        again = λ x rest fits follows.
            h.lawful.again x rest (elim fits [ inl p ↦ absurd (other p.0) | inr p ↦ p.1 ]) follows;
      };
      tells = λ x fits. h.tells x (elim fits [ inl p ↦ absurd (other p.0) | inr p ↦ p.1 ]);
    }

pub choose_tagged : {B : Type 0} {Follows : List ℕ → Type 0} {tag : B → ℕ} {t value : ℕ}
    {this that : Form B} → Tagged Follows tag value this → Tagged Follows tag t that
    → Tagged Follows tag t (choose t value this that)
choose_tagged {B} {Follows} {tag} {t} {value} {this} {that} is others =
    choose_is tag t value this that (eqb t value) refl
    (λ same. subst (λ (n : ℕ). Tagged Follows tag n this) (sym same) is) (λ other. others)

byte_read_again : {B : Type 0} (form : ℕ → Form B) (t : ℕ) (bytes : List ℕ)
    → (byte_at (t ∷ bytes) >>= λ t. (form t.0).read t.1) ≡ (form t).read bytes
byte_read_again form t bytes = refl

pub tagged_law : {B : Type 0} {Follows : List ℕ → Type 0} {tag : B → ℕ} {form : ℕ → Form B}
    → ((t : ℕ) → Tagged Follows tag t (form t)) → Lawful Follows (tagged tag form)
tagged_law {B} {Follows} {tag} {form} each = record {
  takes = λ bytes x rest are e.
      let a = bind_some (byte_at bytes) (λ t. (form t.0).read t.1) (x, rest) e in
      let t = (byte_law {Follows = Anything}).takes bytes a.0.0 a.0.1 are a.1 in
      let r = (each a.0.0).lawful.takes a.0.1 x rest t.rest_bytes a.2 in
      let is : tag x ≡ a.0.0 = (each a.0.0).tells x r.fits in
      let parts : bytes ≡ a.0.0 ∷ ((form a.0.0).text x ++ rest) = t.parts
      ∙ ap (λ (z : List ℕ). a.0.0 ∷ z) r.parts in
      record {
        parts = subst (λ (n : ℕ). bytes ≡ n ∷ ((form n).text x ++ rest)) (sym is) parts;
        rest_bytes = r.rest_bytes;
        fits = subst (λ (n : ℕ). (n < 256) × (form n).Fits x) (sym is) (t.fits, r.fits);
      };
  again = λ x rest fits follows. (each (tag x)).lawful.again x rest fits.1 follows;
}

-- a whole body
pub whole_takes : {A : Type 0} {f : Form A} → Lawful Nothing f → (body : List ℕ) (x : A)
    → IsBytes body → whole_of f.read body ≡ Some x → (body ≡ f.text x) × f.Fits x
whole_takes {A} {f} lawful body x are e =
    let a = bind_some (f.read body) (λ value. nothing_at value.1 >>= λ end. given value.0) x e in
    let b = bind_some (nothing_at a.0.1) (λ end. given a.0.0) x a.2 in
    let t = lawful.takes body a.0.0 a.0.1 are a.1 in
    let is : a.0.0 ≡ x = some_is a.0.0 x b.2 in
    let whole : body ≡ f.text a.0.0 = t.parts
    ∙ ap (λ (z : List ℕ). f.text a.0.0 ++ z) (nothing_parts a.0.1 b.0 b.1)
    ∙ append-nil (f.text a.0.0) in
    subst (λ (y : A). (body ≡ f.text y) × f.Fits y) is (whole, t.fits)

pub whole_again : {A : Type 0} {f : Form A} → Lawful Nothing f → (x : A) → f.Fits x
    → whole_of f.read (f.text x) ≡ Some x
whole_again {A} {f} lawful x fits =
    let again : f.read (f.text x) ≡ Some (x, []) = ap f.read (sym (append-nil (f.text x)))
    ∙ lawful.again x [] fits refl in
    ap (λ (o : Option (A × List ℕ)). o >>= λ value. nothing_at value.1 >>= λ end. given value.0)
    again

pub record_law : {B : Type 0} {Follows : List ℕ → Type 0} {tag : B → ℕ} {form : ℕ → Form B}
    → ((t : ℕ) → Tagged Nothing tag t (form t)) → Lawful Follows (in_record tag form)
record_law {B} {Follows} {tag} {form} each = record {
  takes = λ bytes x rest are e.
      let a = bind_some (record_at bytes)
      (λ r. whole_of (form r.0.0).read r.0.1 >>= λ y. given (y, r.1)) (x, rest) e in
      let t = a.0.0.0 in
      let body = a.0.0.1 in
      let b = bind_some (whole_of (form t).read body) (λ y. given (y, a.0.1)) (x, rest) a.2 in
      let r = record_exact.takes bytes (t, body) a.0.1 are a.1 in
      let w = whole_takes (each t).lawful body b.0 (body_bytes bytes t body a.0.1 are r.0.parts)
      b.1 in
      let is : tag b.0 ≡ t = (each t).tells b.0 w.1 in
      let long : length ((form t).text b.0) < 256 ^ 4 =
      subst (λ (z : List ℕ). length z < 256 ^ 4) w.0 r.2.1.0 in
      let parts : bytes ≡ record_text t ((form t).text b.0) ++ a.0.1 = r.0.parts
      ∙ ap (λ (z : List ℕ). record_text t z ++ a.0.1) w.0 in
      let same = some_is (b.0, a.0.1) (x, rest) b.2 in
      subst (λ (y : B × List ℕ). Reads (in_record tag form) bytes y.0 y.1) same
      (record {
        parts = subst (λ (n : ℕ). bytes ≡ record_text n ((form n).text b.0) ++ a.0.1) (sym is)
            parts;
        rest_bytes = r.0.rest_fits;
        fits = subst (λ (n : ℕ). (n < 256)
            × ((length ((form n).text b.0) < 256 ^ 4) × (form n).Fits b.0)) (sym is)
            (r.2.0, (long, w.1));
      });
  again = λ x rest fits follows.
      rw (
        record_exact.again (tag x, (form (tag x)).text x) rest tt (fits.0, (fits.1.0, tt)),
        whole_again (each (tag x)).lawful x fits.1.1,
      ) refl;
}

-- ---- lists after their numbers

pub counted_law : {A : Type 0} {Follows : List ℕ → Type 0} {f : Form A} → Lawful Anything f
    → Lawful Follows (counted f)
counted_law {A} {Follows} {f} lawful =
    struct_law (λ xs. (length xs, xs)) (λ p. p.1) (led_law byte_law (λ n. many_law n lawful))
    (λ p fits. ap (λ (n : ℕ). (n, p.1)) fits.1.0) (λ xs fits. refl)

pub counted_text_law : {Follows : List ℕ → Type 0} → Lawful Follows counted_text
counted_text_law {Follows} =
    struct_law (λ xs. (length xs, xs)) (λ p. p.1) (led_law byte_law (λ n. text_law n))
    (λ p fits. ap (λ (n : ℕ). (n, p.1)) fits.1) (λ xs fits. refl)

-- what functions need that write one field after the other
pub ruleset joined = (append_assoc)
