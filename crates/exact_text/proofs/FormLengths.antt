-- The most bytes of a form's spellings.
use Rattle.std.proofs.Common.{◌≡◌, ℕ, ◌+◌, ◌*◌, ◌≤◌, Bool, true, false, cond, eqb, List, [], ◌∷◌}
use Rattle.std.proofs.Common.{◌++◌, length, Option, Some, None, refl, sym, ap, arith, inl, inr, ◌⊎◌}
use Rattle.std.specs.List.{flat_map, AllByRecursion}
use Rattle.std.proofs.lemmas.Bool.{eqb-true, eqb-false}
use Rattle.std.proofs.lemmas.List.{length-append}
use Rattle.std.proofs.lemmas.List.Concat.{flat_map-cons}
use Rattle.byteorder.specs.Numbers.{length-bytes_high_first}
use Rattle.exact_text.specs.Forms.{Form, byte, number_text, number, led, ◌▸◌, struct, checked}
use Rattle.exact_text.specs.Forms.{text_if, FitsIf, variant, constant, no_form, choose, tagged}
use Rattle.exact_text.specs.Forms.{counted}

-- what fits has at most a given number of bytes
pub record IsShort {A : Type 0} (f : Form A) (n : ℕ) : Type 0 where
  pub most : (x : A) → f.Fits x → length (f.text x) ≤ n

pub shorter : {A : Type 0} {f : Form A} {n : ℕ} (m : ℕ) → n ≤ m → IsShort f n → IsShort f m
shorter m le short = record { most = λ x fits. let s = short.most x fits in omega (arith, le, s) }

pub byte_short : IsShort byte 1
byte_short = record { most = λ x fits. omega arith }

pub length-number : (k n : ℕ) → length (number_text k n) ≡ k
unfolding number_text
length-number k n = length-bytes_high_first k n

pub number_short : (k : ℕ) → IsShort (number k) k
number_short k = record { most = λ x fits. omega (arith, length-number k x) }

pub led_short : {A B : Type 0} {f : Form A} {g : A → Form B} {n m : ℕ} → IsShort f n
    → ((a : A) → IsShort (g a) m) → IsShort (led f g) (n + m)
led_short {A} {B} {f} {g} first second = record {
  most = λ x fits.
      let a = first.most x.0 fits.0 in
      let b = (second x.0).most x.1 fits.1 in
      omega (arith, a, b, length-append (f.text x.0) ((g x.0).text x.1));
}

pub then_short : {A B : Type 0} {f : Form A} {g : Form B} {n m : ℕ} → IsShort f n → IsShort g m
    → IsShort (f ▸ g) (n + m)
then_short first second = led_short first (λ a. second)

pub struct_short : {A B : Type 0} {f : Form A} {n : ℕ} (fields : B → A) (make : A → B) → IsShort f n
    → IsShort (struct f fields make) n
struct_short fields make short = record { most = λ x fits. short.most (fields x) fits }

pub checked_short : {A B : Type 0} {f : Form A} {n : ℕ} (tell : B → A) (make : A → Option B)
    → IsShort f n → IsShort (checked f tell make) n
checked_short tell make short = record { most = λ x fits. short.most (tell x) fits.0 }

texts_short : {A : Type 0} (f : Form A) (n : ℕ) → IsShort f n → (xs : List A)
    → AllByRecursion f.Fits xs → length (flat_map f.text xs) ≤ length xs * n
texts_short f n short [] fits = omega arith
texts_short f n short (x ∷ xs) fits =
    let s = short.most x fits.0 in
    let others = texts_short f n short xs fits.1 in
    let e = ap length (flat_map-cons f.text x xs) in
    omega (arith, s, others, e, length-append (f.text x) (flat_map f.text xs))

product_up : (a b n : ℕ) → a ≤ b → a * n ≤ b * n
product_up a b n le = grind arith

-- a list after its number
pub counted_short : {A : Type 0} {f : Form A} {n : ℕ} → IsShort f n
    → IsShort (counted f) (1 + 255 * n)
counted_short {A} {f} {n} short = record {
  most = λ xs fits.
      let s = texts_short f n short xs fits.1.1 in
      let few = product_up (length xs) 255 n (omega (arith, fits.0)) in
      omega (arith, s, few);
}

held_short : {A B : Type 0} (f : Form A) (make : A → B) (n : ℕ) → IsShort f n
    → (x : B) (o : Option A) → FitsIf f make x o → length (text_if f o) ≤ n
held_short f make n short x None fits = absurd fits
held_short f make n short x (Some a) fits = short.most a fits.0

pub variant_short : {A B : Type 0} {f : Form A} {n : ℕ} (make : A → B) (held : B → Option A)
    → IsShort f n → IsShort (variant f make held) n
variant_short {A} {B} {f} {n} make held short =
    record { most = λ x fits. held_short f make n short x (held x) fits }

pub constant_short : {B : Type 0} {n : ℕ} (value : B) → IsShort (constant value) n
constant_short value = record { most = λ x fits. omega arith }

pub no_form_short : {B : Type 0} {n : ℕ} → IsShort (no_form {B = B}) n
no_form_short = record { most = λ x fits. absurd fits }

chosen_short : {B : Type 0} (this that : Form B) (n : ℕ) (t : Bool) (x : B)
    → (t ≡ true → length (this.text x) ≤ n) → (t ≡ false → length (that.text x) ≤ n)
    → length (cond t (this.text x) (that.text x)) ≤ n
chosen_short this that n true x is other = is refl
chosen_short this that n false x is other = other refl

fits_this : {B : Type 0} (tag value : ℕ) (this that : Form B) (x : B) → eqb tag value ≡ true
    → (choose tag value this that).Fits x → this.Fits x
fits_this tag value this that x t (inl h) = h.1
fits_this tag value this that x t (inr h) = absurd (h.0 (eqb-true tag value t))

fits_that : {B : Type 0} (tag value : ℕ) (this that : Form B) (x : B) → eqb tag value ≡ false
    → (choose tag value this that).Fits x → that.Fits x
fits_that tag value this that x f (inl h) = absurd (eqb-false tag value f h.0)
fits_that tag value this that x f (inr h) = h.1

pub choose_short : {B : Type 0} {this that : Form B} {n : ℕ} (tag value : ℕ) → IsShort this n
    → IsShort that n → IsShort (choose tag value this that) n
choose_short {B} {this} {that} {n} tag value is others = record {
  most = λ x fits.
      chosen_short this that n (eqb tag value) x
      (λ t. is.most x (fits_this tag value this that x t fits))
      (λ f. others.most x (fits_that tag value this that x f fits));
}

pub tagged_short : {B : Type 0} {tag : B → ℕ} {form : ℕ → Form B} {n : ℕ}
    → ((t : ℕ) → IsShort (form t) n) → IsShort (tagged tag form) (1 + n)
tagged_short {B} {tag} {form} {n} each =
    record { most = λ x fits. let s = (each (tag x)).most x fits.1 in omega (arith, s) }
