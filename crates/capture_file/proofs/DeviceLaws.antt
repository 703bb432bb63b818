-- The form of a plain device is lawful.
use Rattle.std.proofs.Common.{◌≡◌, ℕ, List, [], ◌∷◌, length, Bool, true, false, cond, eqb, Option}
use Rattle.std.proofs.Common.{Some, None, refl, sym, ap, ◌∙◌}
use Rattle.std.proofs.lemmas.Bool.{eqb-true}
use Rattle.std.proofs.lemmas.List.{nil_from_length}
use Rattle.exact_text.proofs.Exact.{given, some_is, guard_some}
use Rattle.exact_text.proofs.FieldLaws.{wide2, wide4, wide8}
use Rattle.io_caps.specs.declared.rate.Width.TheVariants.{L16, L24}
use Rattle.io_caps.specs.declared.port.Routable.{Routable}
use Rattle.io_caps.specs.declared.port.Routable.TheVariants.{All as Anything, Only}
use Rattle.capture_file.specs.declared.device.Target.{Target}
use Rattle.exact_text.specs.Forms.{tested}
use Rattle.capture_file.specs.Tags.{bits_16, bits_24, all_routable, unrouted_member}
use Rattle.capture_file.specs.Device.{width_bits, width, flag_byte, flag, numbered, channels}
use Rattle.capture_file.specs.Device.{member_byte, member, members_after, routable_parts, routable}
use Rattle.capture_file.specs.Device.{plain_input, input, plain_output, output, outputs_of, rows_of}
use Rattle.capture_file.specs.Device.{targets_of, target, ports, device_of, device}
use Rattle.capture_file.proofs.Numbered.{length-numbered}
use Rattle.exact_text.proofs.FormLaws.{Lawful, byte_law, number_law, many_law, led_law, then_law}
use Rattle.exact_text.proofs.FormLaws.{struct_law, checked_law, made_law, counted_text_law}
use Rattle.capture_file.proofs.RequestLaws.{cell_law}

two_is : {B : Type 0} (tell : B → ℕ) (s t : Bool) (n a b : ℕ) (x y z : B) → tell x ≡ a → tell y ≡ b
    → (s ≡ true → n ≡ a) → (t ≡ true → n ≡ b) → cond s (given x) (tested t y) ≡ Some z → tell z ≡ n
two_is tell true t n a b x y z at_x at_y is_a is_b e =
    sym (ap tell (some_is x z e)) ∙ at_x ∙ sym (is_a refl)
two_is tell false t n a b x y z at_x at_y is_a is_b e =
    let g = guard_some t y z e in
    sym (ap tell g.1) ∙ at_y ∙ sym (is_b g.0)

-- one value of two, by a number
pub one_of_two : {B : Type 0} (tell : B → ℕ) (n a b : ℕ) (x y z : B) → tell x ≡ a → tell y ≡ b
    → cond (eqb n a) (given x) (tested (eqb n b) y) ≡ Some z → tell z ≡ n
one_of_two tell n a b x y z at_x at_y e =
    two_is tell (eqb n a) (eqb n b) n a b x y z at_x at_y (λ t. eqb-true n a t)
    (λ t. eqb-true n b t) e

pub width_law : {Follows : List ℕ → Type 0} → Lawful Follows width
unfolding width
width_law = checked_law _ _ byte_law
    (λ n w fits e. one_of_two width_bits n bits_16 bits_24 L16 L24 w refl refl e)

pub flag_law : {Follows : List ℕ → Type 0} → Lawful Follows flag
unfolding flag
flag_law = checked_law _ _ byte_law
    (λ n b fits e. one_of_two flag_byte n 0 1 false true b refl refl e)

pub channels_law : {Follows : List ℕ → Type 0} → Lawful Follows channels
unfolding channels
channels_law = checked_law _ _ byte_law
    (λ n labels fits e. sym (ap (λ (l : List (List ℕ)). length l) (some_is (numbered n) labels e))
    ∙ length-numbered n)

member_is : (t : Bool) (n : ℕ) (m : Option ℕ) → (t ≡ true → n ≡ unrouted_member)
    → cond t (given None) (given (Some n)) ≡ Some m → member_byte m ≡ n
member_is true n m at e = sym (ap member_byte (some_is None m e)) ∙ sym (at refl)
member_is false n m at e = sym (ap member_byte (some_is (Some n) m e))

pub member_law : {Follows : List ℕ → Type 0} → Lawful Follows member
unfolding member
member_law = checked_law _ _ byte_law
    (λ n m fits e. member_is (eqb n unrouted_member) n m (λ t. eqb-true n unrouted_member t) e)

-- The list after 255 is empty, so the parts of what was read are what was read.
routable_is : (t : Bool) (p : ℕ × List (Option ℕ)) (r : Routable)
    → (t ≡ true → (p.0 ≡ all_routable) × (p.1 ≡ [])) → (t ≡ false → length p.1 ≡ p.0)
    → cond t (given Anything) (given (Only p.1)) ≡ Some r → routable_parts r ≡ p
routable_is true p r all only e =
    let h = all refl in
    sym (ap routable_parts (some_is Anything r e)) ∙ rw (← h.0, ← h.1) refl
routable_is false p r all only e =
    sym (ap routable_parts (some_is (Only p.1) r e)) ∙ ap (λ (n : ℕ). (n, p.1)) (only refl)

pub routable_law : {Follows : List ℕ → Type 0} → Lawful Follows routable
unfolding routable
routable_law = checked_law _ _ (led_law byte_law (λ n. many_law (members_after n) member_law))
    (λ p r fits e.
    routable_is (eqb p.0 all_routable) p r
    (λ t. (
      eqb-true p.0 all_routable t,
      nil_from_length p.1 (fits.1.0
          ∙ ap (λ (b : Bool). cond b 0 p.0) t),
    ))
    (λ t. fits.1.0 ∙ ap (λ (b : Bool). cond b 0 p.0) t) e)

pub input_law : {Follows : List ℕ → Type 0} → Lawful Follows input
unfolding input
input_law = made_law _ plain_input
    (then_law counted_text_law
    (then_law channels_law (then_law width_law (then_law byte_law (then_law byte_law flag_law)))))
    (λ p. refl)

pub output_law : {Follows : List ℕ → Type 0} → Lawful Follows output
unfolding output
output_law = made_law _ plain_output
    (then_law counted_text_law
    (then_law channels_law
    (then_law width_law (then_law byte_law (then_law (number_law 4 wide4) routable_law)))))
    (λ p. refl)

pub target_law : {Follows : List ℕ → Type 0} → Lawful Follows target
unfolding target
target_law = struct_law _ _ (led_law output_law (λ o. many_law (length o.labels) cell_law))
    (λ p fits. refl) (λ t fits. refl)

abbrev both : ℕ → ℕ → ℕ × ℕ
both n m = (n, m)

numbers : {n m a b : ℕ} → n ≡ a → m ≡ b → both n m ≡ both a b
numbers e f = rw (e, f) refl

pub ports_law : {Follows : List ℕ → Type 0} → Lawful Follows ports
unfolding ports
ports_law = struct_law _ _
    (led_law (then_law byte_law byte_law)
    (λ n. then_law (many_law n.0 input_law) (many_law n.1 target_law)))
    (λ q fits. ap (λ (n : ℕ × ℕ). (n, q.1)) (numbers fits.1.0.0 fits.1.1.0)) (λ p fits. refl)

targets_again : (targets : List Target)
    → targets_of (outputs_of targets) (rows_of targets) ≡ targets
targets_again [] = refl
targets_again (t ∷ targets) = ap (λ (z : List Target). t ∷ z) (targets_again targets)

pub device_law : {Follows : List ℕ → Type 0} → Lawful Follows device
unfolding device
device_law = made_law _ device_of
    (then_law (number_law 4 wide4)
    (then_law (number_law 2 wide2) (then_law (number_law 8 wide8) (then_law byte_law ports_law))))
    (λ p. ap (λ (ts : List Target). (p.0, (p.1.0, (p.1.1.0, (p.1.1.1.0, (p.1.1.1.1.0, ts))))))
    (targets_again p.1.1.1.1.1))
