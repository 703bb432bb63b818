-- The forms of requests are lawful.
use Rattle.std.proofs.Common.{◌≡◌, ℕ, List, Bool, true, false, cond, eqb, Some, refl}
use Rattle.std.proofs.Common.{sym, ap, ◌∙◌}
use Rattle.std.proofs.lemmas.Bool.{eqb-true}
use Rattle.exact_text.proofs.Exact.{given, some_is, guard_some}
use Rattle.exact_text.proofs.FieldLaws.{wide4, wide8}
use Rattle.map_entry.specs.declared.cell.Cell.{Cell}
use Rattle.map_entry.specs.declared.cell.Cell.TheVariants.{Unrouted, From}
use Rattle.exact_text.specs.Forms.{tested}
use Rattle.book_words.specs.declared.requests.When.TheVariants.{Now, At, After}
use Rattle.book_words.specs.declared.requests.Request.TheVariants.{Activate, Delete, Active}
use Rattle.book_words.specs.declared.requests.Request.TheVariants.{Pending}
use Rattle.capture_file.specs.Tags.{unrouted_input, now_op, at_op, after_op, delete_op, active_op}
use Rattle.capture_file.specs.Tags.{pending_op}
use Rattle.capture_file.specs.Requests.{cell_bytes, cell_of, cell, change, output_change, named}
use Rattle.capture_file.specs.Requests.{action, is_ordered, time, is_time, time_made}
use Rattle.capture_file.specs.Requests.{request, op_of, if_now, if_at, if_after, if_delete}
use Rattle.exact_text.proofs.FormLaws.{Lawful, byte_law, number_law, then_law, struct_law}
use Rattle.exact_text.proofs.FormLaws.{checked_law, passing_law, variant_tagged}
use Rattle.exact_text.proofs.FormLaws.{constant_tagged, no_form_tagged, choose_tagged, tagged_law}
use Rattle.exact_text.proofs.FormLaws.{counted_law}

cell_is : (full zero : Bool) (b : ℕ × ℕ) (c : Cell) → (full ≡ true → b.0 ≡ unrouted_input)
    → (zero ≡ true → b.1 ≡ 0) → cond full (tested zero Unrouted) (given (From b.0 b.1)) ≡ Some c
    → cell_bytes c ≡ b
cell_is true zero b c at_full at_zero e =
    let g = guard_some zero Unrouted c e in
    sym (ap cell_bytes g.1) ∙ rw (← at_full refl, ← at_zero g.0) refl
cell_is false zero b c at_full at_zero e = sym (ap cell_bytes (some_is (From b.0 b.1) c e))

cell_back : (b : ℕ × ℕ) (c : Cell) → cell_of b ≡ Some c → cell_bytes c ≡ b
cell_back b c e = cell_is (eqb b.0 unrouted_input) (eqb b.1 0) b c
    (λ t. eqb-true b.0 unrouted_input t) (λ t. eqb-true b.1 0 t) e

pub cell_law : {Follows : List ℕ → Type 0} → Lawful Follows cell
unfolding cell
cell_law = checked_law _ _ (then_law byte_law byte_law) (λ b c fits e. cell_back b c e)

pub change_law : {Follows : List ℕ → Type 0} → Lawful Follows change
unfolding change
change_law = struct_law _ _ (then_law byte_law cell_law) (λ p fits. refl) (λ x fits. refl)

pub output_change_law : {Follows : List ℕ → Type 0} → Lawful Follows output_change
unfolding output_change
output_change_law = passing_law _ _ named (then_law byte_law (counted_law change_law)) (λ p. refl)

pub action_law : {Follows : List ℕ → Type 0} → Lawful Follows action
unfolding action
action_law = passing_law _ is_ordered (λ a. a) (counted_law output_change_law) (λ a. refl)

pub time_law : {Follows : List ℕ → Type 0} → Lawful Follows time
unfolding time
time_law = passing_law _ is_time time_made (then_law (number_law 8 wide8) (number_law 4 wide4))
    (λ p. refl)

pub request_law : {Follows : List ℕ → Type 0} → Lawful Follows request
unfolding request
request_law = tagged_law (λ op.
    choose_tagged (variant_tagged op_of now_op (λ a. Activate Now a) if_now action_law (λ a. refl)
    (λ a. refl)) (
    choose_tagged (variant_tagged op_of at_op (λ p. Activate (At p.0) p.1) if_at
    (then_law time_law action_law) (λ p. refl) (λ p. refl)) (
    choose_tagged (variant_tagged op_of after_op (λ p. Activate (After p.0) p.1) if_after
    (then_law time_law action_law) (λ p. refl) (λ p. refl)) (
    choose_tagged (variant_tagged op_of delete_op (λ id. Delete id) if_delete (number_law 8 wide8)
    (λ id. refl) (λ id. refl)) (
    choose_tagged (constant_tagged op_of active_op Active refl) (
    choose_tagged (constant_tagged op_of pending_op Pending refl) (no_form_tagged op_of op)))))))
