-- The forms of replies are lawful.
use Rattle.std.proofs.Common.{◌≡◌, ℕ, List, [], ◌∷◌, ◌++◌, Bool, true, false, cond, eqb, Option}
use Rattle.std.proofs.Common.{Some, None, refl, sym, ap, subst, ◌∙◌, append_assoc}
use Rattle.std.specs.List.{AllZip, flat_map}
use Rattle.std.proofs.lemmas.Bool.{eqb-true}
use Rattle.std.proofs.lemmas.List.Concat.{flat_map-cons}
use Rattle.map_entry.specs.declared.cell.Cell.{Cell}
use Rattle.map_entry.specs.declared.fault.RowFault.{RowFault}
use Rattle.map_entry.specs.declared.fault.RowFault.TheVariants.{Input, Channel, NotRoutable, Block}
use Rattle.map_entry.specs.declared.fault.RowFault.TheVariants.{Order}
use Rattle.book_words.specs.declared.requests.When.TheVariants.{Now, At, After}
use Rattle.book_words.specs.declared.replies.Refusal.TheVariants.{Empty, Unknown, BadChannel}
use Rattle.book_words.specs.declared.replies.Refusal.TheVariants.{Locked, Row, Time, NotPending}
use Rattle.book_words.specs.declared.replies.Reply.TheVariants.{Activated, Scheduled, Deleted}
use Rattle.book_words.specs.declared.replies.Reply.TheVariants.{Active, Pending, Refused}
use Rattle.exact_text.specs.Readings.{◌>>=◌, many_at}
use Rattle.exact_text.proofs.Exact.{IsBytes, given, some_is, bind_some}
use Rattle.exact_text.proofs.FieldLaws.{wide8}
use Rattle.exact_text.proofs.FormLaws.{Lawful, Reads, Anything, Tagged, byte_law, number_law}
use Rattle.exact_text.proofs.FormLaws.{many_law, then_law, struct_law, checked_law, variant_tagged}
use Rattle.exact_text.proofs.FormLaws.{constant_tagged, no_form_tagged, choose_tagged, tagged_law}
use Rattle.exact_text.proofs.FormLaws.{counted_law}
use Rattle.capture_file.specs.Tags.{now_op, at_op, after_op, activated_code, scheduled_code}
use Rattle.capture_file.specs.Tags.{deleted_code, active_code, pending_code, empty_code}
use Rattle.capture_file.specs.Tags.{unknown_code, bad_channel_code, locked_code, row_code}
use Rattle.capture_file.specs.Tags.{time_code, not_pending_code, input_check, channel_check}
use Rattle.capture_file.specs.Tags.{routable_check, block_check, order_check}
use Rattle.capture_file.specs.declared.format.Format.{Format}
use Rattle.capture_file.specs.Requests.{cell}
use Rattle.capture_file.specs.Replies.{when, when_op, if_at_time, if_after_time, activation_made}
use Rattle.capture_file.specs.Replies.{shown, last_tag, if_last, last, rows_at, FitsWidth, rows}
use Rattle.capture_file.specs.Replies.{view, pending_made, pending, fault_bytes, fault_of}
use Rattle.capture_file.specs.Replies.{row_fault, code_of, if_activated, if_scheduled, if_deleted}
use Rattle.capture_file.specs.Replies.{if_active, if_pending, if_unknown, if_bad_channel, if_locked}
use Rattle.capture_file.specs.Replies.{if_row, if_not_pending, refusal, reply}
use Rattle.capture_file.proofs.FormatLaws.{moment_law}
use Rattle.capture_file.proofs.RequestLaws.{cell_law, action_law, time_law}

pub when_law : {Follows : List ℕ → Type 0} → Lawful Follows when
unfolding when
when_law = tagged_law (λ op.
    choose_tagged (constant_tagged when_op now_op Now refl) (
    choose_tagged (variant_tagged when_op at_op (λ t. At t) if_at_time time_law (λ t. refl)
    (λ t. refl)) (
    choose_tagged (variant_tagged when_op after_op (λ t. After t) if_after_time time_law (λ t. refl)
    (λ t. refl)) (no_form_tagged when_op op))))

pub shown_law : {Follows : List ℕ → Type 0} (format : Format) → Lawful Follows (shown format)
unfolding shown
shown_law format = struct_law _ activation_made
    (then_law (number_law 8 wide8) (then_law when_law (moment_law format))) (λ p fits. refl)
    (λ a fits. refl)

pub last_law : {Follows : List ℕ → Type 0} (format : Format) → Lawful Follows (last format)
unfolding last
last_law format = tagged_law (λ t.
    choose_tagged (constant_tagged last_tag 0 None refl) (
    choose_tagged (variant_tagged last_tag 1 (λ a. Some a) if_last (shown_law format) (λ a. refl)
    (λ a. refl)) (no_form_tagged last_tag t)))

-- ---- rows

rows_take : (widths bytes : List ℕ) (x : List (List Cell)) (rest : List ℕ) → IsBytes bytes
    → rows_at widths bytes ≡ Some (x, rest) → Reads (rows widths) bytes x rest
unfolding rows
rows_take [] bytes x rest are e =
    let same = some_is ([], bytes) (x, rest) e in
    subst (λ (y : List (List Cell) × List ℕ). Reads (rows []) bytes y.0 y.1) same
    (record { parts = refl; rest_bytes = are; fits = tt })
rows_take (width ∷ widths) bytes x rest are e =
    let a = bind_some (many_at cell.read width bytes)
    (λ row. rows_at widths row.1 >>= λ others. given (row.0 ∷ others.0, others.1)) (x, rest) e in
    let b = bind_some (rows_at widths a.0.1) (λ others. given (a.0.0 ∷ others.0, others.1))
    (x, rest) a.2 in
    let t = (many_law {Follows = Anything} width cell_law).takes bytes a.0.0 a.0.1 are a.1 in
    let u = rows_take widths a.0.1 b.0.0 b.0.1 t.rest_bytes b.1 in
    let same = some_is (a.0.0 ∷ b.0.0, b.0.1) (x, rest) b.2 in
    let text = flat_map-cons (flat_map cell.text) a.0.0 b.0.0 in
    let parts : bytes ≡ flat_map (flat_map cell.text) (a.0.0 ∷ b.0.0) ++ b.0.1 =
    t.parts ∙ ap (λ (z : List ℕ). flat_map cell.text a.0.0 ++ z) u.parts
    ∙ sym (append_assoc (flat_map cell.text a.0.0) (flat_map (flat_map cell.text) b.0.0) b.0.1)
    ∙ ap (λ (z : List ℕ). z ++ b.0.1) (sym text) in
    subst (λ (y : List (List Cell) × List ℕ). Reads (rows (width ∷ widths)) bytes y.0 y.1) same
    (record { parts = parts; rest_bytes = u.rest_bytes; fits = (t.fits, u.fits) })

rows_again : (widths : List ℕ) (x : List (List Cell)) (rest : List ℕ) → AllZip FitsWidth widths x
    → rows_at widths (flat_map (flat_map cell.text) x ++ rest) ≡ Some (x, rest)
rows_again [] [] rest fits = refl
rows_again [] (row ∷ x) rest fits = absurd fits
rows_again (width ∷ widths) [] rest fits = absurd fits
rows_again (width ∷ widths) (row ∷ x) rest fits =
    let text : flat_map (flat_map cell.text) (row ∷ x) ++ rest ≡ flat_map cell.text row
    ++ (flat_map (flat_map cell.text) x ++ rest) =
    ap (λ (z : List ℕ). z ++ rest) (flat_map-cons (flat_map cell.text) row x)
    ∙ append_assoc (flat_map cell.text row) (flat_map (flat_map cell.text) x) rest in
    let first = (many_law {Follows = Anything} width cell_law).again row
    (flat_map (flat_map cell.text) x ++ rest) fits.0 tt in
    ap (rows_at (width ∷ widths)) text ∙ rw (first, rows_again widths x rest fits.1) refl

pub rows_law : {Follows : List ℕ → Type 0} (widths : List ℕ) → Lawful Follows (rows widths)
unfolding rows
rows_law {Follows} widths = record {
  takes = λ bytes x rest are e. rows_take widths bytes x rest are e;
  again = λ x rest fits follows. rows_again widths x rest fits;
}

pub view_law : {Follows : List ℕ → Type 0} (format : Format) (widths : List ℕ)
    → Lawful Follows (view format widths)
unfolding view
view_law format widths = struct_law _ _ (then_law (last_law format) (rows_law widths)) (λ p fits. refl)
    (λ v fits. refl)

pub pending_law : {Follows : List ℕ → Type 0} (format : Format)
    → Lawful Follows (pending format)
unfolding pending
pending_law format = struct_law _ pending_made
    (then_law (number_law 8 wide8) (then_law when_law (then_law (moment_law format) action_law)))
    (λ p fits. refl) (λ p fits. refl)

-- ---- refusals

abbrev no_fault : Option RowFault
no_fault = None

-- the fault of one check, or one by the checks after it
fault_is : (t : Bool) (check n : ℕ) (x : RowFault) (others : Option RowFault) (f : RowFault)
    → fault_bytes x ≡ (check, n) → (b : ℕ × ℕ) → (t ≡ true → b.0 ≡ check) → b.1 ≡ n
    → (others ≡ Some f → fault_bytes f ≡ b) → cond t (Some x) others ≡ Some f → fault_bytes f ≡ b
fault_is true check n x others f of b same channel more e =
    sym (ap fault_bytes (some_is x f e)) ∙ of ∙ rw (← same refl, ← channel) refl
fault_is false check n x others f of b same channel more e = more e

fault_back : (b : ℕ × ℕ) (f : RowFault) → fault_of b ≡ Some f → fault_bytes f ≡ b
fault_back b f e =
    fault_is (eqb b.0 input_check) input_check b.1 (Input b.1) _ f refl b
    (λ t. eqb-true b.0 input_check t) refl (λ e1.
    fault_is (eqb b.0 channel_check) channel_check b.1 (Channel b.1) _ f refl b
    (λ t. eqb-true b.0 channel_check t) refl (λ e2.
    fault_is (eqb b.0 routable_check) routable_check b.1 (NotRoutable b.1) _ f refl b
    (λ t. eqb-true b.0 routable_check t) refl (λ e3.
    fault_is (eqb b.0 block_check) block_check b.1 (Block b.1) _ f refl b
    (λ t. eqb-true b.0 block_check t) refl (λ e4.
    fault_is (eqb b.0 order_check) order_check b.1 (Order b.1) no_fault f refl b
    (λ t. eqb-true b.0 order_check t) refl (λ e5. absurd cc) e4) e3) e2) e1) e

pub row_fault_law : {Follows : List ℕ → Type 0} → Lawful Follows row_fault
unfolding row_fault
row_fault_law = checked_law _ _ (then_law byte_law byte_law) (λ b f fits e. fault_back b f e)

refusal_law : {Follows : List ℕ → Type 0} (code : ℕ) → Tagged Follows code_of code (refusal code)
unfolding refusal
refusal_law code =
    choose_tagged (constant_tagged code_of empty_code (Refused Empty) refl) (
    choose_tagged (variant_tagged code_of unknown_code (λ output. Refused (Unknown output))
    if_unknown byte_law (λ p. refl) (λ p. refl)) (
    choose_tagged (variant_tagged code_of bad_channel_code (λ p. Refused (BadChannel p.0 p.1))
    if_bad_channel (then_law byte_law byte_law) (λ p. refl) (λ p. refl)) (
    choose_tagged (variant_tagged code_of locked_code (λ output. Refused (Locked output)) if_locked
    byte_law (λ p. refl) (λ p. refl)) (
    choose_tagged (variant_tagged code_of row_code (λ p. Refused (Row p.0 p.1)) if_row
    (then_law byte_law row_fault_law) (λ p. refl) (λ p. refl)) (
    choose_tagged (constant_tagged code_of time_code (Refused Time) refl) (
    choose_tagged (variant_tagged code_of not_pending_code (λ id. Refused (NotPending id))
    if_not_pending (number_law 8 wide8) (λ p. refl) (λ p. refl)) (no_form_tagged code_of code)))))))

-- ---- replies

pub reply_law : {Follows : List ℕ → Type 0} (format : Format) (widths : List ℕ)
    → Lawful Follows (reply format widths)
unfolding reply
reply_law format widths = tagged_law (λ code.
    choose_tagged (variant_tagged code_of activated_code (λ p. Activated p.0 p.1.0 p.1.1)
    if_activated (then_law (number_law 8 wide8) (moment_law format)) (λ p. refl) (λ p. refl)) (
    choose_tagged (variant_tagged code_of scheduled_code (λ p. Scheduled p.0 p.1.0 p.1.1)
    if_scheduled (then_law (number_law 8 wide8) (moment_law format)) (λ p. refl) (λ p. refl)) (
    choose_tagged (variant_tagged code_of deleted_code (λ id. Deleted id) if_deleted
    (number_law 8 wide8) (λ p. refl) (λ p. refl)) (
    choose_tagged (variant_tagged code_of active_code (λ v. Active v) if_active (view_law format widths)
    (λ p. refl) (λ p. refl)) (
    choose_tagged (variant_tagged code_of pending_code (λ items. Pending items) if_pending
    (counted_law (pending_law format)) (λ p. refl) (λ p. refl)) (refusal_law code))))))
