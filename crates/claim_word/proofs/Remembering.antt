-- What a pass remembers of entries: their heads, and the row that rules.
use Rattle.std.proofs.Common.{◌≡◌, ℕ, zero, suc, ◌+◌, ◌-◌, ◌<◌, ◌≤◌, true, false, List, [], ◌∷◌}
use Rattle.std.proofs.Common.{◌++◌}
use Rattle.std.proofs.Common.{map, length, get_or, take, drop, set, refl, sym, ap, ◌∙◌, subst}
use Rattle.std.proofs.Common.{arith, append_assoc, length-append}
use Rattle.std.specs.Prelude.{Some, None}
use Rattle.std.specs.List.{All, AllZip}
use Rattle.std.proofs.lemmas.Bool.Decides.{nat_tests}
use Rattle.std.proofs.lemmas.List.{append-nil, drop_more, get_or-drop, get_or-map, get_or_at}
use Rattle.std.proofs.lemmas.List.{length-drop, length-map, nil_from_length, take-append-drop}
use Rattle.std.proofs.lemmas.Option.{slice_get-get_or}
use Rattle.std.proofs.lemmas.Slice.Zip.{AllZip-long}
use mathlib.Core.Logic.{dite}
use native.Mathlib.Decide.{ℕ_discrete}
use Rattle.io_caps.specs.declared.device.DeviceParts.{DeviceParts}
use Rattle.io_caps.specs.declared.port.Output.{Output}
use Rattle.map_entry.specs.declared.cell.Cell.{Cell}
use Rattle.map_entry.specs.declared.entry.Entry.{Entry}
use Rattle.map_entry.specs.Entry.{due, rules, selected, IsFirstRuled, IsUnruled}
use Rattle.map_entry.specs.Row.{channels_of_output}
use Rattle.map_entry.specs.Setup.{HasCells}
use Rattle.map_entry.specs.Tick.{frame_key}
use Rattle.map_entry.proofs.Rows.{base_long}
use Rattle.map_entry.proofs.Selection.{selected-hit, selected-miss}
use Rattle.claim_rule.specs.declared.plan.Plan.{Plan}
use Rattle.claim_rule.specs.Claims.{IsFit}
use Rattle.claim_rule.specs.Views.{Begins}
use Rattle.claim_word.specs.declared.chain.Head.{Head}
use Rattle.claim_word.specs.Chains.{no_head, head_at, output_at, head_due, due_at}
use Rattle.claim_word.specs.Chains.{IsRuling, IsFirstDue}
use Rattle.claim_word.specs.Claims.{head_of}
use Rattle.claim_word.proofs.Reading.{nobody}

-- ---- heads

one_more : (es : List Entry) (hs : List Head) (h : Head) (rest : List Head)
    → map head_of es ≡ hs ++ rest → length hs < length es
    → ((d : Entry) → h ≡ head_of (get_or es (length hs) d)) → Begins (hs ++ h ∷ []) (map head_of es)
one_more es hs h [] same lt is =
    let l = ap length same in let a = length-append hs [] in let m = length-map es head_of in
    absurd (omega arith)
one_more es hs h (r ∷ rs) same lt is =
    let nobody : Entry = record { output = 0; tick = 0; offset = 0; row = []; at = 0 } in
    let there : get_or (map head_of es) (length hs) h ≡ h =
    get_or-map head_of es (length hs) nobody h lt ∙ sym (is nobody) in
    let here : get_or (map head_of es) (length hs) h ≡ r =
    ap (λ (l : List Head). get_or l (length hs) h) same
    ∙ get_or_at hs r rs h (length hs) refl in (
      rs,
      same ∙ (ap (λ (x : Head). hs ++ x ∷ rs) (sym here ∙ there)
          ∙ sym (append_assoc hs (h ∷ []) rs)),
    )

pub heads_more : (es : List Entry) (hs : List Head) (h : Head) → Begins hs (map head_of es)
    → length hs < length es
    → ((d : Entry) → h ≡ head_of (get_or es (length hs) d)) → Begins (hs ++ h ∷ []) (map head_of es)
heads_more es hs h b lt is = one_more es hs h b.0 b.1 lt is

-- heads of all entries, which have no rest
pub heads_whole : (es : List Entry) (hs : List Head) → Begins hs (map head_of es)
    → length es ≤ length hs → hs ≡ map head_of es
heads_whole es hs b all =
    let l = ap length b.1 in let a = length-append hs b.0 in let m = length-map es head_of in
    let nil : b.0 ≡ [] = nil_from_length b.0 (omega arith) in
    sym (b.1 ∙ (ap (λ (r : List Head). hs ++ r) nil ∙ append-nil hs))

pub heads_few : (es : List Entry) (hs : List Head) → Begins hs (map head_of es)
    → length hs ≤ length es
heads_few es hs b = let l = ap length b.1 in let a = length-append hs b.0 in
    let m = length-map es head_of in omega arith

-- ---- the entry that rules

-- the head at a place is that of the entry there
pub head_is : (es : List Entry) (hs : List Head) (k : ℕ) (d : Entry) → hs ≡ map head_of es
    → k < length es → head_at hs k ≡ head_of (get_or es k d)
head_is es hs k d same lt =
    ap (λ (l : List Head). head_at l k) same ∙ get_or-map head_of es k d no_head lt

pub heads_long : (es : List Entry) (hs : List Head) → hs ≡ map head_of es → length hs ≡ length es
heads_long es hs same = ap length same ∙ length-map es head_of

-- an entry rules nothing where it takes effect later, if it is of the output
unruled : (o key : ℕ) (e : Entry) → (e.output ≡ o → key < due e) → rules due o key e ≡ false
unruled o key e late = dite (ℕ_discrete e.output o)
    (λ same. let l = late same in grind (arith, nat_tests))
    (λ other. grind (arith, nat_tests))

-- no entry further on rules, where those of the output take effect later
pub past_unruled : (es : List Entry) (hs : List Head) (k o key : ℕ) → hs ≡ map head_of es
    → ((j : ℕ) → k < j → j < length hs → output_at hs j ≡ o → key < due_at hs j)
    → IsUnruled (drop (k + 1) es) o key
past_unruled es hs k o key same past = λ i d lt.
    let l = heads_long es hs same in let m = length-drop (k + 1) es in
    let j : ℕ = k + 1 + i in let e : Entry = get_or es j d in
    let there : j < length es = omega (arith, lt, m) in
    let head : head_at hs j ≡ head_of e = head_is es hs j d same there in
    subst (λ (x : Entry). rules due o key x ≡ false) (sym (get_or-drop (k + 1) es i d))
    (unruled o key e (λ its. subst (λ (h : Head). key < head_due h) head
    (past j (omega arith) (omega (arith, there, l)) (ap (λ (h : Head). h.output) head ∙ its))))

-- none rules at all, where all of the output take effect later
pub none_selected : (es : List Entry) (hs : List Head) (o key : ℕ) → hs ≡ map head_of es
    → ((j : ℕ) → j < length hs → output_at hs j ≡ o → key < due_at hs j)
    → selected es o key ≡ None
none_selected es hs o key same past = selected-miss due es o key (λ j d lt.
    let l = heads_long es hs same in let e : Entry = get_or es j d in
    let head : head_at hs j ≡ head_of e = head_is es hs j d same lt in
    unruled o key e (λ its. subst (λ (h : Head). key < head_due h) head
    (past j (omega (arith, lt, l)) (ap (λ (h : Head). h.output) head ∙ its))))

-- the entry that the chains find, and those further on
pub record IsFound (es : List Entry) (o key k : ℕ) : Type 0 where
  pub there : k < length es
  pub output : (d : Entry) → (get_or es k d).output ≡ o
  pub hit : (d : Entry) → rules due o key (get_or es k d) ≡ true
  pub past : IsUnruled (drop (k + 1) es) o key

pub found_by : (es : List Entry) (hs : List Head) (o key k : ℕ) → hs ≡ map head_of es
    → IsRuling hs (length hs) key o k → IsFound es o key k
found_by es hs o key k same r =
    let l = heads_long es hs same in let there : k < length es = omega (arith, l, r.there) in
    let output = λ (d : Entry). sym (ap (λ (h : Head). h.output) (head_is es hs k d same there))
    ∙ r.its in record {
      there = there;
      output = output;
      hit = λ d.
          let e : Entry = get_or es k d in
          let its : e.output ≡ o = output d in
          let come : due e ≤ key = subst (λ (h : Head). head_due h ≤ key)
          (head_is es hs k d same there) r.come in grind (arith, nat_tests);
      past = past_unruled es hs k o key same r.past;
    }

pub cut_at : (es : List Entry) (k : ℕ) (d : Entry) → k < length es
    → es ≡ take k es ++ get_or es k d ∷ drop (k + 1) es
cut_at es k d lt = sym (take-append-drop k es)
    ∙ ap (λ (r : List Entry). take k es ++ r) (drop_more es k d lt)

pub found_row : (es : List Entry) (o key k : ℕ) → IsFound es o key k → (d : Entry)
    → selected es o key ≡ Some (get_or es k d).row
found_row es o key k f d =
    ap (λ (x : List Entry). selected x o key) (cut_at es k d f.there)
    ∙ selected-hit due (take k es) (get_or es k d) (drop (k + 1) es) o key (f.hit d) f.past

-- the first frame at which one further on takes effect
pub first_found : (es : List Entry) (hs : List Head) (o t f frames upto k : ℕ)
    → hs ≡ map head_of es → k < length hs → output_at hs k ≡ o → due_at hs k ≤ frame_key t f
    → IsFirstDue hs t f frames upto k → IsFirstRuled (drop (k + 1) es) o t f frames upto
first_found es hs o t f frames upto k same there output come x = record {
  goes_on = x.goes_on;
  ends = x.ends;
  none = λ g from to.
      past_unruled es hs k o (frame_key t g) same
      (λ j on lt its. let l = x.later j on lt (its ∙ sym output) in omega (arith, l, to));
  first = λ more unruled_there.
      x.first more (record {
        there = there;
        its = refl;
        come = let g = x.goes_on in omega (arith, come, g);
        past = λ j on lt its.
            let l = heads_long es hs same in let m = length-drop (k + 1) es in
            let e : Entry = get_or es j nobody in
            let i : ℕ = j - (k + 1) in
            let place : k + 1 + i ≡ j = omega arith in
            let head : head_at hs j ≡ head_of e = head_is es hs j nobody same
            (omega (arith, lt, l)) in
            let miss : rules due o (frame_key t upto) e ≡ false =
            subst (λ (y : Entry). rules due o (frame_key t upto) y ≡ false)
            (get_or-drop (k + 1) es i nobody ∙ ap (λ (p : ℕ). get_or es p nobody) place)
            (unruled_there i nobody (omega (arith, lt, l, m))) in
            let mine : e.output ≡ o = sym (ap (λ (h : Head). h.output) head) ∙ (its ∙ output) in
            let late : frame_key t upto < due e = grind (arith, nat_tests) in
            subst (λ (h : Head). frame_key t upto < head_due h) (sym head) late;
      });
}

-- each head's output is one of the device's
pub heads_within : (plan : Plan) (es : List Entry) (hs : List Head) (n : ℕ) → hs ≡ map head_of es
    → All (IsFit plan) es → n ≡ length plan.setup.device.outputs
    → All (λ h. h.output < n) hs
heads_within plan es hs n same fits all = subst (All (λ h. h.output < n)) (sym same)
    (λ k d lt.
    let m = length-map es head_of in
    let there : k < length es = omega (arith, lt, m) in
    let e : Entry = get_or es k nobody in
    let within = (fits k nobody there).ok.row.there in
    subst (λ (h : Head). h.output < n) (sym (get_or-map head_of es k nobody d there))
    (omega (arith, within, all)))

-- ---- a row for each output

pub rows_there : (d : DeviceParts) (rows : List (List Cell)) (o : ℕ)
    → AllZip HasCells d.outputs rows → o < length d.outputs
    → (o < length rows) × (length (get_or rows o []) ≡ channels_of_output d o)
rows_there d rows o all lt =
    let same = AllZip-long HasCells d.outputs rows all in
    let within : o < length rows = omega arith in
    (within, base_long d rows o (get_or rows o []) all (slice_get-get_or rows o [] within))

pub rows_set : (outputs : List Output) (rows : List (List Cell)) (o : ℕ) (row : List Cell)
    → AllZip HasCells outputs rows → length row ≡ length (get_or rows o [])
    → AllZip HasCells outputs (set rows o row)
rows_set [] [] o row all same = all
rows_set [] (r ∷ rows) o row all same = absurd all
rows_set (x ∷ outputs) [] o row all same = absurd all
rows_set (x ∷ outputs) (r ∷ rows) zero row all same = (same ∙ all.0, all.1)
rows_set (x ∷ outputs) (r ∷ rows) (suc o) row all same =
    (all.0, rows_set outputs rows o row all.1 same)
