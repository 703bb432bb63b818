-- A claim has the same rows by the entries of its output alone.
use Rattle.std.proofs.Common.{◌≡◌, ℕ, ◌<◌, ◌≤◌, Bool, true, false, eqb, cond, List, [], ◌∷◌, ◌++◌}
use Rattle.std.proofs.Common.{length, get_or, set, inl, inr, refl, sym, ap, subst, ◌∙◌, arith}
use Rattle.std.proofs.Math.Nat.{mod-lt}
use Rattle.std.proofs.lemmas.Bool.{cases_eq, eq-eqb, eqb-true}
use Rattle.std.proofs.lemmas.List.{append-nil, get_or-set_other, get_or-set_same, length-set}
use Rattle.std.proofs.lemmas.List.Elements.{filter-append}
use Rattle.std.specs.List.{filter}
use Rattle.std.specs.Option.{option_or, unwrap_or}
use Rattle.std.specs.Prelude.{Option, ◌&&◌, not, nat_lt}
use Rattle.list_laws.proofs.Options.{option_or-None}
use Rattle.map_entry.specs.declared.cell.Cell.{Cell}
use Rattle.map_entry.specs.declared.entry.Entry.{Entry}
use Rattle.map_entry.specs.Entry.{due, row_where, selected}
use Rattle.map_entry.specs.Setup.{SetupParts}
use Rattle.map_entry.specs.Tick.{frame_key}
use Rattle.map_entry.specs.Row.{channels_of_output}
use Rattle.packet_writer.specs.Packet.{RowFits, claim_rows, output_of_claim, tick_of_claim}
use Rattle.serial_player.specs.Claim.{FitsOutput}
use Rattle.serial_player.specs.OutputEntries.{HaveEntries, RulesAlike, is_of}

-- an entry in front, kept exactly where it is of the output
one_more : (own : Bool) (e : Entry) (es kept : List Entry) (output key : ℕ)
    → eqb e.output output ≡ own → selected kept output key ≡ selected es output key
    → selected (cond own (e ∷ kept) kept) output key ≡ selected (e ∷ es) output key
one_more true e es kept output key is same =
    ap (λ (row : Option (List Cell)). option_or row
    (row_where (eqb e.output output && not (nat_lt key (due e))) e)) same
one_more false e es kept output key is same =
    rw is (same ∙ sym (option_or-None (selected es output key)))

-- the entries of an output select the row that all entries select
pub own_selected : (es : List Entry) (output key : ℕ)
    → selected (filter (is_of output) es) output key ≡ selected es output key
own_selected [] output key = refl
own_selected (e ∷ es) output key =
    one_more (eqb e.output output) e es (filter (is_of output) es) output key refl
    (own_selected es output key)

-- so they give a claim the same rows
pub own_rules : (s : SetupParts) (es : List Entry) (k : ℕ)
    → RulesAlike s (filter (is_of (output_of_claim s k)) es) es k
own_rules s es k = λ frame.
    ap (λ (row : Option (List Cell)). unwrap_or row [])
    (own_selected es (output_of_claim s k) (frame_key (tick_of_claim s k) frame))

-- so do the lists of all outputs, each claim by that of its output
pub rules_of : (s : SetupParts) (es : List Entry) (lists : List (List Entry)) (k : ℕ)
    → 1 ≤ length s.device.outputs → HaveEntries (length s.device.outputs) es lists
    → RulesAlike s (get_or lists (output_of_claim s k) []) es k
rules_of s es lists k some have =
    let within : output_of_claim s k < length lists =
    omega (arith, mod-lt k some, have.long) in
    subst (λ own. RulesAlike s own es k) (sym (have.each (output_of_claim s k) within))
    (own_rules s es k)

-- and its rows fit
pub own_fit : (s : SetupParts) (es : List Entry) (lists : List (List Entry)) (k : ℕ)
    → 1 ≤ length s.device.outputs → HaveEntries (length s.device.outputs) es lists
    → FitsOutput s es k → FitsOutput s (get_or lists (output_of_claim s k) []) k
own_fit s es lists k some have fits = λ frame within.
    subst (RowFits s.device.inputs (channels_of_output s.device (output_of_claim s k)))
    (sym (rules_of s es lists k some have frame)) (fits frame within)

-- ---- entries by output, with an entry more

-- it is of its own output
entry_here : (e : Entry) → filter (is_of e.output) (e ∷ []) ≡ e ∷ []
entry_here e = rw (eq-eqb e.output e.output refl) refl

-- and of no other
entry_elsewhere : (e : Entry) (output : ℕ) → (output ≡ e.output → ⊥)
    → filter (is_of output) (e ∷ []) ≡ []
entry_elsewhere e output apart =
    let other : eqb e.output output ≡ false = grind (arith, eqb-true, apart) in rw other refl

-- one of an output that is there
pub entry_put : (outputs : ℕ) (es : List Entry) (lists : List (List Entry)) (e : Entry)
    (new : List Entry) → e.output < length lists → new ≡ get_or lists e.output [] ++ e ∷ []
    → HaveEntries outputs es lists
    → HaveEntries outputs (es ++ e ∷ []) (set lists e.output new)
entry_put outputs es lists e new there put have = record {
  long = length-set lists e.output new ∙ have.long;
  each = λ output within. elim (cases_eq output e.output) [
    | inl same ↦
        ap (λ (o : ℕ). get_or (set lists e.output new) o []) same
        ∙ get_or-set_same lists e.output new [] there
        ∙ put
        ∙ ap (λ (own : List Entry). own ++ e ∷ []) (have.each e.output there)
        ∙ ap (λ (more : List Entry). filter (is_of e.output) es ++ more) (sym (entry_here e))
        ∙ sym (filter-append (is_of e.output) es (e ∷ []))
        ∙ ap (λ (o : ℕ). filter (is_of o) (es ++ e ∷ [])) (sym same)
    | inr apart ↦
        get_or-set_other lists e.output output new [] apart
        ∙ have.each output (omega (arith, within, length-set lists e.output new))
        ∙ sym (append-nil (filter (is_of output) es))
        ∙ ap (λ (more : List Entry). filter (is_of output) es ++ more)
        (sym (entry_elsewhere e output apart))
        ∙ sym (filter-append (is_of output) es (e ∷ []))
  ];
}

-- and one of no output that is there
pub entry_passed : (outputs : ℕ) (es : List Entry) (lists : List (List Entry)) (e : Entry)
    → length lists ≤ e.output → HaveEntries outputs es lists
    → HaveEntries outputs (es ++ e ∷ []) lists
entry_passed outputs es lists e past have = record {
  long = have.long;
  each = λ output within.
      let apart : output ≡ e.output → ⊥ = λ same. omega (arith, within, past, same) in
      have.each output within
      ∙ sym (append-nil (filter (is_of output) es))
      ∙ ap (λ (more : List Entry). filter (is_of output) es ++ more)
      (sym (entry_elsewhere e output apart))
      ∙ sym (filter-append (is_of output) es (e ∷ []));
}
