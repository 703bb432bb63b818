-- Flags of the inputs that cells, rows and packets name.
use Rattle.std.proofs.Common.{◌≡◌, ◌≢◌, ℕ, zero, suc, ◌+◌, ◌-◌, ◌≤◌, ◌<◌, Bool, true, false, List}
use Rattle.std.proofs.Common.{◌++◌, length, get_or, set, refl, sym, ap, ◌∙◌, arith, rules, zero-add}
use Rattle.std.specs.Prelude.{◌||◌, eqb}
use Rattle.std.specs.List.{list_any, range_with_len}
use Rattle.std.proofs.lemmas.List.{get_or-set_same, get_or-set_other}
use Rattle.std.proofs.lemmas.List.Folds.{list_any-append}
use Rattle.std.proofs.lemmas.Bool.{or_right}
use Rattle.list_laws.proofs.Ranges.{range_parts}
use Rattle.map_entry.specs.declared.cell.Cell.{Cell}
use Rattle.packet_writer.specs.Flags.{is_named, row_names}
use Rattle.packet_writer.specs.Heard.{RowsByFrame}

or-false : (a : Bool) → (a || false) ≡ a
or-false true = refl
or-false false = refl

or-twice : (a : Bool) → (a || a) ≡ a
or-twice true = refl
or-twice false = refl

other_numbers : (a b : ℕ) → a ≢ b → eqb a b ≡ false
other_numbers a b other = search rules

same_numbers : (a : ℕ) → eqb a a ≡ true
same_numbers a = search rules

one_by : (flags : List Bool) (input i : ℕ) (same : Bool) → eqb input i ≡ same → i < length flags
    → get_or (set flags input true) i false ≡ (get_or flags i false || same)
one_by flags input i true e lt =
    let at : input ≡ i = search rules in
    rw at (get_or-set_same flags i true false lt ∙ sym (or_right (get_or flags i false) true refl))
one_by flags input i false e lt =
    let other : i ≢ input = λ (x : i ≡ input). search rules in
    get_or-set_other flags input i true false other ∙ sym (or-false (get_or flags i false))

-- the flag of one input is set
pub one_marked : (flags : List Bool) (input i : ℕ) → i < length flags
    → get_or (set flags input true) i false ≡ (get_or flags i false || eqb input i)
one_marked flags input i lt = one_by flags input i (eqb input i) refl lt

-- an input past the end has no flag
pub none_marked : (flags : List Bool) (input i : ℕ) → length flags ≤ input → i < length flags
    → get_or flags i false ≡ (get_or flags i false || eqb input i)
none_marked flags input i past lt =
    let other : input ≢ i = λ (e : input ≡ i). omega (arith, e, past, lt) in
    rw (other_numbers input i other) (sym (or-false (get_or flags i false)))

any_alike : (p : ℕ → Bool) (value : Bool) (a n : ℕ)
    → ((j : ℕ) → a ≤ j → j < a + suc n → p j ≡ value)
    → list_any p (range_with_len a (suc n)) ≡ value
any_alike p value a zero alike = or-false (p a) ∙ alike a (omega arith) (omega arith)
any_alike p value a (suc n) alike =
    ap (λ (b : Bool). b || list_any p (range_with_len (a + 1) (suc n)))
    (alike a (omega arith) (omega arith))
    ∙ ap (λ (b : Bool). value || b)
    (any_alike p value (a + 1) n (λ j from to. alike j (omega (arith, from)) (omega (arith, to))))
    ∙ or-twice value

any_behind : (p : ℕ → Bool) (value : Bool) (a n : ℕ) → 0 < n
    → ((j : ℕ) → a ≤ j → j < a + n → p j ≡ value) → list_any p (range_with_len a n) ≡ value
any_behind p value a zero some alike = absurd (omega (arith, some))
any_behind p value a (suc n) some alike = any_alike p value a n alike

-- one piece more of the frames
pub piece_named : (rows : RowsByFrame) (row : List Cell) (from upto input : ℕ) → from < upto
    → ((f : ℕ) → from ≤ f → f < upto → rows f ≡ row)
    → (is_named from rows input || row_names input row) ≡ is_named upto rows input
piece_named rows row from upto input some same =
    let p = λ (f : ℕ). row_names input (rows f) in
    let n = upto - from in
    let whole : from + n ≡ upto = omega (arith, some) in
    let behind : list_any p (range_with_len from n) ≡ row_names input row =
    any_behind p (row_names input row) from n (omega (arith, some))
    (λ f lower upper. ap (row_names input) (same f lower (omega (arith, upper, whole)))) in
    ap (λ (b : Bool). is_named from rows input || b) (sym behind)
    ∙ sym (list_any-append p (range_with_len 0 from) (range_with_len from n))
    ∙ ap (list_any p) (ap (λ (a : ℕ). range_with_len 0 from ++ range_with_len a n)
    (sym (zero-add from)) ∙ sym (range_parts 0 from n))
    ∙ ap (λ (u : ℕ). is_named u rows input) whole
