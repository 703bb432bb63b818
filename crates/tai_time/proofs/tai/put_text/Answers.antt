use Rattle.std.proofs.Common.{◌≡◌, ◌≤◌, ℕ, ◌+◌, ◌-◌, List, ◌∷◌, ◌++◌, length, drop, set, ap, ◌∙◌, arith}
use Rattle.std.specs.Prelude.{decimal}
use Rattle.std.proofs.lemmas.Fmt.{length-decimal-le}
use Rattle.std.proofs.lemmas.List.{append-nil, length-set, drop-set, drop_all}
use Rattle.tai_time.proofs.TimeLaws.{tai_text-IsTaiText}
use Rattle.tai_time.proofs.tai.put_text.Goals as goal

-- the text, from what the two calls and the colon between them left
text_put : (first second old : List ℕ) (secs nanos n r : ℕ) → length first ≡ 23 → length old ≡ 23 → 1 ≤ n → n ≤ 23
    → drop n first ≡ decimal nanos ++ drop 23 old → drop r second ≡ decimal secs ++ drop (n - 1) (set first (n - 1) 58)
    → drop r second ≡ decimal secs ++ 58 ∷ decimal nanos
text_put first second old secs nanos n r len old_len some few after whole =
    let colon : drop (n - 1) (set first (n - 1) 58) ≡ 58 ∷ drop (n - 1 + 1) first = drop-set first (n - 1) 58 (omega arith) in
    let next : n - 1 + 1 ≡ n = omega arith in
    let rest : drop (n - 1 + 1) first ≡ decimal nanos =
    ap (λ (k : ℕ). drop k first) next ∙ after ∙ ap (λ (x : List ℕ). decimal nanos ++ x) (drop_all 23 old (omega arith))
    ∙ append-nil (decimal nanos) in
    whole ∙ ap (λ (x : List ℕ). decimal secs ++ x) (colon ∙ ap (λ (x : List ℕ). 58 ∷ x) rest)

pub write_digits-nanos_start-requires : goal.write_digits-nanos_start-requires
write_digits-nanos_start-requires c =
    (omega (arith, length-decimal-le 9 c.from.result (omega arith) (omega arith) (omega arith)), omega arith)

pub overflow_sub-colon : goal.overflow_sub-colon
overflow_sub-colon c = omega (arith, length-decimal-le 9 c.from.result (omega arith) (omega arith) (omega arith))

pub write_digits-requires : goal.write_digits-requires
write_digits-requires c =
    let nanos : length (decimal c.from.result) ≤ 9 = length-decimal-le 9 c.from.result (omega arith) (omega arith) (omega arith) in
    let secs : length (decimal c.time.inside.secs) ≤ 13 = length-decimal-le 13 c.time.inside.secs (omega arith) (omega arith) (omega arith) in (
      omega (arith, nanos, secs),
      omega (
        arith,
        nanos,
        length-set c.write_digits-nanos_start.new.buf (c.write_digits-nanos_start.result - 1) 58,
        c.write_digits-nanos_start.auto.buf,
      ),
    )

pub returns-clause-text : goal.returns-clause-text
returns-clause-text c =
    let nanos : length (decimal c.from.result) ≤ 9 = length-decimal-le 9 c.from.result (omega arith) (omega arith) (omega arith) in
    let put = text_put c.write_digits-nanos_start.new.buf c.write_digits.new.buf c.args.text.now c.time.inside.secs c.from.result
    c.write_digits-nanos_start.result c.write_digits.result
    (omega (arith, c.write_digits-nanos_start.auto.buf)) c.requires (omega (arith, nanos))
    (omega arith) c.write_digits-nanos_start.ensures.written c.write_digits.ensures.written in
    rw (← c.time.view_is) (put ∙ ap (λ (n : ℕ). decimal c.time.inside.secs ++ 58 ∷ decimal n) c.from.ensures)

pub returns-clause-again : goal.returns-clause-again
returns-clause-again c = tai_text-IsTaiText c.args.time (rw (← c.time.view_is) c.time.invariant)
