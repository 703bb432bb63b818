use Rattle.std.proofs.Common.{◌≡◌, ℕ, suc, ◌-◌, ◌+◌, List, ◌∷◌, ◌++◌, Some, length, take, drop, get_or, true, sym, ap, ◌∙◌, subst, arith}
use Rattle.std.proofs.Math.Seq.{split_at}
use Rattle.std.proofs.lemmas.List.{take_rest}
use Rattle.map_entry.specs.declared.entry.Entry.{Entry}
use Rattle.map_entry.specs.Entry.{due, rules, selected, IsFirstRuled, IsPiece, IsUnruled}
use Rattle.map_entry.specs.Tick.{frame_key}
use Rattle.map_entry.proofs.Selection.{selected-hit, selected-miss, piece_rows, piece_ruled}
use Rattle.map_entry.proofs.routing.select_piece.Goals as goal

record Split (c : goal.After-first_ruled-upto) : Type 0 where
  front : List Entry
  later : List Entry
  parts : c.args.entries.now ≡ front ++ c.index-entries-at.result ∷ later
  none : IsUnruled later c.args.output (frame_key c.args.tick c.args.frame)
  hit : rules due c.args.output (frame_key c.args.tick c.args.frame) c.index-entries-at.result ≡ true
  first : IsFirstRuled later c.args.output c.args.tick c.args.frame c.args.frames c.first_ruled-upto.result

split_here : (c : goal.After-first_ruled-upto) → Split c
split_here c =
    let es : List Entry = c.args.entries.now in
    let at : ℕ = c.loop-at.at - 1 in
    let next : at + 1 ≡ c.loop-at.at = omega arith in
    let after : suc at ≡ c.loop-at.at = omega arith in
    let rest = take_rest es (at + 1) ∙ ap (λ (k : ℕ). drop k es) next in
    record {
      front = take at es;
      later = drop c.loop-at.at es;
      parts =
          split_at es at c.index-entries-at.result (omega arith)
          ∙ ap (λ (e : Entry). take at es ++ e ∷ drop (suc at) es) (sym c.index-entries-at.is)
          ∙ ap (λ (k : ℕ). take at es ++ c.index-entries-at.result ∷ drop k es) after;
      none = c.loop-at.invariant;
      hit = sym c.rules.ensures ∙ c.if-rules.true;
      first =
          subst (λ (later : List Entry). IsFirstRuled later c.args.output c.args.tick c.args.frame c.args.frames c.first_ruled-upto.result)
          rest c.first_ruled-upto.ensures;
    }

pub returns-then-rules-clause-row : goal.returns-then-rules-clause-row
returns-then-rules-clause-row c =
    let s = split_here c in
    let key : ℕ = frame_key c.args.tick c.args.frame in
    sym
    (ap (λ (es : List Entry). selected es c.args.output key) s.parts
    ∙ selected-hit due s.front c.index-entries-at.result s.later c.args.output key s.hit s.none)

pub returns-then-rules-clause-piece : goal.returns-then-rules-clause-piece
returns-then-rules-clause-piece c =
    let s = split_here c in
    subst (λ (es : List Entry). IsPiece es c.args.output c.args.tick c.args.frame c.args.frames c.first_ruled-upto.result) (sym s.parts)
    (piece_ruled s.front c.index-entries-at.result s.later c.args.output c.args.tick c.args.frame c.args.frames c.first_ruled-upto.result s.hit
    s.none s.first)

pub returns-then-rules-clause-rows : goal.returns-then-rules-clause-rows
returns-then-rules-clause-rows c = λ f from to.
    let s = split_here c in
    ap (λ (es : List Entry). selected es c.args.output (frame_key c.args.tick f)) s.parts
    ∙ piece_rows s.front c.index-entries-at.result s.later c.args.output c.args.tick c.args.frame c.args.frames c.first_ruled-upto.result
    s.hit s.first f from to

pub returns-clause-row : goal.returns-clause-row
returns-clause-row c =
    let start : c.loop-at.at ≡ 0 = omega arith in
    let key : ℕ = frame_key c.args.tick c.args.frame in
    sym
    (selected-miss due c.args.entries.now c.args.output key
    (subst (λ (k : ℕ). IsUnruled (drop k c.args.entries.now) c.args.output key) start c.loop-at.invariant))
