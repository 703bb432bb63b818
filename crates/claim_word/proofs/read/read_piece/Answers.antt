use Rattle.std.proofs.Common.{ℕ, ◌≡◌, ◌+◌, ◌<◌, length, get_or, List, subst, ap, sym, ◌∙◌, arith}
use Rattle.std.proofs.Common.{length-set}
use Rattle.map_entry.specs.declared.cell.Cell.{Cell}
use Rattle.map_entry.specs.declared.entry.Entry.{Entry}
use Rattle.claim_rule.specs.Words.{entry_words}
use Rattle.claim_rule.specs.declared.view.View.{View}
use Rattle.claim_word.specs.Claims.{pieced_on}
use Rattle.claim_word.proofs.Reading.{AreSame, same_more, same_whole, read_one, pieced_further}
use Rattle.claim_word.proofs.read.read_piece.Goals as goal

pub loop-at-preserved : goal.loop-at-preserved
loop-at-preserved c =
    let i = c.loop-at.invariant in let load = c.load_piece-word.ensures in
    let at : ℕ = c.loop-at.at in let v : View = c.args.seat.now.me.0 in
    let place : ℕ = c.args.place in
    let same : c.loop-at.seat.me.0.entries ≡ v.entries = ap (λ m. m.0.entries) i.me in
    let inside : at < length c.loop-at.row = let a = c.loop-at-test.true in let b = i.long in
    let e = c.len-at-end.ensures in omega arith in
    let told = subst
    (λ (es : List Entry). (d : Entry) → place < length es
    → 2 + at < length (entry_words (get_or es place d))
    → c.load_piece-word.result ≡ get_or (entry_words (get_or es place d)) (2 + at) 0)
    same load.word in
    let short : (d : Entry) → at < length (get_or v.entries place d).row = λ d. let b = i.long in
    let r = c.requires.row d in omega arith in
    let one = read_one v.plan v.entries place at c.load_piece-word.result c.cell_of.result
    c.requires.table.1 c.requires.fits c.requires.place.1 short told c.cell_of.ensures in
    record {
      table = load.seat.0 ∙ i.table;
      id = load.seat.1 ∙ i.id;
      me = load.seat.2
          ∙ (ap (λ m. (pieced_on m.0 1, m.1)) i.me
          ∙ ap (λ w. (w, c.args.seat.now.me.1)) (pieced_further v at 1));
      long = ap length c.set.ensures ∙ (length-set c.loop-at.row at c.cell_of.result ∙ i.long);
      same = λ d.
          subst (λ (r : List Cell). AreSame r (get_or v.entries place d).row (at + 1))
          (sym c.set.ensures)
          (same_more c.loop-at.row (get_or v.entries place d).row at c.cell_of.result inside
          (i.same d) (one d));
    }

pub returns-clause-row : goal.returns-clause-row
returns-clause-row c d =
    let i = c.loop-at.invariant in let long = i.long in let r = c.requires.row d in
    let whole : c.loop-at.at ≡ length c.loop-at.row = let a = c.loop-at-test.false in
    let b = c.loop-at.auto in let e = c.len-at-end.ensures in omega arith in
    let want : List Cell = (get_or c.args.seat.now.me.0.entries c.args.place d).row in
    same_whole c.loop-at.row want (omega arith)
    (subst (AreSame c.loop-at.row want) whole (i.same d))
