use Rattle.std.proofs.Common.{ℕ, ◌≡◌, ◌+◌, ◌*◌, ◌<◌, List, length, get_or, sym, ap, ◌∙◌, subst}
use Rattle.std.proofs.Common.{refl, arith}
use Rattle.map_entry.specs.declared.cell.Cell.{Cell}
use Rattle.map_entry.specs.declared.cell.Cell.TheVariants.{Unrouted}
use Rattle.map_entry.specs.declared.entry.Entry.{Entry}
use Rattle.claim_rule.specs.declared.view.View.{View}
use Rattle.claim_rule.specs.Words.{cell_word, entry_words, stride}
use Rattle.claim_word.proofs.Spelling.{row_word}
use Rattle.claim_word.proofs.Writing.{WroteSome, wrote_next}
use Rattle.claim_word.proofs.write.put_entry.Goals as goal

pub loop-channel-preserved : goal.loop-channel-preserved
loop-channel-preserved c =
    let i = c.loop-channel.invariant in let put = c.put_word-in-loop-channel.ensures.seat in
    let e : Entry = c.args.entry.now in let n : ℕ = c.loop-channel.channel in
    let v : View = c.args.seat.now.me.0 in let same : c.as_slice-cells.result.now ≡ e.row =
    c.as_slice-cells.ensures in
    let lt : n < length e.row = let t = c.loop-channel-test.true in let l = ap length same in
    omega arith in
    let short : 2 + n < stride = let w = c.requires.wide.row in omega arith in
    let word : c.word_of.result ≡ get_or (entry_words e) (2 + n) 0 =
    c.word_of.ensures
    ∙ (ap (λ (row : List Cell). cell_word (get_or row n Unrouted)) same
    ∙ sym (row_word e n Unrouted lt)) in
    let next = wrote_next v c.loop-channel.seat.me.0 c.args.place e (2 + n)
    (c.args.place * stride + (2 + n)) c.word_of.result i.wrote short c.requires.behind.1
    c.requires.publishes.1 refl word in
    let up : (2 + n) + 1 ≡ 2 + (n + 1) = omega arith in
    record {
      table = put.0 ∙ i.table;
      id = put.1 ∙ i.id;
      slots = ap (λ m. m.1) put.2 ∙ i.slots;
      wrote = subst (λ (z : View × ℕ). WroteSome v z.0 c.args.place e z.1)
          (λ k. (sym (ap (λ m. m.0) put.2) k, up k)) next;
    }
