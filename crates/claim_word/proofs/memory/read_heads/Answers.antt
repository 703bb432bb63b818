use Rattle.std.proofs.Common.{ℕ, ◌≡◌, ◌+◌, ◌-◌, ◌*◌, ◌<◌, List, map, length, get_or, sym, ap, ◌∙◌}
use Rattle.std.proofs.Common.{subst}
use Rattle.std.proofs.Common.{arith}
use Rattle.map_entry.specs.declared.entry.Entry.{Entry}
use Rattle.claim_rule.specs.declared.view.View.{View}
use Rattle.claim_rule.specs.Words.{entry_words, head_words}
use Rattle.claim_rule.specs.Views.{Begins}
use Rattle.claim_word.specs.declared.chain.Head.{Head}
use Rattle.claim_word.specs.Claims.{head_of, read_on}
use Rattle.claim_word.proofs.Reading.{read_further}
use Rattle.claim_word.proofs.Remembering.{heads_more}
use Rattle.claim_word.proofs.Spelling.{long, wide_of}
use Rattle.claim_word.proofs.memory.read_heads.Goals as goal

pub loop-seat-preserved : goal.loop-seat-preserved
loop-seat-preserved c =
    let i = c.loop-seat.invariant in let first = c.load-first.ensures in
    let second = c.load-second.ensures in let v : View = c.args.seat.now.me.0 in
    let hs : List Head = c.loop-seat.heads.items in let push = c.push_reserved.ensures in
    let same : c.loop-seat.seat.me.0.entries ≡ v.entries = ap (λ m. m.0.entries) i.me in
    let again : c.load-first.new.seat.me.0.entries ≡ v.entries =
    ap (λ m. m.0.entries) first.seat.2 ∙ same in
    let ok = c.loop-seat.heads.ok in let lens = c.len-in-loop-seat.ensures in
    let lens2 = c.len-in-loop-seat-2.ensures in
    let short : length hs < length v.entries = let t = c.loop-seat-test.true in
    let l = c.len.ensures in let e = c.requires.entries.0 in omega arith in
    let place : c.len-in-loop-seat.result ≡ length hs = omega arith in
    let place2 : c.len-in-loop-seat-2.result ≡ length hs = omega arith in
    let head : (d : Entry) → c.of.result ≡ head_of (get_or v.entries (length hs) d) = λ d.
    let e : Entry = get_or v.entries (length hs) d in
    let fit = c.requires.fits (length hs) d short in
    let l = long e in let wide = wide_of v.plan e c.requires.table.1 fit in
    let told = subst
    (λ (z : List Entry × ℕ). (d : Entry) → z.1 < length z.0
    → 0 < length (entry_words (get_or z.0 z.1 d))
    → c.load-first.result ≡ get_or (entry_words (get_or z.0 z.1 d)) 0 0)
    (λ k. (same k, place k)) first.word in
    let told2 = subst
    (λ (z : List Entry × ℕ). (d : Entry) → z.1 < length z.0
    → 1 < length (entry_words (get_or z.0 z.1 d))
    → c.load-second.result ≡ get_or (entry_words (get_or z.0 z.1 d)) 1 0)
    (λ k. (again k, place2 k)) second.word in
    c.of.ensures e wide.output wide.offset (told d short (omega arith))
    (told2 d short (omega arith)) in
    let done : ℕ = c.loop-seat.heads.len - c.args.heads.now.len in
    let up : head_words * done + 1 + 1 ≡ head_words
    * (c.push_reserved.new.self.len - c.args.heads.now.len) = let m = i.more in
    let p = push.len in omega arith in
    record {
      table = second.seat.0 ∙ (first.seat.0 ∙ i.table);
      id = second.seat.1 ∙ (first.seat.1 ∙ i.id);
      me = second.seat.2
          ∙ (ap (λ m. (read_on m.0 1, m.1)) first.seat.2
          ∙ (ap (λ m. (read_on (read_on m.0 1) 1, m.1)) i.me
          ∙ ap (λ w. (w, c.args.seat.now.me.1))
          (ap (λ w. read_on w 1) (read_further v (head_words * done) 1)
          ∙ (read_further v (head_words * done + 1) 1 ∙ ap (read_on v) up))));
      more = let m = i.more in let p = push.len in omega arith;
      heads = subst (λ (l : List Head). Begins l (map head_of v.entries)) (sym push.items)
          (heads_more v.entries hs c.of.result i.heads short head);
      room = push.capacity ∙ i.room;
    }
