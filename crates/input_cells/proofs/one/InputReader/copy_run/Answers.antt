use Rattle.std.proofs.Common.{◌≡◌, ℕ, ℤ, ◌+◌, ◌*◌, ◌<◌, ◌≤◌, ◌∙◌, length, set, refl, sym, ap}
use Rattle.std.proofs.Common.{subst, arith}
use Rattle.input_rule.specs.Words.{block_len, block_start, sample_word}
use Rattle.input_cells.proofs.Copying.{IsCopied, copied_more}
use Rattle.input_cells.proofs.Seats.{frame_word, frames_inside, whole}
use Rattle.input_cells.proofs.one.InputReader.copy_run.Goals as goal

pub sample_word-start-requires-clause-frame : goal.sample_word-start-requires-clause-frame
sample_word-start-requires-clause-frame c =
    let s = c.args.table.now.shape in
    let same = c.requires.channels in
    let room = subst (λ (n : ℕ). (c.args.part.frame + length c.args.out.now) * n ≤ block_len s)
    same c.requires.room in
    let some : 0 < s.channels = (let l = c.requires.channel in omega arith) in
    let all = frames_inside s.channels s.frames (c.args.part.frame + length c.args.out.now) some room
    in omega arith

pub listen-requires-clause-word : goal.listen-requires-clause-word
listen-requires-clause-word c =
    let s = c.args.table.now.shape in let part = c.args.part in let n : ℕ = c.loop-n.n in
    let below : part.channel < s.channels =
    (let l = c.requires.channel in let e = c.requires.channels in omega arith) in
    let base : ℕ = block_start s c.args.tick in let skipped : ℕ = part.channel * s.frames in
    let start = c.sample_word-start.ensures.word in
    let word : c.sample_word-start.result + n ≡ base + (skipped + (part.frame + n)) = omega arith in
    let place : (part.frame + n) * s.channels + part.channel
    ≡ part.frame * part.channels + part.channel + n * part.channels =
    subst (λ (k : ℕ). (part.frame + n) * k + part.channel
    ≡ part.frame * part.channels + part.channel + n * part.channels) c.requires.channels
    (grind arith) in
    word
    ∙ (frame_word s c.args.tick (part.frame + n) part.channel below
    ∙ ap (sample_word s c.args.tick) place)

pub loop-n-preserved : goal.loop-n-preserved
loop-n-preserved c =
    subst (λ (z : ℤ). IsCopied c.args.self.now c.listen.new.self c.args.tick
    (c.args.part.frame * c.args.part.channels + c.args.part.channel) c.args.part.channels
    c.args.out.now (set c.loop-n.out c.loop-n.n z) (c.loop-n.n + 1))
    (sym (whole _ c.listen.type_inv))
    (copied_more _ _ _ _ _ _ _ _ _ _ _ c.loop-n.invariant c.listen.ensures.heard refl
    c.loop-n-test.true)
