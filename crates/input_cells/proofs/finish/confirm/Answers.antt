use Rattle.std.proofs.Common.{◌≡◌, ℕ, length, set, sym, subst, ap, ◌∙◌, get_or}
use Rattle.input_cells.proofs.Ending.{IsConfirmed, confirmed_more}
use Rattle.input_cells.proofs.finish.confirm.Goals as goal

pub loop-seat-preserved : goal.loop-seat-preserved
loop-seat-preserved c =
    let last : c.len-input.result ≡ length c.pop.new.self.items = c.len-input.ensures
    ∙ c.pop.new.self.ok.0 in
    let here : c.index_mut.result.now ≡ get_or c.loop-seat.feeds.items (length c.pop.new.self.items)
    c.index_mut.result.now = c.index_mut.ensures.value
    ∙ ap (λ (n : ℕ). get_or c.loop-seat.feeds.items n c.index_mut.result.now) last in
    subst (λ (n : ℕ). IsConfirmed c.args.feeds.now.items
    (set c.loop-seat.feeds.items n c.confirm.new.self) c.args.reader c.pop.new.self.items)
    (sym last)
    (confirmed_more c.args.inputs.now _ _ _ _ _ c.in-Some.seat c.requires.feeds c.requires.reader
    c.loop-seat.invariant c.in-Some.ensures.items c.index_mut.result.now c.confirm.new.self here
    c.confirm.ensures.taken c.confirm.ensures.fits)
