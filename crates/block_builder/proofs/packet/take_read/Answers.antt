use Rattle.std.proofs.Common.{ℕ, ◌++◌, List, subst, sym, ap, ◌∙◌, arith}
use Rattle.block_builder.specs.Blocks.{Piece, first_place, piece_at, held_at}
use Rattle.block_builder.specs.Taken.{used_or_spent}
use Rattle.block_builder.specs.Window.{IsWindow, added_all, fresh_from}
use Rattle.block_builder.proofs.Builders.{packet_window}
use Rattle.block_builder.proofs.NewFrames.{is_counted, new_is_fresh}
use Rattle.block_builder.proofs.packet.take_read.Goals as goal

pub returns-in_ok-used-in-Ok-clause-ok : goal.returns-in_ok-used-in-Ok-clause-ok
returns-in_ok-used-in-Ok-clause-ok c = λ ps e w.
    let n = c.args.intake in
    let p = piece_at n (first_place n c.args.head.timestamp) c.args.payload.now in
    let after = subst (λ (first : ℕ).
    IsWindow n (added_all n (piece_at n first c.args.payload.now) (held_at n ps)) c.args.given
    c.store.new.slots.items) c.in-Ok.ensures.place.0
    (c.in_ok-used-in-Ok.ensures.ok (held_at n ps) w) in
    subst (λ (qs : List Piece). IsWindow n (held_at n (ps ++ qs)) c.args.given
    c.store.new.slots.items) (sym (is_counted n c.args.head c.args.payload.now
    c.in-Ok.ensures.counts))
    (packet_window n ps p c.store.new.slots.items c.args.given (omega (arith, e)) after)

pub returns-in_ok-used-in-Ok-clause-taken : goal.returns-in_ok-used-in-Ok-clause-taken
returns-in_ok-used-in-Ok-clause-taken c = λ ps e w.
    let n = c.args.intake in
    c.used_or_spent.ensures ∙ ap used_or_spent (c.in_ok-used-in-Ok.ensures.count (held_at n ps) w
    ∙ ap (λ (first : ℕ). fresh_from n (piece_at n first c.args.payload.now) (held_at n ps)
    c.args.given) c.in-Ok.ensures.place.0
    ∙ sym (new_is_fresh n ps (piece_at n (first_place n c.args.head.timestamp) c.args.payload.now)
    c.args.given e))
    ∙ sym (c.in-Ok.ensures.used ps)
