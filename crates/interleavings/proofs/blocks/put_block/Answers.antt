use Rattle.std.proofs.Common.{◌∙◌, ap, sym, Some}
use Rattle.std.proofs.lemmas.Option.{slice_get-get_or}
use Rattle.interleavings.proofs.Tabling.{TickMap, put_in}
use Rattle.interleavings.proofs.blocks.put_block.Goals as goal

pub returns-clause-put : goal.returns-clause-put
returns-clause-put c =
    let table = c.args.table.now.items in
    let old = c.index_mut.result.now in
    put_in table c.args.input c.args.tick c.args.block old c.insert.new.self
    (slice_get-get_or table c.args.input old c.requires
    ∙ ap (λ (x : TickMap). Some x) (sym c.index_mut.ensures.value)) c.in_ok-insert.ensures.updates.0
