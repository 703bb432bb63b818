use Rattle.std.proofs.Common.{sym, true≢false}
use Rattle.channel_json.proofs.Shown.{document_whole, document_none}
use Rattle.channel_json.proofs.fields.document.Goals as goal

pub returns-in-Ok : goal.returns-in-Ok
returns-in-Ok c = document_whole _ c.in-Ok.ensures.ok.0 c.in-Ok.ensures.ok.1

pub returns-else-is_memory : goal.returns-else-is_memory
returns-else-is_memory c =
    document_none c.args.text.now
    (c.in-Err.ensures.err (λ memory. true≢false (sym (c.if-is_memory.ensures.1 memory))))
