use Rattle.std.proofs.Common.{sym, ◌∙◌}
use Rattle.http_wire.proofs.LineLemmas.{value_more}
use Rattle.http_wire.proofs.line.Part.with_byte.Goals as goal

pub returns-in-Value-2 : goal.returns-in-Value-2
returns-in-Value-2 c = rw c.in-Value-2.is (value_more c.args.byte (sym c.is_header_value_token.ensures ∙ c.if-is_header_value_token.true))
