use Rattle.std.proofs.Common.{refl}
use Rattle.std.specs.Fmt.{digits}
use Rattle.http_wire.specs.Response.{status_line, json_lines, content_lines, extra_lines}
use Rattle.http_wire.specs.Response.{connection_line, response_head}
use Rattle.serde_json.proofs.OnLiterals.{serde_json_on_literals}
use Rattle.api_routes.proofs.serve.no_memory_response.Goals as goal

pub returns : goal.returns
unfolding digits serde_json_on_literals status_line json_lines content_lines extra_lines
    connection_line response_head
returns c = refl
