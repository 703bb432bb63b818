use Rattle.std.proofs.Common.{◌∙◌, ◌++◌, codes, decimal}
use Rattle.http_wire.specs.Response.{json_lines}
use Rattle.http_wire.proofs.ResponseLemmas.{before, put}
use Rattle.http_wire.proofs.response.append_json_lines.Goals as goal

pub returns-clause-ok : goal.returns-clause-ok
unfolding json_lines
returns-clause-ok c =
    let old = c.args.out.now.items in
    let kind = c.extend_from_slice.new.self.items in
    let length = c.extend_from_slice-2.new.self.items in
    let new = c.extend_from_slice-3.new.self.items in
    let number = c.as_bytes.ensures.value ∙ c.format.ensures.text in
    before old kind new (codes "Content-Type: application/json\r\nContent-Length: ")
    (decimal c.args.len ++ codes "\r\n") c.in_ok-extend_from_slice.ensures.items
    (before kind length new (decimal c.args.len) (codes "\r\n") (put kind length _ (decimal c.args.len) number c.in_ok-extend_from_slice-2.ensures.items)
    c.in_ok-extend_from_slice-3.ensures.items)
