use Rattle.std.proofs.Common.{◌∙◌, codes}
use Rattle.http_wire.specs.Response.{response_head, status_line, content_lines, extra_lines, connection_line}
use Rattle.http_wire.proofs.ResponseLemmas.{put, six}
use Rattle.http_wire.proofs.response.append_head.Goals as goal

pub returns-clause-ok : goal.returns-clause-ok
unfolding response_head
returns-clause-ok c =
    let origin = c.extend_from_slice.new.self.items in
    let extra = c.extend_from_slice-2.new.self.items in
    let connection = c.extend_from_slice-3.new.self.items in
    six c.args.out.now.items c.append_status_line.new.out.items c.append_content.new.out.items origin extra connection c.extend_from_slice-4.new.self.items
    (status_line c.args.status) (content_lines c.args.status c.args.extra c.args.len) (codes "Access-Control-Allow-Origin: *\r\n") (extra_lines c.args.extra)
    (connection_line c.args.status c.args.closes) (codes "\r\n")
    c.in_ok-append_status_line.ensures.ok c.in_ok-append_content.ensures.ok c.in_ok-extend_from_slice.ensures.items
    (put origin extra _ (extra_lines c.args.extra) (c.as_bytes.ensures.value ∙ c.lines.ensures) c.in_ok-extend_from_slice-2.ensures.items)
    (put extra connection _ (connection_line c.args.status c.args.closes) (c.as_bytes-2.ensures.value
    ∙ c.connection.ensures) c.in_ok-extend_from_slice-3.ensures.items)
    c.in_ok-extend_from_slice-4.ensures.items
