use Rattle.std.proofs.Common.{rules, ◌≤◌, ◌+◌, length, arith, ◌∙◌}
use Rattle.http_wire.proofs.FoundLemmas.{begins_with}
use Rattle.http_wire.proofs.head.Head.read_request.Goals as goal

pub returns : goal.returns
returns c =
    let h = c.requires.0 in
    let begins = c.requires.1 in
    let within = begins.within in
    let whole : c.args.self.now.len + c.args.self.now.body ≤ length c.args.bytes.now = omega (arith, c.if-bytes-self.false, within) in (
      begins_with c.args.bytes.now h c.args.self.now _ _ begins whole (c.from_vec.ensures ∙ c.in_ok-path.ensures.items
          ∙ c.of.ensures) (c.from_vec-2.ensures
          ∙ c.in_ok-body.ensures.items),
      search rules,
      whole,
    )
