use Rattle.std.proofs.Common.{inl, inr, refl, ◌≡◌, arith, length, subst}
use Rattle.http_wire.specs.Head.{window, IsOpen}
use Rattle.http_wire.specs.declared.limits.TheConstants.{MOST_FIELDS}
use Rattle.http_wire.proofs.HeadLemmas.{window_short, fit_at, open_of}
use Rattle.http_wire.proofs.FoundLemmas.{begins_with_head}
use Rattle.http_wire.proofs.head.read_front.Goals as goal

pub returns-in-Ok : goal.returns-in-Ok
returns-in-Ok c =
    let same = c.window_of-window.ensures in
    let whole = rw (c.in-Ok-Complete.field-0-is, same) at c.in-Ok-Complete.ensures.complete in
    let inside = rw (c.in-Ok-Complete.field-0-is, same) at c.in-Ok-Complete.ensures.within in
    let room : length c.parse_request.new.headers ≡ MOST_FIELDS = c.parse_request.auto.headers in
    begins_with_head c.args.bytes.now _ _ whole.0 c.in-Ok.head room inside whole.1 c.in-Ok.ensures.len
    (rw same at c.in-Ok.ensures.head whole.0 whole.1) (rw same at c.in-Ok.ensures.path whole.0 whole.1)

pub returns-in-Err-take_up : goal.returns-in-Err-take_up
returns-in-Err-take_up c =
    let same = c.window_of-window.ensures in
    let whole = rw (c.in-Ok-Complete.field-0-is, same) at c.in-Ok-Complete.ensures.complete in
    let inside = rw (c.in-Ok-Complete.field-0-is, same) at c.in-Ok-Complete.ensures.within in
    let room : length c.parse_request.new.headers ≡ MOST_FIELDS = c.parse_request.auto.headers in
    inr (whole.0, _, fit_at c.args.bytes.now _ _ whole.0 room inside whole.1, rw same at c.in-Err-take_up.ensures.refused whole.0 whole.1)

pub returns-then-bytes-lt-MOST_HEAD : goal.returns-then-bytes-lt-MOST_HEAD
returns-then-bytes-lt-MOST_HEAD c =
    let none = rw (c.in-Ok-Partial.field-0-is, c.window_of-window.ensures) at c.in-Ok-Partial.ensures.partial in
    let may = rw (c.in-Ok-Partial.field-0-is, c.window_of-window.ensures) at c.in-Ok-Partial.ensures.unfinished in
    let short = window_short c.args.bytes.now c.if-bytes-lt-MOST_HEAD.true in
    (c.if-bytes-lt-MOST_HEAD.true, subst IsOpen short (open_of (window c.args.bytes.now) none may))

pub returns-else-bytes-lt-MOST_HEAD : goal.returns-else-bytes-lt-MOST_HEAD
returns-else-bytes-lt-MOST_HEAD c =
    let none = rw (c.in-Ok-Partial.field-0-is, c.window_of-window.ensures) at c.in-Ok-Partial.ensures.partial in
    let may = rw (c.in-Ok-Partial.field-0-is, c.window_of-window.ensures) at c.in-Ok-Partial.ensures.unfinished in
    inl (inr (refl, omega (arith, c.if-bytes-lt-MOST_HEAD.false), open_of (window c.args.bytes.now) none may))

pub returns-in-Err : goal.returns-in-Err
returns-in-Err c = inl (inl (refl, rw c.window_of-window.ensures at c.in-Err.ensures.no_room))
