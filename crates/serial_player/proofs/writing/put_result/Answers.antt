use Rattle.std.proofs.Common.{◌≡◌, [], ◌∙◌, get_or}
use Rattle.std.proofs.lemmas.List.{get_or_default}
use Rattle.capture_file.specs.Items.{end_text}
use Rattle.serial_player.proofs.Hearing.{both_ok, on_ok}
use Rattle.chan_io.proofs.Sending.{sends_then, sent_nothing, sent_whole, takes_longer, takes_then}
use Rattle.serial_player.proofs.writing.put_result.Goals as goal

pub returns-in_err-put-clause-prefix : goal.returns-in_err-put-clause-prefix
returns-in_err-put-clause-prefix g c = λ entries blocks are.
    let takes = rw c.result_magic.ensures at c.in_err-put.ensures.prefix in
    takes_longer _ _ _ _ _ takes _ _
    (sent_nothing _ _ c.requires.waiting)

pub returns-in_err-put_claims-clause-prefix : goal.returns-in_err-put_claims-clause-prefix
returns-in_err-put_claims-clause-prefix g c = λ entries blocks are.
    let front = rw c.result_magic.ensures at c.in_ok-put.ensures.sent in
    let takes = c.in_err-put_claims.ensures.prefix entries blocks are in
    takes_then _ _ _ _ _ _ _ front (takes_longer _ _ _ _ _ takes) _ _
    (sent_nothing _ _ c.requires.waiting)

pub returns-in_err-put-2-clause-prefix : goal.returns-in_err-put-2-clause-prefix
returns-in_err-put-2-clause-prefix g c = λ entries blocks are.
    let front = rw c.result_magic.ensures at c.in_ok-put.ensures.sent in
    let between : c.as_slice.result.now ≡ get_or c.args.between.now
    (c.args.claims.now.count) [] =
    c.as_slice.ensures ∙ c.index-between-claims.is
    ∙ get_or_default c.args.between.now (c.args.claims.now.count) _ []
    c.requires.ready.between_all in
    let takes = takes_longer _ _ _ _ end_text c.in_err-put-2.ensures.prefix in
    takes_then _ _ _ _ _ _ _ front
    (takes_then _ _ _ _ _ _ _ (c.in_ok-put_claims.ensures.sent entries blocks are)
    (rw between at takes)) _ _ (sent_nothing _ _ c.requires.waiting)

pub returns-in_err-put-3-clause-prefix : goal.returns-in_err-put-3-clause-prefix
returns-in_err-put-3-clause-prefix g c = λ entries blocks are.
    let front = rw c.result_magic.ensures at c.in_ok-put.ensures.sent in
    let between : c.as_slice.result.now ≡ get_or c.args.between.now
    (c.args.claims.now.count) [] =
    c.as_slice.ensures ∙ c.index-between-claims.is
    ∙ get_or_default c.args.between.now (c.args.claims.now.count) _ []
    c.requires.ready.between_all in
    let sent = rw between at c.in_ok-put-2.ensures.sent in
    let takes = rw c.end_record.ensures at c.in_err-put-3.ensures.prefix in
    takes_then _ _ _ _ _ _ _ front
    (takes_then _ _ _ _ _ _ _ (c.in_ok-put_claims.ensures.sent entries blocks are)
    (takes_then _ _ _ _ _ _ _ sent takes)) _ _ (sent_nothing _ _ c.requires.waiting)

pub returns-clause-ok : goal.returns-clause-ok
returns-clause-ok g c =
    on_ok c.flush.result _ _ (λ flushed entries blocks are.
    let front = rw c.result_magic.ensures at c.in_ok-put.ensures.sent in
    let between : c.as_slice.result.now ≡ get_or c.args.between.now
    (c.args.claims.now.count) [] =
    c.as_slice.ensures ∙ c.index-between-claims.is
    ∙ get_or_default c.args.between.now (c.args.claims.now.count) _ []
    c.requires.ready.between_all in
    let sent = rw between at c.in_ok-put-2.ensures.sent in
    let last = rw c.end_record.ensures at c.in_ok-put-3.ensures.sent in
    sent_whole _ _ _ _ flushed.0 (flushed.1 _ _
    (sends_then _ _ _ _ _ _ _ _ front
    (sends_then _ _ _ _ _ _ _ _ (c.in_ok-put_claims.ensures.sent entries blocks are)
    (sends_then _ _ _ _ _ _ _ _ sent last)) _ _ (sent_nothing _ _ c.requires.waiting))))
    (both_ok c.flush.result _ _ c.flush.ensures.none c.flush.ensures.sent)

pub returns-clause-prefix : goal.returns-clause-prefix
returns-clause-prefix g c = λ entries blocks are.
    let front = rw c.result_magic.ensures at c.in_ok-put.ensures.sent in
    let between : c.as_slice.result.now ≡ get_or c.args.between.now
    (c.args.claims.now.count) [] =
    c.as_slice.ensures ∙ c.index-between-claims.is
    ∙ get_or_default c.args.between.now (c.args.claims.now.count) _ []
    c.requires.ready.between_all in
    let sent = rw between at c.in_ok-put-2.ensures.sent in
    let last = rw c.end_record.ensures at c.in_ok-put-3.ensures.sent in
    c.flush.ensures.prefix _ _
    (sends_then _ _ _ _ _ _ _ _ front
    (sends_then _ _ _ _ _ _ _ _ (c.in_ok-put_claims.ensures.sent entries blocks are)
    (sends_then _ _ _ _ _ _ _ _ sent last)) _ _ (sent_nothing _ _ c.requires.waiting))
