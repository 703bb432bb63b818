use Rattle.std.proofs.Common.{◌≡◌, ◌<◌, ◌+◌, ◌++◌, [], ℕ, List, length, sym, ap, append_assoc, ◌∙◌}
use Rattle.std.proofs.Common.{arith, rules}
use Rattle.std.specs.List.{flat_map, range_with_len}
use Rattle.std.proofs.lemmas.List.{append-nil, get_or_default}
use Rattle.list_laws.proofs.Ranges.{flat_map_more}
use Rattle.capture_file.specs.Parts.{claim_bytes}
use Rattle.serial_player.specs.Made.{all_made_by}
use Rattle.serial_player.specs.Written.{record_behind}
use Rattle.chan_io.proofs.Sending.{sends_takes, sends_then, takes_then}
use Rattle.serial_player.proofs.Sends.{takes_all}
use Rattle.serial_player.proofs.writing.put_claims.Goals as goal

pub returns-in_err-put-clause-prefix : goal.returns-in_err-put-clause-prefix
returns-in_err-put-clause-prefix g c = λ entries blocks are.
    let k = c.loop-k.k in
    let claims = all_made_by c.args.claims.now entries blocks in
    let f = record_behind c.args.between.now claims in
    let within : k < length c.args.between.now =
    omega (arith, c.requires.between_all, c.loop-k-test.true) in
    let behind : f k ≡ c.as_slice.result.now ++ claim_bytes (claims k) =
    ap (λ (z : List ℕ). z ++ claim_bytes (claims k)) (sym (c.as_slice.ensures
    ∙ c.index-between-k.is ∙ get_or_default c.args.between.now k _ [] within)) in
    takes_all _ _ _ f c.args.claims.now.count k _ (claim_bytes (claims k))
    c.loop-k-test.true behind
    (takes_then _ _ _ _ _ _ _ (c.loop-k.invariant.sent entries blocks are)
    c.in_err-put.ensures.prefix)

pub returns-in_err-put_claim-clause-prefix : goal.returns-in_err-put_claim-clause-prefix
returns-in_err-put_claim-clause-prefix g c = λ entries blocks are.
    let k = c.loop-k.k in
    let claims = all_made_by c.args.claims.now entries blocks in
    let f = record_behind c.args.between.now claims in
    let within : k < length c.args.between.now =
    omega (arith, c.requires.between_all, c.loop-k-test.true) in
    let behind : f k ≡ c.as_slice.result.now ++ claim_bytes (claims k) =
    ap (λ (z : List ℕ). z ++ claim_bytes (claims k)) (sym (c.as_slice.ensures
    ∙ c.index-between-k.is ∙ get_or_default c.args.between.now k _ [] within)) in
    let sent = sends_then _ _ _ _ _ _ _ _ (c.loop-k.invariant.sent entries blocks are)
    c.in_ok-put.ensures.sent in
    takes_all _ _ _ f c.args.claims.now.count k _ (claim_bytes (claims k))
    c.loop-k-test.true behind
    (rw append-nil at (takes_then _ _ _ _ _ _ _ sent c.in_err-put_claim.ensures.prefix))

pub loop-k-preserved : goal.loop-k-preserved
loop-k-preserved g c =
    let so_far = c.loop-k.invariant in
    let k = c.loop-k.k in
    record {
      found = search rules;
      size = search rules;
      later = omega (
        arith,
        so_far.later,
        c.put.ensures.cause.later,
        c.put_claim.ensures.cause.later,
      );
      sent = λ entries blocks are.
          let claims = all_made_by c.args.claims.now entries blocks in
          let f = record_behind c.args.between.now claims in
          let within : k < length c.args.between.now =
          omega (arith, c.requires.between_all, c.loop-k-test.true) in
          let behind : c.as_slice.result.now ++ claim_bytes (claims k) ≡ f k =
          ap (λ (z : List ℕ). z ++ claim_bytes (claims k)) (c.as_slice.ensures
          ∙ c.index-between-k.is ∙ get_or_default c.args.between.now k _ [] within) in
          let before = flat_map f (range_with_len 0 k) in
          let sent = sends_then _ _ _ _ _ _ _ _ (so_far.sent entries blocks are)
          c.in_ok-put.ensures.sent in
          let one = rw (c.claim.ensures.made entries blocks) at
          (c.in_ok-put_claim.ensures.sent entries blocks (c.claim.ensures.by entries blocks are)) in
          let all = sends_then _ _ _ _ _ _ _ _ sent one in
          let is : (before ++ c.as_slice.result.now) ++ claim_bytes (claims k)
          ≡ flat_map f (range_with_len 0 (k + 1)) =
          append_assoc before c.as_slice.result.now (claim_bytes (claims k))
          ∙ ap (λ (z : List ℕ). before ++ z) behind ∙ sym (flat_map_more f k) in
          rw is at all;
    }

pub returns-clause-sent : goal.returns-clause-sent
returns-clause-sent g c = λ entries blocks are.
    let all : c.loop-k.k ≡ c.args.claims.now.count = search rules in
    rw all at (c.loop-k.invariant.sent entries blocks are)

pub returns-clause-prefix : goal.returns-clause-prefix
returns-clause-prefix g c = λ entries blocks are.
    let all : c.loop-k.k ≡ c.args.claims.now.count = search rules in
    sends_takes _ _ _ _ _ (rw all at (c.loop-k.invariant.sent entries blocks are))
