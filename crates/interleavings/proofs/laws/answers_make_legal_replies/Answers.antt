use Rattle.std.proofs.Common.{refl}
use Rattle.interleavings.specs.Told.{Ask, requests_of}
use Rattle.interleavings.proofs.Telling.{plain_calls, plain_replies, told_calls, told_replies}
use Rattle.interleavings.proofs.laws.answers_make_legal_replies.Goals as goal

pub returns-clause-plain : goal.returns-clause-plain
returns-clause-plain c = λ s journal claims given are.
    plain_replies s journal claims (requests_of given) given are (λ client. refl)

pub returns-clause-plain_calls : goal.returns-clause-plain_calls
returns-clause-plain_calls c = λ s journal claims given are.
    plain_calls s journal claims (requests_of given) given are (λ client. refl)

pub returns-clause-told : goal.returns-clause-told
returns-clause-told c = λ s journal claims asks given items are said order.
    told_replies s (λ (ask : Ask). ask.asked) (λ (ask : Ask). ask.says) journal claims asks given
    items are said order

pub returns-clause-told_calls : goal.returns-clause-told_calls
returns-clause-told_calls c = λ s journal claims asks given items are said.
    told_calls s (λ (ask : Ask). ask.asked) (λ (ask : Ask). ask.says) journal claims asks given
    items are said
