use Rattle.std.proofs.Common.{◌≡◌, ◌∙◌, ap, sym, set, refl, Some}
use Rattle.std.specs.Prelude.{slice_get}
use Rattle.std.proofs.lemmas.Option.{slice_get_read}
use Rattle.book_words.specs.Calls.{journal_call}
use Rattle.book_words.specs.declared.calls.JournalCall.{JournalCall}
use Rattle.book_words.specs.declared.requests.Request.{Request}
use Rattle.interleavings.proofs.Keeping.{put_right}
use Rattle.interleavings.proofs.asking.keep.Goals as goal

pub returns-then-count-asked : goal.returns-then-count-asked
returns-then-count-asked c =
    let last = c.index-asked-count.result in
    let journal = c.args.journal.now in
    let asked = c.args.asked.now in
    let n = c.args.count in
    let got : slice_get asked n ≡ Some last =
    slice_get_read asked _ n _ refl c.if-count-asked.true c.index-asked-count.is in
    let same : last.request ≡ c.args.request = rw got at c.requires.last in
    let call_is : c.new-call.result ≡ last =
    c.new-call.ensures ∙ ap
    (λ (r : Request). journal_call last.at last.client last.id last.tick last.offset r)
    (sym same) in
    c.set.ensures ∙ ap (λ (x : JournalCall). set journal n x) call_is
    ∙ put_right journal asked n last c.requires.long c.requires.few c.requires.same got
