use Rattle.std.proofs.Common.{◌≡◌, List, ap, subst, ◌∙◌}
use Rattle.std.specs.Prelude.{IfOk}
use Rattle.book_words.specs.History.{in_order}
use Rattle.book_words.specs.declared.history.ReplyItem.{ReplyItem}
use Rattle.plain_book.proofs.Sorting.{merged}
use Rattle.plain_book.proofs.order.merge.Goals as goal

pub returns : goal.returns
returns c =
    subst (λ (xs : List ReplyItem). IfOk c.in_order.result (λ made. made ≡ xs))
    (ap in_order c.in_ok-append.ensures.ok ∙ merged c.args.replies c.args.more c.requires)
    c.in_order.ensures
