use Rattle.std.proofs.Common.{List, rules, subst, ◌∙◌}
use Rattle.std.proofs.lemmas.List.Sorted.{answers_always}
use Rattle.std.specs.List.Sorted.{IsStableBy}
use Rattle.book_words.specs.declared.history.ReplyItem.{ReplyItem}
use Rattle.plain_book.proofs.Sorting.{below, place, sorted_in_order}
use Rattle.plain_book.proofs.order.in_order.Goals as goal

pub returns : goal.returns
returns c =
    let computes = answers_always _ _ _ (λ f a r g h. search rules) in
    let stable = subst (λ (xs : List ReplyItem). IsStableBy below xs c.sort_by_key.new.self.items)
    c.into_vec-made.ensures (c.sort_by_key.ensures.stable place computes) in
    c.from_vec.ensures ∙ sorted_in_order c.args.replies c.sort_by_key.new.self.items
    (c.in_ok-sort_by_key.ensures.sorted place computes) stable
