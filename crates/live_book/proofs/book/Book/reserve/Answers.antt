use Rattle.std.proofs.Common.{sym, ◌∙◌, subst, inl, inr}
use Rattle.std.proofs.lemmas.Bool.{cases_Bool}
use Rattle.plain_book.specs.Desk.{parts}
use Rattle.live_book.specs.Books.{IsBook}
use Rattle.live_book.proofs.Placing.{book_on}
use Rattle.live_book.proofs.book.Book.reserve.Goals as goal

pub invariant_of-self : goal.invariant_of-self
invariant_of-self c =
    let b = c.self.inside in
    elim (cases_Bool c.reserve.result) [
      | inl yes_it ↦
          subst (IsBook b.setup b.publisher.view (parts b.kept) b.given b.begun)
          (sym (c.reserve.ensures.set yes_it))
          (book_on b.setup b.publisher.view (parts b.kept) b.given b.begun c.args.client b.places
          c.self.invariant (sym c.reserve.ensures.answer ∙ yes_it))
      | inr no_it ↦
          subst (IsBook b.setup b.publisher.view (parts b.kept) b.given b.begun)
          (sym (c.reserve.ensures.none no_it)) c.self.invariant
    ]
