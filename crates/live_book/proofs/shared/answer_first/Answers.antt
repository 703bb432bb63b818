use Rattle.std.proofs.Common.{◌≡◌, ◌<◌, List, length, Some, sym, ap, ◌∙◌, subst}
use Rattle.std.specs.Prelude.{slice_get}
use Rattle.book_words.specs.declared.requests.Request.{Request}
use Rattle.live_book.specs.Named.{left_of}
use Rattle.live_book.specs.Books.{BookFace}
use Rattle.live_book.specs.Places.{PlacesFace}
use Rattle.live_book.proofs.Sharing.{next_from, next_is}
use Rattle.live_book.proofs.shared.answer_first.Goals as goal

pub
    returns-in_ok-ask_lent-in-Some-clause-answered :
    goal.returns-in_ok-ask_lent-in-Some-clause-answered
returns-in_ok-ask_lent-in-Some-clause-answered c =
    let low : c.args.client < length c.args.left.now.items =
    subst (λ (l : List (List Request)). c.args.client < length l) c.as_slice.ensures.value
    c.in-Some.ensures.there in
    let first : Some c.in-Some.request.now ≡ slice_get (left_of c.args.left.now.items c.args.client)
    0 =
    c.in-Some.ensures.value ∙ ap (λ (l : List (List Request)). slice_get (left_of l c.args.client)
    0) c.as_slice.ensures.value in
    let set = c.reserve.ensures.set c.if-not-reserve.false in
    λ more. next_from c.args.book.now c.reserve.new.self c.ask_lent.new.book c.args.left.now.items
    c.take_first_of.new.left.items c.args.client
    (set ∙ ap (λ (z : PlacesFace). record c.args.book.now { places = z })
    (sym (ap (λ (z : BookFace). z.places) set)))
    (next_is c.reserve.new.self c.ask_lent.new.book c.args.left.now.items
    c.take_first_of.new.left.items c.args.client c.in-Some.request.now
    c.in_ok-ask_lent-in-Some.field-0.0 c.in_ok-ask_lent-in-Some.field-0.1
    low first c.take_first_of.ensures c.in_ok-ask_lent-in-Some.ensures.given
    c.in_ok-ask_lent-in-Some.ensures.asked)
