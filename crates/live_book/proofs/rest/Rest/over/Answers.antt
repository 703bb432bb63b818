use Rattle.std.proofs.Common.{◌≡◌, ◌≤◌, ℕ, ◌*◌, [], length, sym, ap, subst, ◌∙◌, arith}
use Rattle.map_entry.specs.Setup.{SetupParts}
use Rattle.plain_book.specs.Carry.{carried}
use Rattle.plain_book.specs.Desk.{parts}
use Rattle.live_book.specs.Books.{BookFace, IsBook, RestFace, book_of, goes_over}
use Rattle.live_book.specs.Places.{PlacesFace, new_places, places_first}
use Rattle.live_book.proofs.Overs.{first_few, first_places, first_used, over_book, places_are}
use Rattle.live_book.proofs.rest.Rest.over.Goals as goal
use Rattle.live_book.proofs.rest.Rest.over.Goals.{After-new}

outputs : (c : After-new) → c.from-outputs.result ≡ length c.self.inside.setup.device.outputs
outputs c = c.from-outputs.ensures ∙ c.outputs.ensures.value
    ∙ ap (λ (x : SetupParts). length x.device.outputs) c.setup.view_is

placed : (c : After-new) → c.new.result ≡ new_places c.self.inside.setup
    (places_first c.self.inside.setup c.self.inside.kept.journal c.self.inside.kept.seen)
placed c =
    let r = c.self.inside in
    let first = first_places r.setup r.base (parts r.kept) c.self.invariant in
    c.new.ensures
    ∙ places_are r.setup _ _ (places_first r.setup r.kept.journal r.kept.seen)
    (omega (arith, first, c.len.ensures, outputs c)) (omega (arith, outputs c))

pub overflow_sub-used : goal.overflow_sub-used
overflow_sub-used c =
    let r = c.self.inside in
    let out = c.from-outputs.ensures ∙ c.outputs.ensures.value
    ∙ ap (λ (x : SetupParts). length x.device.outputs) c.setup.view_is in
    omega (arith, out, c.len.ensures, first_used r.setup r.base (parts r.kept) c.self.invariant)

pub of_parts-requires : goal.of_parts-requires
of_parts-requires c =
    let at = (goal.at.of_parts-requires c).After-new in
    let r = c.self.inside in
    let setup = c.requires.setup ∙ ap (λ (f : RestFace). f.setup) (sym c.self.view_is) in
    let from = c.requires.from ∙ ap (λ (f : RestFace). f.claims) (sym c.self.view_is) in
    let entries = c.requires.entries
    ∙ ap (λ (f : RestFace). carried f.setup f.journal f.claims) (sym c.self.view_is) in
    subst (λ (n : ℕ). IsBook r.setup c.args.publisher.view (parts r.kept) [] n c.new.result)
    (sym c.len-begun.ensures)
    (subst (IsBook r.setup c.args.publisher.view (parts r.kept) [] (length r.kept.journal))
    (sym (placed at))
    (over_book r.setup c.args.publisher.view (parts r.kept) r.base setup from entries
    c.self.invariant))

pub returns-clause-book : goal.returns-clause-book
returns-clause-book c =
    let at = (goal.at.returns-clause-book c).After-new in
    let r = c.self.inside in
    c.of_parts.ensures
    ∙ ap (λ (n : ℕ). book_of r.setup c.args.publisher r.kept.journal [] n c.new.result)
    c.len-begun.ensures
    ∙ ap (book_of r.setup c.args.publisher r.kept.journal [] (length r.kept.journal)) (placed at)
    ∙ ap (λ (f : RestFace). goes_over f c.args.publisher) c.self.view_is

pub returns-clause-room : goal.returns-clause-room
returns-clause-room c =
    let at = (goal.at.returns-clause-room c).After-new in
    let r = c.self.inside in
    let few = first_few r.setup r.base (parts r.kept) c.self.invariant in
    let used = ap (λ (b : BookFace). b.places.used) c.of_parts.ensures
    ∙ ap (λ (p : PlacesFace). p.used) (placed at) in
    subst (λ (f : RestFace). c.of_parts.result.places.used ≤ 3 * length f.setup.device.outputs)
    c.self.view_is (omega (arith, few, used))
