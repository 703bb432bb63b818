use Rattle.std.proofs.Common.{[], length, refl, sym, ap, ◌∙◌, subst, arith}
use Rattle.std.proofs.lemmas.List.FromFn.{length-map-range_with_len}
use Rattle.map_entry.specs.Setup.{IsSetup, SetupParts}
use Rattle.map_entry.proofs.Rows.{rows_long}
use Rattle.plain_book.specs.Journal.{base_entry}
use Rattle.plain_book.proofs.Base.{desk_new}
use Rattle.live_book.specs.Books.{IsBook}
use Rattle.live_book.proofs.Overs.{new_desk, places_are}
use Rattle.live_book.proofs.book.Book.new.Goals as goal

pub invariant_of-result : goal.invariant_of-result
invariant_of-result c =
    let s = c.args.setup.now in
    let checked = subst IsSetup c.setup.view_is c.setup.invariant in
    let outputs = c.from-outputs.ensures ∙ c.outputs.ensures.value
    ∙ ap (λ (x : SetupParts). length x.device.outputs) c.setup.view_is in
    let long = ap length c.requires.entries
    ∙ length-map-range_with_len (base_entry s) 0 (length s.rows) ∙ rows_long s checked in
    rw (c.in_ok-copy.ensures, c.new-3.ensures)
    (subst (IsBook s c.args.publisher.view _ [] 0)
    (sym (c.new-4.ensures ∙ places_are s _ _ (length s.device.outputs) outputs
    (omega (arith, outputs))))
    (new_desk s c.args.publisher.view _ c.requires.setup (sym c.requires.from) c.new.ensures
    c.new-2.ensures.items long
    (desk_new s c.args.publisher.view.entries _ checked refl c.new.ensures c.requires.entries refl
    c.new-2.ensures.items refl refl)))
