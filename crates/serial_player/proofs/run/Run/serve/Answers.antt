use Rattle.std.proofs.Common.{[], ◌∷◌, ◌++◌, refl, sym, ap, ◌∙◌}
use Rattle.std.specs.Prelude.{slice_set}
use Rattle.map_entry.specs.Setup.{SetupParts}
use Rattle.book_words.specs.declared.history.ReplyItem.{ReplyItem}
use Rattle.serial_player.proofs.Replying.{http_asked}
use Rattle.serial_player.proofs.run.Run.serve.Goals as goal

pub returns-in_ok-push-in-At : goal.returns-in_ok-push-in-At
returns-in_ok-push-in-At c =
    let old = c.args.self.now in
    let asked = c.in_ok-serve_over.ensures in
    let said = c.in_ok-said-in-At.ensures in
    http_asked c.args.client c.args.http.now _ c.in_ok-serve_over.field-0 c.in-At.stamp
    c.in_ok-said-in-At.said _ _ old _ c.requires.client c.requires.run.floors
    (ap (λ (s : SetupParts). s.device) (sym c.requires.run.setup))
    c.new-response.ensures.items c.in-At.is asked.served asked.setup
    asked.keeps said.value said.short
    (c.in_ok-push-in-At.ensures.ok
    ∙ ap (λ (r : ReplyItem). old.replies ++ r ∷ []) c.new-in-At.ensures) c.place.ensures.few
    (c.go_on.ensures
    ∙ ap (slice_set old.floors.places.items c.args.client) c.place.ensures.value)
    refl
