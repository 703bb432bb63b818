use Rattle.std.proofs.Common.{[], ◌∷◌, ◌++◌, refl, ap, ◌∙◌}
use Rattle.std.specs.Prelude.{slice_set}
use Rattle.book_words.specs.declared.history.ReplyItem.{ReplyItem}
use Rattle.serial_player.proofs.Replying.{plain_asked}
use Rattle.serial_player.proofs.run.Run.ask.Goals as goal

pub returns : goal.returns
returns c =
    let old = c.args.self.now in
    let asked = c.in_ok-reply.ensures in
    plain_asked c.args.client c.args.request.now c.in_ok-reply.reply c.in_ok-reply.stamp old _
    c.requires.client c.requires.run.floors asked.asked asked.tells asked.setup asked.keeps
    (c.in_ok-push.ensures.ok
    ∙ ap (λ (r : ReplyItem). old.replies ++ r ∷ []) c.new.ensures) c.place.ensures.few
    (c.go_on.ensures
    ∙ ap (slice_set old.floors.places.items c.args.client) c.place.ensures.value)
    refl
