use Rattle.std.proofs.Common.{◌≡◌, ◌++◌, ◌∷◌, ◌<◌, ◌^◌, [], refl, ap, ◌∙◌, rules}
use Rattle.book_words.specs.declared.history.ReplyItem.{ReplyItem}
use Rattle.api_routes.specs.Answer.{stream_response}
use Rattle.serial_player.proofs.Hearing.{on_ok}
use Rattle.serial_player.proofs.Replying.{refused_fixed}
use Rattle.serial_player.proofs.run.Run.refuse.Goals as goal

pub returns : goal.returns
returns c =
    let old = c.args.self.now in
    let said = c.in_ok-said.ensures in
    let text : c.refuse_stream.new.out.items ≡ stream_response c.args.status = search rules in
    let few : c.of-floor.result.calls < 256 ^ 8 = search rules in
    on_ok c.push.result _ _
    (λ pushed. refused_fixed c.args.client c.args.status c.of-floor.result c.in_ok-said.said
    c.refuse_stream.new.out.items old _ c.requires.client c.requires.run.floors text refl
    said.value said.short c.of-floor.ensures few
    (pushed ∙ ap (λ (r : ReplyItem). old.replies ++ r ∷ []) c.new.ensures) refl refl)
    c.push.ensures.ok
