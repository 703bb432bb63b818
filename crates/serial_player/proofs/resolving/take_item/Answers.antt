use Rattle.std.proofs.Common.{◌<◌, ◌++◌, ◌∷◌, [], length, get_or, refl, ap, subst, ◌∙◌, arith}
use Rattle.std.proofs.lemmas.List.{get_or_default}
use Rattle.http_wire.specs.Stream.{ended}
use Rattle.io_caps.specs.declared.limits.TheConstants.{CLIENTS}
use Rattle.book_words.specs.declared.requests.Request.{Request}
use Rattle.serial_player.specs.Resolved.{IsClientThere}
use Rattle.serial_player.specs.declared.asks.ClientAsk.TheVariants.{Asked}
use Rattle.serial_player.specs.declared.asks.Step.TheVariants.{Ask}
use Rattle.serial_player.proofs.Hearing.{ask_more, both_ok, on_ok, packet_more, piece_more}
use Rattle.serial_player.proofs.Hearing.{work_more}
use Rattle.serial_player.proofs.resolving.take_item.Goals as goal

pub returns-in-Packet : goal.returns-in-Packet
returns-in-Packet c items is =
    packet_more items c.args.item.now _ _ c.args.streams.now c.args.steps.now c.in-Packet.is is

pub returns-in-Piece : goal.returns-in-Piece
returns-in-Piece c =
    let client = c.in-Piece.client in
    let stands = c.args.streams.now in
    let lt : client < CLIENTS = subst IsClientThere c.in-Piece.is c.requires.client in
    let within : client < length stands = omega (arith, lt, c.requires.all) in
    on_ok c.hear.result _ _
    (λ both items is. piece_more items c.args.item.now client _ _ stands _
    (get_or stands client c.index-streams-client.result) c.hear.new.stream c.args.steps.now
    c.hear.new.steps
    c.in-Piece.is c.as_slice.ensures lt c.requires.all
    (get_or_default stands client _ ended within) refl both is)
    (both_ok c.hear.result _ _ c.hear.ensures.hears c.hear.ensures.settled)

pub returns-in_ok-copy-in-Ask : goal.returns-in_ok-copy-in-Ask
returns-in_ok-copy-in-Ask c =
    let client = c.in-Ask.client in
    let lt : client < CLIENTS = subst IsClientThere c.in-Ask.is c.requires.client in
    on_ok c.push.result _ _
    (λ told items is. ask_more items c.args.item.now client _ c.args.streams.now c.args.steps.now
    c.push.new.self c.in-Ask.is lt
    (told ∙ ap (λ (r : Request). c.args.steps.now ++ Ask client (Asked r) ∷ [])
    c.in_ok-copy-in-Ask.ensures) is) c.push.ensures.ok

pub returns-in-Work : goal.returns-in-Work
returns-in-Work c =
    on_ok c.push-in-Work.result _ _
    (λ told items is. work_more items c.args.item.now _ c.args.streams.now c.args.steps.now
    c.push-in-Work.new.self c.in-Work.is told is) c.push-in-Work.ensures.ok
