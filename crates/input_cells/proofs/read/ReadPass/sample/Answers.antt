use Rattle.std.proofs.Common.{◌≡◌, ◌+◌, ◌*◌, ◌<◌, ◌∙◌, refl, sym, ap, subst, arith, w32, to_z, of_z}
use Rattle.std.specs.List.{Contains}
use Rattle.input_rule.specs.declared.view.HeardSample.{HeardSample}
use Rattle.input_rule.specs.declared.view.View.{View}
use Rattle.input_rule.specs.Views.{HasSeen, listened}
use Rattle.input_rule.specs.Words.{HasTick, sample_word}
use Rattle.input_cells.specs.Faces.{Grows, InputFace}
use Rattle.input_cells.proofs.Growing.{grows_changed, listened_more}
use Rattle.input_cells.proofs.Passes.{inside, one_changed, one_fits, one_had, one_has, one_read}
use Rattle.input_cells.proofs.Passes.{one_shape}
use Rattle.input_cells.proofs.Seats.{frame_word, whole}
use Rattle.input_cells.proofs.read.ReadPass.sample.Goals as goal

pub place-requires-clause-frame : goal.place-requires-clause-frame
place-requires-clause-frame c =
    one_shape (λ s. c.args.frame < s.frames) _ _ c.args.input _ c.table.view_is c.index-one.ensures
    c.requires.frame

pub place-requires-clause-channel : goal.place-requires-clause-channel
place-requires-clause-channel c = one_shape (λ s. c.args.channel < s.channels) _ _ c.args.input _
    c.table.view_is c.index-one.ensures c.requires.channel

pub place-requires-clause-some_tick : goal.place-requires-clause-some_tick
place-requires-clause-some_tick c =
    let at : HasTick c.index-one.result.now.shape c.args.tick =
    one_shape (λ s. HasTick s c.args.tick) _ _ c.args.input _ c.table.view_is
    c.index-one.ensures c.requires.tick in
    let a = at.0 in let b = at.1 in omega arith

pub sample_word-word-requires-clause-tick : goal.sample_word-word-requires-clause-tick
sample_word-word-requires-clause-tick c =
    one_shape (λ s. HasTick s c.args.tick) _ _ c.args.input _ c.table.view_is c.index-one.ensures
    c.requires.tick

pub sample_word-word-requires-clause-frame : goal.sample_word-word-requires-clause-frame
sample_word-word-requires-clause-frame c =
    let below = one_shape (λ s. c.args.frame < s.frames) _ _ c.args.input _ c.table.view_is
    c.index-one.ensures c.requires.frame in omega (arith, below)

pub sample_word-word-requires-clause-channel : goal.sample_word-word-requires-clause-channel
sample_word-word-requires-clause-channel c =
    one_shape (λ s. c.args.channel < s.channels) _ _ c.args.input _ c.table.view_is
    c.index-one.ensures c.requires.channel

pub listen-requires-clause-word : goal.listen-requires-clause-word
listen-requires-clause-word c =
    let s = c.index-one.result.now.shape in
    let below = one_shape (λ s. c.args.channel < s.channels) _ _ c.args.input _ c.table.view_is
    c.index-one.ensures c.requires.channel in
    c.sample_word-word.ensures.word
    ∙ (frame_word s c.args.tick c.args.frame c.args.channel below
    ∙ ap (sample_word s c.args.tick) (sym c.place.ensures.place))

pub listen-requires-clause-tick : goal.listen-requires-clause-tick
listen-requires-clause-tick c =
    one_shape (λ s. HasTick s c.args.tick) _ _ c.args.input _ c.table.view_is c.index-one.ensures
    c.requires.tick

pub listen-requires-clause-seen : goal.listen-requires-clause-seen
listen-requires-clause-seen c = one_had (λ (v : View). HasSeen v c.args.tick) _ _ c.args.input _
    c.self.view_is c.index_mut-seat.ensures.value c.requires.seen

pub returns-clause-heard : goal.returns-clause-heard
returns-clause-heard c =
    let fits = one_fits _ _ _ _ c.args.input _ _ c.table.view_is c.self.view_is c.requires.pass
    (let i = c.requires.input in omega arith) c.index-one.ensures c.index_mut-seat.ensures.value
    in
    let place : c.place.result
    ≡ c.args.frame * c.index_mut-seat.result.now.view.shape.channels + c.args.channel =
    c.place.ensures.place
    ∙ ap (λ (z : InputFace). c.args.frame * z.shape.channels + c.args.channel) (sym fits) in
    let number : c.listen.result ≡ to_z w32 (of_z w32 c.listen.result) =
    sym (whole _ c.listen.type_inv) in
    one_changed (λ (v : View).
    listened v c.args.tick (c.args.frame * v.shape.channels + c.args.channel)
    (to_z w32 (of_z w32 c.listen.result))) _ _ c.args.input _ _ c.self.view_is
    (inside _ _ _ c.requires.pass (let i = c.requires.input in omega arith))
    c.index_mut-seat.ensures.value
    (c.listen.ensures.heard
    ∙ (λ k. record c.index_mut-seat.result.now
    { view = listened c.index_mut-seat.result.now.view c.args.tick (place k) (number k) }))

pub returns-clause-same : goal.returns-clause-same
returns-clause-same c =
    let fits = one_fits _ _ _ _ c.args.input _ _ c.table.view_is c.self.view_is c.requires.pass
    (let i = c.requires.input in omega arith) c.index-one.ensures c.index_mut-seat.ensures.value
    in
    let place : c.place.result
    ≡ c.args.frame * c.index_mut-seat.result.now.view.shape.channels + c.args.channel =
    c.place.ensures.place
    ∙ ap (λ (z : InputFace). c.args.frame * z.shape.channels + c.args.channel) (sym fits) in
    one_has (λ (v : View). (h : HeardSample) → Contains v.heard h → h.tick ≡ c.args.tick
    → h.place ≡ c.args.frame * v.shape.channels + c.args.channel
    → h.value ≡ to_z w32 (of_z w32 c.listen.result)) _ _ c.args.input _ c.self.view_is
    (inside _ _ _ c.requires.pass (let i = c.requires.input in omega arith))
    c.index_mut-seat.ensures.value
    (λ h among its_tick its_place. c.listen.ensures.same h among its_tick (its_place ∙ sym place)
    ∙ sym (whole _ c.listen.type_inv))

pub returns-clause-pass : goal.returns-clause-pass
returns-clause-pass c =
    one_read (λ (v : View).
    listened v c.args.tick (c.args.frame * v.shape.channels + c.args.channel)
    (to_z w32 (of_z w32 c.listen.result))) (λ v. refl) _ _ _ c.args.input c.requires.pass
    (returns-clause-heard c)

pub returns-clause-grows : goal.returns-clause-grows
returns-clause-grows c = subst (Grows c.args.self.now) (sym (returns-clause-heard c))
    (grows_changed
    (λ (v : View). listened v c.args.tick (c.args.frame * v.shape.channels + c.args.channel)
    (to_z w32 (of_z w32 c.listen.result))) (λ p. listened_more p c.args.tick _ _) c.args.input
    c.args.self.now)
