use Rattle.std.proofs.Common.{◌≡◌, ℕ, ◌*◌, ap, arith}
use Rattle.input_cells.specs.Faces.{InputFace}
use Rattle.input_cells.proofs.Seats.{channel_ends}
use Rattle.input_cells.proofs.one.OneInput.sample_word.Goals as goal

pub returns-clause-within : goal.returns-clause-within
returns-clause-within c =
    let s = c.args.self.now.shape in
    let frames : c.self.inside.shape.frames ≡ s.frames =
    ap (λ (z : InputFace). z.shape.frames) c.self.view_is in
    let end = channel_ends s.frames s.channels c.args.channel c.requires.channel in
    let block = c.block_word.ensures.within in
    let f = c.requires.frame in
    let n : ℕ = c.args.channel * s.frames in let m : ℕ = s.frames * s.channels in
    let at : c.args.channel * c.self.inside.shape.frames ≡ n =
    ap (λ (k : ℕ). c.args.channel * k) frames in
    omega arith
