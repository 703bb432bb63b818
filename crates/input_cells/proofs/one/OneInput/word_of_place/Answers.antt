use Rattle.std.proofs.Common.{rules, ◌/◌, ◌<◌}
use Rattle.input_rule.proofs.Planes.{frame_below}
use Rattle.input_cells.proofs.one.OneInput.word_of_place.Goals as goal

pub sample_word-requires-clause-frame : goal.sample_word-requires-clause-frame
sample_word-requires-clause-frame c =
    let s = c.args.self.now.shape in
    let f : c.args.place / s.channels < s.frames =
    frame_below s.frames s.channels c.args.place c.requires.place in search rules
