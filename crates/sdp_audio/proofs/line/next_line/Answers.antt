use Rattle.sdp_audio.proofs.Cuts.{first_line, last_line}
use Rattle.std.proofs.Common.{List, ℕ, ◌∷◌, ◌∙◌, ap, sym}
use Rattle.std.specs.Str.Lines.{lines}
use Rattle.sdp_audio.proofs.line.next_line.Goals as goal

pub returns-in-None-clause-first : goal.returns-in-None-clause-first
returns-in-None-clause-first c = last_line c.args.text.now c.requires c.in-None.ensures.none

pub returns-in-Some-clause-first : goal.returns-in-Some-clause-first
returns-in-Some-clause-first c =
    let below = c.in-Some.below.now in
    first_line c.args.text.now c.in-Some.line.now below c.in-Some.ensures.parts
    ∙ ap (λ (l : List ℕ). l ∷ lines below) (sym c.without_return.ensures)
