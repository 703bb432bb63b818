use Rattle.sdp_audio.proofs.Descriptions.{text_good, text_streams}
use Rattle.sdp_audio.proofs.laws.descriptions_are_read.Goals as goal

pub returns-clause-good : goal.returns-clause-good
returns-clause-good c = λ d is. text_good d is

pub returns-clause-streams : goal.returns-clause-streams
returns-clause-streams c = λ d is. text_streams d is
