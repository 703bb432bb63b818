use Rattle.session_laps.proofs.Placed.{all_fit, one_fits}
use Rattle.session_laps.proofs.laws.new_laps_have_places.Goals as goal

pub returns-clause-one : goal.returns-clause-one
returns-clause-one c = one_fits

pub returns-clause-all : goal.returns-clause-all
returns-clause-all c = all_fit
