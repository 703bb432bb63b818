use Rattle.input_cells.proofs.Starting.{has_its_ticks}
use Rattle.input_cells.proofs.laws.tables_have_ticks.Goals as goal

pub returns : goal.returns
returns c = has_its_ticks
