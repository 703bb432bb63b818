use Rattle.input_cells.proofs.Growing.{agrees_before, grows_on, keeps_missed, keeps_seen}
use Rattle.input_cells.proofs.Growing.{hearing_grows, own_grown, stays_of_table, unread_own}
use Rattle.input_cells.proofs.laws.passes_grow.Goals as goal

pub returns-clause-on : goal.returns-clause-on
returns-clause-on c = grows_on

pub returns-clause-table : goal.returns-clause-table
returns-clause-table c = stays_of_table

pub returns-clause-seen : goal.returns-clause-seen
returns-clause-seen c = keeps_seen

pub returns-clause-missed : goal.returns-clause-missed
returns-clause-missed c = keeps_missed

pub returns-clause-agrees : goal.returns-clause-agrees
returns-clause-agrees c = agrees_before

pub returns-clause-own : goal.returns-clause-own
returns-clause-own c = own_grown

pub returns-clause-unread : goal.returns-clause-unread
returns-clause-unread c = unread_own

pub returns-clause-hears : goal.returns-clause-hears
returns-clause-hears c = hearing_grows
