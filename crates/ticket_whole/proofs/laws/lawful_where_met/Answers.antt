use Rattle.ticket_whole.proofs.WholeTickets.{lawful_where_all_met}
use Rattle.ticket_whole.proofs.laws.lawful_where_met.Goals as goal

pub returns : goal.returns
returns c = lawful_where_all_met
