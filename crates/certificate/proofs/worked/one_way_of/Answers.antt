-- The case of its own file; the least run's ticket is the best.
use Rattle.certificate.specs.OneWay.{one_way_book, one_way_request, one_way_right}
use Rattle.certificate.proofs.ByRuns.{from_runs}
use Rattle.certificate.proofs.OneWayOf.{is_of_runs, smaller_is_not}
use Rattle.residual_keys.proofs.RunsBest.{best_tickets}
use Rattle.certificate.proofs.worked.one_way_of.Goals as goal

pub returns-clause-right : goal.returns-clause-right
returns-clause-right c = from_runs one_way_book one_way_request (best_tickets one_way_book one_way_request (tt, tt)) one_way_right is_of_runs

pub returns-clause-smaller : goal.returns-clause-smaller
returns-clause-smaller c = smaller_is_not
