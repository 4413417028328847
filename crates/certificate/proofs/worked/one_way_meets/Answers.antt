-- The case of its own file; the one answer's ticket is that of its run.
use Rattle.certificate.specs.OneWay.{one_way_book, one_way_request}
use Rattle.certificate.proofs.OneWayChecks.{meets_checks}
use Rattle.residual_keys.proofs.NothingLost.{run_ticket}
use Rattle.certificate.proofs.worked.one_way_meets.Goals as goal

pub returns : goal.returns
returns c = meets_checks (run_ticket one_way_book one_way_request (tt, tt))
