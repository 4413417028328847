-- The cases of their own files.
use Rattle.certificate.specs.OneWay.{one_way_root}
use Rattle.certificate.proofs.OneWayChecks.{bound_fails}
use Rattle.certificate.proofs.OneWayFailures.{no_row, row_twice, wrong_price, answer_twice, no_answer, other_version, other_request}
use Rattle.residual_keys.proofs.Ordered.{states}
use Rattle.ticket_order.proofs.Words.{before_never}
use Rattle.certificate.proofs.worked.one_way_fails.Goals as goal

pub returns : goal.returns
returns c = record {
  no_row = no_row;
  row_twice = row_twice (states.never one_way_root);
  bound = bound_fails;
  price = wrong_price;
  answer_twice = answer_twice before_never;
  no_answer = no_answer;
  version = other_version;
  request = other_request;
}
