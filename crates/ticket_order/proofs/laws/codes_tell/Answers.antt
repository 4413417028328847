use Rattle.ticket_order.proofs.Codes.{moves_apart, move_parts, code_front, codes_same, codes_joined}
use Rattle.ticket_order.proofs.laws.codes_tell.Goals as goal

pub returns : goal.returns
returns c = record {
  apart = moves_apart;
  parts = move_parts;
  front = code_front;
  same = codes_same;
  joined = codes_joined;
}
