-- What a unit reads of a component's piece.
use Rattle.std.specs.Prelude.{[]}
use Rattle.fare_law.specs.declared.tickets.Piece.{Piece}

-- The piece as a unit reads it: the fare has no basis and no class, costs nothing, and is filed from where the component begins.
abbrev pub as_read : Piece → Piece
as_read p = record {
  begin = p.begin;
  end = p.end;
  fare = record {
    key = record { carrier = p.fare.key.carrier; from = p.begin; to = p.end; basis = record { 0 = [] } };
    class = 0;
    kind = p.fare.kind;
    amount = 0;
    rule = p.fare.rule;
  };
  rule = p.rule;
  reverse = p.reverse;
  first_day = p.first_day;
  last_day = p.last_day;
  sale = p.sale;
}
