use Rattle.std.proofs.Common.{◌∙◌, sym, ap, length}
use Rattle.fare_calendar.specs.Calendars.{spans_fit}
use Rattle.fare_calendar.proofs.calendars.calendar.Goals as goal

pub cells_of-requires : goal.cells_of-requires
cells_of-requires c = record {
  right = c.in_ok-request_ok.ensures.limits;
  two = ap length (sym c.as_slice-slices.ensures.items) ∙ c.if-slices-ne2.false;
  fit = ap (spans_fit c.args.spans) (sym c.as_slice-slices.ensures.items) ∙ sym c.if-not-spans_fit.ensures;
}
