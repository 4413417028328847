-- The theorem of its own file, from the laws of the layers below.
use Rattle.whole_case.proofs.OneOutcome.{Known}
use Rattle.whole_case.proofs.OneServe.{one_serve}
use Rattle.whole_case.proofs.serve_laws.one_serve_case.Goals as goal

pub returns : goal.returns
returns c =
    let k : Known = record {
      flights = c.one_list_of_flights.ensures;
      row_fault = c.one_fault_of_rows.ensures.one;
      no_row_fault = c.one_fault_of_rows.ensures.none;
      repeat = c.one_fault_of_seats.ensures.one;
      no_repeat = c.one_fault_of_seats.ensures.none;
      filing_fault = c.one_fault_of_filings.ensures;
    } in
    one_serve c.one_reading.ensures.script c.one_reading.ensures.either c.one_reading.ensures.fault k
