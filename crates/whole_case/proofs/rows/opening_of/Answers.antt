use Rattle.std.proofs.Common.{List, subst}
use Rattle.fare_law.specs.declared.rows.FlightRow.{FlightRow}
use Rattle.fare_law.specs.declared.rows.PlaceRow.{PlaceRow}
use Rattle.fare_law.specs.declared.rows.SeatRow.{SeatRow}
use Rattle.fare_law.specs.Book.{Book}
use Rattle.whole_case.specs.Stages.{Reads}
use Rattle.whole_case.specs.Timetables.{opening_of}
use Rattle.whole_case.proofs.rows.opening_of.Goals as goal

pub returns-clause-book : goal.returns-clause-book
returns-clause-book c =
    let outcome = c.book_of.result in
    let flights = c.as_slice-2.result.now in
    let seats = c.as_slice-3.result.now in
    subst (λ (rows : List SeatRow). Reads {A = Book} outcome (opening_of c.args.places c.args.flights rows)) c.as_slice-3.ensures
    (subst (λ (rows : List FlightRow). Reads {A = Book} outcome (opening_of c.args.places rows seats)) c.as_slice-2.ensures
    (subst (λ (rows : List PlaceRow). Reads {A = Book} outcome (opening_of rows flights seats)) c.as_slice.ensures c.book_of.ensures.book))
