use Rattle.std.proofs.Common.{◌≡◌, w32, to_z, of_z, refl, sym, subst, arith}
use Rattle.std.proofs.lemmas.Int.{ints, to_z-of_z}
use Rattle.schedule_book.proofs.RowDays.{names_told, Named}
use Rattle.schedule_book.proofs.row_days.flight_on.Goals as goal

pub returns-clause-flight : goal.returns-clause-flight
returns-clause-flight c = λ n.
    let e : to_z w32 (of_z w32 c.args.day) ≡ c.args.day = grind (arith, ints, to_z-of_z) in
    let t = subst (Named c.args.row.now) (sym e) (names_told c.args.row.now c.args.day n) in
    record {
      carrier = refl;
      number = refl;
      from = refl;
      to = refl;
      minute = refl;
      first = t.first;
      last = t.last;
      named = t.named;
      departs = search (arith, ints, to_z-of_z, c.departure.ensures);
      arrives = search (arith, ints, to_z-of_z, c.arrival.ensures);
    }
