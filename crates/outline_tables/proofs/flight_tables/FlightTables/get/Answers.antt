use Rattle.std.proofs.Common.{◌≡◌, ◌-◌, Some, ap, arith, drop, length, refl, slice_get, suc, sym, take, ◌∙◌}
use Rattle.std.proofs.lemmas.Option.{slice_get_read}
use Rattle.outline_tables.proofs.flight_tables.FlightTables.get.Goals as goal

pub returns-clause-found : goal.returns-clause-found
returns-clause-found c =
    let kept = c.args.self.now in
    let levels = c.as_slice.result.now in
    let level = c.level_of.result in
    let places = c.in_ok-places.places.now in
    let one = c.in_ok-places.ensures.lookup in
    let level_got : slice_get levels level ≡ Some places = slice_get_read levels (length levels) level places refl one.3.0 one.1 in
    let numbers = c.as_slice-2.result.now in
    let place = c.in_ok-place.place.now in
    let two = c.in_ok-place.ensures.lookup in
    let place_got : slice_get numbers c.args.flight ≡ Some place = slice_get_read numbers (length numbers) c.args.flight place refl two.3.0 two.1 in
    let number = c.in_ok-number.number in
    let less = c.in_ok-number.ensures in
    let some = less.0 in
    let is = less.1 in
    let more : place ≡ suc number = omega (arith, some, is) in
    let ranges = c.as_slice-3.result.now in
    let range = c.in_ok-range.range.now in
    let three = c.in_ok-range.ensures.lookup in
    let range_got : slice_get ranges number ≡ Some range = slice_get_read ranges (length ranges) number range refl three.3.0 three.1 in
    record {
      number = number;
      stands = record {
        places = places;
        level_is = ap (slice_get kept.places.items) (sym c.level_of.ensures) ∙ ap (λ ls. slice_get ls level) (sym c.as_slice.ensures.value) ∙ level_got;
        place = ap (λ ps. slice_get ps c.args.flight) (sym c.as_slice-2.ensures.value) ∙ place_got ∙ ap Some more;
      };
      has = record {
        range = range;
        stands = ap (λ rs. slice_get rs number) (sym c.as_slice-3.ensures.value) ∙ range_got;
        is = ap (λ es. take (range.to - range.from) (drop range.from es)) c.deref.ensures.value;
      };
    }
