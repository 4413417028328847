use Rattle.std.proofs.Common.{◌≡◌, length, map, get_or, pos, ap, subst, sym, ◌∙◌, arith}
use Rattle.std.proofs.lemmas.Bool.{false≢true}
use Rattle.fare_law.specs.Offers.{flights_of}
use Rattle.fare_law.specs.Sheets.{first_minute, last_minute}
use Rattle.lane_mask.specs.Spans.{AreMarked}
use Rattle.fare_component.proofs.Building.{below_all}
use Rattle.fare_component.proofs.Steps.{Joins, flights_within, missed_on, none_offered, offered_on, refused_on, row_directed, row_stands}
use Rattle.fare_component.proofs.list.offers.Goals.{then-index+then-is_offered+in_ok-push, else-index, else-index-via-then-index+else-is_offered, else-index-via-else-index}
use Rattle.fare_component.proofs.list.offers.Goals as goal

pub returns-then-not-joins : goal.returns-then-not-joins
returns-then-not-joins c =
    let fs = c.as_slice-flights.result.now in
    none_offered c.args.key.now fs c.new-rows.result c.requires (c.as_slice-flights.ensures.items ∙ c.flights_of-flights.ensures ∙ ap flights_of c.as_slice-legs.ensures.items)
    (λ joins. false≢true (sym c.if-not-joins.true ∙ c.joins.ensures.1 (subst (λ s. Joins s fs) (sym (c.sheet.view_is ∙ c.deref-sheet.ensures)) joins))) c.new-rows.ensures

pub is_offered-requires-clause-flights : goal.is_offered-requires-clause-flights
is_offered-requires-clause-flights c =
    flights_within c.args.key.now c.as_slice-flights.result.now (c.as_slice-flights.ensures.items ∙ c.flights_of-flights.ensures ∙ ap flights_of c.as_slice-legs.ensures.items) c.requires

pub is_offered-requires-clause-direction : goal.is_offered-requires-clause-direction
is_offered-requires-clause-direction c =
    let fs = c.as_slice-flights.result.now in
    let many = c.in_ok-may_depart.ensures.many ∙ ap (λ s. length s.rows) c.deref-sheet.ensures in
    row_directed c.args.key.now fs c.loop-place.place c.index-as_slice-place.result c.requires
    (subst (λ s. Joins s fs) (c.sheet.view_is ∙ c.deref-sheet.ensures) (c.joins.ensures.0 c.if-not-joins.false))
    (row_stands c.args.key.now c.as_slice.result.now c.loop-place.place c.index-as_slice-place.result (c.as_slice.ensures ∙ ap (λ s. s.rows) (c.sheet.view_is ∙ c.deref-sheet.ensures)) (omega arith) c.index-as_slice-place.is)

pub price-requires-clause-flights : goal.price-requires-clause-flights
price-requires-clause-flights c =
    flights_within c.args.key.now c.as_slice-flights.result.now (c.as_slice-flights.ensures.items ∙ c.flights_of-flights.ensures ∙ ap flights_of c.as_slice-legs.ensures.items) c.requires

pub loop-place-preserved : goal.loop-place-preserved
loop-place-preserved c =
    let key = c.args.key.now in
    let row = c.index-as_slice-place.result in
    let same_legs = c.as_slice-legs.ensures.items in
    let same = c.as_slice-flights.ensures.items ∙ c.flights_of-flights.ensures ∙ ap flights_of same_legs in
    let many = c.in_ok-may_depart.ensures.many ∙ ap (λ s. length s.rows) c.deref-sheet.ensures in
    let stands = row_stands key c.as_slice.result.now c.loop-place.place row (c.as_slice.ensures ∙ ap (λ s. s.rows) (c.sheet.view_is ∙ c.deref-sheet.ensures)) (omega arith) c.index-as_slice-place.is in
    elim c.if-index.branch [
      | then-index+then-is_offered+in_ok-push w ↦ offered_on key c.as_slice-flights.result.now c.as_slice-legs.result.now c.loop-place.place w.price.result row c.loop-place.rows c.if-index.rows same same_legs stands c.loop-place.invariant (w.is_offered.ensures.0 w.if-is_offered.true) w.price.ensures (w.rows-is ∙ w.in_ok-push.ensures.items)
      | else-index w ↦ elim w.else-index.branch [
        | else-index-via-then-index+else-is_offered v ↦ refused_on key c.as_slice-legs.result.now c.loop-place.place row c.loop-place.rows c.if-index.rows v.is_offered.result same_legs stands c.loop-place.invariant v.is_offered.ensures v.if-is_offered.false w.rows-is
        | else-index-via-else-index v ↦ missed_on key c.as_slice-flights.result.now c.loop-place.place row c.loop-place.rows c.if-index.rows c.in_ok-may_depart.may_depart.items c.first_minute_of.result c.requires same stands c.loop-place.invariant c.first_minute_of.ensures
            (subst (λ s. AreMarked (map first_minute s.rows) (map last_minute s.rows) (pos c.first_minute_of.result) c.in_ok-may_depart.may_depart.items (length s.rows)) c.deref-sheet.ensures c.in_ok-may_depart.ensures.marks)
            (sym (subst (λ b. b ≡ get_or c.in_ok-may_depart.may_depart.items c.loop-place.place b) v.if-index.false c.index.ensures)) w.rows-is
      ]
    ]

pub returns : goal.returns
returns c =
    let many = c.in_ok-may_depart.ensures.many ∙ ap (λ s. length s.rows) c.deref-sheet.ensures in
    below_all c.args.key.now c.loop-place.place c.loop-place.rows (omega arith) c.loop-place.invariant
