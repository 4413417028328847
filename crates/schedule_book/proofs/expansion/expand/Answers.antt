use Rattle.std.proofs.Common.{◌+◌, take, drop, get_or, refl, subst, arith}
use Rattle.std.proofs.lemmas.List.{take_all}
use Rattle.schedule_book.specs.Faults.{RowsRight}
use Rattle.fare_law.specs.declared.limits.TheConstants.{MOST_DATED_FLIGHTS}
use Rattle.schedule_book.proofs.OwnFaults.{own_period}
use Rattle.schedule_book.proofs.Expanding.{expanded_empty, seen_empty, own_cause, twice_cause, many_cause, expanded_next}
use Rattle.schedule_book.proofs.SharedNames.{no_row, none_before}
use Rattle.law_lemmas.proofs.Lists.{split_is}
use Rattle.schedule_book.proofs.expansion.expand.Goals as goal

pub loop-row-init : goal.loop-row-init
loop-row-init c = (expanded_empty c.args.places.now c.in_ok-flights.flights.items c.in_ok-flights.ensures.items, seen_empty c.in_ok-shared.shared c.in_ok-flights.flights.items c.new-seen.result c.in_ok-flights.ensures.items c.new-seen.ensures.empty)

pub returns-in-Some-clause-fault : goal.returns-in-Some-clause-fault
returns-in-Some-clause-fault c = own_cause c.args.places.now c.args.rows.now c.loop-row.row-index no_row (get_or c.args.rows.now c.loop-row.row-index no_row) c.loop-row.flights.items c.loop-row-test.true refl c.loop-row.invariant.0 c.in-Some.fault c.in-Some.ensures.some

pub add_row-requires-clause-first : goal.add_row-requires-clause-first
add_row-requires-clause-first c = (own_period c.args.places.now (get_or c.args.rows.now c.loop-row.row-index no_row) c.in_default.ensures.none).0

pub add_row-requires-clause-last : goal.add_row-requires-clause-last
add_row-requires-clause-last c = (own_period c.args.places.now (get_or c.args.rows.now c.loop-row.row-index no_row) c.in_default.ensures.none).1

pub add_row-requires-clause-apart : goal.add_row-requires-clause-apart
add_row-requires-clause-apart c =
    let rows = c.args.rows.now in
    let i = c.loop-row.row-index in
    let row = get_or rows i no_row in
    none_before rows (take i rows) row (drop (i + 1) rows) c.in_ok-shared.shared c.loop-row.flights.items c.in_ok-shared.ensures.shared (split_is rows i no_row row c.loop-row-test.true refl)
    (λ f j. (c.loop-row.invariant.0.expands.are f).0 j)

pub returns-in-Err-clause-fault : goal.returns-in-Err-clause-fault
returns-in-Err-clause-fault c = twice_cause c.args.places.now c.args.rows.now c.loop-row.row-index no_row (get_or c.args.rows.now c.loop-row.row-index no_row) c.loop-row.flights.items c.loop-row-test.true refl c.loop-row.invariant.0 c.in_default.ensures.none c.in-Err.fault c.in-Err.ensures.fault

pub returns-then-len-gt-MOST_DATED_FLIGHTS-clause-fault : goal.returns-then-len-gt-MOST_DATED_FLIGHTS-clause-fault
returns-then-len-gt-MOST_DATED_FLIGHTS-clause-fault c =
    many_cause c.args.places.now c.args.rows.now c.loop-row.row-index no_row (get_or c.args.rows.now c.loop-row.row-index no_row) c.loop-row.flights.items c.loop-row-test.true refl c.loop-row.invariant.0 c.in_default.ensures.none c.add_row.new.flights.items
    c.in_default-add_row.ensures.added c.in_default-add_row.ensures.seen.differ (omega (arith, c.len.ensures, c.add_row.new.flights.ok.0))

pub loop-row-preserved : goal.loop-row-preserved
loop-row-preserved c = (
  expanded_next c.args.places.now c.args.rows.now c.loop-row.row-index no_row (get_or c.args.rows.now c.loop-row.row-index no_row) c.loop-row.flights.items c.loop-row-test.true refl c.loop-row.invariant.0 c.in_default.ensures.none c.add_row.new.flights.items
      c.in_default-add_row.ensures.added c.in_default-add_row.ensures.seen.differ (omega (arith, c.len.ensures, c.add_row.new.flights.ok.0)),
  c.in_default-add_row.ensures.seen,
)

pub returns-clause-right : goal.returns-clause-right
returns-clause-right c = subst (RowsRight c.args.places.now) (take_all c.loop-row.row-index c.args.rows.now c.loop-row-test.false) c.loop-row.invariant.0.right
