use Rattle.std.proofs.Common.{◌≡◌, ◌+◌, ◌++◌, ◌∷◌, [], None, take, get_or, refl, sym, subst, ◌∙◌}
use Rattle.std.specs.HashMap.{get}
use Rattle.fare_law.specs.contracts.names.PlacePartialEq.TheImpl as place
use Rattle.fare_law.specs.declared.names.Place.{Place}
use Rattle.fare_law.specs.declared.rows.PlaceRow.{PlaceRow}
use Rattle.schedule_book.specs.Connects.{connect_of}
use Rattle.schedule_book.specs.Faults.{PlacesDiffer}
use Rattle.schedule_book.proofs.PlaceRows.{connects_more, differ_more, known_some, known_told, none_told, place_fault}
use Rattle.law_lemmas.proofs.Lists.{front_read}
use Rattle.schedule_book.proofs.places.connects_of.Goals as goal

no_row : PlaceRow
no_row = record { line = 0; place = record { 0 = [] }; connect = 0 }

pub returns-then-is_some-clause-fault : goal.returns-then-is_some-clause-fault
unfolding no_row
returns-then-is_some-clause-fault c =
    let rows = c.args.rows.now in
    let i = c.loop-row.row-index in
    let row : PlaceRow = get_or rows i no_row in
    place_fault rows i no_row row c.loop-row-test.true refl c.loop-row.invariant.1
    (known_told row.place (take i rows) c.in_ok-old.old (c.in_ok-old.ensures.old ∙ c.loop-row.invariant.0 row.place) (sym c.is_some.ensures ∙ c.if-is_some.true))

pub loop-row-preserved : goal.loop-row-preserved
unfolding no_row
loop-row-preserved c =
    let rows = c.args.rows.now in
    let i = c.loop-row.row-index in
    let row : PlaceRow = get_or rows i no_row in
    let none : c.in_ok-old.old ≡ None = none_told c.in_ok-old.old (sym c.is_some.ensures ∙ c.if-is_some.false) in
    let absent : get place.ghosts.eq c.loop-row.connects row.place ≡ None = sym c.in_ok-old.ensures.old ∙ none in
    let more : take (i + 1) rows ≡ take i rows ++ row ∷ [] = front_read rows i no_row row c.loop-row-test.true refl in (
      subst (λ rs. (q : Place) → get place.ghosts.eq c.insert.new.self q ≡ connect_of rs q) (sym more)
          (connects_more (get place.ghosts.eq c.loop-row.connects) (get place.ghosts.eq c.insert.new.self) (take i rows) row c.in_ok-old.ensures.updates.0 absent c.loop-row.invariant.0),
      subst PlacesDiffer (sym more) (differ_more (take i rows) row c.loop-row.invariant.1 (λ k. known_some row.place (take i rows) k (sym (c.loop-row.invariant.0 row.place) ∙ absent))),
    )
