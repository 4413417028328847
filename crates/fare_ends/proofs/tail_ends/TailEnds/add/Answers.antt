use Rattle.std.proofs.Common.{◌≢◌, List, [], ◌∷◌, ◌++◌, ap, slice_get, subst, sym, ◌∙◌}
use Rattle.fare_ends.specs.declared.tail_ends.TailEnds.{TailEnds}
use Rattle.fare_ends.specs.NumberedFlights.{EndsWith}
use Rattle.fare_ends.proofs.Wanted.{ends_more, ends_there, inserted, never_ends}
use Rattle.fare_law.specs.declared.flights.Flight.{Flight}
use Rattle.fare_law.specs.Lists.{IsPrefix}
use Rattle.fare_law.specs.Parts.{Numbers}
use Rattle.law_lemmas.proofs.Lists.{prefix_self}
use Rattle.fare_ends.proofs.tail_ends.TailEnds.add.Goals as goal
use Rattle.fare_ends.proofs.tail_ends.TailEnds.add.Goals.{in-Some+in_ok-insert_full-in-Some, in-None}

pub returns : goal.returns
returns c = λ tails are.
    let b = c.args.book.now in
    let tail = c.args.tail.now in
    let old = c.args.self.now in
    let now = c.match-last_flight.self in
    let end = c.match-last_flight.end in
    let more = c.push.new.self.items in
    let pushed = c.in_ok-push.ensures.items in
    let same = c.as_slice.ensures.items in
    elim c.match-last_flight.branch [
      | in-Some+in_ok-insert_full-in-Some w ↦
          let told = w.in_ok-insert_full-in-Some.ensures in
          let keys = w.insert_full.new.self.keys in
          let last = w.in-Some.last.now in
          let grown = subst (IsPrefix old.places.keys) (sym (ap (λ (s : TailEnds). s.places.keys) w.self-is ∙ told.keys)) (inserted _ old.places.keys last.to) in
          let stands = ap (λ (s : TailEnds). slice_get s.places.keys end) w.self-is ∙ ap (slice_get keys) w.end-is ∙ told.stored.1 in
          let ends = subst (λ ns. EndsWith b ns last) same w.in-Some.ensures.some.1 in
          ends_more b tails tail old.places.keys now.places.keys old.of.items more end grown (pushed ∙ ap (λ (s : TailEnds). s.of.items ++ end ∷ []) w.self-is)
          (ends_there b tail.flights last now.places.keys end told.stored.0 ends stands told.stored.2) are
      | in-None w ↦
          let grown = subst (λ (s : TailEnds). IsPrefix old.places.keys s.places.keys) (sym w.self-is) (prefix_self old.places.keys) in
          let none = subst (λ ns. (fs : List Flight) → Numbers b ns fs → ns ≢ [] → ⊥) same w.in-None.ensures.none in
          ends_more b tails tail old.places.keys now.places.keys old.of.items more end grown (pushed ∙ ap (λ (s : TailEnds). s.of.items ++ end ∷ []) w.self-is)
          (never_ends b tail.flights now.places.keys end none) are
    ]
