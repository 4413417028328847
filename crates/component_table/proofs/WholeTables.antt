-- What begins with each flight of a position, put together, is its table.
use Rattle.std.proofs.Common.{◌⊎◌, ℕ, List, ◌++◌, sym, subst, inl, inr}
use Rattle.component_table.specs.Steps.{BeginsBy, MergesMore}
use Rattle.component_table.proofs.Beginnings.{head_there}
use Rattle.component_table.proofs.LeastMerges.{Among, MergesThose, merges_next}
use Rattle.fare_law.specs.declared.requests.Request.{Request}
use Rattle.fare_law.specs.Book.{Book}
use Rattle.fare_law.specs.Lists.{IsPrefix}
use Rattle.flight_paths.specs.declared.positions.Position.{Position}
use Rattle.flight_paths.proofs.Crossing.{heads_and_tails}
use Rattle.component_table.specs.Begun.{CrossingPaths, HeadPaths}
use Rattle.component_table.specs.Tables.{AddsThose, HasThose, IsPricedTable}
use Rattle.component_table.proofs.MergedTables.{both_have, have_more, table_of_all}
use Rattle.outline_tables.specs.declared.outline_numbers.Priced.{Priced}
use Rattle.outline_tables.specs.declared.outline_numbers.RuledOutline.{RuledOutline}
use Rattle.outlines.specs.declared.outline.Outline.{Outline}
use Rattle.outlines.specs.Outlines.{Outlined}
use Rattle.fare_ends.specs.Begins.{narrowed}
use Rattle.fare_ends.proofs.FirstFlights.{begins_with}
use Rattle.schedule_book.specs.Departures.{AreDepartures}

module _ (b : Book) (q : Request) (at : Position) where
  -- a component is on a head, or crosses
  lands_or_crosses : (o : Outline) (price : ℕ) (h : Outlined b q at o price) → HeadPaths b q at o h.numbers ⊎ CrossingPaths b q at o h.numbers
  lands_or_crosses o price h = elim ((heads_and_tails b q.slices at h.numbers h.flights o.after).0 h.path) [ inl x ↦ inl (h.flights, x) | inr x ↦ inr (h.flights, x) ]

  -- what was found on heads, and what was found behind it on paths that cross
  pub table_begun : (known more : List RuledOutline) (some all : List Priced) → HasThose b q at (HeadPaths b q at) known some → IsPrefix known more → AddsThose b q at (CrossingPaths b q at) more some all → IsPricedTable b q at more all
  table_begun known more some all h prefix a =
      let both : Outline → List ℕ → Type 0 = λ o ns. HeadPaths b q at o ns ⊎ CrossingPaths b q at o ns in
      subst (IsPricedTable b q at more) (sym a.joined)
      (table_of_all b q at more both (some ++ a.more) (both_have b q at more (HeadPaths b q at) (CrossingPaths b q at) both some a.more (have_more b q at (HeadPaths b q at) known more some prefix h) a.has (λ o ns w. w)) lands_or_crosses)

  module _ (ns : List ℕ) (are : AreDepartures b.timetable.flights at.place at.lo at.hi ns) where
    begins_among : (o : Outline) (price : ℕ) (h : Outlined b q at o price) → Among (λ n _ ms. BeginsBy n ms) ns o h.numbers
    begins_among o price h =
        let w = begins_with b q.slices at h.numbers h.flights o.after h.path in
        (w.number, (are.are w.number).1 (w.takes.low, w.takes.high, (w.flight, w.takes.known, w.takes.departs)), record { rest = w.rest; is = w.numbers })

    -- a merge of what begins with each flight
    pub table_of_flights : (known : List RuledOutline) (table : List Priced) → MergesThose b q at (Among (λ n _ ms. BeginsBy n ms) ns) known table → IsPricedTable b q at known table
    table_of_flights known table h = table_of_all b q at known (Among (λ n _ ms. BeginsBy n ms) ns) table h.has begins_among

    head_among : (o : Outline) (price : ℕ) (h : Outlined b q at o price) → Among (λ n. HeadPaths b q (narrowed at n)) ns o h.numbers ⊎ CrossingPaths b q at o h.numbers
    head_among o price h = elim (lands_or_crosses o price h) [
      | inr x ↦ inr x
      | inl x ↦
          let w = begins_with b q.slices at h.numbers x.0 o.after x.1.path in
          inl (w.number, (are.are w.number).1 (w.takes.low, w.takes.high, (w.flight, w.takes.known, w.takes.departs)), (x.0, head_there b q at w.number w.takes.low w.takes.high h.numbers x.0 o.after (record { rest = w.rest; is = w.numbers }) x.1))
    ]

    -- a merge of what begins with each flight and ends in the slice, and of what crosses
    pub table_of_heads : (known more : List RuledOutline) (old new : List Priced) → MergesThose b q at (Among (λ n. HeadPaths b q (narrowed at n)) ns) known old → IsPrefix known more → MergesMore b q at (CrossingPaths b q at) more old new → IsPricedTable b q at more new
    table_of_heads known more old new h prefix k =
        let both : Outline → List ℕ → Type 0 = λ o ms. Among (λ n. HeadPaths b q (narrowed at n)) ns o ms ⊎ CrossingPaths b q at o ms in
        table_of_all b q at more both new (merges_next b q at (Among (λ n. HeadPaths b q (narrowed at n)) ns) (CrossingPaths b q at) both known more old new h prefix k (λ o ms w. w)).has head_among
