-- What the least price tells of a cell: for `calendar`.
use Rattle.std.proofs.Common.{◌≡◌, ◌∙◌, ℕ, ℤ, List, [], ◌∷◌, map, Option, Some, None, sym, subst, arith}
use Rattle.fare_calendar.specs.Cells.{cell}
use Rattle.fare_calendar.specs.LeastPrices.{IsLeastPrice}
use Rattle.fare_calendar.specs.declared.cell.Cell.{Cell}
use Rattle.fare_calendar.specs.declared.cell.CellValue.{CellValue}
use Rattle.fare_calendar.specs.CalendarText.{HasDates}
use Rattle.fare_calendar.specs.Calendars.{HasPrice, HasValue, IsCell, value_of}
use Rattle.fare_law.specs.declared.requests.Request.{Request}
use Rattle.fare_law.specs.declared.requests.Slice.{Slice}
use Rattle.fare_law.specs.declared.tickets.Ticket.{Ticket}
use Rattle.fare_law.specs.Best.{Best, Costs}
use Rattle.fare_law.specs.Book.{Book}
use Rattle.fare_law.specs.Limits.{IsRequest, IsSlice}
use Rattle.fare_law.specs.Lists.{Each, Matched}
use Rattle.market_time.specs.Dates.{IsInCentury}
use Rattle.pricing_graph.specs.Graphs.{IsTooLarge}
use Rattle.pricing_graph.specs.declared.fault.GraphFault.{GraphFault}
use Rattle.pricing_graph.specs.declared.fault.GraphFault.TheVariants.{TooLarge}
use Rattle.residual_keys.specs.Searches.{BestRuns, Drawn, ReachesMoreThan, TicketOf}

no_ticket : (b : Book) (q : Request) (ts : List Ticket) → Matched (TicketOf b q) [] ts → Best b q ts → Best b q []
no_ticket b q [] m best = best
no_ticket b q (t ∷ ts) m best = absurd m

one_ticket : (b : Book) (q : Request) (d : Drawn) (price : ℕ) (ts : List Ticket) → d.price ≡ price → Matched (TicketOf b q) (d ∷ []) ts → Best b q ts → HasPrice b q price
one_ticket b q d price [] e m best = absurd m
one_ticket b q d price (t ∷ []) e m best = record { ticket = t; best = best; costs = subst (λ (n : ℕ). Costs t b q n) e m.0.2 }
one_ticket b q d price (t ∷ u ∷ ts) e m best = absurd m.1

-- the price of the first run is that of the best ticket
pub value_is : (b : Book) (q : Request) (budget : ℕ) (price : Option ℕ) → q.best ≡ 1 → ((ds : List Drawn) → BestRuns b q q.best ds → (ts : List Ticket) × Matched (TicketOf b q) ds ts × Best b q ts)
    → (ReachesMoreThan budget b q → ⊥) → IsLeastPrice b q price → HasValue b q budget (value_of price)
value_is b q budget None one tickets small none =
    let ts = tickets [] (subst (λ (k : ℕ). BestRuns b q k []) (sym one) none) in (small, no_ticket b q ts.0 ts.1 ts.2)
value_is b q budget (Some price) one tickets small first =
    let ts = tickets (first.run ∷ []) (subst (λ (k : ℕ). BestRuns b q k (first.run ∷ [])) (sym one) first.best) in (small, one_ticket b q first.run price ts.0 first.costs ts.1 ts.2)

-- the cell that was made of a request is that of its days
pub cell_found : (b : Book) (q r : Request) (budget i j : ℕ) (c : Cell) (value : CellValue) → r ≡ cell q i j → map (λ s. s.first) r.slices ≡ c.out ∷ c.back ∷ []
    → c.value ≡ value → HasValue b (cell q i j) budget value → IsCell b q budget (i, j) c
cell_found b q r budget i j c value same days is has = record {
  dates = subst (λ (x : Request). map (λ s. s.first) x.slices ≡ c.out ∷ c.back ∷ []) same days;
  value = subst (HasValue b (cell q i j) budget) (sym is) has;
}

-- a search that is too large reaches more than the budget
pub large_told : (b : Book) (q : Request) (budget more : ℕ) (fault : GraphFault) → fault ≡ TooLarge more → IsTooLarge b q budget fault → ReachesMoreThan budget b q
large_told b q budget more fault e h = (subst (IsTooLarge b q budget) e h).1

dated : (slices : List Slice) (out back : ℤ) → Each IsSlice slices → map (λ s. s.first) slices ≡ out ∷ back ∷ [] → IsInCentury out × IsInCentury back
dated [] out back is e = absurd (cc)
dated (s ∷ []) out back is e = absurd (cc)
dated (s ∷ t ∷ []) out back is e =
    let first : s.first ≡ out = cc in
    let second : t.first ≡ back = cc in
    (subst IsInCentury first is.0.first, subst IsInCentury second is.1.0.first)
dated (s ∷ t ∷ u ∷ more) out back is e = absurd (cc)

pub cell_dated : (q r : Request) (i j : ℕ) (c : Cell) → r ≡ cell q i j → map (λ s. s.first) r.slices ≡ c.out ∷ c.back ∷ [] → IsRequest (cell q i j) → HasDates c
cell_dated q r i j c same days is = dated r.slices c.out c.back (subst (λ (x : Request). Each IsSlice x.slices) (sym same) is.windows) days
