-- The first of the best tickets is a cheapest one, and where the best are none there is no lawful ticket: for `cells_have_the_best`.
use Rattle.std.proofs.Common.{◌≡◌, ℕ, ◌≤◌, ◌<◌, inl, inr, List, [], ◌∷◌, refl, subst, arith}
use Rattle.fare_calendar.specs.Cells.{CellHas, CellsLeast, LeastPrice, cell, over_days}
use Rattle.fare_calendar.specs.BestOfCells.{CellsAreEmpty, CellsCost, FirstCosts}
use Rattle.fare_law.specs.declared.requests.Request.{Request}
use Rattle.fare_law.specs.declared.tickets.Ticket.{Ticket}
use Rattle.fare_law.specs.Best.{Best, Before, Cheaper, Costs}
use Rattle.fare_law.specs.Book.{Book}
use Rattle.fare_law.specs.Lawful.{Lawful}
use Rattle.fare_law.specs.Lists.{EachPair, IsIn}
use Rattle.residual_keys.proofs.OneBest.{costs_one}
use Rattle.law_lemmas.proofs.Numbers.{at_most_or}

no_more : (price price' : ℕ) (word word' : List ℕ) → Before price word price' word' → price ≤ price'
no_more price price' word word' (inl less) = omega (arith, less)
no_more price price' word word' (inr same) = omega (arith, same.0)

-- a ticket that is cheaper costs no more
costs_less : (b : Book) (q : Request) (t u : Ticket) (m n : ℕ) → Cheaper b q t u → Costs t b q m → Costs u b q n → m ≤ n
costs_less b q t u m n (m', n', h, k, before) h' k' =
    let less = no_more _ _ _ _ before in
    let first = costs_one b q t m m' h' h in
    let second = costs_one b q u n n' k' k in
    omega (arith, less, first, second)

-- the first of an ascending list is a cheapest one of it
first_least : (b : Book) (q : Request) (t : Ticket) (others : List Ticket) (u : Ticket) (m n : ℕ) → EachPair (Cheaper b q) (t ∷ others)
    → IsIn u (t ∷ others) → Costs t b q m → Costs u b q n → m ≤ n
first_least b q t others u m n ascending (inl same) h k = omega (arith, costs_one b q t m n h (subst (λ x. Costs x b q n) same k))
first_least b q t [] u m n ascending (inr more) h k = absurd more
first_least b q t (v ∷ others) u m n ascending (inr more) h k =
    let (m', n', h', k', before) = ascending.0 in
    let less = no_more _ _ _ _ before in
    let first = costs_one b q t m m' h h' in
    let rest = first_least b q v others u n' n ascending.1 more k' k in
    omega (arith, less, first, rest)

pub best_is_least : (b : Book) (q : Request) (t : Ticket) (others : List Ticket) (price : ℕ) → Best b q (t ∷ others) → Costs t b q price → LeastPrice b q price
best_is_least b q t others price best costs = record {
  ticket = t;
  lawful = best.each.0;
  costs = costs;
  least = λ u other lawful k. elim (at_most_or price other) [
    | inl least ↦ least
    | inr less ↦
        let out : IsIn u (t ∷ others) → ⊥ = λ in_it. absurd (omega (arith, less, first_least b q t others u price other best.ascending in_it costs k)) in
        absurd (omega (arith, less, costs_less b q t u price other (best.rest u lawful out).0.0 costs k))
  ];
}

pub none_lawful : (b : Book) (q : Request) (t : Ticket) → 1 ≤ q.best → Best b q [] → Lawful t b q → ⊥
none_lawful b q t some best lawful = absurd (omega (arith, some, (best.rest t lawful (λ h. h)).1))

-- a least price is one
least_one : (b : Book) (q : Request) (m n : ℕ) → LeastPrice b q m → LeastPrice b q n → m ≡ n
least_one b q m n h k = omega (arith, h.least k.ticket n k.lawful k.costs, k.least h.ticket m h.lawful h.costs)

least_of : (b : Book) (q : Request) (price : ℕ) → FirstCosts b q price → LeastPrice b q price
least_of b q price h = best_is_least b q h.ticket h.others price h.best h.costs

pub cells_cost : (b : Book) (q : Request) (outs backs price : ℕ) → CellsLeast b q outs backs price → CellsCost b q outs backs price
cells_cost b q outs backs price c = record {
  cells = c;
  here = λ other first. least_one b (cell q c.out c.back) other price (least_of b _ other first) c.has;
  least = λ i j other oi bj first.
      let h = least_of b (cell q i j) other first in
      c.least i j h.ticket other oi bj h.lawful h.costs;
}

pub cells_empty : (b : Book) (q : Request) (outs backs : ℕ) → ((t : Ticket) → CellHas b q outs backs t → Lawful t b (over_days q outs backs)) → 1 ≤ q.best
    → Best b (over_days q outs backs) [] → CellsAreEmpty b q outs backs
cells_empty b q outs backs covers some best i j oi bj [] has = refl
cells_empty b q outs backs covers some best i j oi bj (t ∷ others) has =
    absurd (none_lawful b (over_days q outs backs) t some best (covers t (record { out = i; back = j; out_within = oi; back_within = bj; lawful = has.each.0 })))

pub over_empty : (b : Book) (q : Request) (outs backs : ℕ) → ((t : Ticket) → Lawful t b (over_days q outs backs) → CellHas b q outs backs t)
    → ((i j : ℕ) → i < outs → j < backs → Best b (cell q i j) []) → (best : List Ticket) → Best b (over_days q outs backs) best → best ≡ []
over_empty b q outs backs covered empty [] best = refl
over_empty b q outs backs covered empty (t ∷ others) best =
    let c = covered t best.each.0 in
    absurd (none_lawful b (cell q c.out c.back) t (omega arith) (empty c.out c.back c.out_within c.back_within) c.lawful)
