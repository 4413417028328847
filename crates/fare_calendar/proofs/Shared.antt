-- What is reached from the root of a request, and its runs, in the steps of a request that shares its moves.
use Rattle.std.proofs.Common.{◌≡◌, ◌↔◌, ◌∙◌, ◌⊎◌, ℕ, suc, ◌+◌, ◌≤◌, ◌<◌, List, [], ◌∷◌, length, slice_get, Option, Some, None, refl, sym, ap, subst, inl, inr, ⊎_elim, arith}
use Rattle.fare_calendar.specs.Sharing.{IsFirst, IsPlaced, SharesMoves}
use Rattle.fare_calendar.proofs.SharedMoves.{chosen_shared, left_placed}
use Rattle.fare_book.specs.Keeping.{Limited}
use Rattle.fare_law.specs.Book.{Book}
use Rattle.fare_law.specs.Limits.{IsRequest}
use Rattle.fare_law.specs.Lists.{AllDifferent, Each, HasMany, IsIn}
use Rattle.fare_law.specs.Parts.{price_of, stopover_charge, surcharges}
use Rattle.fare_law.specs.RuleLimits.{IsRule}
use Rattle.fare_law.specs.declared.flights.Flight.{Flight}
use Rattle.fare_law.specs.declared.moves.Move.{Move}
use Rattle.fare_law.specs.declared.requests.Request.{Request}
use Rattle.fare_law.specs.declared.rules.Rule.{Rule}
use Rattle.flight_paths.specs.declared.positions.Position.{Position}
use Rattle.graph_walk.specs.Steps.{ExceedsIf}
use Rattle.graph_walk.specs.Walks.{AreReached, IsShort, Reached, states}
use Rattle.graph_walk.specs.declared.faults.WalkFault.{WalkFault}
use Rattle.graph_walk.proofs.Ending.{exceeds_if}
use Rattle.graph_walk.proofs.RowFacts.{states_length}
use Rattle.residual_keys.specs.Residuals.{Run, State, begins, no_part, part_with}
use Rattle.residual_keys.specs.Searches.{BestRuns, Drawn, IsDrawn, Reached as ReachedByMoves, ReachesMoreThan}
use Rattle.residual_keys.specs.declared.residual.Next.TheVariants.{At, Done}
use Rattle.residual_keys.proofs.Sizes.{no_more}
use Rattle.search_steps.specs.Leads.{IsRoot, MovesCostLess, leads_of, level_of, next_of}
use Rattle.search_steps.proofs.Bridge.{chosen_ends, chosen_on, reached_is}
use Rattle.pricing_graph.proofs.NodeMoves.{ends_chosen, goes_chosen}
use Rattle.pricing_graph.proofs.Whole.{low_moves}
use Rattle.law_lemmas.proofs.EachOne.{each_weaker}
use Rattle.law_lemmas.proofs.Options.{some_same}
use Rattle.fare_calendar.specs.FirstRuns.{IsFirstPrice, IsFirstRun}
use Rattle.fare_calendar.specs.LeastPrices.{IsLeastPrice}
use Rattle.fare_calendar.proofs.Relations.{reached_as, short_as}

-- moves of the one request from what is placed as the other's, by both

pub to_other : (b : Book) (q r : Request) → SharesMoves b q r → (x : State) (next : Option State) (price : ℕ) → IsPlaced b r x.at → leads_of b q x next price → leads_of b r x next price
to_other b q r h x next price p l = (l.0, (chosen_shared b q r h x p (record { mv = l.0; price = price; next = next_of next })).0 l.1)

pub from_other : (b : Book) (q r : Request) → SharesMoves b q r → (x : State) (next : Option State) (price : ℕ) → IsPlaced b r x.at → leads_of b r x next price → leads_of b q x next price
from_other b q r h x next price p l = (l.0, (chosen_shared b q r h x p (record { mv = l.0; price = price; next = next_of next })).1 l.1)

pub on_placed : (b : Book) (q r : Request) (x y : State) (price : ℕ) → leads_of b q x (Some y) price → IsPlaced b r y.at
on_placed b q r x y price l = left_placed b q r x y l.0 price l.1

pub root_placed : (b : Book) (r : Request) (root : State) → IsRoot b r root → IsPlaced b r root.at
root_placed b r root is _ _ = is.2

module _ (b : Book) (q r : Request) (shares : SharesMoves b q r) (root : State) (is : IsRoot b r root) where
  -- what the steps reach from the root is what the request reaches
  pub reached_same : (x : State) → Reached (leads_of b q) root x ↔ ReachedByMoves b r x
  reached_same x = (
    λ h. (reached_is b r root x is).0 (reached_as (leads_of b q) (leads_of b r) (λ x. IsPlaced b r x.at) (to_other b q r shares) (on_placed b q r) root x (root_placed b r root is) h),
    λ h. reached_as (leads_of b r) (leads_of b q) (λ x. IsPlaced b r x.at) (from_other b q r shares) (on_placed b r r) root x (root_placed b r root is) ((reached_is b r root x is).1 h),
  )

  pub short_same : IsShort (leads_of b r) level_of root → IsShort (leads_of b q) level_of root
  short_same s = short_as (leads_of b q) (leads_of b r) (λ x. IsPlaced b r x.at) (to_other b q r shares) (on_placed b q r) level_of root (root_placed b r root is) s

  pub too_many : (budget : ℕ) (fault : WalkFault) → ExceedsIf (Reached (leads_of b q) root) budget fault → ExceedsIf (ReachedByMoves b r) budget fault
  too_many budget fault h = exceeds_if (Reached (leads_of b q) root) (ReachedByMoves b r) budget fault (λ x k. (reached_same x).0 k) h

  -- so few rows that no more states are reached
  pub few_reached : (nodes : List (State × Option ℕ)) (budget : ℕ) → AreReached (leads_of b q) root (states nodes) → length nodes ≤ budget → ReachesMoreThan budget b r → ⊥
  few_reached nodes budget are few (xs, many, once, each) =
      let all = each_weaker (ReachedByMoves b r) (λ x. IsIn x (states nodes)) (λ x k. (are.are x).1 ((reached_same x).1 k)) xs each in
      let most = no_more xs (states nodes) once all in
      absurd (omega (arith, most, many, few, states_length nodes))

-- ---- runs

-- from what is placed, a run of the request of the steps is one of the other
run_to : (b : Book) (q r : Request) → SharesMoves b q r → (x : State) (ms : List Move) (price : ℕ) → IsPlaced b r x.at → Run b q x ms price → Run b r x ms price
run_to b q r h x [] price p run = absurd run
run_to b q r h x (m ∷ []) price p (fs, piece, mv, e) =
    chosen_ends b r x m (price_of fs piece) price ((chosen_shared b q r h x p (record { mv = m; price = price_of fs piece; next = Done })).0 (ends_chosen b q x m fs piece mv)) e
run_to b q r h x (m ∷ n ∷ ms) price p (fs, piece, at, us, rest, mv, run, e) =
    let y : State = record { at = at; units = us; part = part_with x.part (begins m.role) piece } in
    let c = goes_chosen b q x m fs piece at us mv in
    chosen_on b r x y m (n ∷ ms) (price_of fs piece) rest price ((chosen_shared b q r h x p (record { mv = m; price = price_of fs piece; next = At y })).0 c)
    (run_to b q r h y (n ∷ ms) rest (left_placed b q r x y m (price_of fs piece) c) run) e

-- and the other way round
run_from : (b : Book) (q r : Request) → SharesMoves b q r → (x : State) (ms : List Move) (price : ℕ) → IsPlaced b r x.at → Run b r x ms price → Run b q x ms price
run_from b q r h x [] price p run = absurd run
run_from b q r h x (m ∷ []) price p (fs, piece, mv, e) =
    chosen_ends b q x m (price_of fs piece) price ((chosen_shared b q r h x p (record { mv = m; price = price_of fs piece; next = Done })).1 (ends_chosen b r x m fs piece mv)) e
run_from b q r h x (m ∷ n ∷ ms) price p (fs, piece, at, us, rest, mv, run, e) =
    let y : State = record { at = at; units = us; part = part_with x.part (begins m.role) piece } in
    let c = goes_chosen b r x m fs piece at us mv in
    chosen_on b q x y m (n ∷ ms) (price_of fs piece) rest price ((chosen_shared b q r h x p (record { mv = m; price = price_of fs piece; next = At y })).1 c)
    (run_from b q r h y (n ∷ ms) rest (left_placed b r r x y m (price_of fs piece) c) run) e

root_is : (b : Book) (r : Request) (root : State) (at : Position) → IsRoot b r root → IsFirst b r at → root ≡ record { at = at; units = []; part = no_part }
root_is b r root at is first =
    let place : root.at ≡ at = some_same root.at at (sym is.2 ∙ first) in
    let units = is.0 in
    let part = is.1 in
    λ i. record { at = place i; units = units i; part = part i }

-- the price of the first run in the steps is that of the request's first run
pub least_same : (b : Book) (q r : Request) (root : State) (price : Option ℕ) → SharesMoves b q r → IsRoot b r root → IsFirstPrice b q root price → IsLeastPrice b r price
least_same b q r root None h is none = record {
  ascending = tt;
  each = tt;
  few = omega arith;
  rest = λ e k out. absurd (none e.moves e.price (run_from b q r h root e.moves e.price (root_placed b r root is) (subst (λ (x : State). Run b r x e.moves e.price) (sym (root_is b r root k.0 is k.1)) k.2)));
}
least_same b q r root (Some price) h is (d, first, costs) = record {
  run = d;
  best = record {
    ascending = tt;
    each = ((root.at, is.2, subst (λ (x : State). Run b r x d.moves d.price) (root_is b r root root.at is is.2) (run_to b q r h root d.moves d.price (root_placed b r root is) first.run)), tt);
    few = omega arith;
    rest = λ e k out. ⊎_elim
        (λ same. absurd (out (inl same))) (λ before. ((before, tt), refl))
        (first.first e (run_from b q r h root e.moves e.price (root_placed b r root is) (subst (λ (x : State). Run b r x e.moves e.price) (sym (root_is b r root k.0 is k.1)) k.2)));
  };
  costs = costs;
}

-- the walk from the root is short, since no move costs much
pub short_steps : (b : Book) (q r : Request) (root : State) → SharesMoves b q r → IsRoot b r root → IsRequest r → Limited b
    → ((rule : Rule) (gs : List Flight) → IsRule rule → length gs ≤ 4 → stopover_charge rule gs ≤ 3000000) → ((rule : Rule) (gs : List Flight) → IsRule rule → length gs ≤ 4 → surcharges rule.cat12 gs ≤ 32000000)
    → (IsRoot b r root → length r.slices ≤ 6 → MovesCostLess b r 4294967296 → IsShort (leads_of b r) level_of root) → IsShort (leads_of b q) level_of root
short_steps b q r root h is request limited charged surcharged short =
    let six : length r.slices ≤ 6 = let n = request.count in omega (arith, n) in
    short_same b q r h root is (short is six (low_moves b r limited charged surcharged))
