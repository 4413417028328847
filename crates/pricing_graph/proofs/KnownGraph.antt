-- What is known of the graph of a search: its states are what moves reach, each once, with the least prices of runs.
use Rattle.std.proofs.Common.{◌≡◌, ◌≢◌, ◌⊎◌, ◌∙◌, ℕ, ◌≤◌, List, [], ◌∷◌, ◌++◌, length, Option, Some, None, refl, sym, ap, subst, inl, inr, arith}
use Rattle.fare_law.specs.declared.flights.Flight.{Flight}
use Rattle.fare_law.specs.declared.moves.Move.{Move}
use Rattle.fare_law.specs.declared.requests.Request.{Request}
use Rattle.fare_law.specs.declared.requests.Slice.{Slice}
use Rattle.fare_law.specs.declared.rules.Rule.{Rule}
use Rattle.fare_law.specs.Book.{Book}
use Rattle.fare_law.specs.Codes.{move_code}
use Rattle.fare_law.specs.Limits.{HasKeys, IsRequest}
use Rattle.fare_law.specs.RuleLimits.{IsRule}
use Rattle.fare_law.specs.Lists.{AllDifferent, EachPair, IsIn}
use Rattle.fare_law.specs.Parts.{price_of, stopover_charge, surcharges}
use Rattle.flight_paths.specs.declared.positions.Position.{Position}
use Rattle.flight_paths.specs.Positions.{Flies}
use Rattle.graph_walk.specs.Walks.{IsShort, states}
use Rattle.graph_walk.specs.Walks.Reached.{further}
use Rattle.residual_keys.specs.declared.residual.Chosen.{Chosen}
use Rattle.residual_keys.specs.declared.residual.Next.TheVariants.{At}
use Rattle.residual_keys.specs.OneNext.{MoveLeavesOne}
use Rattle.residual_keys.specs.Residuals.{Moves, State, begins, no_part, part_with}
use Rattle.residual_keys.specs.ResidualOrder.{IsStrictOrder, StateBefore}
use Rattle.residual_keys.specs.Searches.{IsLeast, Least}
use Rattle.residual_keys.specs.Short.{ReachedFits}
use Rattle.residual_keys.specs.Steps.{IsChosen, left_at}
use Rattle.residual_keys.specs.Written.{InLimits}
use Rattle.residual_keys.proofs.LeastOne.{below_all, pairs_rest}
use Rattle.search_steps.specs.Leads.{IsRoot, MovesCostLess, leads_of, level_of}
use Rattle.search_steps.proofs.Bridge.{reached_is}
use Rattle.ticket_order.specs.Coding.{Apart, Coded}
use Rattle.pricing_graph.specs.Graphs.{IsGraph}
use Rattle.pricing_graph.specs.NodeSteps.{BoundIn}
use Rattle.pricing_graph.proofs.NodeMoves.{Known, least_one}
use Rattle.pricing_graph.proofs.Whole.{first_position, low_moves}
use Rattle.law_lemmas.proofs.EachOne.{each_member, each_weaker}

-- what holds of the moves of a search
pub record MoveLaws (b : Book) (q : Request) : Type 0 where
  pub root : State
  pub is_root : IsRoot b q root
  pub six : length q.slices ≤ 6
  pub keys : HasKeys b
  pub low : MovesCostLess b q 4294967296
  pub short : IsShort (leads_of b q) level_of root
  pub fits : ReachedFits b q
  pub one : MoveLeavesOne b q
  pub apart : (m n : Move) → Coded m → Coded n → (move_code m ≡ move_code n) ⊎ Apart (move_code m) (move_code n)
  pub parts : (m n : Move) (us vs : List ℕ) → Coded m → Coded n → move_code m ++ us ≡ move_code n ++ vs → (m ≡ n) × (us ≡ vs)
  pub order : IsStrictOrder StateBefore

pub moves_lawful : (b : Book) (q : Request) → InLimits b → IsRequest q
    → ((r : Rule) (gs : List Flight) → IsRule r → length gs ≤ 4 → stopover_charge r gs ≤ 3000000) → ((r : Rule) (gs : List Flight) → IsRule r → length gs ≤ 4 → surcharges r.cat12 gs ≤ 32000000)
    → ((root : State) → IsRoot b q root → length q.slices ≤ 6 → MovesCostLess b q 4294967296 → IsShort (leads_of b q) level_of root) → ReachedFits b q → MoveLeavesOne b q
    → ((m n : Move) → Coded m → Coded n → (move_code m ≡ move_code n) ⊎ Apart (move_code m) (move_code n))
    → ((m n : Move) (us vs : List ℕ) → Coded m → Coded n → move_code m ++ us ≡ move_code n ++ vs → (m ≡ n) × (us ≡ vs)) → IsStrictOrder StateBefore → MoveLaws b q
moves_lawful b q limits request charged surcharged short fits one apart parts order =
    let some : 1 ≤ length q.slices = let n = request.count in omega (arith, n) in
    let six : length q.slices ≤ 6 = let n = request.count in omega (arith, n) in
    let first = first_position b q.slices some in
    let root : State = record { at = first.0; units = []; part = no_part } in
    let is : IsRoot b q root = (refl, refl, first.1) in
    let low = low_moves b q limits.fares charged surcharged in
    record { root = root; is_root = is; six = six; keys = limits.fares.keys; low = low; short = short root is six low; fits = fits; one = one; apart = apart; parts = parts; order = order }

-- what stands in a strict order is all different
pub all_different : {X : Type 0} (R : X → X → Type 0) → ((x y z : X) → R x y → R y z → R x z) → ((x : X) → R x x → ⊥) → (xs : List X) → EachPair R xs → AllDifferent xs
all_different R trans never [] h = tt
all_different R trans never (x ∷ xs) h = (
  each_weaker (R x) (λ y. x ≢ y) (λ y r e. never x (subst (λ z. R x z) (sym e) r)) xs (below_all R trans x xs h),
  all_different R trans never xs (pairs_rest R x xs h),
)

-- a state of the nodes has its bound
bound_there : {X : Type 0} (nodes : List (X × Option ℕ)) (x : X) → IsIn x (states nodes) → (bound : Option ℕ) × IsIn (x, bound) nodes
bound_there [] x i = absurd i
bound_there (node ∷ nodes) x (inl e) = (node.1, inl (ap (λ z. (z, node.1)) e))
bound_there (node ∷ nodes) x (inr i) = let r = bound_there nodes x i in (r.0, inr r.1)

-- as many numbers as flights
pub as_many_flights : (b : Book) (sl : List Slice) (start : Option Position) (ns : List ℕ) (fs : List Flight) (end : Option Position) → Flies b sl start ns fs end → length ns ≡ length fs
as_many_flights b sl start [] [] end h = refl
as_many_flights b sl start [] (f ∷ fs) end h = absurd h
as_many_flights b sl start (n ∷ ns) [] end h = absurd h
as_many_flights b sl None (n ∷ ns) (f ∷ fs) end h = absurd h
as_many_flights b sl (Some at) (n ∷ ns) (f ∷ fs) end (s, is, t, next, leads, rest) = let r = as_many_flights b sl next ns fs end rest in omega (arith, r)

module _ (b : Book) (q : Request) (laws : MoveLaws b q) where
  -- the names of a move have their characters
  coded : (x : State) (c : Chosen) → IsChosen b q x c → Coded c.mv
  coded x c h =
      let k = laws.keys h.piece.fare.key h.piece.fare h.moves.stands.fare in
      subst (λ m. Coded m) (same c.mv) (subst (λ z. Coded (record { flights = c.mv.flights; carrier = z; basis = c.mv.basis; role = c.mv.role; slot = c.mv.slot })) (sym h.moves.carrier)
      (subst (λ z. Coded (record { flights = c.mv.flights; carrier = h.piece.fare.key.carrier; basis = z; role = c.mv.role; slot = c.mv.slot })) (sym h.moves.basis) k))
    where
      same : (m : Move) → ◌≡◌ {A = Move} (record { flights = m.flights; carrier = m.carrier; basis = m.basis; role = m.role; slot = m.slot }) m
      same m = refl

  few : (x : State) (c : Chosen) → IsChosen b q x c → length c.mv.flights ≤ 4
  few x c h =
      let n = as_many_flights b q.slices (Some x.at) c.mv.flights h.flights h.after h.moves.path.flies in
      let k = h.moves.lawful.shape.few in
      omega (arith, n, k)

  one : (x : State) (c d : Chosen) → IsChosen b q x c → IsChosen b q x d → c.mv ≡ d.mv → c ≡ d
  one x c d h k e =
      let r = laws.one x d.mv h.flights k.flights h.piece k.piece h.after k.after h.units k.units (subst (λ m. Moves b q x m h.flights h.piece h.after h.units) e h.moves) k.moves in
      let price : c.price ≡ d.price = h.costs ∙ ap (λ fs. price_of fs h.piece) r.0 ∙ ap (λ p. price_of k.flights p) r.1 ∙ sym k.costs in
      let next : c.next ≡ d.next =
      h.left ∙ ap (λ a. left_at a h.units (part_with x.part (begins c.mv.role) h.piece)) r.2 ∙ ap (λ us. left_at k.after us (part_with x.part (begins c.mv.role) h.piece)) r.3
      ∙ ap (λ m. left_at k.after k.units (part_with x.part (begins m.role) h.piece)) e ∙ ap (λ p. left_at k.after k.units (part_with x.part (begins d.mv.role) p)) r.1 ∙ sym k.left in
      λ i. record { mv = e i; price = price i; next = next i }

  module _ (nodes : List (State × Option ℕ)) (graph : IsGraph b q nodes) where
    least_of : (x : State) (bound : Option ℕ) → IsIn (x, bound) nodes → Least b q x bound
    least_of x bound i = each_member (λ node. Least b q node.0 node.1) (x, bound) nodes graph.least i

    whole : (x : State) (rest : ℕ) → IsIn x (states nodes) → IsLeast b q x rest → BoundIn nodes x rest
    whole x rest i l = let r = bound_there nodes x i in by r.0 r.1
      where
        by : (bound : Option ℕ) → IsIn (x, bound) nodes → BoundIn nodes x rest
        by None j = absurd (least_of x None j l.0.0 rest l.0.1)
        by (Some least) j = subst (λ n. BoundIn nodes x n) (least_one b q x least rest (least_of x (Some least) j) l) j

    closed : (x y : State) (mv : Move) (price : ℕ) → IsIn x (states nodes) → IsChosen b q x (record { mv = mv; price = price; next = At y }) → IsIn y (states nodes)
    closed x y mv price i c =
        (graph.needed.are y).1 ((reached_is b q laws.root y laws.is_root).0 (further x y price ((reached_is b q laws.root x laws.is_root).1 ((graph.needed.are x).0 i)) (mv, c)))

    pub known_graph : Known b q (states nodes) (BoundIn nodes)
    known_graph = record {
      once = all_different StateBefore laws.order.trans laws.order.never (states nodes) graph.needed.in_order;
      closed = closed;
      decided = λ x i. let r = bound_there nodes x i in (r.0, least_of x r.0 r.1);
      sound = λ x rest i. least_of x (Some rest) i;
      whole = whole;
      low = λ x i. let f = laws.fits x ((graph.needed.are x).0 i) in let s = f.slice in let l = f.leg in let n = laws.six in omega (arith, s, l, n);
      raises = λ x y mv price i c. laws.short.raises x y price ((reached_is b q laws.root x laws.is_root).1 ((graph.needed.are x).0 i)) (mv, c);
      cheap = laws.low;
      coded = coded;
      few = few;
      one = one;
      apart = laws.apart;
      tells = λ m n c d e. (laws.parts m n [] [] c d (ap (λ v. v ++ []) e)).0;
    }
