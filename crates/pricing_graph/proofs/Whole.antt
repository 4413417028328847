-- What a walk of the steps of a search has found is what the search reaches, at its least prices; and no move costs much.
use Rattle.std.proofs.Common.{◌≡◌, ◌↔◌, ◌∙◌, ℕ, ◌≤◌, List, [], ◌∷◌, length, Option, Some, None, refl, sym, ap, arith, slice_get}
use Rattle.fare_book.specs.Keeping.{Limited}
use Rattle.fare_law.specs.declared.flights.Flight.{Flight}
use Rattle.fare_law.specs.declared.moves.Move.{Move}
use Rattle.fare_law.specs.declared.requests.Request.{Request}
use Rattle.fare_law.specs.declared.requests.Slice.{Slice}
use Rattle.fare_law.specs.declared.rules.Rule.{Rule}
use Rattle.fare_law.specs.declared.tickets.Piece.{Piece}
use Rattle.fare_law.specs.Book.{Book}
use Rattle.fare_law.specs.Lists.{Each, IsIn}
use Rattle.fare_law.specs.Parts.{price_of, stopover_charge, surcharges}
use Rattle.fare_law.specs.RuleLimits.{IsRule}
use Rattle.flight_paths.specs.declared.positions.Position.{Position}
use Rattle.flight_paths.specs.Positions.{before_slice}
use Rattle.open_unit.specs.declared.units.OpenUnit.{OpenUnit}
use Rattle.graph_walk.specs.declared.faults.WalkFault.{WalkFault}
use Rattle.graph_walk.specs.declared.faults.WalkFault.TheVariants.{TooLarge as WalkedTooFar, Mem as NoMemory}
use Rattle.graph_walk.specs.Steps.{ExceedsIf}
use Rattle.graph_walk.specs.Walks.{AreLeast, AreReached, Costs, LeastBy, Reached, states}
use Rattle.graph_walk.proofs.Ending.{exceeds_if}
use Rattle.residual_keys.specs.Residuals.{Moves, State, no_part}
use Rattle.residual_keys.specs.Searches.{Least, Reached as ReachedByMoves}
use Rattle.pricing_graph.specs.Graphs.{AreFound, IsTooLarge, fault_as}
use Rattle.search_steps.specs.Leads.{IsRoot, MovesCostLess, leads_of}
use Rattle.search_steps.proofs.Bridge.{reached_is}
use Rattle.law_lemmas.proofs.EachOne.{each_from, each_member}
use Rattle.law_lemmas.proofs.LawFacts.{low_share}

pub first_position : (b : Book) (slices : List Slice) → 1 ≤ length slices → (at : Position) × (before_slice b 0 (slice_get slices 0) None ≡ Some at)
first_position b [] h = absurd (omega (arith, h))
first_position b (s ∷ slices) h = (_, refl)

pub root_of : (b : Book) (q : Request) (root : State) → 1 ≤ length q.slices → ((at : Position) → before_slice b 0 (slice_get q.slices 0) None ≡ Some at → root ≡ record { at = at; units = []; part = no_part }) → IsRoot b q root
root_of b q root some is =
    let p = first_position b q.slices some in
    let e = is p.0 p.1 in
    (ap (λ x. x.units) e, ap (λ x. x.part) e, p.1 ∙ ap (λ z. Some z) (sym (ap (λ x. x.at) e)))

pub are_found : (b : Book) (q : Request) (root : State) (nodes : List (State × Option ℕ)) → ((found : List State) → AreReached (leads_of b q) root found → (x : State) → IsIn x found ↔ ReachedByMoves b q x)
    → AreReached (leads_of b q) root (states nodes) → AreFound b q (states nodes)
are_found b q root nodes is h = record { once = h.once; are = is (states nodes) h }

pub are_least : (b : Book) (q : Request) (nodes : List (State × Option ℕ)) → ((x : State) (bound : Option ℕ) → LeastBy (Costs (leads_of b q) (Some x)) bound → Least b q x bound)
    → AreLeast (leads_of b q) nodes → Each (λ node. Least b q node.0 node.1) nodes
are_least b q nodes is h = each_from (λ node. Least b q node.0 node.1) nodes (λ node i. is node.0 node.1 (each_member (λ r. LeastBy (Costs (leads_of b q) (Some r.0)) r.1) node nodes h i))

pub too_large : (b : Book) (q : Request) (root : State) (budget : ℕ) (fault : WalkFault) → IsRoot b q root → ExceedsIf (Reached (leads_of b q) root) budget fault → ExceedsIf (ReachedByMoves b q) budget fault
too_large b q root budget fault is h = exceeds_if (Reached (leads_of b q) root) (ReachedByMoves b q) budget fault (λ x r. (reached_is b q root x is).0 r) h

low_piece : (b : Book) (q : Request) (x : State) (m : Move) (fs : List Flight) (p : Piece) (after : Option Position) (us : List OpenUnit) → Limited b
    → ((r : Rule) (gs : List Flight) → IsRule r → length gs ≤ 4 → stopover_charge r gs ≤ 3000000) → ((r : Rule) (gs : List Flight) → IsRule r → length gs ≤ 4 → surcharges r.cat12 gs ≤ 32000000)
    → Moves b q x m fs p after us → price_of fs p ≤ 1035000000
low_piece b q x m fs p after us limited charged surcharged h =
    let fare = (limited.fares p.fare.key p.fare h.stands.fare).1 in
    let rule = limited.rules p.fare.key.carrier p.fare.rule p.rule h.stands.rule in
    let few = h.lawful.shape.few in
    let one = low_share p.fare.kind p.fare.amount fare.amount in
    let two = charged p.rule fs rule few in
    let three = surcharged p.rule fs rule few in
    omega (arith, one, two, three)

-- no move costs 2^32
pub low_moves : (b : Book) (q : Request) → Limited b
    → ((r : Rule) (gs : List Flight) → IsRule r → length gs ≤ 4 → stopover_charge r gs ≤ 3000000) → ((r : Rule) (gs : List Flight) → IsRule r → length gs ≤ 4 → surcharges r.cat12 gs ≤ 32000000)
    → MovesCostLess b q 4294967296
low_moves b q limited charged surcharged x c h =
    let low = low_piece b q x c.mv h.flights h.piece h.after h.units limited charged surcharged h.moves in let is = h.costs in omega (arith, low, is)

pub large_as : (b : Book) (q : Request) (budget : ℕ) (fault : WalkFault) → ExceedsIf (ReachedByMoves b q) budget fault → IsTooLarge b q budget (fault_as budget fault)
large_as b q budget WalkedTooFar h = (refl, h)
large_as b q budget NoMemory h = tt
