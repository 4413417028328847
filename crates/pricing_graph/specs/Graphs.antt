-- The graph of a search.
use Rattle.std.specs.Prelude.{◌≡◌, ◌↔◌, ℕ, List, Option}
use Rattle.fare_law.specs.declared.requests.Request.{Request}
use Rattle.fare_law.specs.Book.{Book}
use Rattle.fare_law.specs.Lists.{AllDifferent, Each, IsIn}
use Rattle.graph_walk.specs.Walks.{states}
use Rattle.graph_walk.specs.declared.faults.WalkFault.{WalkFault}
use Rattle.graph_walk.specs.declared.faults.WalkFault.TheVariants.{TooLarge as WalkedTooFar, Mem as NoMemory}
use Rattle.pricing_graph.specs.declared.fault.GraphFault.{GraphFault}
use Rattle.pricing_graph.specs.declared.fault.GraphFault.TheVariants.{TooLarge, Mem}
use Rattle.residual_keys.specs.ResidualOrder.{StateBefore}
use Rattle.residual_keys.specs.Residuals.{State}
use Rattle.residual_keys.specs.Searches.{AreNeeded, Least, Reached, ReachesMoreThan}

-- These are the states that a search reaches, each once.
pub record AreFound (b : Book) (q : Request) (found : List State) : Type 0 where
  pub once : AllDifferent found
  pub are : (x : State) → IsIn x found ↔ Reached b q x

-- These are the states that a search needs, in order, each with the least price of a run from it.
pub record IsGraph (b : Book) (q : Request) (nodes : List (State × Option ℕ)) : Type 0 where
  pub needed : AreNeeded StateBefore b q (states nodes)
  pub least : Each (λ node. Least b q node.0 node.1) nodes

-- Too large only where more states than the budget are reached.
abbrev pub IsTooLarge : Book → Request → ℕ → GraphFault → Type 0
IsTooLarge b q budget (TooLarge more) = (more ≡ budget) × ReachesMoreThan budget b q
IsTooLarge b q budget Mem = Unit {0}

-- the same of the rows that a walk found, before they are in order
abbrev pub AreRows : Book → Request → List (State × Option ℕ) → Type 0
AreRows b q nodes = AreFound b q (states nodes) × Each (λ node. Least b q node.0 node.1) nodes

-- the fault of a walk, as that of a graph
abbrev pub fault_as : ℕ → WalkFault → GraphFault
fault_as budget WalkedTooFar = TooLarge budget
fault_as budget NoMemory = Mem
