-- What a search finds: the states that are needed, their least prices, the certificate of a search.
use Rattle.std.specs.Prelude.{◌≡◌, ◌↔◌, ℕ, suc, ◌≤◌, List, length, Option, MatchOption}
use Rattle.fare_law.specs.declared.requests.Request.{Request}
use Rattle.fare_law.specs.declared.tickets.Ticket.{Ticket}
use Rattle.fare_law.specs.Book.{Book}
use Rattle.fare_law.specs.Lists.{HasMany, EachPair, IsIn, KLeast}
use Rattle.fare_law.specs.Lawful.{Lawful}
use Rattle.fare_law.specs.Best.{Before, Costs}
use Rattle.fare_law.specs.declared.moves.Move.{Move}
use Rattle.residual_keys.specs.ResidualOrder.{StateBefore}
use Rattle.residual_keys.specs.Residuals.{State, Run, RunFromRoot, RootLeadsTo}
use Rattle.fare_law.specs.Moves.{moves_of}
use Rattle.fare_law.specs.Codes.{run_code}

abbrev pub Reached : Book → Request → State → Type 0
Reached b q x = (ms : List Move) × RootLeadsTo b q ms x

-- The states that lists of moves from the root lead to, in an order that is given, each once.
pub record AreNeeded (Smaller : State → State → Type 0) (b : Book) (q : Request) (need : List State) : Type 0 where
  pub in_order : EachPair Smaller need
  pub are : (x : State) → IsIn x need ↔ Reached b q x

-- how many states a search needs, in the order of residuals
abbrev pub IsSize : Book → Request → ℕ → Type 0
IsSize b q n = (need : List State) × AreNeeded StateBefore b q need × (n ≡ length need)

-- More than n states are reached: so many different ones there are.
abbrev pub ReachesMoreThan : ℕ → Book → Request → Type 0
ReachesMoreThan n b q = HasMany (suc n) (Reached b q)

-- the least price of a run from the state
abbrev pub IsLeast : Book → Request → State → ℕ → Type 0
IsLeast b q r price = ((ms : List Move) × Run b q r ms price) × ((ms : List Move) (other : ℕ) → Run b q r ms other → price ≤ other)

-- the least price, or none where there is no run
abbrev pub Least : Book → Request → State → Option ℕ → Type 0
Least b q r bound = MatchOption bound ((ms : List Move) (price : ℕ) → Run b q r ms price → ⊥) (IsLeast b q r)

-- a run from the root, with its price
pub record Drawn : Type 0 where
  pub price : ℕ
  pub moves : List Move

abbrev pub IsDrawn : Book → Request → Drawn → Type 0
IsDrawn b q d = RunFromRoot b q d.moves d.price

abbrev pub DrawnBefore : Drawn → Drawn → Type 0
DrawnBefore d e = Before d.price (run_code d.moves) e.price (run_code e.moves)

-- the k least runs from the root
abbrev pub BestRuns : Book → Request → ℕ → List Drawn → Type 0
BestRuns b q k ds = KLeast (IsDrawn b q) DrawnBefore k ds

-- the ticket of a run: lawful, with these moves, at this price
abbrev pub TicketOf : Book → Request → Drawn → Ticket → Type 0
TicketOf b q d t = Lawful t b q × (moves_of t ≡ d.moves) × Costs t b q d.price
