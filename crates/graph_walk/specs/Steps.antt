-- Outcomes of a state, and what one step of the walk does to the rows.
use Rattle.std.specs.Prelude.{◌≡◌, ◌↔◌, IsTrue, IfSome, option_map, ◌⊎◌, ℕ, suc, ◌+◌, ◌≤◌, Bool, nat_lt, if◌then◌else◌, List, [], ◌∷◌, Option, Some, None}
use Rattle.fare_law.specs.Lists.{HasMany, AllDifferent, Each, IsIn}
use Rattle.graph_walk.specs.declared.outcome.Outcome.{Outcome}
use Rattle.graph_walk.specs.declared.faults.WalkFault.{WalkFault}
use Rattle.graph_walk.specs.declared.faults.WalkFault.TheVariants.{TooLarge, Mem}
use Rattle.graph_walk.specs.Walks.{Reached, Costs, LeastBy, states}

-- an outcome of keys, as one of states
abbrev pub outcome_of : {K X : Type 0} → (K → X) → Outcome K → Outcome X
outcome_of state o = record { next = option_map state o.next; price = o.price }

abbrev pub outcomes_of : {K X : Type 0} → (K → X) → List (Outcome K) → List (Outcome X)
outcomes_of state [] = []
outcomes_of state (o ∷ os) = outcome_of state o ∷ outcomes_of state os

-- rows of keys, as rows of states
abbrev pub rows_of : {K X : Type 0} → (K → X) → List (K × Option ℕ) → List (X × Option ℕ)
rows_of state [] = []
rows_of state (row ∷ rows) = (state row.0, row.1) ∷ rows_of state rows

-- each key of the rows, and of the outcomes, stands for a state
abbrev pub AreLive : {K : Type 0} → (K → Type 0) → List (K × Option ℕ) → Type 0
AreLive live rows = Each (λ row. live row.0) rows

abbrev pub LeadToLive : {K : Type 0} → (K → Type 0) → List (Outcome K) → Type 0
LeadToLive live outcomes = Each (λ o. IfSome o.next live) outcomes

-- the test of keys tells whether they stand for one state
abbrev pub TellsStates : {K X : Type 0} → (K → Type 0) → (K → X) → (K → K → Bool) → Type 0
TellsStates {K} live state test = (k l : K) → live k → live l → IsTrue (test k l) ↔ (state k ≡ state l)

-- what a key stands for stays
abbrev pub KeepsStates : {K X : Type 0} → (live live' : K → Type 0) → (state state' : K → X) → Type 0
KeepsStates {K} live live' state state' = (k : K) → live k → live' k × (state' k ≡ state k)

-- Each outcome is a move, and for each move an outcome leaves the same at no higher price.
pub record AreOutcomes {X : Type 0} (L : X → Option X → ℕ → Type 0) (x : X) (outcomes : List (Outcome X)) : Type 0 where
  pub attained : Each (λ o. L x o.next o.price) outcomes
  pub covered : (next : Option X) (price : ℕ) → L x next price → (o : Outcome X) × IsIn o outcomes × (o.next ≡ next) × (o.price ≤ price)

-- the lesser of a bound, and of a rest with a price
abbrev pub lesser : Option ℕ → Option ℕ → ℕ → Option ℕ
lesser least None price = least
lesser None (Some rest) price = Some (price + rest)
lesser (Some least) (Some rest) price = if nat_lt (price + rest) least then Some (price + rest) else Some least

-- The state's row is right, its moves leave states that have rows, and what is known of it holds.
pub record Good {X : Type 0} (L : X → Option X → ℕ → Type 0) (Known : X → Type 0) (rows : List (X × Option ℕ)) (x : X) : Type 0 where
  pub has : IsIn x (states rows)
  pub least : (bound : Option ℕ) → IsIn (x, bound) rows → LeastBy (Costs L (Some x)) bound
  pub closed : (y : X) (price : ℕ) → L x (Some y) price → IsIn y (states rows)
  pub known : Known x

-- What a walk from the state does to the rows: what was there stays, what was right stays right, and what is new is reached and right.
pub record Walked {X : Type 0} (L : X → Option X → ℕ → Type 0) (Known Known' : X → Type 0) (x : X) (rows rows' : List (X × Option ℕ)) : Type 0 where
  pub kept : (y : X) → IsIn y (states rows) → IsIn y (states rows')
  pub good : (y : X) → Good L Known rows y → Good L Known' rows' y
  pub new : (y : X) → IsIn y (states rows') → IsIn y (states rows) ⊎ (Reached L x y × Good L Known' rows' y)
  pub once : AllDifferent (states rows')

-- Each row at this level or above is right.
abbrev pub AllAbove : {X : Type 0} → (X → Option X → ℕ → Type 0) → (X → ℕ) → (X → Type 0) → List (X × Option ℕ) → X → Type 0
AllAbove L level Known rows x = (y : _) → IsIn y (states rows) → level x ≤ level y → Good L Known rows y

-- too large only where there are more than the budget: so many different ones
abbrev pub ExceedsIf : {X : Type 0} → (X → Type 0) → ℕ → WalkFault → Type 0
ExceedsIf Has budget TooLarge = HasMany (suc budget) Has
ExceedsIf Has budget Mem = Unit {0}
