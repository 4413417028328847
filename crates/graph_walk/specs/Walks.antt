-- Walks over states: what is reached, what runs cost, the least of it. A relation L says of a state what a move leaves (none: the end) and its price.
use Rattle.std.specs.Prelude.{◌≡◌, ◌↔◌, ℕ, ◌+◌, ◌<◌, ◌≤◌, List, [], ◌∷◌, Option, Some, None}
use Rattle.fare_law.specs.Lists.{AllDifferent, Each, IsIn}

-- reached from the root by moves
pub data Reached {X : Type 0} (L : X → Option X → ℕ → Type 0) (root : X) : X → Type 0 where
  here : Reached L root root
  further : (x y : X) (price : ℕ) → Reached L root x → L x (Some y) price → Reached L root y

-- a run from here costs this; at the end nothing is left to pay
pub data Costs {X : Type 0} (L : X → Option X → ℕ → Type 0) : Option X → ℕ → Type 0 where
  over : (price : ℕ) → price ≡ 0 → Costs L None price
  goes : (x : X) (next : Option X) (move rest price : ℕ) → L x next move → Costs L next rest → price ≡ move + rest → Costs L (Some x) price

-- the least number of which P holds, or that it holds of none
abbrev pub LeastBy : (ℕ → Type 0) → Option ℕ → Type 0
LeastBy P None = (price : ℕ) → P price → ⊥
LeastBy P (Some least) = P least × ((price : ℕ) → P price → least ≤ price)

-- the states of rows
abbrev pub states : {X : Type 0} → List (X × Option ℕ) → List X
states [] = []
states (row ∷ rows) = row.0 ∷ states rows

-- each row has the least price of a run from its state
abbrev pub AreLeast : {X : Type 0} → (X → Option X → ℕ → Type 0) → List (X × Option ℕ) → Type 0
AreLeast L rows = Each (λ row. LeastBy (Costs L (Some row.0)) row.1) rows

-- exactly what is reached, each once
pub record AreReached {X : Type 0} (L : X → Option X → ℕ → Type 0) (root : X) (found : List X) : Type 0 where
  pub once : AllDifferent found
  pub are : (x : X) → IsIn x found ↔ Reached L root x

-- Of all that is reached: each move raises the level, levels are at most 18, and prices of moves are below 2^32.
pub record IsShort {X : Type 0} (L : X → Option X → ℕ → Type 0) (level : X → ℕ) (root : X) : Type 0 where
  pub raises : (x y : X) (price : ℕ) → Reached L root x → L x (Some y) price → level x < level y
  pub few : (x : X) → Reached L root x → level x ≤ 18
  pub low : (x : X) (next : Option X) (price : ℕ) → Reached L root x → L x next price → price < 4294967296
