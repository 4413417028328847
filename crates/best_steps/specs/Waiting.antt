-- What waits while runs are drawn.
use Rattle.std.proofs.Common.{◌≡◌, ℕ, ◌<◌, ◌≤◌, ◌+◌, ◌⊎◌, List, [], ◌∷◌, ◌++◌, length, take, Some, None}
use Rattle.fare_law.specs.Lists.{IsIn, Each, EachPair}
use Rattle.fare_law.specs.Lists.{Less}
use Rattle.best_k.specs.Ranked.{Nth}
use Rattle.best_steps.specs.declared.steps.Step.{Step}
use Rattle.best_k.specs.declared.lattice.Derivation.{Derivation}
use Rattle.best_steps.specs.declared.waiting.Branch.{Branch}
use Rattle.best_k.specs.Derivations.{Under}
use Rattle.best_steps.specs.Runs.{Sooner, Leads, price_of, word_of, IsRun, IsAt}

-- A branch: runs that begin with this front and go on from the node with this step or a later one.
pub record Open : Type 0 where
  pub cost : ℕ
  pub front : List ℕ
  pub node : ℕ
  pub place : ℕ
  pub step : Step

abbrev pub open_of : Branch → Open
open_of b = record { cost = b.cost; front = take b.front b.word; node = b.node; place = b.place; step = b.step }

-- the branch with these
abbrev pub opened : ℕ → List ℕ → ℕ → ℕ → Step → Open
opened cost front node place step = record { cost = cost; front = front; node = node; place = place; step = step }

-- what the least run of a branch costs
abbrev pub key_price : Open → ℕ
key_price o = o.cost + o.step.total

-- what the word of its least run begins with
abbrev pub key_word : Open → List ℕ
key_word o = o.front ++ o.step.word

-- this run stands under a branch
pub record Stands (Has : ℕ → Step → Type 0) (o : Open) (d : Derivation) : Type 0 where
  pub first : Step
  pub more : List Step
  pub leads : Leads Has (Some o.node) (first ∷ more) None
  pub late : (first ≡ o.step) ⊎ Sooner o.step first
  pub price : d.price ≡ o.cost + price_of (first ∷ more)
  pub word : d.word ≡ o.front ++ word_of (first ∷ more)

-- this run stands under one of these branches
abbrev pub StandsIn : (ℕ → Step → Type 0) → List Open → Derivation → Type 0
StandsIn Has ws d = (o : Open) × IsIn o ws × Stands Has o d

-- the front leads to the node, and the step is the one at its place
pub record IsOpen (Has : ℕ → Step → Type 0) (root n : ℕ) (o : Open) : Type 0 where
  pub path : List Step
  pub leads : Leads Has (Some root) path (Some o.node)
  pub cost : o.cost ≡ price_of path
  pub front : o.front ≡ word_of path
  pub there : IsAt (Has o.node) o.place (Some o.step)
  pub few : o.place ≤ n

-- this holds of each two elements at different places
abbrev pub Pairwise : {X : Type 0} → (X → X → Type 0) → List X → Type 0
Pairwise {X} R xs = (i j : ℕ) (a b : X) → Nth xs i a → Nth xs j b → (i ≡ j → ⊥) → R a b

-- no run stands under both
abbrev pub Parted : (ℕ → Step → Type 0) → Open → Open → Type 0
Parted Has a b = (d : Derivation) → Stands Has a d → Stands Has b d → ⊥

-- no run stands under two of these branches
abbrev pub Separate : (ℕ → Step → Type 0) → List Open → Type 0
Separate Has ws = Pairwise (Parted Has) ws

-- this run takes the branch's own step
abbrev pub Takes : (ℕ → Step → Type 0) → Open → Derivation → Type 0
Takes Has o d = (stands : Stands Has o d) × (stands.first ≡ o.step)

-- the words first differ at a place, and there the one's number is less
abbrev pub Beats : List ℕ → List ℕ → Type 0
Beats [] w = ⊥
Beats (x ∷ v) [] = ⊥
Beats (x ∷ v) (y ∷ w) = (x < y) ⊎ ((x ≡ y) × Beats v w)

-- the least run of a branch comes before this one, whatever it is
abbrev pub Ahead : Open → Derivation → Type 0
Ahead o d = (key_price o < d.price) ⊎ ((key_price o ≡ d.price) × Beats (key_word o) d.word)

-- this branch comes no later than the other
abbrev pub NoLater : Open → Open → Type 0
NoLater o e = (key_price o < key_price e) ⊎ ((key_price o ≡ key_price e) × ((key_word o ≡ key_word e) ⊎ Less (key_word o) (key_word e)))

-- One answer is being drawn: all runs that are left are in hand, under this branch, or stand under one that waits.
pub record Drawing (Has : ℕ → Step → Type 0) (root n : ℕ) (All Hand : Derivation → Type 0) (o : Open) (ws : List Open) : Type 0 where
  pub held : IsOpen Has root n o
  pub each : (e : Open) → IsIn e ws → IsOpen Has root (n + 1) e
  pub separate : Separate Has ws
  pub apart : (d : Derivation) → Hand d → StandsIn Has ws d → ⊥
  pub covers : (d : Derivation) → All d → Hand d ⊎ StandsIn Has ws d
  pub within : (d : Derivation) → Hand d ⊎ StandsIn Has ws d → All d
  pub ahead : (d : Derivation) → StandsIn Has ws d → Ahead o d

-- One answer is drawn.
pub record IsNext (Has : ℕ → Step → Type 0) (root n : ℕ) (All : Derivation → Type 0) (r : Derivation) (ws : List Open) : Type 0 where
  pub each : (e : Open) → IsIn e ws → IsOpen Has root (n + 1) e
  pub separate : Separate Has ws
  pub run : IsRun Has root r
  pub among : All r
  pub covers : (d : Derivation) → All d → (d ≡ r) ⊎ StandsIn Has ws d
  pub within : (d : Derivation) → StandsIn Has ws d → All d
  pub ahead : (d : Derivation) → StandsIn Has ws d → Under r d

-- The answers so far are the least, and all other runs stand under the branches that wait.
pub record Searching (Has : ℕ → Step → Type 0) (root : ℕ) (ds : List Derivation) (ws : List Open) : Type 0 where
  pub each : (e : Open) → IsIn e ws → IsOpen Has root (length ds) e
  pub separate : Separate Has ws
  pub runs : Each (IsRun Has root) ds
  pub ascending : EachPair Under ds
  pub covers : (d : Derivation) → IsRun Has root d → IsIn d ds ⊎ StandsIn Has ws d
  pub later : (d : Derivation) → StandsIn Has ws d → Each (λ e. Under e d) ds
