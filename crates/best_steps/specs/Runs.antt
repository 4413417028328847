-- The runs of a graph whose nodes have steps, and the k least of them.
use Rattle.std.proofs.Common.{◌≡◌, ℕ, ◌<◌, ◌≤◌, ◌+◌, ◌^◌, List, [], ◌∷◌, ◌++◌, length, Option, Some, None, slice_get}
use Rattle.fare_law.specs.Lists.{IsPrefix, KLeast}
use Rattle.fare_law.specs.Best.{Before}
use Rattle.fare_law.specs.declared.limits.TheConstants.{CODE_NUMBERS}
use Rattle.best_steps.specs.declared.steps.Step.{Step}
use Rattle.best_k.specs.declared.lattice.Derivation.{Derivation}
use Rattle.best_k.specs.Derivations.{Under}

-- The order of a node's steps: cheaper in all, or as cheap with a smaller word.
abbrev pub Sooner : Step → Step → Type 0
Sooner s t = Before s.total s.word t.total t.word

-- These steps lead from here to there, where a node is Some and the end is None.
abbrev pub Leads : (ℕ → Step → Type 0) → Option ℕ → List Step → Option ℕ → Type 0
Leads Has here [] there = here ≡ there
Leads Has here (s ∷ more) there = (n : ℕ) × (here ≡ Some n) × Has n s × Leads Has s.next more there

-- What these steps cost together.
abbrev pub price_of : List Step → ℕ
price_of [] = 0
price_of (s ∷ more) = s.price + price_of more

-- The words of these steps, joined.
abbrev pub word_of : List Step → List ℕ
word_of [] = []
word_of (s ∷ more) = s.word ++ word_of more

-- The price and the word of a run: of steps that lead from the root to the end.
abbrev pub IsRun : (ℕ → Step → Type 0) → ℕ → Derivation → Type 0
IsRun Has root d = (steps : List Step) × Leads Has (Some root) steps None × (d.price ≡ price_of steps) × (d.word ≡ word_of steps)

-- The k least runs from the root, in the order of derivations: cheaper, or as cheap with a smaller word.
abbrev pub LeastRuns : (ℕ → Step → Type 0) → ℕ → ℕ → List Derivation → Type 0
LeastRuns Has root k ds = KLeast (IsRun Has root) Under k ds

-- What the steps of each graph keep to.
pub record StepLaws (Has : ℕ → Step → Type 0) (nodes : ℕ) (level : ℕ → ℕ) : Type 0 where
  -- a step leads to a node of the graph
  pub within : (n m : ℕ) (s : Step) → Has n s → s.next ≡ Some m → m < nodes
  -- and down
  pub down : (n m : ℕ) (s : Step) → Has n s → s.next ≡ Some m → level m < level n
  -- no word of a node's step begins with the word of another
  pub apart : (n : ℕ) (s t : Step) → Has n s → Has n t → IsPrefix s.word t.word → s ≡ t
  -- the total of a step to the end is its price
  pub last : (n : ℕ) (s : Step) → Has n s → s.next ≡ None → s.total ≡ s.price
  -- the total of any other is its price and the least total of what follows
  pub bound : (n m : ℕ) (s t : Step) → Has n s → s.next ≡ Some m → Has m t → s.total ≤ s.price + t.total
  pub met : (n m : ℕ) (s : Step) → Has n s → s.next ≡ Some m → (t : Step) × Has m t × (s.total ≡ s.price + t.total)
  -- runs cost less than 2^63
  pub small : (n : ℕ) (steps : List Step) → Leads Has (Some n) steps None → price_of steps < 2 ^ 63
  -- and their words have no more numbers than a code
  pub short : (n : ℕ) (steps : List Step) → Leads Has (Some n) steps None → length (word_of steps) ≤ CODE_NUMBERS

-- This is the step at a place among a node's steps in order, or there are no more than place steps: so the
-- node's least steps have it, as many as are asked for.
pub record IsAt (Has : Step → Type 0) (place : ℕ) (found : Option Step) : Type 0 where
  pub wanted : ℕ
  pub list : List Step
  pub more : place < wanted
  pub least : KLeast Has Sooner wanted list
  pub found_there : found ≡ slice_get list place

-- Each node has the same steps.
abbrev pub Same : (ℕ → Step → Type 0) → (ℕ → Step → Type 0) → Type 0
Same Has Has' = (n : ℕ) (s : Step) → (Has n s → Has' n s) × (Has' n s → Has n s)
