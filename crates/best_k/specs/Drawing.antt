-- The progress of a node, and what a draw changes.
use Rattle.std.proofs.Common.{◌≡◌, ℕ, suc, ◌<◌, ◌≤◌, ◌⊎◌, List, [], ◌∷◌, length, ◌+◌, ◌^◌, slice_get, Option, Some, None}
use Rattle.fare_law.specs.Lists.{IsIn}
use Rattle.best_k.specs.declared.table.Progress.{Progress}
use Rattle.best_k.specs.declared.table.Stage.{Stage}
use Rattle.best_k.specs.declared.table.Stage.TheVariants.{Fresh, Open, Spent}
use Rattle.best_k.specs.declared.table.Way.{Way}
use Rattle.best_k.specs.Derivations.{Shape}
use Rattle.best_k.specs.Ranked.{Nth, ranked}
use Rattle.best_k.specs.Ways.{HasRank}
use Rattle.best_k.specs.Frontiers.{AreFirst, Frontier}
use Rattle.best_k.specs.Tables.{count, Held, IsDrawnTo, ArePartsDrawnTo}
use Rattle.best_k.specs.Queues.{IsQueue}

-- The lesser of two ways, where there are two.
abbrev pub IsLesserWay : Shape → ℕ → Option Way → Way → Way → Type 0
IsLesserWay l node None way x = x ≡ way
IsLesserWay l node (Some o) way x = ((x ≡ way) ⊎ (x ≡ o)) × ((r s u : ℕ) → HasRank l node way r → HasRank l node o s → HasRank l node x u → (u ≤ r) × (u ≤ s))

-- The least way of a node, where it has one; its parts are the least of their nodes.
abbrev pub IsLeastWay : Shape → List Progress → ℕ → Option Way → Type 0
IsLeastWay l t node None = length (ranked l node) ≡ 0
IsLeastWay l t node (Some w) = (w.first ≡ 0) × (w.rest ≡ 0) × Held l t node w × HasRank l node w 0

-- The followers of each drawn way but the last are in the queue.
pub record IsOpen (l : Shape) (t : List Progress) (node : ℕ) (drawn waiting : List Way) : Type 0 where
  pub closed : ℕ
  pub last : suc closed ≡ length drawn
  pub frontier : Frontier l node drawn waiting closed
  pub queue : IsQueue l t node waiting

-- The followers of each drawn way are in the queue.
pub record IsReady (l : Shape) (t : List Progress) (node : ℕ) (drawn waiting : List Way) : Type 0 where
  pub frontier : Frontier l node drawn waiting (length drawn)
  pub queue : IsQueue l t node waiting

-- What each stage says of the drawn ways and the queue.
abbrev pub IsStage : Shape → List Progress → ℕ → List Way → List Way → Stage → Type 0
IsStage l t node drawn queue Fresh = (w : Way) × (drawn ≡ w ∷ []) × (w.first ≡ 0) × (w.rest ≡ 0) × (queue ≡ [])
IsStage l t node drawn queue Open = IsOpen l t node drawn queue
IsStage l t node drawn queue Spent = length drawn ≡ length (ranked l node)

-- The first ways of the node are drawn, their parts are drawn, and the rest is as the stage says.
pub record IsProgress (l : Shape) (t : List Progress) (node : ℕ) (x : Progress) : Type 0 where
  pub first : AreFirst l node x.drawn.items
  pub few : length x.drawn.items < 2 ^ 64
  pub held : (w : Way) → IsIn w x.drawn.items → Held l t node w
  pub state : IsStage l t node x.drawn.items x.queue.items x.stage

-- The progress of each node below n.
pub record IsTable (l : Shape) (t : List Progress) (n : ℕ) : Type 0 where
  pub long : n ≤ length t
  pub nodes : (u : ℕ) (x : Progress) → u < n → slice_get t u ≡ Some x → IsProgress l t u x

-- The progress of each node below n, and of no other.
pub record IsTableOf (l : Shape) (t : List Progress) (n : ℕ) : Type 0 where
  pub table : IsTable l t n
  pub long : length t ≡ n

-- The ways that follow this one have their parts drawn, where there are such ways.
abbrev pub AreFollowersDrawn : Shape → List Progress → ℕ → Way → Type 0
AreFollowersDrawn l t node w = ArePartsDrawnTo l t (l.choice node w.at) w.first (w.rest + 1) × (w.rest ≡ 0 → ArePartsDrawnTo l t (l.choice node w.at) (w.first + 1) 0)

-- The same of the last drawn way.
abbrev pub IsLastFollowed : Shape → List Progress → ℕ → List Way → Type 0
IsLastFollowed l t node drawn = (m : ℕ) (w : Way) → suc m ≡ length drawn → Nth drawn m w → AreFollowersDrawn l t node w

-- This many ways are drawn, or all.
abbrev pub AreDrawn : Shape → List Progress → ℕ → ℕ → Type 0
AreDrawn l t node n = (n ≤ count t node) ⊎ (count t node ≡ length (ranked l node))

-- One more way is drawn, or all are.
pub record IsAdvanced (l : Shape) (t : List Progress) (node : ℕ) (x y : Progress) : Type 0 where
  pub is : IsProgress l t node y
  pub more : length x.drawn.items ≤ length y.drawn.items
  pub reached : (length x.drawn.items < length y.drawn.items) ⊎ (length y.drawn.items ≡ length (ranked l node))

-- The new table has the way of this rank drawn, where there is one. Nodes above stay as they were.
pub record DrawsTo (l : Shape) (t t' : List Progress) (node rank : ℕ) : Type 0 where
  pub table : IsTable l t' (node + 1)
  pub long : length t' ≡ length t
  pub same : (u : ℕ) → node < u → slice_get t' u ≡ slice_get t u
  pub grows : (u : ℕ) → count t u ≤ count t' u
  pub reached : IsDrawnTo l t' node rank

-- The new table has the parts of the ways that follow a way of this node drawn. This node and those above stay as they were.
pub record DrawsParts (l : Shape) (t t' : List Progress) (node : ℕ) (w : Way) : Type 0 where
  pub table : IsTable l t' (node + 1)
  pub long : length t' ≡ length t
  pub same : (u : ℕ) → node ≤ u → slice_get t' u ≡ slice_get t u
  pub grows : (u : ℕ) → count t u ≤ count t' u
  pub reached : AreFollowersDrawn l t' node w
