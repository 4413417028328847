-- A way: a derivation of a node by a choice and the ranks of its parts.
use Rattle.std.proofs.Common.{◌≡◌, ℕ, ◌<◌, length, Option, Some, None}
use Rattle.best_k.specs.declared.lattice.Choice.{Choice}
use Rattle.best_k.specs.declared.lattice.Choice.TheVariants.{Leaf, Pair}
use Rattle.best_k.specs.declared.lattice.Derivation.{Derivation}
use Rattle.best_k.specs.declared.table.Way.{Way}
use Rattle.best_k.specs.Derivations.{Shape}
use Rattle.best_k.specs.Ranked.{Nth, join, ranked}

-- The derivation of a choice whose parts have these ranks.
abbrev pub HasParts : Shape → Choice → ℕ → ℕ → Derivation → Type 0
HasParts l (Leaf price word) i j d = (i ≡ 0) × (j ≡ 0) × (d ≡ record { price = price; word = word })
HasParts l (Pair first None) i j d = (j ≡ 0) × Nth (ranked l first) i d
HasParts l (Pair first (Some rest)) i j d = (a : Derivation) × (b : Derivation) × Nth (ranked l first) i a × Nth (ranked l rest) j b × (d ≡ join a b)

-- The price and the length of the derivation of a choice whose parts have these ranks, where there is one.
abbrev pub IsMeasure : Shape → Choice → ℕ → ℕ → Option (ℕ × ℕ) → Type 0
IsMeasure l c i j None = (d : Derivation) → HasParts l c i j d → ⊥
IsMeasure l c i j (Some (price, length_of)) = (d : Derivation) × HasParts l c i j d × (price ≡ d.price) × (length_of ≡ length d.word)

-- This way is this derivation of the node.
pub record IsWay (l : Shape) (node : ℕ) (w : Way) (d : Derivation) : Type 0 where
  pub there : w.at < l.choices node
  pub parts : HasParts l (l.choice node w.at) w.first w.rest d
  pub price : w.price ≡ d.price
  pub length : w.length ≡ length d.word

-- This way is the derivation of this rank.
pub record HasRank (l : Shape) (node : ℕ) (w : Way) (r : ℕ) : Type 0 where
  pub derivation : Derivation
  pub is : IsWay l node w derivation
  pub at_rank : Nth (ranked l node) r derivation

-- The way of a choice and of parts of these ranks, where there is one.
abbrev pub Offered : Shape → ℕ → ℕ → ℕ → ℕ → Option Way → Type 0
Offered l node at i j None = (w : Way) (r : ℕ) → w.at ≡ at → w.first ≡ i → w.rest ≡ j → HasRank l node w r → ⊥
Offered l node at i j (Some w) = (w.at ≡ at) × (w.first ≡ i) × (w.rest ≡ j) × ((r : ℕ) × HasRank l node w r)
