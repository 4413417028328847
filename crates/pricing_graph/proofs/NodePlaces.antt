-- Places of states in a list, and the one node of what a move leaves.
use Rattle.std.proofs.Common.{◌≡◌, ℕ, ◌-◌, List, slice_get, Option, Some, None, refl, ap}
use Rattle.fare_law.specs.Lists.{AllDifferent}
use Rattle.residual_keys.specs.Residuals.{State}
use Rattle.search_steps.specs.Leads.{level_of}
use Rattle.pricing_graph.specs.NodeSteps.{IsNextNode, level_at, levels_left}
use Rattle.law_lemmas.proofs.Pairs.{one_place}

-- what a move leaves is one node
pub one_node : (xs : List State) → AllDifferent xs → (next : Option State) (k l : Option ℕ) → IsNextNode xs next k → IsNextNode xs next l → k ≡ l
one_node xs d None None None h i = refl
one_node xs d None None (Some l) h i = absurd i
one_node xs d None (Some k) l h i = absurd h
one_node xs d (Some y) None l h i = absurd h
one_node xs d (Some y) (Some k) None h i = absurd i
one_node xs d (Some y) (Some k) (Some l) h i = ap Some (one_place xs k l y d h i)

-- how many levels are left at a place
pub level_is : (xs : List State) (n : ℕ) (x : State) → slice_get xs n ≡ Some x → level_at xs n ≡ 18 - level_of x
level_is xs n x e = ap levels_left e
