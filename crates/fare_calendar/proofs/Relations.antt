-- Walks by relations that agree on what is reached.
use Rattle.std.proofs.Common.{◌≡◌, ◌↔◌, ℕ, ◌<◌, List, Option, Some, None, IfSome}
use Rattle.fare_law.specs.Lists.{IsIn}
use Rattle.graph_walk.specs.Walks.{AreReached, Costs, IsShort, LeastBy, Reached}
use Rattle.graph_walk.specs.Walks.Costs.{over, goes}
use Rattle.graph_walk.specs.Walks.Reached.{here, further}

-- where the first relation leads from what is placed, the second one leads too, and what it leads to is placed
module _ {X : Type 0} (L M : X → Option X → ℕ → Type 0) (Placed : X → Type 0)
    (follows : (x : X) (next : Option X) (price : ℕ) → Placed x → L x next price → M x next price) (on : (x y : X) (price : ℕ) → L x (Some y) price → Placed y) where
  pub all_placed : (root x : X) → Placed root → Reached L root x → Placed x
  all_placed root _ p here = p
  all_placed root _ p (further x y price r l) = on x y price l

  pub reached_as : (root x : X) → Placed root → Reached L root x → Reached M root x
  reached_as root _ p here = here
  reached_as root _ p (further x y price r l) = further x y price (reached_as root x p r) (follows x (Some y) price (all_placed root x p r) l)

  onward : (x : X) (next : Option X) (price : ℕ) → L x next price → IfSome next Placed
  onward x None price l = tt
  onward x (Some y) price l = on x y price l

  pub costs_as : (at : Option X) (price : ℕ) → IfSome at Placed → Costs L at price → Costs M at price
  costs_as _ price p (over _ e) = over price e
  costs_as _ price p (goes x next move rest _ l c e) = goes x next move rest price (follows x next move p l) (costs_as next rest (onward x next move l) c) e

  -- so the first one's walks are as short as the second one's
  pub short_as : (level : X → ℕ) (root : X) → Placed root → IsShort M level root → IsShort L level root
  short_as level root p s = record {
    raises = λ x y price r l. s.raises x y price (reached_as root x p r) (follows x (Some y) price (all_placed root x p r) l);
    few = λ x r. s.few x (reached_as root x p r);
    low = λ x next price r l. s.low x next price (reached_as root x p r) (follows x next price (all_placed root x p r) l);
  }
