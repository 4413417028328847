-- The least price of a group goes down, as more paths are done. Given on to the crates above.
use Rattle.std.proofs.Common.{◌≡◌, ◌⊎◌, ℕ, ◌<◌, ◌≤◌, List, Option, Some, None, IfSome, sym, subst, inl, inr, arith}
use Rattle.fare_ends.specs.declared.rule_numbers.KnownRule.{KnownRule}
use Rattle.fare_groups.specs.declared.rungs.Rung.{Rung}
use Rattle.joint_paths.specs.Costs.{Costs, CostsLeast, CostsNoLess, CostsOnOne, GoesDown, IsAtLeast}
use Rattle.law_lemmas.proofs.Numbers.{at_most_or}
use Rattle.fare_ends.specs.Floors.{OpenPath}

pub at_least_on : (old : Option ℕ) (low price : ℕ) → IsAtLeast old low → low ≤ price → IsAtLeast old price
at_least_on None low price h le = h
at_least_on (Some l) low price h le = omega (arith, h, le)

-- where a price isn't less, the least so far is at most the price
pub not_less : (least : Option ℕ) (price : ℕ) → (IfSome least (λ l. price < l) → ⊥) → IsAtLeast least price
not_less None price n = n tt
not_less (Some l) price n = elim (at_most_or l price) [ inl h ↦ h | inr h ↦ absurd (n h) ]

module _ (rule : KnownRule) (rungs : List Rung) (all : OpenPath → Type 0) where
  -- no path more
  pub down_none : (more : OpenPath → Type 0) (least : Option ℕ) → ((p : OpenPath) → more p → ⊥) → GoesDown rule rungs all more least least
  down_none more least none = record { some = λ h. h; low = λ h. h; falls = λ price h. h; done = λ p i price c. absurd (none p i) }

  -- paths of which none is below the least so far
  pub down_kept : (more : OpenPath → Type 0) (floor : ℕ) (least : Option ℕ) → CostsNoLess rule rungs more floor → IsAtLeast least floor → GoesDown rule rungs all more least least
  down_kept more floor least none h = record { some = λ x. x; low = λ x. x; falls = λ price x. x; done = λ p i price c. at_least_on least floor price h (none p i price c) }

  -- paths on which the group costs nothing
  pub down_free : (more : OpenPath → Type 0) (least : Option ℕ) → ((p : OpenPath) → more p → (price : ℕ) → Costs rule rungs p price → ⊥) → GoesDown rule rungs all more least least
  down_free more least none = record { some = λ x. x; low = λ x. x; falls = λ price x. x; done = λ p i price c. absurd (none p i price c) }

  -- paths with a price, of which none is below it
  pub down_taken : (more : OpenPath → Type 0) (price result : ℕ) (least : Option ℕ) → price ≤ 1035000000 → CostsOnOne rule rungs all price → CostsNoLess rule rungs more price → result ≤ price → IfSome least (λ l. result ≤ l) → (result ≡ price) ⊎ (least ≡ Some result)
      → GoesDown rule rungs all more least (Some result)
  down_taken more price result least most costs none le low is = record {
    some = λ h. some_of least is h;
    low = λ h. omega (arith, most, le);
    falls = λ other h. falls_of least low other h;
    done = λ p i other c. let k = none p i other c in omega (arith, k, le);
  }
    where
      some_of : (least : Option ℕ) → (result ≡ price) ⊎ (least ≡ Some result) → IfSome least (CostsOnOne rule rungs all) → CostsOnOne rule rungs all result
      some_of least (inl e) h = subst (CostsOnOne rule rungs all) (sym e) costs
      some_of least (inr e) h = subst (λ o. IfSome o (CostsOnOne rule rungs all)) e h

      falls_of : (least : Option ℕ) → IfSome least (λ l. result ≤ l) → (other : ℕ) → IsAtLeast least other → result ≤ other
      falls_of None low other h = absurd h
      falls_of (Some l) low other h = omega (arith, low, h)

  -- first these, then those
  pub down_on : (one two both : OpenPath → Type 0) (a b c : Option ℕ) → ((p : OpenPath) → both p → one p ⊎ two p) → GoesDown rule rungs all one a b → GoesDown rule rungs all two b c → GoesDown rule rungs all both a c
  down_on one two both a b c parts h k = record {
    some = λ x. k.some (h.some x);
    low = λ x. k.low (h.low x);
    falls = λ price x. k.falls price (h.falls price x);
    done = λ p i price cost. elim (parts p i) [ inl x ↦ k.falls price (h.done p x price cost) | inr y ↦ k.done p y price cost ];
  }

  -- fewer paths
  pub down_fewer : (more fewer : OpenPath → Type 0) (a b : Option ℕ) → ((p : OpenPath) → fewer p → (price : ℕ) → Costs rule rungs p price → more p) → GoesDown rule rungs all more a b → GoesDown rule rungs all fewer a b
  down_fewer more fewer a b to h = record { some = h.some; low = h.low; falls = h.falls; done = λ p i price c. h.done p (to p i price c) price c }

  -- all paths, from none
  pub least_down : (least : Option ℕ) → GoesDown rule rungs all all None least → CostsLeast rule rungs all least
  least_down None h = λ price s. h.done s.path s.one_of price s.costs
  least_down (Some low) h = record { some = h.some tt; floor = h.done }
