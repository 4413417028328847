-- The least price of a group on paths of two kinds, from what is known of each. Given on to the crates above.
use Rattle.std.proofs.Common.{◌≡◌, ◌↔◌, ℕ, ◌+◌, ◌≤◌, List, Option, Some, None, IfSome, sym, ap, subst, ◌∙◌, inl, inr, arith}
use Rattle.fare_groups.specs.Groups.{Permits, extra_of}
use Rattle.fare_law.specs.declared.flights.Flight.{Flight}
use Rattle.fare_law.specs.declared.names.Carrier.{Carrier}
use Rattle.fare_law.specs.declared.rules.Rule.{Rule}
use Rattle.fare_ends.specs.Floors.{CostsOn, CostsOnSome, Either, FallWithMore, IsLeastOn, NoneBelow, OpenPath}
use Rattle.fare_ends.specs.Legs.{AreAmong}
use Rattle.fare_ends.proofs.Shares.{shares_alike}
use Rattle.law_lemmas.proofs.Numbers.{le_on}
use Rattle.law_lemmas.proofs.Options.{some_one}

module _ (rule : Rule) (carrier : Carrier) (shares : ℕ → Option ℕ) where
  some_of : (one other : OpenPath → Type 0) → ((p : OpenPath) → one p → other p) → (price : ℕ) → CostsOnSome rule carrier shares one price → CostsOnSome rule carrier shares other price
  some_of one other to price s = record { path = s.path; one_of = to s.path s.one_of; costs = s.costs }

  -- where there is no path
  pub least_of_none : (paths : OpenPath → Type 0) → ((p : OpenPath) → paths p → ⊥) → IsLeastOn rule carrier shares paths None
  least_of_none paths empty price s = empty s.path s.one_of

  -- on the same paths
  pub least_like : (one other : OpenPath → Type 0) → ((p : OpenPath) → one p ↔ other p) → (least : Option ℕ) → IsLeastOn rule carrier shares one least → IsLeastOn rule carrier shares other least
  least_like one other like None h = λ price s. h price (some_of other one (λ p. (like p).1) price s)
  least_like one other like (Some least) h = record { some = some_of one other (λ p. (like p).0) least h.some; floor = λ p i price c. h.floor p ((like p).1 i) price c }

  -- a lower floor, and one where there is no price
  pub floor_less : (paths : OpenPath → Type 0) (low floor : ℕ) → low ≤ floor → NoneBelow rule carrier shares paths floor → NoneBelow rule carrier shares paths low
  floor_less paths low floor le h p i price c = le_on low floor price le (h p i price c)

  pub floor_of_none : (paths : OpenPath → Type 0) (floor : ℕ) → IsLeastOn rule carrier shares paths None → NoneBelow rule carrier shares paths floor
  floor_of_none paths floor h p i price c = absurd (h price (record { path = p; one_of = i; costs = c }))

  floor_of_both : (one other : OpenPath → Type 0) (floor : ℕ) → NoneBelow rule carrier shares one floor → NoneBelow rule carrier shares other floor → NoneBelow rule carrier shares (Either one other) floor
  floor_of_both one other floor h k p (inl i) price c = h p i price c
  floor_of_both one other floor h k p (inr i) price c = k p i price c

  -- paths of which none is below the least price so far
  pub least_kept : (one other : OpenPath → Type 0) (least floor : ℕ) → IsLeastOn rule carrier shares one (Some least) → NoneBelow rule carrier shares other floor → least ≤ floor → IsLeastOn rule carrier shares (Either one other) (Some least)
  least_kept one other least floor h k le = record {
    some = some_of one (Either one other) (λ p. inl) least h.some;
    floor = floor_of_both one other least h.floor (floor_less other least floor le k);
  }

  -- paths with a price that is at most the least so far
  pub least_new : (one other : OpenPath → Type 0) (least : Option ℕ) (price : ℕ) → IsLeastOn rule carrier shares one least → IsLeastOn rule carrier shares other (Some price) → IfSome least (λ n. price ≤ n) → IsLeastOn rule carrier shares (Either one other) (Some price)
  least_new one other None price h k le = record {
    some = some_of other (Either one other) (λ p. inr) price k.some;
    floor = floor_of_both one other price (floor_of_none one price h) k.floor;
  }
  least_new one other (Some least) price h k le = record {
    some = some_of other (Either one other) (λ p. inr) price k.some;
    floor = floor_of_both one other price (floor_less one price least le h.floor) k.floor;
  }

  -- paths on which the group costs nothing
  pub least_still : (one other : OpenPath → Type 0) (least : Option ℕ) → IsLeastOn rule carrier shares one least → IsLeastOn rule carrier shares other None → IsLeastOn rule carrier shares (Either one other) least
  least_still one other None h k = λ price s. by price s.path s.one_of s.costs
    where
      by : (price : ℕ) (p : OpenPath) → Either one other p → CostsOn rule carrier shares p price → ⊥
      by price p (inl i) c = h price (record { path = p; one_of = i; costs = c })
      by price p (inr i) c = k price (record { path = p; one_of = i; costs = c })
  least_still one other (Some least) h k = record {
    some = some_of one (Either one other) (λ p. inl) least h.some;
    floor = floor_of_both one other least h.floor (floor_of_none other least k);
  }

  -- one path, whichever numbers tell its classes
  pub least_of_one : FallWithMore shares → (paths : OpenPath → Type 0) (fs : List Flight) (classes share : ℕ) → Permits rule carrier fs → shares classes ≡ Some share → (p : OpenPath) → paths p → ((x : OpenPath) → paths x → (x.flights ≡ fs) × AreAmong x.classes classes × AreAmong classes x.classes)
      → IsLeastOn rule carrier shares paths (Some (share + extra_of rule fs))
  least_of_one falls paths fs classes share permits e p i are = record {
    some = record {
      path = p;
      one_of = i;
      costs = record {
        permits = subst (Permits rule carrier) (sym (are p i).0) permits;
        share = share;
        open_share = shares_alike shares falls classes p.classes (are p i).2 (are p i).1 share e;
        price_is = ap (λ gs. share + extra_of rule gs) (sym (are p i).0);
      };
    };
    floor = λ x j price c.
        let same = some_one (shares x.classes) share c.share (shares_alike shares falls classes x.classes (are x j).2 (are x j).1 share e) c.open_share in
        most (share + extra_of rule fs) price (ap (λ n. n + extra_of rule fs) same ∙ ap (λ gs. c.share + extra_of rule gs) (sym (are x j).0) ∙ sym c.price_is);
  }
    where
      most : (m n : ℕ) → m ≡ n → m ≤ n
      most m n e = omega (arith, e)
