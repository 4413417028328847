-- The least share with one fare more: given on to the crates above.
use Rattle.std.proofs.Common.{ℕ, ◌≤◌, ◌<◌, List, [], ◌∷◌, ◌++◌, Option, Some, None, IsBitSet, refl, inl, arith}
use Rattle.fare_groups.specs.declared.group.GroupedFare.{GroupedFare}
use Rattle.fare_groups.specs.Grouping.{Cheapest}
use Rattle.law_lemmas.proofs.EachOne.{each_more, each_to}
use Rattle.law_lemmas.proofs.Members.{in_left, in_right}

module _ (classes : ℕ) (fares : List GroupedFare) (f : GroupedFare) where
  -- a fare whose class is not open
  pub cheap_skip : (least : Option ℕ) → (IsBitSet classes f.class → ⊥) → Cheapest classes fares least → Cheapest classes (fares ++ f ∷ []) least
  cheap_skip None closed h = each_more (λ x. IsBitSet classes x.class → ⊥) fares f h closed
  cheap_skip (Some share) closed h = record {
    fare = h.fare;
    within = in_left h.fare fares (f ∷ []) h.within;
    open_class = h.open_class;
    costs = h.costs;
    below = each_more (λ x. IsBitSet classes x.class → share ≤ x.share) fares f h.below (λ o. absurd (closed o));
  }

  -- one that costs no less
  pub cheap_stays : (share : ℕ) → share ≤ f.share → Cheapest classes fares (Some share) → Cheapest classes (fares ++ f ∷ []) (Some share)
  cheap_stays share le h = record {
    fare = h.fare;
    within = in_left h.fare fares (f ∷ []) h.within;
    open_class = h.open_class;
    costs = h.costs;
    below = each_more (λ x. IsBitSet classes x.class → share ≤ x.share) fares f h.below (λ o. le);
  }

  itself : f.share ≤ f.share
  itself = omega arith

  -- the first whose class is open
  pub cheap_first : IsBitSet classes f.class → Cheapest classes fares None → Cheapest classes (fares ++ f ∷ []) (Some f.share)
  cheap_first open_class h = record {
    fare = f;
    within = in_right f fares (f ∷ []) (inl refl);
    open_class = open_class;
    costs = refl;
    below = each_more (λ x. IsBitSet classes x.class → f.share ≤ x.share) fares f (each_to (λ x. IsBitSet classes x.class → ⊥) (λ x. IsBitSet classes x.class → f.share ≤ x.share) fares h (λ x closed o. absurd (closed o))) (λ o. itself);
  }

  -- one that costs less
  pub cheap_less : (share : ℕ) → IsBitSet classes f.class → f.share < share → Cheapest classes fares (Some share) → Cheapest classes (fares ++ f ∷ []) (Some f.share)
  cheap_less share open_class lt h = record {
    fare = f;
    within = in_right f fares (f ∷ []) (inl refl);
    open_class = open_class;
    costs = refl;
    below = each_more (λ x. IsBitSet classes x.class → f.share ≤ x.share) fares f (each_to (λ x. IsBitSet classes x.class → share ≤ x.share) (λ x. IsBitSet classes x.class → f.share ≤ x.share) fares h.below (λ x below o. let le = below o in omega (arith, le, lt))) (λ o. itself);
  }
