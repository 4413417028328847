-- Floors of what a group of fares costs on paths. Given on to the crates above.
use Rattle.std.proofs.Common.{◌≡◌, ℕ, ◌+◌, ◌≤◌, ◌<◌, ◌++◌, Option, Some, None, IsBitSet, refl, ap, subst, ◌∙◌, arith}
use Rattle.fare_groups.specs.Grouping.{Cheapest}
use Rattle.fare_groups.specs.Groups.{Permits, extra_of}
use Rattle.fare_law.specs.declared.names.Carrier.{Carrier}
use Rattle.fare_law.specs.declared.rules.Rule.{Rule}
use Rattle.fare_ends.specs.Floors.{AddsAtLeast, FallWithMore, FloorOfParts, IsLeastOn, NoneBelow, NoneIsOpen, OpenPath, SharesFall}
use Rattle.fare_ends.specs.Legs.{AreAmong}
use Rattle.fare_ends.proofs.Counted.{adds_parts}
use Rattle.fare_ends.proofs.Permitted.{permits_heads}
use Rattle.law_lemmas.proofs.EachOne.{each_in}
use Rattle.law_lemmas.proofs.Numbers.{both_least}
use Rattle.law_lemmas.proofs.Options.{not_both, some_one}

pub shares_fall : SharesFall
shares_fall fares shares low cheap few more among share e = by (shares few) e (cheap few) (shares more) refl (cheap more)
  where
    low_class : (class : ℕ) → class ≤ 25 → class < 32
    low_class class h = omega (arith, h)

    le : (s share low own : ℕ) → own ≡ s → s ≡ share → low ≤ own → low ≤ share
    le s share low own h k l = omega (arith, h, k, l)

    none : (x : ℕ) → None ≡ Some x → ⊥
    none x e = cc

    same : (x y : ℕ) → Some x ≡ Some y → x ≡ y
    same x y e = cc

    by : (a : Option ℕ) → a ≡ Some share → Cheapest few fares a → (c : Option ℕ) → shares more ≡ c → Cheapest more fares c → (least : ℕ) × (shares more ≡ Some least) × (least ≤ share)
    by None a h c k m = absurd (none share a)
    by (Some s) a h None k m = absurd (each_in (λ f. IsBitSet more f.class → ⊥) fares h.fare m h.within (among h.fare.class (low_class h.fare.class (each_in (λ f. f.class ≤ 25) fares h.fare low h.within)) h.open_class))
    by (Some s) a h (Some least) k m =
        let below = each_in (λ f. IsBitSet more f.class → least ≤ f.share) fares h.fare m.below h.within (among h.fare.class (low_class h.fare.class (each_in (λ f. f.class ≤ 25) fares h.fare low h.within)) h.open_class) in
        (least, k, le s share least h.fare.share h.costs (same s share a) below)

-- among the same classes it costs the same
pub shares_alike : (shares : ℕ → Option ℕ) → FallWithMore shares → (one other : ℕ) → AreAmong one other → AreAmong other one → (share : ℕ) → shares one ≡ Some share → shares other ≡ Some share
shares_alike shares falls one other h k share e =
    let there = falls one other h share e in
    let back = falls other one k there.0 there.1 in
    let same = both_least there.0 share there.2 (subst (λ n. n ≤ there.0) (some_one (shares one) back.0 share back.1 e) back.2) in
    there.1 ∙ ap Some same

pub floor_of_parts : FloorOfParts
floor_of_parts rule carrier shares falls p classes share heads tails e is price c =
    let found = is c.permits in
    let adds = found.1 in
    let low = falls p.classes classes found.0 c.share c.open_share in
    let least = some_one (shares classes) share low.0 e low.1 in
    let first = adds.on_head (permits_heads rule carrier adds.head adds.tail adds.some (subst (Permits rule carrier) adds.parts c.permits)) in
    sums share low.0 c.share heads tails (extra_of rule adds.head) (extra_of rule adds.tail) (extra_of rule (adds.head ++ adds.tail)) (extra_of rule p.flights) price least low.2 first adds.on_tail (adds_parts rule adds.head adds.tail) (ap (extra_of rule) adds.parts) c.price_is
  where
    sums : (share least own heads tails head tail both all price : ℕ) → share ≡ least → least ≤ own → heads ≤ head → tails ≤ tail → (head + tail) ≤ both → all ≡ both → price ≡ own + all → (share + heads + tails) ≤ price
    sums share least own heads tails head tail both all price a c d e f g h = omega (arith, a, c, d, e, f, g, h)

pub none_is_open : NoneIsOpen
none_is_open rule carrier shares falls p classes e is price c =
    let low = falls p.classes classes (is c.permits) c.share c.open_share in
    not_both (shares classes) low.0 low.1 e

-- so no path of which this is known is below the floor
pub none_below_parts : (rule : Rule) (carrier : Carrier) (shares : ℕ → Option ℕ) → FallWithMore shares → (paths : OpenPath → Type 0) (classes share heads tails : ℕ) → shares classes ≡ Some share
    → ((p : OpenPath) → paths p → Permits rule carrier p.flights → AreAmong p.classes classes × AddsAtLeast rule carrier heads tails p.flights)
    → NoneBelow rule carrier shares paths (share + heads + tails)
none_below_parts rule carrier shares falls paths classes share heads tails e is p i = floor_of_parts rule carrier shares falls p classes share heads tails e (is p i)

-- and the group costs nothing on paths of which none of the classes has a fare
pub least_of_closed : (rule : Rule) (carrier : Carrier) (shares : ℕ → Option ℕ) → FallWithMore shares → (paths : OpenPath → Type 0) (classes : ℕ) → shares classes ≡ None
    → ((p : OpenPath) → paths p → Permits rule carrier p.flights → AreAmong p.classes classes)
    → IsLeastOn rule carrier shares paths None
least_of_closed rule carrier shares falls paths classes e is price s = none_is_open rule carrier shares falls s.path classes e (is s.path s.one_of) price s.costs
