-- What rules say of the heads of a bucket, and of tails.
use Rattle.std.specs.Prelude.{◌≡◌, ◌≤◌, ◌+◌, ℕ, cond, List, ◌++◌, slice_get, Option, None, Some, IfSome}
use Rattle.fare_ends.specs.declared.rule_numbers.KnownRule.{KnownRule}
use Rattle.fare_ends.specs.Rules.{IsFreeRightly}
use Rattle.fare_ends.specs.Legs.{AreAmong}
use Rattle.fare_groups.specs.Groups.{Permits, extra_of}
use Rattle.fare_law.specs.declared.flights.Flight.{Flight}
use Rattle.fare_law.specs.Book.{Book}
use Rattle.fare_law.specs.Lists.{Each}
use Rattle.fare_law.specs.Parts.{Numbers}
use Rattle.fare_law.specs.RuleLimits.{IsRule}
use Rattle.flight_paths.specs.declared.positions.Path.{Path}
use Rattle.joint_paths.specs.declared.buckets.Bucket.{Bucket}
use Rattle.joint_paths.specs.declared.crossing_heads.CrossingHead.{CrossingHead}
use Rattle.joint_paths.specs.declared.ruled_heads.Ruled.{Ruled}
use Rattle.joint_paths.specs.declared.ruled_heads.RuledHeads.{RuledHeads}
use Rattle.joint_paths.specs.declared.tail_classes.JoinTail.{JoinTail}
use Rattle.joint_paths.specs.Heads.{HeadFlies}

-- a rule within its limits, of the carrier of a bucket
pub record IsOwnRule (k : Bucket) (r : KnownRule) : Type 0 where
  pub free : IsFreeRightly r
  pub limits : IsRule r.rule
  pub carrier : r.carrier ≡ k.carrier

-- the number by which it is kept what a rule says: none for those that test nothing
abbrev pub rule_name : KnownRule → ℕ → Option ℕ
rule_name r number = cond r.is_free None (Some number)

-- a rule says of a head that it isn't permitted, or adds these charges
abbrev pub SaysOfHead : Bucket → KnownRule → CrossingHead → Option ℕ → Type 0
SaysOfHead k rule h None = (fs : List Flight) → HeadFlies k.case.now.book.now h fs → Permits rule.rule rule.carrier fs → ⊥
SaysOfHead k rule h (Some charges) = (charges ≤ 35000000) × ((fs : List Flight) → HeadFlies k.case.now.book.now h fs → charges ≡ extra_of rule.rule fs)

-- what a rule says of the head at a place stands there
pub record IsCharged (k : Bucket) (charges : List (Option ℕ)) (rule : KnownRule) (r : Ruled) (n : ℕ) (h : CrossingHead) : Type 0 where
  pub said : Option ℕ
  pub stands : slice_get charges (r.from + n) ≡ Some said
  pub says : SaysOfHead k rule h said
  pub classes : (c : ℕ) → said ≡ Some c → AreAmong h.classes r.classes
  pub least : (c : ℕ) → said ≡ Some c → r.least ≤ c

-- What a rule says of each head of a bucket stands there, with no class of seats left out that is open on a head that it permits, and no charges below the least.
pub record IsRuled (k : Bucket) (charges : List (Option ℕ)) (rule : KnownRule) (r : Ruled) : Type 0 where
  pub each : (n : ℕ) (h : CrossingHead) → slice_get k.heads.now n ≡ Some h → IsCharged k charges rule r n h
  pub low : r.least ≤ 35000000

-- each rule of the name says this
abbrev pub IsSaidByName : Bucket → List KnownRule → List (Option ℕ) → Ruled → Type 0
IsSaidByName k rules charges r = (number : ℕ) (rule : KnownRule) → slice_get rules number ≡ Some rule → IsOwnRule k rule → r.rule ≡ rule_name rule number → IsRuled k charges rule r

-- What is kept by a rule's number is what the rule says.
abbrev pub AreRuledHeads : Bucket → List KnownRule → RuledHeads → Type 0
AreRuledHeads k rules known = Each (IsSaidByName k rules known.charges.items) known.of.items

-- the least charges so far go on to those with one head more, if it is permitted
pub record TakesLeast (said least new : Option ℕ) : Type 0 where
  pub falls : (low : ℕ) → least ≡ Some low → (own : ℕ) × (new ≡ Some own) × (own ≤ low)
  pub own : (c : ℕ) → said ≡ Some c → (low : ℕ) × (new ≡ Some low) × (low ≤ c)
  pub low : (most : ℕ) → IfSome said (λ c. c ≤ most) → IfSome least (λ l. l ≤ most) → IfSome new (λ l. l ≤ most)

-- a rule permits no path that ends with these flights, or adds at least these charges for them
abbrev pub SaysOfTail : KnownRule → List Flight → Option ℕ → Type 0
SaysOfTail rule fs None = (head : List Flight) → Permits rule.rule rule.carrier (head ++ fs) → ⊥
SaysOfTail rule fs (Some charges) = (charges ≤ 35000000) × ((head : List Flight) → (extra_of rule.rule head + charges) ≤ extra_of rule.rule (head ++ fs))

-- the rule of a number says this of the tail at a place
abbrev pub SaysOfTailAt : Book → List KnownRule → List Path → List JoinTail → ℕ → ℕ → Option ℕ → Type 0
SaysOfTailAt b rules paths tails number at said =
    (rule : KnownRule) → slice_get rules number ≡ Some rule → (t : JoinTail) → slice_get tails at ≡ Some t → (path : Path) → slice_get paths t.number ≡ Some path → (fs : List Flight) → Numbers b path.flights fs → SaysOfTail rule fs said
