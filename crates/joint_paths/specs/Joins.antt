-- Heads of a bucket joined with the tails of a class, and what a group of fares costs on them.
use Rattle.std.specs.Prelude.{◌≡◌, ◌≤◌, ◌+◌, ℕ, List, [], ◌∷◌, ◌++◌, Option, Some, length, slice_get, bit_and, false}
use Rattle.fare_ends.specs.declared.ends.EndGroup.{EndGroup}
use Rattle.fare_ends.specs.declared.rule_numbers.KnownRule.{KnownRule}
use Rattle.fare_ends.specs.Ends.{IsRange, between}
use Rattle.fare_ends.specs.Rules.{AreKnownRules}
use Rattle.fare_ends.specs.Rungs.{AreRungs}
use Rattle.fare_groups.specs.declared.group.GroupedFare.{GroupedFare}
use Rattle.fare_groups.specs.Grouping.{first_share}
use Rattle.fare_law.specs.declared.flights.Flight.{Flight}
use Rattle.fare_law.specs.Lists.{Each, IsIn}
use Rattle.fare_law.specs.Parts.{Numbers}
use Rattle.flight_paths.specs.declared.positions.Path.{Path}
use Rattle.joint_paths.specs.declared.buckets.Bucket.{Bucket}
use Rattle.joint_paths.specs.declared.crossing_heads.CrossingHead.{CrossingHead}
use Rattle.joint_paths.specs.declared.joining.JoinRoom.{JoinRoom}
use Rattle.joint_paths.specs.declared.joining.Joint.{Joint}
use Rattle.joint_paths.specs.declared.joining.Onward.{Onward}
use Rattle.joint_paths.specs.declared.joining.OpenHead.{OpenHead}
use Rattle.joint_paths.specs.declared.joining.Sought.{Sought}
use Rattle.joint_paths.specs.declared.tail_classes.JoinTail.{JoinTail}
use Rattle.joint_paths.specs.Fits.{AreTailFits}
use Rattle.joint_paths.specs.Heads.{FollowsOn, HeadFlies, IsBucket}
use Rattle.joint_paths.specs.Ruled.{AreRuledHeads, IsOwnRule, IsRuled, SaysOfTail, SaysOfTailAt}
use Rattle.joint_paths.specs.Said.{AreSaid}
use Rattle.joint_paths.specs.Tails.{IsJoinTail}
use Rattle.joint_paths.specs.Costs.{Costs, CostsNoLess, GoesDown}
use Rattle.fare_ends.specs.Floors.{OpenPath}

-- a head and a tail that may follow it, as one path with the classes of seats that are open on both
pub record IsPair (k : Bucket) (h : CrossingHead) (t : JoinTail) (p : OpenPath) : Type 0 where
  pub follows : FollowsOn k h t
  pub head_flights : List Flight
  pub head_numbers : HeadFlies k.case.now.book.now h head_flights
  pub tail_flights : List Flight
  pub tail_numbers : Numbers k.case.now.book.now follows.tail_path.flights tail_flights
  pub flights : p.flights ≡ head_flights ++ tail_flights
  pub classes : p.classes ≡ bit_and h.classes t.classes

-- one of some heads and one of some tails, as one path
pub record IsJoinedOf (k : Bucket) (heads : List CrossingHead) (tails : List JoinTail) (p : OpenPath) : Type 0 where
  pub head : CrossingHead
  pub head_in : IsIn head heads
  pub tail : JoinTail
  pub tail_in : IsIn tail tails
  pub pair : IsPair k head tail p

-- A bucket of heads and tails of the next slice, with fares of the book.
pub record IsJoint (j : Joint) : Type 0 where
  pub bucket : IsBucket j.bucket.now
  pub tails : Each (IsJoinTail j.bucket.now.case.now.book.now j.bucket.now.case.now.request.now j.bucket.now.paths.now) j.tails.now
  pub rules : AreKnownRules j.bucket.now.case.now.book.now j.fares.now.rules.of.items

-- What is known of the bucket and of the tails is so.
pub record IsRoom (j : Joint) (r : JoinRoom) : Type 0 where
  pub ruled : AreRuledHeads j.bucket.now j.fares.now.rules.of.items r.ruled
  pub fits : AreTailFits j.bucket.now j.tails.now r.fitting
  pub said : AreSaid (SaysOfTailAt j.bucket.now.case.now.book.now j.fares.now.rules.of.items j.bucket.now.paths.now j.tails.now) (length j.tails.now) r.fitting.charges

-- A group of the bucket's carrier, with its rungs and its rule.
pub record IsOwnGroup (j : Joint) (g : EndGroup) : Type 0 where
  pub range : IsRange j.fares.now.rungs.items g.from g.to
  pub fares : List GroupedFare
  pub rungs : AreRungs fares (between j.fares.now.rungs.items g.from g.to)
  pub rule : KnownRule
  pub stands : slice_get j.fares.now.rules.of.items g.rule ≡ Some rule
  pub own : IsOwnRule j.bucket.now rule

-- the paths of some tails
abbrev pub PathsOf : Joint → List JoinTail → OpenPath → Type 0
PathsOf j tails = IsJoinedOf j.bucket.now j.bucket.now.heads.now tails

-- What is sought: a group's rungs and rule, with what the rule says of the heads, and a floor of all paths.
pub record IsSought (j : Joint) (r : JoinRoom) (s : Sought) : Type 0 where
  pub fares : List GroupedFare
  pub rungs : AreRungs fares s.rungs.now
  pub stands : slice_get j.fares.now.rules.of.items s.number ≡ Some s.rule.now
  pub own : IsOwnRule j.bucket.now s.rule.now
  pub ruled : IsRuled j.bucket.now r.ruled.charges.items s.rule.now s.ruled
  pub floor : CostsNoLess s.rule.now s.rungs.now (PathsOf j j.tails.now) s.floor

-- the rule of what is sought was asked last, unless it tests nothing
abbrev pub IsAsked : Sought → JoinRoom → Type 0
IsAsked s r = s.rule.now.is_free ≡ false → r.fitting.charges.rule ≡ Some s.number

-- the flights of a tail
abbrev pub TailFlies : Joint → JoinTail → List Flight → Type 0
TailFlies j t fs = (path : Path) → slice_get j.bucket.now.paths.now t.number ≡ Some path → Numbers j.bucket.now.case.now.book.now path.flights fs

-- the rule of what is sought says this of a tail
abbrev pub TailSays : Joint → Sought → JoinTail → Option ℕ → Type 0
TailSays j s t said = (fs : List Flight) → TailFlies j t fs → SaysOfTail s.rule.now fs said

-- no price of what is sought on the paths of some heads and tails is below a floor
abbrev pub SeekFloor : Joint → Sought → List CrossingHead → List JoinTail → ℕ → Type 0
SeekFloor j s heads tails = CostsNoLess s.rule.now s.rungs.now (IsJoinedOf j.bucket.now heads tails)

-- what is sought has no price on these paths
abbrev pub CostsNothing : Joint → Sought → List CrossingHead → List JoinTail → Type 0
CostsNothing j s heads tails = (p : OpenPath) → IsJoinedOf j.bucket.now heads tails p → (price : ℕ) → Costs s.rule.now s.rungs.now p price → ⊥

-- A floor of the paths that go on by a tail, and with what the rule adds at least for the tail a higher one.
pub record IsTailLow (j : Joint) (s : Sought) (t : JoinTail) (low : ℕ) : Type 0 where
  pub floor : SeekFloor j s j.bucket.now.heads.now (t ∷ []) low
  pub more : (added : ℕ) → TailSays j s t (Some added) → SeekFloor j s j.bucket.now.heads.now (t ∷ []) (low + added)

-- The tail at a place, the charges that it adds at least, and a floor of its paths.
pub record IsOnward (j : Joint) (s : Sought) (o : Onward) : Type 0 where
  pub stands : slice_get j.tails.now o.at ≡ Some o.tail.now
  pub adds : TailSays j s o.tail.now (Some o.added)
  pub floor : SeekFloor j s j.bucket.now.heads.now (o.tail.now ∷ []) o.floor

-- The head at a place, and the share of the cheapest fare that is open on it and on a tail.
pub record IsOpenHead (j : Joint) (s : Sought) (t : JoinTail) (o : OpenHead) : Type 0 where
  pub stands : slice_get j.bucket.now.heads.now o.number ≡ Some o.head.now
  pub share_is : first_share s.rungs.now (bit_and o.head.now.classes t.classes) ≡ Some o.share
  pub low : o.share ≤ 1000000000

-- what is sought goes down over the paths of some heads and tails
abbrev pub SeekDown : Joint → Sought → List CrossingHead → List JoinTail → Option ℕ → Option ℕ → Type 0
SeekDown j s heads tails old new = GoesDown s.rule.now s.rungs.now (PathsOf j j.tails.now) (IsJoinedOf j.bucket.now heads tails) old new
