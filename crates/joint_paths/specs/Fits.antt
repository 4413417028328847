-- What is known of the tails of a class before the heads of a bucket.
use Rattle.std.specs.Prelude.{◌≡◌, ◌≢◌, ◌<◌, ℕ, List, ◌++◌, length, slice_get, IfSome, Some, bit_and}
use Rattle.fare_ends.specs.Ends.{IsRange, between}
use Rattle.fare_ends.specs.Legs.{AreAmong}
use Rattle.fare_law.specs.Lists.{Each, IsIn}
use Rattle.joint_paths.specs.declared.buckets.Bucket.{Bucket}
use Rattle.joint_paths.specs.declared.crossing_heads.CrossingHead.{CrossingHead}
use Rattle.joint_paths.specs.declared.fitting.Fitting.{Fitting}
use Rattle.joint_paths.specs.declared.fitting.FittingHead.{FittingHead}
use Rattle.joint_paths.specs.declared.fitting.HeadRange.{HeadRange}
use Rattle.joint_paths.specs.declared.fitting.TailFit.{TailFit}
use Rattle.joint_paths.specs.declared.tail_classes.JoinTail.{JoinTail}
use Rattle.joint_paths.specs.Heads.{FollowsOn, HasOpen}

-- a head of the bucket that fits before a tail, and the classes of seats that are open on both
pub record IsFitting (k : Bucket) (t : JoinTail) (f : FittingHead) : Type 0 where
  pub head : CrossingHead
  pub stands : slice_get k.heads.now f.head ≡ Some head
  pub follows : FollowsOn k head t
  pub classes : f.classes ≡ bit_and head.classes t.classes

-- Of the first heads of the bucket, so many, each that fits before a tail and on which some class of seats is open with it is among these.
abbrev pub HasFitting : Bucket → JoinTail → ℕ → List FittingHead → Type 0
HasFitting k t count fitting = (n : ℕ) (h : CrossingHead) → n < count → slice_get k.heads.now n ≡ Some h → FollowsOn k h t → bit_and h.classes t.classes ≢ 0 → (f : FittingHead) × IsIn f fitting × (f.head ≡ n)

-- The heads that fit before a tail are those that stand there.
pub record IsListed (k : Bucket) (t : JoinTail) (heads : List FittingHead) (r : HeadRange) : Type 0 where
  pub range : IsRange heads r.from r.to
  pub each : Each (IsFitting k t) (between heads r.from r.to)
  pub all : HasFitting k t (length k.heads.now) (between heads r.from r.to)

-- What is known of a tail: no class of seats that is open on a path is left out, and the heads are those that fit, where they are listed.
pub record IsTailFit (k : Bucket) (t : JoinTail) (heads : List FittingHead) (whole : ℕ) (fit : TailFit) : Type 0 where
  pub classes : HasOpen k t fit.classes
  pub among : AreAmong fit.classes whole
  pub listed : IfSome fit.listed (IsListed k t heads)

-- What is known of each tail of a class is so.
pub record AreTailFits (k : Bucket) (tails : List JoinTail) (known : Fitting) : Type 0 where
  pub many : length known.tails.items ≡ length tails
  pub each : (at : ℕ) (t : JoinTail) (fit : TailFit) → slice_get tails at ≡ Some t → slice_get known.tails.items at ≡ Some fit → IsTailFit k t known.heads.items known.whole fit

-- the head at a place was added, if it fits before a tail
pub record AddsFitting (k : Bucket) (t : JoinTail) (at : ℕ) (old new : List FittingHead) : Type 0 where
  pub more : List FittingHead
  pub joined : new ≡ old ++ more
  pub each : Each (IsFitting k t) more
  pub has : (h : CrossingHead) → slice_get k.heads.now at ≡ Some h → FollowsOn k h t → bit_and h.classes t.classes ≢ 0 → (f : FittingHead) × IsIn f more × (f.head ≡ at)
