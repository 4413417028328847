-- Paths that cross, by buckets of heads and classes of tails.
use Rattle.std.specs.Prelude.{◌≡◌, ℕ, List, ◌++◌}
use Rattle.component_table.specs.declared.slice_tails.SliceTails.{SliceTails}
use Rattle.fare_ends.specs.declared.ends.EndGroup.{EndGroup}
use Rattle.fare_ends.specs.declared.ends.FareEnds.{FareEnds}
use Rattle.fare_ends.specs.Ends.{between}
use Rattle.fare_law.specs.declared.requests.Request.{Request}
use Rattle.fare_law.specs.Book.{Book}
use Rattle.fare_law.specs.Lists.{IsIn}
use Rattle.flight_paths.specs.declared.positions.Path.{Path}
use Rattle.flight_paths.specs.declared.positions.Position.{Position}
use Rattle.flight_paths.specs.Heads.{AreTails, Follows}
use Rattle.joint_paths.specs.declared.buckets.Bucket.{Bucket}
use Rattle.joint_paths.specs.declared.crossing_heads.CrossingHead.{CrossingHead}
use Rattle.joint_paths.specs.declared.join_ends.JoinEnd.{JoinEnd}
use Rattle.joint_paths.specs.declared.joining.Joint.{Joint}
use Rattle.joint_paths.specs.declared.tail_classes.JoinTail.{JoinTail}
use Rattle.joint_paths.specs.declared.tail_classes.TailClass.{TailClass}
use Rattle.joint_paths.specs.Heads.{FollowsOn, IsCrossingHead}
use Rattle.joint_paths.specs.JoinEnds.{AreJoinEnds}
use Rattle.joint_paths.specs.Tails.{AreTailClasses}
use Rattle.outlines.specs.declared.outline.Outline.{Outline}

-- The tails of a slice by classes, and for which of their ends places have fares.
pub record IsSliceTails (b : Book) (q : Request) (fares : FareEnds) (t : SliceTails) : Type 0 where
  pub tails : AreTails b q.slices t.slice t.paths
  pub classes : AreTailClasses b q t.paths t.classes
  pub joins : AreJoinEnds b fares t.classes.ends.items t.joins

-- all but the known ends for which places have fares is as it was
pub record KeepsSlice (old new : SliceTails) : Type 0 where
  pub slice : new.slice ≡ old.slice
  pub paths : new.paths ≡ old.paths
  pub marks : new.marks ≡ old.marks
  pub classes : new.classes ≡ old.classes
  pub ends : new.ends ≡ old.ends

-- The flights are those of a head of the bucket, and of such a tail that may follow it.
pub record JoinsBy (k : Bucket) (such : JoinTail → Type 0) (o : Outline) (ns : List ℕ) : Type 0 where
  pub head : CrossingHead
  pub within : IsIn head k.heads.now
  pub tail : JoinTail
  pub one_of : such tail
  pub follows : FollowsOn k head tail
  pub numbers : ns ≡ follows.head_path.flights ++ follows.tail_path.flights
  pub after : o.after ≡ follows.tail_path.after

-- the paths of a bucket and some tails
abbrev pub TailPaths : Bucket → List JoinTail → Outline → List ℕ → Type 0
TailPaths k tails = JoinsBy k (λ tail. IsIn tail tails)

-- the paths of a bucket and a class of tails
abbrev pub ClassPaths : Bucket → SliceTails → TailClass → Outline → List ℕ → Type 0
ClassPaths k t c = TailPaths k (between t.classes.tails.items c.from c.to)

-- the tail stands in a class of an end
pub record IsTailAt (t : SliceTails) (e : JoinEnd) (tail : JoinTail) : Type 0 where
  pub class : TailClass
  pub class_in : IsIn class (between t.classes.classes.items e.from e.to)
  pub tail_in : IsIn tail (between t.classes.tails.items class.from class.to)

-- the paths of a bucket and the tails that end at one place
abbrev pub EndPaths : Bucket → SliceTails → JoinEnd → Outline → List ℕ → Type 0
EndPaths k t e = JoinsBy k (IsTailAt t e)

-- The flights are those of this head of the position, and of a tail of the next slice that may follow it.
pub record GoesOn (b : Book) (q : Request) (at : Position) (head : CrossingHead) (o : Outline) (ns : List ℕ) : Type 0 where
  pub head_path : Path
  pub head_is : IsCrossingHead b q at head_path head
  pub tail_path : Path
  pub follows : Follows b q.slices at head_path tail_path
  pub numbers : ns ≡ head_path.flights ++ tail_path.flights
  pub after : o.after ≡ tail_path.after

-- the flights are those of one of these heads, and of a tail that may follow it
pub record FromHeads (b : Book) (q : Request) (at : Position) (heads : List CrossingHead) (o : Outline) (ns : List ℕ) : Type 0 where
  pub head : CrossingHead
  pub within : IsIn head heads
  pub goes : GoesOn b q at head o ns

-- the paths of a bucket
abbrev pub BucketPaths : Bucket → Outline → List ℕ → Type 0
BucketPaths k = FromHeads k.case.now.book.now k.case.now.request.now k.at.now k.heads.now

-- the component has a fare of the group, on a path of the bucket and the tails
pub record GroupPaths (j : Joint) (g : EndGroup) (o : Outline) (ns : List ℕ) : Type 0 where
  pub path : TailPaths j.bucket.now j.tails.now o ns
  pub carrier : o.carrier ≡ g.key.carrier
  pub number : o.number ≡ g.key.number
  pub kind : o.kind ≡ g.key.kind
  pub reverse : o.reverse ≡ g.reverse

-- the outline of a group's components on the paths of a bucket and a class
pub record IsOutlineOfBoth (k : Bucket) (c : TailClass) (g : EndGroup) (o : Outline) : Type 0 where
  pub after : o.after ≡ c.after
  pub end : o.end ≡ c.end
  pub first : o.first ≡ k.first
  pub last : o.last ≡ c.last
  pub carrier : o.carrier ≡ g.key.carrier
  pub number : o.number ≡ g.key.number
  pub kind : o.kind ≡ g.key.kind
  pub reverse : o.reverse ≡ g.reverse
