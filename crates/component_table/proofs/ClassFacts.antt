-- The paths of a bucket and a class of tails: those of the groups that are filed for the class.
use Rattle.std.proofs.Common.{◌≡◌, ◌⊎◌, ℕ, zero, suc, ◌-◌, ◌≤◌, List, [], ◌∷◌, length, take, drop, IsBitSet, refl, sym, ap, subst, ◌∙◌, inl, inr, arith, length-drop}
use Rattle.component_table.specs.declared.slice_tails.SliceTails.{SliceTails}
use Rattle.component_table.specs.Crossings.{ClassPaths, GroupPaths, TailPaths}
use Rattle.component_table.proofs.Added.{IsOfOne}
use Rattle.component_table.proofs.Components.{both_classes, its_group}
use Rattle.component_table.proofs.PairFacts.{book_of, key_of, request_of}
use Rattle.fare_book.specs.Keeping.{Limited}
use Rattle.fare_ends.specs.declared.ends.FareEnd.{FareEnd}
use Rattle.fare_ends.specs.declared.ends.EndGroup.{EndGroup}
use Rattle.fare_ends.specs.Ends.{HasWay, IsFareEnd, between}
use Rattle.fare_ends.proofs.BitFacts.{none_set}
use Rattle.fare_law.specs.Lists.{Each, IsIn}
use Rattle.joint_paths.specs.declared.buckets.Bucket.{Bucket}
use Rattle.joint_paths.specs.declared.crossing_heads.CrossingHead.{CrossingHead}
use Rattle.joint_paths.specs.declared.tail_classes.JoinTail.{JoinTail}
use Rattle.joint_paths.specs.declared.tail_classes.TailClass.{TailClass}
use Rattle.joint_paths.specs.Heads.{FollowsOn, IsHeadOf}
use Rattle.joint_paths.specs.Tails.{IsJoinTail, IsTailClass, IsTailOf}
use Rattle.joint_paths.specs.declared.fitting.Fitting.{Fitting}
use Rattle.joint_paths.specs.declared.joining.Joint.{Joint}
use Rattle.joint_paths.specs.Fits.{AreTailFits}
use Rattle.joint_paths.specs.Joins.{IsJoint}
use Rattle.component_table.proofs.OpenFacts.{class_low}
use Rattle.law_lemmas.proofs.EachOne.{each_by, each_in}
use Rattle.law_lemmas.proofs.Lists.{got_within}
use Rattle.law_lemmas.proofs.Members.{in_got}
use Rattle.outline_tables.proofs.Putting.{got_some}
use Rattle.outlines.specs.declared.outline.Outline.{Outline}
use Rattle.outlines.specs.Outlines.{Outlined}

each_drop : {X : Type 0} (P : X → Type 0) (n : ℕ) (xs : List X) → Each P xs → Each P (drop n xs)
each_drop P zero xs h = h
each_drop P (suc n) [] h = h
each_drop P (suc n) (x ∷ xs) h = each_drop P n xs h.1

-- an item stands before a place or from it on
in_parts : {X : Type 0} (n : ℕ) (xs : List X) (x : X) → IsIn x xs → IsIn x (take n xs) ⊎ IsIn x (drop n xs)
in_parts zero xs x i = inr i
in_parts (suc n) [] x i = absurd i
in_parts (suc n) (y ∷ ys) x (inl e) = inl (inl e)
in_parts (suc n) (y ∷ ys) x (inr i) = elim (in_parts n ys x i) [ inl l ↦ inl (inr l) | inr r ↦ inr r ]

-- what stands from a place on
pub rest_is : {X : Type 0} (n : ℕ) (xs : List X) → take (length xs - n) (drop n xs) ≡ drop n xs
rest_is n xs = full (length xs - n) (drop n xs) (sym (length-drop n xs))
  where
    all : {X : Type 0} (ys : List X) → take (length ys) ys ≡ ys
    all [] = refl
    all (y ∷ ys) = ap (λ zs. y ∷ zs) (all ys)

    full : {X : Type 0} (m : ℕ) (ys : List X) → m ≡ length ys → take m ys ≡ ys
    full m ys e = ap (λ n. take n ys) e ∙ all ys

module _ (k : Bucket) (t : SliceTails) (c : TailClass) (paths : k.paths.now ≡ t.paths) (class : IsTailClass (book_of k) (request_of k) t.paths t.classes.tails.items c) (n : ℕ) where
  -- the tails of the class from a place on
  abbrev pub rest_of : List JoinTail
  rest_of = drop n (between t.classes.tails.items c.from c.to)

  rest_each : Each (λ x. IsJoinTail (book_of k) (request_of k) t.paths x × IsTailOf (book_of k) t.paths c x) rest_of
  rest_each = each_drop (λ x. IsJoinTail (book_of k) (request_of k) t.paths x × IsTailOf (book_of k) t.paths c x) n (between t.classes.tails.items c.from c.to) class.each

  pub class_tails : Each (IsTailOf (book_of k) k.paths.now c) rest_of
  class_tails = subst (λ ps. Each (IsTailOf (book_of k) ps c) rest_of) (sym paths) (each_by (λ x. IsJoinTail (book_of k) (request_of k) t.paths x × IsTailOf (book_of k) t.paths c x) (IsTailOf (book_of k) t.paths c) rest_of (λ x h. h.1) rest_each)

  pub class_joins : Each (IsJoinTail (book_of k) (request_of k) k.paths.now) rest_of
  class_joins = subst (λ ps. Each (IsJoinTail (book_of k) (request_of k) ps) rest_of) (sym paths) (each_by (λ x. IsJoinTail (book_of k) (request_of k) t.paths x × IsTailOf (book_of k) t.paths c x) (IsJoinTail (book_of k) (request_of k) t.paths) rest_of (λ x h. h.0) rest_each)

  -- where no head goes on by the others, all paths of the class are theirs
  pub class_rest : ((x : JoinTail) → IsIn x (take n (between t.classes.tails.items c.from c.to)) → (h : CrossingHead) → IsIn h k.heads.now → FollowsOn k h x → ⊥) → (o : Outline) (ns : List ℕ) → ClassPaths k t c o ns → TailPaths k rest_of o ns
  class_rest before o ns w = elim (in_parts n (between t.classes.tails.items c.from c.to) w.tail w.one_of) [
    | inl i ↦ absurd (before w.tail i w.head w.within w.follows)
    | inr i ↦ record { head = w.head; within = w.within; tail = w.tail; one_of = i; follows = w.follows; numbers = w.numbers; after = w.after }
  ]

  -- so they are of the tails from there on, as a slice has them
  pub sliced_rest : (all : List JoinTail) → all ≡ between t.classes.tails.items c.from c.to → ((x : JoinTail) → IsIn x (take n all) → (h : CrossingHead) → IsIn h k.heads.now → FollowsOn k h x → ⊥) → (o : Outline) (ns : List ℕ) → ClassPaths k t c o ns → TailPaths k (take (length all - n) (drop n all)) o ns
  sliced_rest all are before o ns w =
      let r = class_rest (λ x i. before x (subst (λ ts. IsIn x (take n ts)) (sym are) i)) o ns w in
      record { head = r.head; within = r.within; tail = r.tail; one_of = subst (IsIn r.tail) (sym (rest_is n all)) (subst (λ ts. IsIn r.tail (drop n ts)) (sym are) r.one_of); follows = r.follows; numbers = r.numbers; after = r.after }

module _ (j : Joint) (c : TailClass) (joint : IsJoint j) (tails : Each (IsTailOf (book_of j.bucket.now) j.bucket.now.paths.now c) j.tails.now) (limited : Limited (book_of j.bucket.now)) (o : Outline) (price : ℕ) (x : Outlined (book_of j.bucket.now) (request_of j.bucket.now) j.bucket.now.at.now o price) (w : TailPaths j.bucket.now j.tails.now o x.numbers) where
  own : IsHeadOf (book_of j.bucket.now) (request_of j.bucket.now) j.bucket.now.at.now j.bucket.now.carrier j.bucket.now.first w.head
  own = each_in (IsHeadOf (book_of j.bucket.now) (request_of j.bucket.now) j.bucket.now.at.now j.bucket.now.carrier j.bucket.now.first) j.bucket.now.heads.now w.head joint.bucket.heads w.within

  is : IsJoinTail (book_of j.bucket.now) (request_of j.bucket.now) j.bucket.now.paths.now w.tail
  is = each_in (IsJoinTail (book_of j.bucket.now) (request_of j.bucket.now) j.bucket.now.paths.now) j.tails.now w.tail joint.tails w.one_of

  -- each component has a group of the class
  pub class_groups : (e : FareEnd) → IsFareEnd (book_of j.bucket.now) (key_of j.bucket.now c.end) j.fares.now e → (groups : List EndGroup) (n : ℕ) → groups ≡ between j.fares.now.groups.items e.from e.to → length groups ≤ n → IsOfOne (GroupPaths j) groups 0 n o x.numbers
  class_groups e end groups n are all =
      let g = its_group j.bucket.now w.head w.tail w.follows own limited o price x w.numbers c is (each_in (IsTailOf (book_of j.bucket.now) j.bucket.now.paths.now c) j.tails.now w.tail tails w.one_of) j.fares.now groups (subst (HasWay (book_of j.bucket.now) (key_of j.bucket.now c.end) j.fares.now o.reverse) (sym are) (end.ways o.reverse)) in
      let place = in_got groups g.group g.within in
      let lt = got_within groups place.0 g.group place.1 in
      record {
        place = place.0;
        low = omega arith;
        high = omega (arith, lt, all);
        one = g.group;
        stands = place.1;
        is = record { path = w; carrier = g.carrier; number = g.number; kind = g.kind; reverse = g.reverse };
      }

  -- where no class of seats may be open there is none
  pub class_closed : (known : Fitting) → AreTailFits j.bucket.now j.tails.now known → known.whole ≡ 0 → ⊥
  class_closed known fits none =
      let k = j.bucket.now in
      let place = in_got j.tails.now w.tail w.one_of in
      let lt = got_within j.tails.now place.0 w.tail place.1 in
      let many = fits.many in
      let fit = got_some known.tails.items place.0 (omega (arith, lt, many)) in
      let one = fits.each place.0 w.tail fit.0 place.1 fit.1 in
      let low = class_low (book_of k) (request_of k) k.at.now o price x limited in
      let open_class = both_classes k w.head w.tail w.follows own limited o price x w.numbers is in
      none_set x.piece.fare.class (subst (λ m. IsBitSet m x.piece.fare.class) none (one.among x.piece.fare.class low (one.classes w.head w.within w.follows x.piece.fare.class low open_class)))
