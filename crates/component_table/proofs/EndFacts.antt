-- The paths of a bucket and of the tails that end at one place, and those of a bucket: each is of a class, and of an end.
use Rattle.std.proofs.Common.{◌≡◌, ℕ, ◌<◌, ◌≤◌, List, [], length, slice_get, Some, sym, ap, subst, ◌∙◌, inl, inr, arith}
use Rattle.component_table.specs.declared.slice_tails.SliceTails.{SliceTails}
use Rattle.component_table.specs.Crossings.{BucketPaths, ClassPaths, EndPaths, IsSliceTails}
use Rattle.component_table.proofs.Components.{its_group, tail_open}
use Rattle.component_table.proofs.PairFacts.{book_of, key_of, request_of}
use Rattle.fare_book.specs.Keeping.{Limited}
use Rattle.fare_ends.specs.declared.ends.FareEnds.{FareEnds}
use Rattle.fare_ends.specs.Ends.{HasWay, IsFareEnd, between, KnowsMore}
use Rattle.fare_ends.proofs.EndFacts.{knows_on}
use Rattle.fare_law.specs.Lists.{IsIn, IsPrefix}
use Rattle.flight_paths.specs.declared.positions.Path.{Path}
use Rattle.joint_paths.specs.declared.buckets.Bucket.{Bucket}
use Rattle.joint_paths.specs.declared.join_ends.JoinEnd.{JoinEnd}
use Rattle.joint_paths.specs.declared.join_ends.JoinKey.{JoinKey}
use Rattle.joint_paths.specs.declared.join_ends.JoinRange.{JoinRange}
use Rattle.joint_paths.specs.declared.tail_classes.TailClass.{TailClass}
use Rattle.joint_paths.specs.declared.tail_classes.TailEnd.{TailEnd}
use Rattle.joint_paths.specs.Heads.{FollowsOn, IsBucket, IsHeadOf}
use Rattle.joint_paths.specs.JoinEnds.{AreFareJoins, IsJoinEnd, IsJoinedOrLacks}
use Rattle.joint_paths.specs.Tails.{IsJoinTail, IsTailClass, IsTailEnd, IsTailOf, StandsInClass}
use Rattle.joint_paths.proofs.Ranged.{got_between, in_between, of_between}
use Rattle.component_table.specs.declared.begun.Known.{Known}
use Rattle.component_table.specs.Begun.{StaysKnown}
use Rattle.component_table.proofs.Added.{IsOfOne}
use Rattle.law_lemmas.proofs.EachOne.{each_in}
use Rattle.law_lemmas.proofs.Lists.{prefix_trans}
use Rattle.law_lemmas.proofs.Members.{got_in, in_got}
use Rattle.outlines.specs.declared.outline.Outline.{Outline}
use Rattle.outlines.specs.Outlines.{Outlined}

-- the key by which ends of a bucket are asked for
abbrev pub join_key : Bucket → JoinKey
join_key k = record { place = k.at.now.place; carrier = k.carrier }

-- those of an end are of its classes
pub end_classes : (k : Bucket) (t : SliceTails) (e : JoinEnd) (o : Outline) (ns : List ℕ) → EndPaths k t e o ns → IsOfOne (ClassPaths k t) t.classes.classes.items e.from e.to o ns
end_classes k t e o ns w =
    let place = of_between t.classes.classes.items e.from e.to w.one_of.class w.one_of.class_in in
    record {
      place = place.0;
      low = place.2;
      high = place.3;
      one = w.one_of.class;
      stands = place.1;
      is = record { head = w.head; within = w.within; tail = w.tail; one_of = w.one_of.tail_in; follows = w.follows; numbers = w.numbers; after = w.after };
    }

-- what is of one of some items is of one of more
pub one_wider : {X : Type 0} (kind : X → Outline → List ℕ → Type 0) (xs : List X) (from to wide : ℕ) → to ≤ wide → (o : Outline) (ns : List ℕ) → IsOfOne kind xs from to o ns → IsOfOne kind xs from wide o ns
one_wider kind xs from to wide le o ns w = let h = w.high in record { place = w.place; low = w.low; high = omega (arith, h, le); one = w.one; stands = w.stands; is = w.is }

pub stays_on : (one two three : Known) → StaysKnown one two → StaysKnown two three → StaysKnown one three
stays_on one two three h k = record { fares = knows_on one.fares two.fares three.fares h.fares k.fares; outlines = prefix_trans one.outlines.of.items two.outlines.of.items three.outlines.of.items h.outlines k.outlines }

-- what was known stays known, and as more fares are known between
pub stays_grown : (zero one two three : Known) → StaysKnown zero one → KnowsMore one.fares two.fares → IsPrefix one.outlines.of.items two.outlines.of.items → StaysKnown two three → StaysKnown zero three
stays_grown zero one two three h fares outlines k = stays_on zero one three h (stays_on one two three (record { fares = fares; outlines = outlines }) k)

module _ (k : Bucket) (t : SliceTails) (fares : FareEnds) (is : IsSliceTails (book_of k) (request_of k) fares t) where
  -- what is known of the classes and ends
  pub class_at : (n : ℕ) (c : TailClass) → slice_get t.classes.classes.items n ≡ Some c → IsTailClass (book_of k) (request_of k) t.paths t.classes.tails.items c
  class_at n c e = each_in (IsTailClass (book_of k) (request_of k) t.paths t.classes.tails.items) t.classes.classes.items c is.classes.classes (got_in t.classes.classes.items n c e)

  end_of : (e : TailEnd) → IsIn e t.classes.ends.items → IsTailEnd t.classes.classes.items e
  end_of e i = each_in (IsTailEnd t.classes.classes.items) t.classes.ends.items e is.classes.ends i

  module _ (e : JoinEnd) (join : IsJoinEnd (book_of k) fares t.classes.ends.items (join_key k) e) where
    pub end_within : e.to ≤ length t.classes.classes.items
    end_within = subst (λ n. n ≤ length t.classes.classes.items) (sym join.to) (end_of join.of join.within).range.within

    -- a class of an end has its fares
    pub class_end : (n : ℕ) (c : TailClass) → e.from ≤ n → n < e.to → slice_get t.classes.classes.items n ≡ Some c → IsFareEnd (book_of k) (key_of k c.end) fares e.end
    class_end n c low high there =
        let own = end_of join.of join.within in
        let same : c.end ≡ join.of.place = each_in (λ (x : TailClass). x.end ≡ join.of.place) (between t.classes.classes.items join.of.from join.of.to) c own.each
        (got_between t.classes.classes.items join.of.from join.of.to n c there (subst (λ m. m ≤ n) join.from low) (subst (λ m. n < m) join.to high)) in
        subst (λ p. IsFareEnd (book_of k) (key_of k p) fares e.end) (sym same) join.is

  module _ (bucket : IsBucket k) (paths : k.paths.now ≡ t.paths) (limited : Limited (book_of k)) (r : JoinRange) (joins : AreFareJoins (book_of k) fares t.classes.ends.items (join_key k) r t.joins.ends.items) where
    -- those of a bucket are of its ends
    pub bucket_ends : (o : Outline) (price : ℕ) (x : Outlined (book_of k) (request_of k) k.at.now o price) → BucketPaths k o x.numbers → IsOfOne (EndPaths k t) t.joins.ends.items r.from r.to o x.numbers
    bucket_ends o price x w = by (each_in (IsJoinedOrLacks (book_of k) fares (join_key k) (between t.joins.ends.items r.from r.to)) t.classes.ends.items s.end joins.all s.end_in)
      where
        tail : Path
        tail = w.goes.tail_path

        place : (n : ℕ) × (slice_get k.paths.now n ≡ Some tail)
        place = in_got k.paths.now tail ((bucket.tails.are tail).1 (w.goes.follows.flights, w.goes.follows.is_tail))

        s : StandsInClass t.classes place.0
        s = is.classes.all place.0 tail (ap (λ ps. slice_get ps place.0) (sym paths) ∙ place.1) (tail_open (book_of k) (request_of k) k.at.now w.goes.head_path tail w.goes.follows limited o price x w.goes.numbers)

        follows : FollowsOn k w.head s.tail
        follows = record { head_path = w.goes.head_path; head_is = w.goes.head_is; tail_path = tail; stands = ap (slice_get k.paths.now) s.number ∙ place.1; follows = w.goes.follows }

        known_class : IsTailClass (book_of k) (request_of k) t.paths t.classes.tails.items s.class
        known_class = each_in (IsTailClass (book_of k) (request_of k) t.paths t.classes.tails.items) t.classes.classes.items s.class is.classes.classes (in_between t.classes.classes.items s.end.from s.end.to s.class s.class_in)

        both : IsJoinTail (book_of k) (request_of k) t.paths s.tail × IsTailOf (book_of k) t.paths s.class s.tail
        both = each_in (λ y. IsJoinTail (book_of k) (request_of k) t.paths y × IsTailOf (book_of k) t.paths s.class y) (between t.classes.tails.items s.class.from s.class.to) s.tail known_class.each s.tail_in

        own : IsHeadOf (book_of k) (request_of k) k.at.now k.carrier k.first w.head
        own = each_in (IsHeadOf (book_of k) (request_of k) k.at.now k.carrier k.first) k.heads.now w.head bucket.heads w.within

        same : s.class.end ≡ s.end.place
        same = each_in (λ (c : TailClass). c.end ≡ s.end.place) (between t.classes.classes.items s.end.from s.end.to) s.class (end_of s.end s.end_in).each s.class_in

        by : IsJoinedOrLacks (book_of k) fares (join_key k) (between t.joins.ends.items r.from r.to) s.end → IsOfOne (EndPaths k t) t.joins.ends.items r.from r.to o x.numbers
        by (inl (j, i, from, to)) =
            let at = of_between t.joins.ends.items r.from r.to j i in
            record {
              place = at.0;
              low = at.2;
              high = at.3;
              one = j;
              stands = at.1;
              is = record {
                head = w.head;
                within = w.within;
                tail = s.tail;
                one_of = record { class = s.class; class_in = subst (λ m. IsIn s.class (between t.classes.classes.items j.from m)) (sym to) (subst (λ n. IsIn s.class (between t.classes.classes.items n s.end.to)) (sym from) s.class_in); tail_in = s.tail_in };
                follows = follows;
                numbers = w.goes.numbers;
                after = w.goes.after;
              };
            }
        by (inr lacks) = absurd ((its_group k w.head s.tail follows own limited o price x w.goes.numbers s.class (subst (λ ps. IsJoinTail (book_of k) (request_of k) ps s.tail) (sym paths) both.0) (subst (λ ps. IsTailOf (book_of k) ps s.class s.tail) (sym paths) both.1)
            fares [] (subst (λ p. HasWay (book_of k) (key_of k p) fares o.reverse []) (sym same) (lacks o.reverse))).within)
