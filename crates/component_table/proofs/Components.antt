-- A component on a head of a bucket and a tail of a class: where its fare is filed, of which carrier it is, and which classes of seats are open.
use Rattle.std.proofs.Common.{◌≡◌, ◌≢◌, ℕ, List, [], ◌∷◌, ◌++◌, IsBitSet, bit_and, refl, sym, ap, subst, ◌∙◌, inl, inr}
use Rattle.component_table.proofs.PairFacts.{book_of, both_ends, both_first, both_flights, both_legs, both_over, both_path, key_of, request_of}
use Rattle.component_table.proofs.PairPaths.{head_numbers, pair_departs, pair_of, tail_numbers}
use Rattle.fare_book.specs.Keeping.{Limited}
use Rattle.fare_ends.specs.declared.ends.EndGroup.{EndGroup}
use Rattle.fare_ends.specs.declared.ends.FareEnds.{FareEnds}
use Rattle.fare_ends.specs.Ends.{HasWay}
use Rattle.fare_ends.proofs.LegFacts.{legs_exist}
use Rattle.fare_groups.specs.declared.group.GroupKey.{GroupKey}
use Rattle.fare_groups.proofs.Bits.{both_set}
use Rattle.fare_law.specs.declared.requests.Request.{Request}
use Rattle.fare_law.specs.Book.{Book}
use Rattle.fare_law.specs.Lists.{IsIn, OnFirst, OnLast}
use Rattle.flight_paths.specs.declared.positions.Path.{Path}
use Rattle.flight_paths.specs.declared.positions.Position.{Position}
use Rattle.flight_paths.specs.Heads.{Follows}
use Rattle.joint_paths.specs.declared.buckets.Bucket.{Bucket}
use Rattle.joint_paths.specs.declared.crossing_heads.CrossingHead.{CrossingHead}
use Rattle.joint_paths.specs.declared.tail_classes.JoinTail.{JoinTail}
use Rattle.joint_paths.specs.declared.tail_classes.TailClass.{TailClass}
use Rattle.joint_paths.specs.Heads.{FollowsOn, IsHeadOf}
use Rattle.joint_paths.specs.Tails.{IsJoinTail, IsOpen, IsTailOf}
use Rattle.component_table.proofs.CarrierFacts.{transfers_first}
use Rattle.component_table.proofs.FiledFacts.{filed_some}
use Rattle.component_table.proofs.OpenFacts.{class_low, class_open}
use Rattle.outlines.specs.declared.outline.Outline.{Outline}
use Rattle.outlines.specs.ByGroups.{IsCovered}
use Rattle.outlines.specs.Outlines.{Outlined}
use Rattle.outlines.proofs.ByGroups.{groups_cover}
use Rattle.fare_ends.specs.Legs.{HasLegs}
use Rattle.fare_ends.proofs.OpenClasses.{legs_of_both}
use Rattle.residual_keys.proofs.OneNext.{first_one, last_one}

first_some : {X : Type 0} (P : X → Type 0) (xs : List X) → OnFirst P xs → xs ≢ []
first_some P [] h = λ e. h
first_some P (x ∷ xs) h = λ e. cc

-- one of some groups has the component's carrier, rule number, kind and direction
pub record HasItsGroup (o : Outline) (groups : List EndGroup) : Type 0 where
  pub group : EndGroup
  pub within : IsIn group groups
  pub carrier : o.carrier ≡ group.key.carrier
  pub number : o.number ≡ group.key.number
  pub kind : o.kind ≡ group.key.kind
  pub reverse : o.reverse ≡ group.reverse

-- On the flights of a head and of a tail its class of seats is open, on each.
module _ (b : Book) (q : Request) (at : Position) (head tail : Path) (f : Follows b q.slices at head tail) (limited : Limited b) (o : Outline) (price : ℕ) (x : Outlined b q at o price) (numbers : x.numbers ≡ head.flights ++ tail.flights) where
  both_open : (here : (classes : ℕ) × HasLegs b q f.crossing.flights classes) (there : (classes : ℕ) × HasLegs b q f.flights classes) → IsBitSet here.0 x.piece.fare.class × IsBitSet there.0 x.piece.fare.class
  both_open here there =
      let legs = legs_of_both b q f.crossing.flights f.flights here.0 there.0 here.1 there.1 in
      (both_set here.0 there.0 x.piece.fare.class).0 (class_open b q at o price x limited (bit_and here.0 there.0) (subst (λ fs. HasLegs b q fs (bit_and here.0 there.0)) (sym (pair_of b q at head tail f o price x numbers)) legs))

  pub head_open : IsOpen b q head
  head_open =
      let legs = legs_exist b q f.crossing.flights in
      record {
        flights = f.crossing.flights;
        numbers = head_numbers b q at head tail f;
        classes = legs.0;
        legs = legs.1;
        class = x.piece.fare.class;
        low = class_low b q at o price x limited;
        open_class = (both_open legs (legs_exist b q f.flights)).0;
      }

  pub tail_open : IsOpen b q tail
  tail_open =
      let legs = legs_exist b q f.flights in
      record {
        flights = f.flights;
        numbers = tail_numbers b q at head tail f;
        classes = legs.0;
        legs = legs.1;
        class = x.piece.fare.class;
        low = class_low b q at o price x limited;
        open_class = (both_open (legs_exist b q f.crossing.flights) legs).1;
      }

module _ (k : Bucket) (h : CrossingHead) (t : JoinTail) (f : FollowsOn k h t) (own : IsHeadOf (book_of k) (request_of k) k.at.now k.carrier k.first h) (limited : Limited (book_of k)) (o : Outline) (price : ℕ) (x : Outlined (book_of k) (request_of k) k.at.now o price) (numbers : x.numbers ≡ f.head_path.flights ++ f.tail_path.flights) where
  same : x.flights ≡ both_flights k h t f
  same = pair_of (book_of k) (request_of k) k.at.now f.head_path f.tail_path f.follows o price x numbers

  -- its fare is of the carrier of the bucket
  carried : o.carrier ≡ k.carrier
  carried =
      let first = both_first k h t f own in
      let fare = subst (OnFirst (λ y. y.carrier ≡ x.piece.fare.key.carrier)) same (transfers_first x.piece.rule x.piece.fare.key.carrier x.flights (subst (λ fs. fs ≢ []) (sym same) (first_some (λ y. (y.carrier ≡ k.carrier) × (y.day ≡ k.first)) (both_flights k h t f) first)) x.lawful.transfers) in
      x.outline.carrier ∙ first_one (λ y. y.carrier ≡ x.piece.fare.key.carrier) (λ y. (y.carrier ≡ k.carrier) × (y.day ≡ k.first)) (x.piece.fare.key.carrier ≡ k.carrier) (λ y u v. sym u ∙ v.0) (both_flights k h t f) fare first

  begins_here : x.piece.begin ≡ k.at.now.place
  begins_here = first_one (λ y. (x.piece.begin ≡ y.from) × (x.piece.first_day ≡ y.day)) (λ y. y.from ≡ k.at.now.place) (x.piece.begin ≡ k.at.now.place) (λ y u v. u.0 ∙ v) (both_flights k h t f)
      (subst (OnFirst (λ y. (x.piece.begin ≡ y.from) × (x.piece.first_day ≡ y.day))) same x.stands.begins) (pair_departs (book_of k) (request_of k) k.at.now f.head_path f.tail_path f.follows)

  -- among classes that are open on the head and the tail is its own
  pub both_classes : IsJoinTail (book_of k) (request_of k) k.paths.now t → IsBitSet (bit_and h.classes t.classes) x.piece.fare.class
  both_classes is = class_open (book_of k) (request_of k) k.at.now o price x limited (bit_and h.classes t.classes) (subst (λ fs. HasLegs (book_of k) (request_of k) fs (bit_and h.classes t.classes)) (sym same) (both_legs k h t f is))

  module _ (c : TailClass) (is : IsJoinTail (book_of k) (request_of k) k.paths.now t) (of : IsTailOf (book_of k) k.paths.now c t) where
    ends_there : x.piece.end ≡ c.end
    ends_there = last_one (λ y. (x.piece.end ≡ y.to) × (x.piece.last_day ≡ y.day)) (λ y. (y.to ≡ c.end) × (y.day ≡ c.last)) (x.piece.end ≡ c.end) (λ y u v. u.0 ∙ v.0) (both_flights k h t f)
        (subst (OnLast (λ y. (x.piece.end ≡ y.to) × (x.piece.last_day ≡ y.day))) same x.stands.ends) (both_ends k h t f c of)

    -- so its group is among those of the bucket's carrier that are filed for the class
    pub its_group : (fares : FareEnds) (groups : List EndGroup) → HasWay (book_of k) (key_of k c.end) fares o.reverse groups → HasItsGroup o groups
    its_group fares groups (inl none) = absurd (filed_some (book_of k) (request_of k) k.at.now o price x k.at.now.place c.end begins_here ends_there none)
    its_group fares groups (inr s) =
        let legs = both_legs k h t f is in
        let over = both_over k h t f c of legs limited o.reverse s.sheet s.of_sheet s.sheet_is in
        let cover : IsCovered (book_of k) (both_path k h t f) (both_flights k h t f) (bit_and h.classes t.classes) o.reverse s.of_sheet o price =
        groups_cover (book_of k) (request_of k) k.at.now (both_path k h t f) (both_flights k h t f) legs.legs (bit_and h.classes t.classes) o.reverse s.sheet s.of_sheet over o price x numbers refl in
        let g = s.all cover.group cover.within (sym cover.outline.carrier ∙ carried) in
        record {
          group = g.0;
          within = g.1;
          carrier = cover.outline.carrier ∙ ap (λ (y : GroupKey). y.carrier) (sym g.2.key);
          number = cover.outline.number ∙ ap (λ (y : GroupKey). y.number) (sym g.2.key);
          kind = cover.outline.kind ∙ ap (λ (y : GroupKey). y.kind) (sym g.2.key);
          reverse = sym g.2.way;
        }
