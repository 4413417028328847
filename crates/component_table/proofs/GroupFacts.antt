-- What a group costs on the paths of a bucket and a class, as outlines of the position. Both ways: what it costs some component costs, and no component of it is missed.
use Rattle.std.proofs.Common.{◌≡◌, ℕ, ◌+◌, ◌≤◌, pos, List, [], ◌∷◌, ◌++◌, slice_get, Option, None, Some, bit_and, refl, sym, ap, ap₂, subst, ◌∙◌, inl}
use Rattle.component_table.specs.Crossings.{GroupPaths, IsOutlineOfBoth, TailPaths}
use Rattle.component_table.proofs.Added.{adds_none}
use Rattle.component_table.proofs.PairFacts.{book_of, both_ends, both_first, both_flights, both_legs, both_outline, both_over, both_path, key_of, request_of}
use Rattle.component_table.proofs.PairPaths.{head_numbers, pair_path, tail_numbers}
use Rattle.component_table.proofs.PathGroups.{first_within, flights_within, last_within, outline_one, same_key}
use Rattle.fare_book.specs.Keeping.{Limited}
use Rattle.fare_ends.specs.declared.ends.EndGroup.{EndGroup}
use Rattle.fare_ends.specs.declared.rule_numbers.KnownRule.{KnownRule}
use Rattle.fare_ends.specs.Ends.{IsOneOfEnd, between}
use Rattle.fare_ends.specs.Rules.{IsKnownRule}
use Rattle.fare_groups.specs.declared.group.GroupKey.{GroupKey}
use Rattle.fare_groups.specs.declared.rungs.Rung.{Rung}
use Rattle.fare_groups.specs.Grouping.{first_share}
use Rattle.fare_groups.specs.Groups.{Permits, extra_of}
use Rattle.fare_law.specs.declared.flights.Flight.{Flight}
use Rattle.fare_law.specs.declared.names.Carrier.{Carrier}
use Rattle.fare_law.specs.declared.requests.Request.{Request}
use Rattle.fare_law.specs.declared.rules.Rule.{Rule}
use Rattle.fare_law.specs.Book.{Book, live_rule}
use Rattle.fare_law.specs.Limits.{IsFlight}
use Rattle.fare_law.specs.Lists.{Each, IsIn}
use Rattle.fare_law.specs.Parts.{Numbers}
use Rattle.joint_paths.specs.declared.buckets.Bucket.{Bucket}
use Rattle.joint_paths.specs.declared.crossing_heads.CrossingHead.{CrossingHead}
use Rattle.joint_paths.specs.declared.tail_classes.JoinTail.{JoinTail}
use Rattle.joint_paths.specs.declared.tail_classes.TailClass.{TailClass}
use Rattle.joint_paths.specs.Costs.{CostsLeast, CostsOnOne}
use Rattle.joint_paths.specs.Heads.{FollowsOn, IsHeadOf}
use Rattle.joint_paths.specs.Tails.{IsJoinTail, IsTailOf}
use Rattle.joint_paths.specs.declared.joining.Joint.{Joint}
use Rattle.joint_paths.specs.Joins.{IsJoint, IsOwnGroup, PathsOf}
use Rattle.component_table.specs.Tables.{AddsThose, IsEntry}
use Rattle.component_table.proofs.FiledFacts.{one_group}
use Rattle.component_table.proofs.GroupCosts.{costs_outlined, covered_costs}
use Rattle.law_lemmas.proofs.EachOne.{each_got, each_in}
use Rattle.law_lemmas.proofs.LawFacts.{numbers_one}
use Rattle.law_lemmas.proofs.Lists.{got_within}
use Rattle.law_lemmas.proofs.Numbers.{le_on}
use Rattle.law_lemmas.proofs.Options.{some_one}
use Rattle.outline_tables.specs.declared.outline_numbers.Priced.{Priced}
use Rattle.outline_tables.specs.declared.outline_numbers.RuledOutline.{RuledOutline}
use Rattle.outline_tables.specs.Numbers.{AreRuled, OutlineStands, entries_of, entry_at}
use Rattle.outline_tables.proofs.NumberFacts.{entries_last}
use Rattle.outlines.specs.declared.outline.Outline.{Outline}
use Rattle.outlines.specs.ByGroups.{IsCovered, OutlineOver, OverMarket}
use Rattle.outlines.specs.Outlines.{Outlined}
use Rattle.outlines.proofs.ByGroups.{groups_cover}
use Rattle.fare_ends.specs.Floors.{CostsOn, OpenPath}
use Rattle.fare_ends.specs.Legs.{HasLegs}
use Rattle.residual_keys.proofs.Runs.{flies_numbers}
use Rattle.fare_rules.specs.Ranges.{IsDayWithin}

-- a group costs the same on paths that have the same flights and classes
costs_like : (rule : Rule) (carrier : Carrier) (shares : ℕ → Option ℕ) (p r : OpenPath) (price : ℕ) → p.flights ≡ r.flights → p.classes ≡ r.classes → CostsOn rule carrier shares p price → CostsOn rule carrier shares r price
costs_like rule carrier shares p r price e d c = record {
  permits = subst (Permits rule carrier) e c.permits;
  share = c.share;
  open_share = ap shares (sym d) ∙ c.open_share;
  price_is = c.price_is ∙ ap (λ fs. c.share + extra_of rule fs) e;
}

module _ (j : Joint) (c : TailClass) (g : EndGroup) (joint : IsJoint j) (tails : Each (IsTailOf (book_of j.bucket.now) j.bucket.now.paths.now c) j.tails.now) (one : IsOneOfEnd (book_of j.bucket.now) (key_of j.bucket.now c.end) j.fares.now g) (limited : Limited (book_of j.bucket.now)) where
  known_rule : (rule : KnownRule) → slice_get j.fares.now.rules.of.items g.rule ≡ Some rule → IsKnownRule (book_of j.bucket.now) rule
  known_rule rule stands = each_got (IsKnownRule (book_of j.bucket.now)) j.fares.now.rules.of.items g.rule rule joint.rules stands

  -- the group is one of the bucket's carrier
  pub own_group : IsOwnGroup j g
  own_group =
      let r = one.is.rule in
      let k = known_rule r.rule r.stands in
      record {
        range = one.is.range;
        fares = one.group.fares;
        rungs = one.is.rungs;
        rule = r.rule;
        stands = r.stands;
        own = record { free = k.free; limits = limited.rules r.rule.carrier r.rule.number r.rule.rule k.live; carrier = r.carrier_is ∙ one.carrier };
      }

  module _ (rule : KnownRule) (stands : slice_get j.fares.now.rules.of.items g.rule ≡ Some rule) where
    abbrev rungs_of : List Rung
    rungs_of = between j.fares.now.rungs.items g.from g.to

    -- its rule is the live one of its outline
    pub outline_live : (made : Outline) → IsOutlineOfBoth j.bucket.now c g made → live_rule (book_of j.bucket.now) made.carrier made.number ≡ Some rule.rule
    outline_live made is =
        let r = one.is.rule in
        let same = some_one (slice_get j.fares.now.rules.of.items g.rule) r.rule rule r.stands stands in
        let carrier : rule.carrier ≡ made.carrier = ap (λ (y : KnownRule). y.carrier) (sym same) ∙ r.carrier_is ∙ sym (is.carrier ∙ ap (λ (y : GroupKey). y.carrier) one.is.key) in
        let number : rule.number ≡ made.number = ap (λ (y : KnownRule). y.number) (sym same) ∙ r.number_is ∙ sym (is.number ∙ ap (λ (y : GroupKey). y.number) one.is.key) in
        subst (λ n. live_rule (book_of j.bucket.now) made.carrier n ≡ Some rule.rule) number (subst (λ y. live_rule (book_of j.bucket.now) y rule.number ≡ Some rule.rule) carrier (known_rule rule stands).live)

    -- a head and a tail of the bucket and the class, with what is known of them
    record Met (h : CrossingHead) (t : JoinTail) : Type 0 where
      own : IsHeadOf (book_of j.bucket.now) (request_of j.bucket.now) j.bucket.now.at.now j.bucket.now.carrier j.bucket.now.first h
      is : IsJoinTail (book_of j.bucket.now) (request_of j.bucket.now) j.bucket.now.paths.now t
      of : IsTailOf (book_of j.bucket.now) j.bucket.now.paths.now c t

    met : (h : CrossingHead) (t : JoinTail) → IsIn h j.bucket.now.heads.now → IsIn t j.tails.now → Met h t
    met h t i m = record {
      own = each_in (IsHeadOf (book_of j.bucket.now) (request_of j.bucket.now) j.bucket.now.at.now j.bucket.now.carrier j.bucket.now.first) j.bucket.now.heads.now h joint.bucket.heads i;
      is = each_in (IsJoinTail (book_of j.bucket.now) (request_of j.bucket.now) j.bucket.now.paths.now) j.tails.now t joint.tails m;
      of = each_in (IsTailOf (book_of j.bucket.now) j.bucket.now.paths.now c) j.tails.now t tails m;
    }

    -- what it costs on one of the paths some component costs
    pub group_gives : (o : Outline) (price : ℕ) → IsOutlineOfBoth j.bucket.now c g o → CostsOnOne rule rungs_of (PathsOf j j.tails.now) price → Outlined (book_of j.bucket.now) (request_of j.bucket.now) j.bucket.now.at.now o price
    group_gives o price is s =
        let k = j.bucket.now in
        let m = s.one_of in
        let p = m.pair in
        let f = p.follows in
        let b = book_of k in
        let q = request_of k in
        let x = met m.head m.tail m.head_in m.tail_in in
        let legs = both_legs k m.head m.tail f x.is in
        let over = both_over k m.head m.tail f c x.of legs limited g.reverse one.sheet one.groups one.sheet_is in
        let front = numbers_one b f.head_path.flights p.head_flights f.follows.crossing.flights (subst (λ ns. Numbers b ns p.head_flights) (sym f.head_is.numbers) p.head_numbers) (head_numbers b q k.at.now f.head_path f.tail_path f.follows) in
        let back = numbers_one b f.tail_path.flights p.tail_flights f.follows.flights p.tail_numbers (tail_numbers b q k.at.now f.head_path f.tail_path f.follows) in
        let costs = costs_like rule.rule rule.carrier (first_share rungs_of) s.path (record { flights = both_flights k m.head m.tail f; classes = bit_and m.head.classes m.tail.classes }) price (p.flights ∙ ap₂ (λ xs ys. xs ++ ys) front back) p.classes s.costs in
        costs_outlined b q k.at.now (both_path k m.head m.tail f) (both_flights k m.head m.tail f) legs.legs (bit_and m.head.classes m.tail.classes) g.reverse one.sheet one.groups over j.fares.now one.group g one.is rule stands (known_rule rule stands) one.within price costs o
        (both_outline k m.head m.tail f c x.of x.own g one.group.key one.is.key o is)

    -- the days of the outline are of the calendar
    pub days_within : (o : Outline) (price : ℕ) → Each IsFlight (book_of j.bucket.now).timetable.flights → IsOutlineOfBoth j.bucket.now c g o → CostsOnOne rule rungs_of (PathsOf j j.tails.now) price → IsDayWithin (pos 99000) o.first × IsDayWithin (pos 99000) o.last
    days_within o price limits is s =
        let k = j.bucket.now in
        let m = s.one_of in
        let f = m.pair.follows in
        let x = met m.head m.tail m.head_in m.tail_in in
        let fs = both_flights k m.head m.tail f in
        let within = flights_within (book_of k) (f.head_path.flights ++ f.tail_path.flights) fs limits (flies_numbers (book_of k) (request_of k).slices (Some k.at.now) f.tail_path.after (f.head_path.flights ++ f.tail_path.flights) fs (pair_path (book_of k) (request_of k) k.at.now f.head_path f.tail_path f.follows).flies) in (
          first_within (λ y. (y.carrier ≡ k.carrier) × (y.day ≡ k.first)) o.first fs (λ y e. is.first ∙ sym e.1) within (both_first k m.head m.tail f x.own),
          last_within (λ y. (y.to ≡ c.end) × (y.day ≡ c.last)) o.last fs (λ y e. is.last ∙ sym e.1) within (both_ends k m.head m.tail f c x.of),
        )

    -- a component of the group has its outline, and the group costs no more on one of the paths
    record Covered (o : Outline) (price : ℕ) : Type 0 where
      outline : (made : Outline) → IsOutlineOfBoth j.bucket.now c g made → made ≡ o
      least : ℕ
      some : CostsOnOne rule rungs_of (PathsOf j j.tails.now) least
      below : least ≤ price

    group_covers : (o : Outline) (price : ℕ) (h : Outlined (book_of j.bucket.now) (request_of j.bucket.now) j.bucket.now.at.now o price) → GroupPaths j g o h.numbers → Covered o price
    group_covers o price h w = record {
      outline = λ made is. outline_one made o (both_path k x.head x.tail f).after fs one.group.key g.reverse (both_outline k x.head x.tail f c m.of m.own g one.group.key one.is.key made is) (subst (λ y. OutlineOver o (both_path k x.head x.tail f).after fs y g.reverse) own_key cover.outline);
      least = low.0;
      some = record {
        path = record { flights = fs; classes = bit_and x.head.classes x.tail.classes };
        one_of = record {
          head = x.head;
          head_in = x.within;
          tail = x.tail;
          tail_in = x.one_of;
          pair = record {
            follows = f;
            head_flights = f.follows.crossing.flights;
            head_numbers = subst (λ ns. Numbers b ns f.follows.crossing.flights) f.head_is.numbers (head_numbers b q k.at.now f.head_path f.tail_path f.follows);
            tail_flights = f.follows.flights;
            tail_numbers = tail_numbers b q k.at.now f.head_path f.tail_path f.follows;
            flights = refl;
            classes = refl;
          };
        };
        costs = low.1;
      };
      below = low.2;
    }
      where
        k : Bucket
        k = j.bucket.now

        b : Book
        b = book_of k

        q : Request
        q = request_of k

        x : TailPaths k j.tails.now o h.numbers
        x = w.path

        f : FollowsOn k x.head x.tail
        f = x.follows

        m : Met x.head x.tail
        m = met x.head x.tail x.within x.one_of

        fs : List Flight
        fs = both_flights k x.head x.tail f

        legs : HasLegs b q fs (bit_and x.head.classes x.tail.classes)
        legs = both_legs k x.head x.tail f m.is

        over : OverMarket b q k.at.now (both_path k x.head x.tail f) fs legs.legs (bit_and x.head.classes x.tail.classes) g.reverse one.sheet one.groups
        over = both_over k x.head x.tail f c m.of legs limited g.reverse one.sheet one.groups one.sheet_is

        cover : IsCovered b (both_path k x.head x.tail f) fs (bit_and x.head.classes x.tail.classes) g.reverse one.groups o price
        cover = groups_cover b q k.at.now (both_path k x.head x.tail f) fs legs.legs (bit_and x.head.classes x.tail.classes) g.reverse one.sheet one.groups over o price h x.numbers w.reverse

        own_key : cover.group.key ≡ one.group.key
        own_key = same_key cover.group.key one.group.key (sym cover.outline.carrier ∙ w.carrier ∙ ap (λ (y : GroupKey). y.carrier) one.is.key) (sym cover.outline.number ∙ w.number ∙ ap (λ (y : GroupKey). y.number) one.is.key) (sym cover.outline.kind ∙ w.kind ∙ ap (λ (y : GroupKey). y.kind) one.is.key)

        same : cover.group ≡ one.group
        same = one_group one.groups one.sheet_is.groups_are.apart cover.group one.group cover.within one.within own_key

        low : (least : ℕ) × CostsOn rule.rule rule.carrier (first_share rungs_of) (record { flights = fs; classes = bit_and x.head.classes x.tail.classes }) least × (least ≤ price)
        low = covered_costs b q k.at.now (both_path k x.head x.tail f) fs legs.legs (bit_and x.head.classes x.tail.classes) g.reverse one.sheet one.groups over j.fares.now one.group g one.is rule stands (known_rule rule stands) o price cover same

    -- where it costs nothing, it has no component
    pub group_none : (known : List RuledOutline) (table : List Priced) → CostsLeast rule rungs_of (PathsOf j j.tails.now) None → AddsThose (book_of j.bucket.now) (request_of j.bucket.now) j.bucket.now.at.now (GroupPaths j g) known table table
    group_none known table none = adds_none (book_of j.bucket.now) (request_of j.bucket.now) j.bucket.now.at.now (GroupPaths j g) known table (λ o price h w. let x = group_covers o price h w in none x.least x.some)

    -- its outline at the least price misses none of them
    pub group_added : (known : List RuledOutline) (number price : ℕ) (made : Outline) (old new : List Priced) → Each IsFlight (book_of j.bucket.now).timetable.flights → IsOutlineOfBoth j.bucket.now c g made → OutlineStands known made number → AreRuled (book_of j.bucket.now) known
        → CostsLeast rule rungs_of (PathsOf j j.tails.now) (Some price) → new ≡ old ++ record { outline = number; price = price } ∷ [] → AddsThose (book_of j.bucket.now) (request_of j.bucket.now) j.bucket.now.at.now (GroupPaths j g) known old new
    group_added known number price made old new limits is s ruled least joined = record {
      more = p ∷ [];
      joined = joined;
      has = record {
        numbers = (got_within known number s.one s.stands, tt);
        right = subst (Each (IsEntry b q j.bucket.now.at.now)) (sym entries) (right, tt);
        covers = λ o paid h w.
            let x = group_covers o paid h w in
            record {
              entry = entry_at price s.one;
              within = subst (IsIn (entry_at price s.one)) (sym entries) (inl refl);
              outline = s.is ∙ x.outline made is;
              below = le_on price x.least paid (least.floor x.some.path x.some.one_of x.least x.some.costs) x.below;
            };
      };
    }
      where
        b : Book
        b = book_of j.bucket.now

        q : Request
        q = request_of j.bucket.now

        p : Priced
        p = record { outline = number; price = price }

        entries : entries_of known (p ∷ []) ≡ entry_at price s.one ∷ []
        entries = entries_last known [] p s.one s.stands

        live : live_rule b s.one.outline.carrier s.one.outline.number ≡ Some s.one.rule
        live = each_got (λ (x : RuledOutline). live_rule b x.outline.carrier x.outline.number ≡ Some x.rule) known number s.one ruled s.stands

        days : IsDayWithin (pos 99000) s.one.outline.first × IsDayWithin (pos 99000) s.one.outline.last
        days = subst (λ (x : Outline). IsDayWithin (pos 99000) x.first × IsDayWithin (pos 99000) x.last) (sym s.is) (days_within made price limits is least.some)

        right : IsEntry b q j.bucket.now.at.now (entry_at price s.one)
        right = record {
          outlined = subst (λ x. Outlined b q j.bucket.now.at.now x price) (sym s.is) (group_gives made price is least.some);
          rule = live;
          within = record { first = days.0; last = days.1; rule = limited.rules s.one.outline.carrier s.one.outline.number s.one.rule live };
        }
