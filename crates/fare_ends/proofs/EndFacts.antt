-- Ends stay known as more of them are found.
use Rattle.std.proofs.Common.{◌≡◌, ℕ, Bool, true, false, List, [], ◌∷◌, ◌++◌, length, sym, ap, subst, ◌∙◌, inl, inr}
use Rattle.std.specs.List.Sorted.{IsPermutation}
use Rattle.fare_ends.specs.declared.ends.EndGroup.{EndGroup}
use Rattle.fare_ends.specs.declared.ends.EndKey.{EndKey}
use Rattle.fare_ends.specs.declared.ends.FareEnd.{FareEnd}
use Rattle.fare_ends.specs.declared.ends.FareEnds.{FareEnds}
use Rattle.fare_ends.specs.declared.ends.KeptEnd.{KeptEnd}
use Rattle.fare_ends.specs.declared.rule_numbers.KnownRule.{KnownRule}
use Rattle.fare_ends.specs.Ends.{AreFareEnds, HasWay, IsEndGroup, IsFareEnd, IsOneOfEnd, IsRange, KeepsEnds, KnowsMore, between}
use Rattle.fare_ends.specs.Rules.{AreKnownRules, RuleStands}
use Rattle.fare_ends.specs.Rungs.{AreRungs}
use Rattle.fare_ends.proofs.Ranges.{between_last, between_more, got_more, range_last, range_more}
use Rattle.fare_ends.proofs.Reordered.{each_reordered, in_reordered}
use Rattle.fare_groups.specs.declared.group.FareGroup.{FareGroup}
use Rattle.fare_law.specs.declared.names.Carrier.{Carrier}
use Rattle.fare_law.specs.Book.{Book}
use Rattle.fare_law.specs.Lists.{Each, IsIn, IsPrefix}
use Rattle.law_lemmas.proofs.EachOne.{each_by, each_more}
use Rattle.law_lemmas.proofs.Lists.{prefix_self, prefix_trans}
use Rattle.law_lemmas.proofs.Members.{in_left}

pub rule_more : (rules more : List KnownRule) (carrier : Carrier) (number at : ℕ) → IsPrefix rules more → RuleStands rules carrier number at → RuleStands more carrier number at
rule_more rules more carrier number at p s = record { rule = s.rule; stands = got_more rules more at s.rule p s.stands; carrier_is = s.carrier_is; number_is = s.number_is }

pub knows_self : (known : FareEnds) → KnowsMore known known
knows_self known = record { groups = prefix_self known.groups.items; rungs = prefix_self known.rungs.items; rules = prefix_self known.rules.of.items }

pub knows_on : (a b c : FareEnds) → KnowsMore a b → KnowsMore b c → KnowsMore a c
knows_on a b c h k = record {
  groups = prefix_trans a.groups.items b.groups.items c.groups.items h.groups k.groups;
  rungs = prefix_trans a.rungs.items b.rungs.items c.rungs.items h.rungs k.rungs;
  rules = prefix_trans a.rules.of.items b.rules.of.items c.rules.of.items h.rules k.rules;
}

module _ (b : Book) (key : EndKey) (old new : FareEnds) (more : KnowsMore old new) where
  pub group_more : (reverse : Bool) (group : FareGroup) (g : EndGroup) → IsEndGroup old reverse group g → IsEndGroup new reverse group g
  group_more reverse group g h = record {
    key = h.key;
    way = h.way;
    range = range_more old.rungs.items new.rungs.items g.from g.to more.rungs h.range;
    rungs = subst (AreRungs group.fares) (sym (between_more old.rungs.items new.rungs.items g.from g.to more.rungs h.range)) h.rungs;
    rule = rule_more old.rules.of.items new.rules.of.items group.key.carrier group.key.number g.rule more.rules h.rule;
  }

  pub one_more : (g : EndGroup) → IsOneOfEnd b key old g → IsOneOfEnd b key new g
  one_more g h = record { sheet = h.sheet; groups = h.groups; sheet_is = h.sheet_is; group = h.group; within = h.within; carrier = h.carrier; is = group_more g.reverse h.group g h.is }

  -- and among more groups
  pub way_more : (reverse : Bool) (groups wider : List EndGroup) → ((g : EndGroup) → IsIn g groups → IsIn g wider) → HasWay b key old reverse groups → HasWay b key new reverse wider
  way_more reverse groups wider among (inl none) = inl none
  way_more reverse groups wider among (inr s) = inr (record {
    sheet = s.sheet;
    of_sheet = s.of_sheet;
    sheet_is = s.sheet_is;
    all = λ group i own. let x = s.all group i own in (x.0, among x.0 x.1, group_more reverse group x.0 x.2);
  })

  pub end_more : (e : FareEnd) → IsFareEnd b key old e → IsFareEnd b key new e
  end_more e h =
      let same = between_more old.groups.items new.groups.items e.from e.to more.groups h.range in
      record {
        range = range_more old.groups.items new.groups.items e.from e.to more.groups h.range;
        each = subst (Each (IsOneOfEnd b key new)) (sym same) (each_by (IsOneOfEnd b key old) (IsOneOfEnd b key new) (between old.groups.items e.from e.to) one_more h.each);
        ways = λ reverse. way_more reverse (between old.groups.items e.from e.to) (between new.groups.items e.from e.to) (λ g i. subst (IsIn g) (sym same) i) (h.ways reverse);
      }

-- all ends stay known
pub ends_more : (b : Book) (old new : FareEnds) → KnowsMore old new → (kept : List KeptEnd) → Each (λ (k : KeptEnd). IsFareEnd b k.key old k.end) kept → Each (λ (k : KeptEnd). IsFareEnd b k.key new k.end) kept
ends_more b old new more kept h = each_by (λ (k : KeptEnd). IsFareEnd b k.key old k.end) (λ (k : KeptEnd). IsFareEnd b k.key new k.end) kept (λ k. end_more b k.key old new more k.end) h

-- the ends that were known are known still
pub kept_on : (b : Book) (old new : FareEnds) → AreFareEnds b old → KeepsEnds old new → AreKnownRules b new.rules.of.items → AreFareEnds b new
kept_on b old new h keeps rules = record { ends = subst (Each (λ (k : KeptEnd). IsFareEnd b k.key new k.end)) (sym keeps.ends) (ends_more b old new keeps.more old.ends.items h.ends); rules = rules }

-- and one more of them
pub ends_added : (b : Book) (old new : FareEnds) (key : EndKey) (end : FareEnd) → AreFareEnds b old → KnowsMore old new → AreKnownRules b new.rules.of.items → IsFareEnd b key new end → new.ends.items ≡ old.ends.items ++ record { key = key; end = end } ∷ [] → AreFareEnds b new
ends_added b old new key end h more rules is e = record {
  ends = subst (Each (λ (k : KeptEnd). IsFareEnd b k.key new k.end)) (sym e) (each_more (λ (k : KeptEnd). IsFareEnd b k.key new k.end) old.ends.items (record { key = key; end = end }) (ends_more b old new more old.ends.items h.ends) is);
  rules = rules;
}

-- the groups that were found both ways, in another order behind those of other ends
pub end_made : (b : Book) (key : EndKey) (one two three : FareEnds) (some found sorted : List EndGroup) (from to : ℕ) → HasWay b key one false some → KnowsMore one two → IsPrefix some found → HasWay b key two true found → Each (IsOneOfEnd b key two) found → IsPermutation found sorted
    → KnowsMore two three → three.groups.items ≡ two.groups.items ++ sorted → from ≡ length two.groups.items → to ≡ length three.groups.items → IsFareEnd b key three (record { from = from; to = to })
end_made b key one two three some found sorted from to there more prefix back each order on joined from_is to_is = record {
  range = subst (λ xs. IsRange xs from to) (sym joined) (range_last two.groups.items sorted from to from_is ends);
  each = subst (Each (IsOneOfEnd b key three)) (sym here) (each_reordered (IsOneOfEnd b key three) found sorted order (each_by (IsOneOfEnd b key two) (IsOneOfEnd b key three) found (one_more b key two three on) each));
  ways = ways;
}
  where
    ends : to ≡ length (two.groups.items ++ sorted)
    ends = to_is ∙ ap length joined

    here : between three.groups.items from to ≡ sorted
    here = ap (λ xs. between xs from to) joined ∙ between_last two.groups.items sorted from to from_is ends

    among : (g : EndGroup) → IsIn g found → IsIn g (between three.groups.items from to)
    among g i = subst (IsIn g) (sym here) (in_reordered found sorted g order i)

    first : (g : EndGroup) → IsIn g some → IsIn g (between three.groups.items from to)
    first g i = among g (subst (IsIn g) (sym prefix.1) (in_left g some prefix.0 i))

    ways : (reverse : Bool) → HasWay b key three reverse (between three.groups.items from to)
    ways false = way_more b key one three (knows_on one two three more on) false some (between three.groups.items from to) first there
    ways true = way_more b key two three on true found (between three.groups.items from to) among back
