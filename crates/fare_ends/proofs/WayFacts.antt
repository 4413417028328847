-- The groups of a market that are filed one way, as they are found.
use Rattle.std.proofs.Common.{◌≡◌, ℕ, ◌+◌, Bool, List, [], ◌∷◌, ◌++◌, slice_get, Some, refl, sym, ap, subst, ◌∙◌, inl, inr}
use Rattle.fare_ends.specs.declared.ends.EndGroup.{EndGroup}
use Rattle.fare_ends.specs.declared.ends.EndWay.{EndWay}
use Rattle.fare_ends.specs.declared.ends.FareEnds.{FareEnds}
use Rattle.fare_ends.specs.declared.filed.Filed.{Filed}
use Rattle.fare_ends.specs.declared.markets.Market.{Market}
use Rattle.fare_ends.specs.declared.markets.MarketKey.{MarketKey}
use Rattle.fare_ends.specs.Ends.{HasGroupsUpTo, HasWay, IsEndGroup, IsOneOfEnd, IsSheetOfEnd, KeepsEnds}
use Rattle.fare_ends.specs.Markets.{AreMarkets, IsMarket}
use Rattle.fare_ends.specs.Reaches.{FiledAt, end_from, end_to}
use Rattle.fare_ends.specs.Rules.{AreKnownRules}
use Rattle.fare_ends.proofs.EndFacts.{group_more, knows_on, one_more}
use Rattle.fare_groups.specs.declared.group.FareGroup.{FareGroup}
use Rattle.fare_law.specs.Book.{Book}
use Rattle.fare_law.specs.Lists.{Each, IsPrefix}
use Rattle.fare_law.specs.Sheets.{Sheet, SheetOf}
use Rattle.law_lemmas.proofs.EachOne.{each_by, each_got, each_more}
use Rattle.law_lemmas.proofs.Lists.{prefix_trans}
use Rattle.law_lemmas.proofs.Members.{got_in, in_got, in_left, in_right}
use Rattle.law_lemmas.proofs.Numbers.{here_or_before}
use Rattle.law_lemmas.proofs.Options.{some_one}

-- The groups of a market from one place up to another were found, behind those that were found before.
pub record FindsGroups (b : Book) (way : EndWay) (groups : List FareGroup) (from at : ℕ) (old : FareEnds) (were : List EndGroup) (new : FareEnds) (found : List EndGroup) : Type 0 where
  pub rules : AreKnownRules b new.rules.of.items
  pub grows : KeepsEnds old new
  pub same : new.groups ≡ old.groups
  pub prefix : IsPrefix were found
  pub each : Each (IsOneOfEnd b way.key old) were → Each (IsOneOfEnd b way.key new) found
  pub has : HasGroupsUpTo new way groups from at found

module _ (b : Book) (way : EndWay) (groups : List FareGroup) (from at : ℕ) (old : FareEnds) (were : List EndGroup) (mid : FareEnds) (found : List EndGroup) (f : FindsGroups b way groups from at old were mid found) (group : FareGroup) (stands : slice_get groups at ≡ Some group) where
  -- one more of the carrier
  pub finds_more : (new : FareEnds) (made : EndGroup) (sheet : Sheet) → AreKnownRules b new.rules.of.items → KeepsEnds mid new → new.groups ≡ mid.groups → IsEndGroup new way.reverse group made → group.key.carrier ≡ way.key.carrier → IsSheetOfEnd b way.key way.reverse sheet groups
      → FindsGroups b way groups from (at + 1) old were new (found ++ made ∷ [])
  finds_more new made sheet rules keeps same is own sheet_is = record {
    rules = rules;
    grows = record { more = knows_on old mid new f.grows.more keeps.more; ends = keeps.ends ∙ f.grows.ends };
    same = same ∙ f.same;
    prefix = prefix_trans were found (found ++ made ∷ []) f.prefix (made ∷ [], refl);
    each = λ h. each_more (IsOneOfEnd b way.key new) found made (each_by (IsOneOfEnd b way.key mid) (IsOneOfEnd b way.key new) found (one_more b way.key mid new keeps.more) (f.each h)) one;
    has = λ i g le lt got carrier. elim (here_or_before i at lt) [
      | inl l ↦ let x = f.has i g le l got carrier in (x.0, in_left x.0 found (made ∷ []) x.1, group_more b way.key mid new keeps.more way.reverse g x.0 x.2)
      | inr e ↦ (made, in_right made found (made ∷ []) (inl refl), subst (λ (x : FareGroup). IsEndGroup new way.reverse x made) (some_one (slice_get groups at) group g stands (ap (slice_get groups) (sym e) ∙ got)) is)
    ];
  }
    where
      one : IsOneOfEnd b way.key new made
      one = record {
        sheet = sheet;
        groups = groups;
        sheet_is = subst (λ (r : Bool). IsSheetOfEnd b way.key r sheet groups) (sym is.way) sheet_is;
        group = group;
        within = got_in groups at group stands;
        carrier = own;
        is = subst (λ (r : Bool). IsEndGroup new r group made) (sym is.way) is;
      }

  -- and one of another
  pub finds_passed : (group.key.carrier ≡ way.key.carrier → ⊥) → FindsGroups b way groups from (at + 1) old were mid found
  finds_passed other = record {
    rules = f.rules;
    grows = f.grows;
    same = f.same;
    prefix = f.prefix;
    each = f.each;
    has = λ i g le lt got carrier. elim (here_or_before i at lt) [
      | inl l ↦ f.has i g le l got carrier
      | inr e ↦ absurd (other (ap (λ (x : FareGroup). x.key.carrier) (some_one (slice_get groups at) group g stands (ap (slice_get groups) (sym e) ∙ got)) ∙ carrier))
    ];
  }

-- all groups of a market that are filed one way
pub way_found : (b : Book) (ms : List Market) (way : EndWay) (key : MarketKey) (f : Filed) (new : FareEnds) (found : List EndGroup) → AreMarkets b ms → (fd : FiledAt ms key way.key.carrier f) → key.from ≡ end_from way.reverse way.key.from way.key.to → key.to ≡ end_to way.reverse way.key.from way.key.to
    → HasGroupsUpTo new way fd.at.market.groups f.from f.to found → HasWay b way.key new way.reverse found
way_found b ms way key f new found markets fd from to has =
    let m = fd.at.market in
    let s = m.sheet.value in
    let market : IsMarket b m = each_got (IsMarket b) ms f.market m markets fd.at.stands in
    let there = subst (λ p. SheetOf b s.from p s) (fd.at.to ∙ to) market.sheet in
    inr (record {
      sheet = s;
      of_sheet = m.groups;
      sheet_is = record { sheet_is = subst (λ p. SheetOf b p (end_to way.reverse way.key.from way.key.to) s) (fd.at.from ∙ from) there; groups_are = market.groups };
      all = λ group i own.
          let n = in_got m.groups group i in
          let x = fd.groups n.0 group n.1 own in
          has n.0 group x.0 x.1 n.1 own;
    })
