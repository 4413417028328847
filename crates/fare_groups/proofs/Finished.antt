-- Groups whose fares were gathered and put in order are the groups of the rows: for `groups_of`.
use Rattle.std.proofs.Common.{◌≡◌, ◌≢◌, ◌≤◌, List, [], ◌∷◌, map, refl, sym, ap₂, subst, ◌∙◌, inl}
use Rattle.std.specs.List.Sorted.{IsPermutation}
use Rattle.fare_groups.specs.declared.group.FareGroup.{FareGroup}
use Rattle.fare_groups.specs.declared.group.GroupKey.{GroupKey}
use Rattle.fare_groups.specs.declared.group.GroupedFare.{GroupedFare}
use Rattle.fare_groups.specs.Grouping.{AreFares, AreGathered, AreGroups, AreKeys, IsFinished, IsGroup, KeyBefore}
use Rattle.fare_groups.specs.Groups.{group_of}
use Rattle.fare_groups.proofs.Grouped.{key_in}
use Rattle.fare_groups.proofs.OneGroup.{fare_of_row, low_fares}
use Rattle.fare_groups.proofs.Reordered.{in_mapped, in_reordered, of_mapped}
use Rattle.fare_law.specs.declared.sheets.SheetRow.{SheetRow}
use Rattle.fare_law.specs.Lists.{AllDifferent, Each, EachPair, IsIn, Matched}
use Rattle.law_lemmas.proofs.EachOne.{each_from, each_in}
use Rattle.law_lemmas.proofs.Members.{in_got}
use Rattle.law_lemmas.proofs.Pairs.{matched_from_right}

module _ (keys : List GroupKey) (rows : List SheetRow) (groups : List FareGroup) (of : AreKeys rows keys) (h : AreGathered keys rows groups) where
  some_fare : (g : FareGroup) → IsIn g groups → g.fares ≢ []
  some_fare g i e =
      let key : IsIn g.key keys = subst (IsIn g.key) h.keys_are (in_mapped (λ (x : FareGroup). x.key) groups g i) in
      let x = of_mapped group_of rows g.key (each_in (λ k. IsIn k (map group_of rows)) keys g.key of.each key) in
      let n = in_got rows x.0 x.1 in
      absurd (subst (IsIn _) e (fare_of_row g.key 0 rows g.fares n.0 x.0 (each_in (λ (y : FareGroup). AreFares y.key 0 rows y.fares) groups g h.each i) n.1 (sym x.2)))

  module _ (finished : List FareGroup) (each : Matched IsFinished groups finished) where
    same_keys : map (λ (g : FareGroup). g.key) finished ≡ keys
    same_keys = keys_of groups finished each ∙ h.keys_are
      where
        keys_of : (olds news : List FareGroup) → Matched IsFinished olds news → map (λ (g : FareGroup). g.key) news ≡ map (λ (g : FareGroup). g.key) olds
        keys_of [] [] m = refl
        keys_of [] (n ∷ news) m = absurd m
        keys_of (o ∷ olds) [] m = absurd m
        keys_of (o ∷ olds) (n ∷ news) m = ap₂ (λ k ks. k ∷ ks) m.0.key (keys_of olds news m.1)

    is_group : (g : FareGroup) → IsIn g finished → IsGroup rows g
    is_group g i =
        let x = matched_from_right IsFinished groups finished g each i in
        let old = x.0 in
        let own = each_in (λ (y : FareGroup). AreFares y.key 0 rows y.fares) groups old h.each x.1 in
        record {
          fares = record { by_rows = old.fares; are = subst (λ k. AreFares k 0 rows old.fares) (sym x.2.key) own; same = x.2.same; order = x.2.order };
          some = λ e. some_fare old x.1 (none_before old.fares g.fares x.2.same e);
          rungs = x.2.rungs;
        }
      where
        none_before : (fs gs : List GroupedFare) → IsPermutation fs gs → gs ≡ [] → fs ≡ []
        none_before [] gs p e = refl
        none_before (f ∷ fs) gs p e = absurd (subst (IsIn f) e (in_reordered (f ∷ fs) gs f p (inl refl)))

    pub are_groups : AreGroups rows finished
    are_groups = record {
      each = each_from (IsGroup rows) finished is_group;
      apart = subst AllDifferent (sym same_keys) of.apart;
      all = λ row i. key_in finished (group_of row) (subst (IsIn (group_of row)) (sym same_keys) (of.all row i));
      in_order = subst (EachPair KeyBefore) (sym same_keys) of.in_order;
    }

  -- where the rows' classes are low, so are the fares'
  pub gathered_low : Each (λ (row : SheetRow). row.fare.class ≤ 25) rows → Each (λ (g : FareGroup). Each (λ f. f.class ≤ 25) g.fares) groups
  gathered_low low = each_from (λ (g : FareGroup). Each (λ f. f.class ≤ 25) g.fares) groups (λ g i. low_fares g.key 0 rows g.fares low (each_in (λ (y : FareGroup). AreFares y.key 0 rows y.fares) groups g h.each i))
