-- What a market tells of its groups.
use Rattle.std.proofs.Common.{◌≡◌, ◌≤◌, Some, sym, ap, subst}
use Rattle.fare_book.specs.Keeping.{Limited}
use Rattle.fare_ends.specs.declared.markets.Market.{Market}
use Rattle.fare_ends.specs.Markets.{IsMarket}
use Rattle.fare_ends.specs.Rungs.{AreLowFares, AreRungs}
use Rattle.fare_ends.proofs.RungFacts.{low_rungs}
use Rattle.fare_groups.specs.declared.group.FareGroup.{FareGroup}
use Rattle.fare_groups.specs.declared.group.GroupKey.{GroupKey}
use Rattle.fare_groups.specs.declared.group.GroupedFare.{GroupedFare}
use Rattle.fare_groups.specs.Grouping.{HasRows, IsRowIn}
use Rattle.fare_groups.proofs.OneGroup.{classes_are_low, fares_are_rows, group_rows, group_rungs}
use Rattle.fare_law.specs.declared.sheets.SheetRow.{SheetRow}
use Rattle.fare_law.specs.Book.{Book, live_rule}
use Rattle.fare_law.specs.Lists.{Each, IsIn}
use Rattle.fare_law.specs.Sheets.{IsLiveRow}
use Rattle.law_lemmas.proofs.EachOne.{each_from, each_in}
use Rattle.law_lemmas.proofs.LawFacts.{low_share}
use Rattle.law_lemmas.proofs.Members.{got_in}

module _ (b : Book) (m : Market) (g : FareGroup) (market : IsMarket b m) (i : IsIn g m.groups) where
  live_of : (row : SheetRow) → IsIn row m.sheet.value.rows → IsLiveRow b m.sheet.value.from m.sheet.value.to row
  live_of row j = (market.sheet.live row).0 j

  pub rows_of : HasRows m.sheet.value.rows g
  rows_of = group_rows m.sheet.value.rows m.groups market.groups g i

  pub rule_live : (row : SheetRow) → IsRowIn m.sheet.value.rows g row → live_rule b g.key.carrier g.key.number ≡ Some row.rule
  rule_live row r = subst (λ (k : GroupKey). live_rule b k.carrier k.number ≡ Some row.rule) r.key (live_of row r.within).rule

  low_classes : Limited b → Each (λ (f : GroupedFare). f.class ≤ 25) g.fares
  low_classes limited = each_in (λ (x : FareGroup). Each (λ (f : GroupedFare). f.class ≤ 25) x.fares) m.groups g (classes_are_low m.sheet.value.rows m.groups market.groups
      (each_from (λ (row : SheetRow). row.fare.class ≤ 25) m.sheet.value.rows (λ row j. (limited.fares row.fare.key row.fare (live_of row j).fare).1.class))) i

  low_price : Limited b → (f : GroupedFare) → IsIn f g.fares → f.share ≤ 1000000000
  low_price limited f j =
      let x = fares_are_rows m.sheet.value.rows m.groups market.groups g i f j in
      let amount = (limited.fares x.row.fare.key x.row.fare (live_of x.row (got_in m.sheet.value.rows f.place x.row x.stands)).fare).1.amount in
      subst (λ n. n ≤ 1000000000) (sym (ap (λ (y : GroupedFare). y.share) x.fare)) (low_share x.row.fare.kind x.row.fare.amount amount)

  -- its fares are of classes from A to Z, and cost at most 1,000,000,000
  fares_low : Limited b → AreLowFares g.fares
  fares_low limited = each_from (λ (f : GroupedFare). (f.class ≤ 25) × (f.share ≤ 1000000000)) g.fares (λ f j. (each_in (λ (f : GroupedFare). f.class ≤ 25) g.fares f (low_classes limited) j, low_price limited f j))

  -- and its rungs are theirs
  pub rungs_low : Limited b → AreRungs g.fares g.rungs
  rungs_low limited = low_rungs g.fares g.rungs (fares_low limited) (group_rungs m.sheet.value.rows m.groups market.groups g i)
