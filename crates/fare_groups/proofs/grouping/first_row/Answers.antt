use Rattle.std.proofs.Common.{◌≡◌, ◌<◌, List, Some, ap, length, slice_get, slice_index_or, subst, sym, ◌∙◌}
use Rattle.fare_groups.specs.declared.group.FareGroup.{FareGroup}
use Rattle.fare_groups.specs.declared.group.GroupedFare.{GroupedFare}
use Rattle.fare_groups.specs.Grouping.{HasRows}
use Rattle.fare_groups.specs.Groups.{group_of}
use Rattle.fare_law.specs.declared.sheets.SheetRow.{SheetRow}
use Rattle.fare_law.specs.Lists.{IsIn}
use Rattle.fare_law.specs.Sheets.{Sheet}
use Rattle.law_lemmas.proofs.Lists.{got_same, got_within}
use Rattle.law_lemmas.proofs.Members.{first_in, got_in}
use Rattle.fare_groups.proofs.grouping.first_row.Goals as goal

abbrev none : GroupedFare
none = record { place = 0; class = 0; share = 0 }

-- the row of the first of these fares
first : (rows : List SheetRow) (g : FareGroup) (fares : List GroupedFare) → HasRows rows g → fares ≡ g.fares → (row : SheetRow) × (slice_get rows (slice_index_or fares 0 none).place ≡ Some row) × (group_of row ≡ g.key)
first rows g fares h e = h.are (slice_index_or fares 0 none) (subst (λ xs. IsIn (slice_index_or xs 0 none) g.fares) (sym e) (first_in g.fares none h.some))

pub bounds-as_slice-place : goal.bounds-as_slice-place
bounds-as_slice-place c =
    let x = first c.args.sheet.now.rows c.args.group.now c.as_slice.result.now c.requires c.as_slice.ensures in
    let rows = c.as_slice-2.ensures ∙ ap (λ (s : Sheet). s.rows) c.sheet.view_is in
    subst (λ rs. (slice_index_or c.as_slice.result.now 0 none).place < length rs) (sym rows) (got_within c.args.sheet.now.rows (slice_index_or c.as_slice.result.now 0 none).place x.0 x.1)

pub returns : goal.returns
returns c =
    let at = (slice_index_or c.as_slice.result.now 0 none).place in
    let x = first c.args.sheet.now.rows c.args.group.now c.as_slice.result.now c.requires c.as_slice.ensures in
    let rows = c.as_slice-2.ensures ∙ ap (λ (s : Sheet). s.rows) c.sheet.view_is in
    let same = got_same c.args.sheet.now.rows c.as_slice-2.result.now at _ x.0 c.index-as_slice-place.result rows c.index-as_slice-place.is x.1 in
    record {
      within = subst (λ (r : SheetRow). IsIn r c.args.sheet.now.rows) (sym same) (got_in c.args.sheet.now.rows at x.0 x.1);
      key = ap group_of same ∙ x.2;
    }
