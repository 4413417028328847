use Rattle.std.proofs.Common.{◌≡◌, ◌≤◌, [], ◌∷◌, ◌++◌, ap, length, slice_get, subst, sym, ◌∙◌, arith}
use Rattle.std.specs.Arc.{arc_value}
use Rattle.fare_law.specs.declared.limits.TheConstants.{MOST_FARES}
use Rattle.fare_ends.specs.declared.markets.Market.{Market}
use Rattle.fare_ends.proofs.SheetFacts.{own_sheet}
use Rattle.fare_law.specs.declared.sheets.SheetRow.{SheetRow}
use Rattle.fare_law.specs.Lists.{Each}
use Rattle.fare_law.specs.Sheets.{Sheet}
use Rattle.law_lemmas.proofs.EachOne.{each_from}
use Rattle.residual_keys.proofs.Sheeted.{is_sheet}
use Rattle.law_lemmas.proofs.Lists.{got_last}
use Rattle.fare_ends.proofs.markets.Markets.add.Goals as goal

pub groups_of-requires-clause-few : goal.groups_of-requires-clause-few
groups_of-requires-clause-few c =
    let laws = c.order_laws.ensures in
    let sheet = arc_value c.args.sheet.now in
    let is = is_sheet laws.less_never laws.less_trans laws.less_total c.args.book.now c.limits.ensures sheet (own_sheet c.args.book.now c.args.key.from c.args.key.to sheet c.requires.sheet) in
    subst (λ rows. length rows ≤ MOST_FARES) (sym (c.as_slice.ensures ∙ ap (λ (s : Sheet). s.rows) (c.behind-sheet.view_is ∙ c.deref.ensures))) is.few

pub groups_of-requires-clause-low : goal.groups_of-requires-clause-low
groups_of-requires-clause-low c =
    let sheet = arc_value c.args.sheet.now in
    let own = own_sheet c.args.book.now c.args.key.from c.args.key.to sheet c.requires.sheet in
    subst (Each (λ (row : SheetRow). row.fare.class ≤ 25)) (sym (c.as_slice.ensures ∙ ap (λ (s : Sheet). s.rows) (c.behind-sheet.view_is ∙ c.deref.ensures)))
    (each_from (λ (row : SheetRow). row.fare.class ≤ 25) sheet.rows (λ row j. (c.limits.ensures.fares row.fare.key row.fare ((own.live row).0 j).fare).1.class))

pub returns-clause-found : goal.returns-clause-found
returns-clause-found c =
    let old = c.args.self.now.kept.items in
    let m : Market = record { sheet = c.in_ok-sheet.sheet; groups = c.in_ok-groups.groups } in
    let n : c.len-at.result ≡ length old = omega (arith, c.len-at.ensures) in
    record {
      market = m;
      stands = ap (λ xs. slice_get xs c.len-at.result) c.in_ok-push.ensures.items ∙ ap (slice_get (old ++ m ∷ [])) n ∙ got_last old m;
      from = ap (λ (s : Sheet). s.from) c.in_ok-sheet.ensures ∙ c.requires.sheet.filed_from;
      to = ap (λ (s : Sheet). s.to) c.in_ok-sheet.ensures ∙ c.requires.sheet.filed_to;
    }
