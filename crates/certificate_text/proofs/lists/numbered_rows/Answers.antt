use Rattle.std.proofs.Common.{◌≡◌, ◌∙◌, ◌≤◌, ◌<◌, ◌-◌, ℕ, List, map, [], ◌∷◌, ◌++◌, length, ap, sym, subst, arith, refl, length-append}
use Rattle.certificate.specs.NumberedRows.{AreLive, row_of, rows_of}
use Rattle.certificate.specs.declared.numbered.NumberedRow.{NumberedRow}
use Rattle.certificate_text.specs.Faults.{Due, Passed, Row, rows_due}
use Rattle.certificate_text.specs.Lines.{IsRow, row_line}
use Rattle.certificate_text.specs.Unread.{unread}
use Rattle.fare_law.specs.Lists.{Each}
use Rattle.certificate_text.proofs.ListLemmas.{DueAfter, item_fault, item_passed}
use Rattle.certificate_text.proofs.RowsRead.{as_many, live_more, rows_more}
use Rattle.certificate_text.proofs.TakingLemmas.{room_all}
use Rattle.law_lemmas.proofs.EachOne.{each_append}
use Rattle.certificate_text.proofs.lists.numbered_rows.Goals as goal

due_after : DueAfter rows_due Row
due_after = record { more = λ n. refl }

pub returns-in-Err-clause-fault : goal.returns-in-Err-clause-fault
returns-in-Err-clause-fault c =
    let count = c.args.count in
    let first = unread c.args.first in
    let at = unread c.loop-at.at in
    let rows = rows_of c.loop-at.reader c.loop-at.rows in
    let many = as_many c.loop-at.reader c.loop-at.rows in
    let passed = subst (λ (n : ℕ). Passed (rows_due count) first (map row_line rows) (rows_due (count - n)) at) (sym many) c.loop-at.invariant.passed in
    item_fault rows_due Row row_line due_after (rows_due count) (rows_due count) first first at count
    [] rows c.in-Err.fault (omega (arith, c.len.ensures, many)) (record { leads = refl; taken = refl }) passed c.in-Err.ensures.fault

pub loop-at-init : goal.loop-at-init
loop-at-init c =
    let count = c.args.count in
    let first = unread c.args.first in
    let t = c.args.reader.now in
    let none = sym c.new-rows.ensures in
    let left : count ≡ count - 0 = omega arith in
    record {
      few = subst (λ (rs : List NumberedRow). length rs ≤ count) none (omega arith);
      live = subst (AreLive t) none tt;
      passed = subst (λ (rs : List NumberedRow). Passed (rows_due count) first (map row_line (rows_of t rs)) (rows_due (count - length rs)) first) none (record { leads = ap rows_due left; taken = refl });
      each = subst (λ (rs : List NumberedRow). Each IsRow (rows_of t rs)) none tt;
      room = c.requires;
    }

pub loop-at-preserved : goal.loop-at-preserved
loop-at-preserved c =
    let count = c.args.count in
    let first = unread c.args.first in
    let at = unread c.loop-at.at in
    let next = unread c.in-Ok.found.1 in
    let old = c.loop-at.reader in
    let t = c.row.new.reader in
    let before = c.loop-at.invariant in
    let rows = c.loop-at.rows in
    let row = c.in-Ok.found.0 in
    let is = c.in_ok-push.ensures.items in
    let more = rows_more old t c.in-Ok.ensures.grows rows before.live row in
    let all : rows_of t c.push.new.self ≡ rows_of old rows ++ row_of t row ∷ [] = ap (rows_of t) is ∙ more in
    let few : length rows < count = omega (arith, c.len.ensures) in
    let many = as_many old rows in
    let so_far = subst (λ (n : ℕ). Passed (rows_due count) first (map row_line (rows_of old rows)) (rows_due (count - n)) at) (sym many) before.passed in
    let passed = item_passed rows_due Row row_line due_after (rows_due count) first at next count (rows_of old rows) (rows_of t c.push.new.self) (row_of t row) all (omega (arith, few, many)) so_far c.in-Ok.ensures.ok in
    record {
      few = omega (arith, few, ap length is, length-append rows (row ∷ []));
      live = subst (AreLive t) (sym is) (live_more old t c.in-Ok.ensures.grows rows before.live row c.in-Ok.ensures.live);
      passed = subst (λ (n : ℕ). Passed (rows_due count) first (map row_line (rows_of t c.push.new.self)) (rows_due (count - n)) next) (as_many t c.push.new.self) passed;
      each = subst (Each IsRow) (sym all) (each_append IsRow (rows_of old rows) (row_of t row ∷ []) before.each (c.in-Ok.ensures.fits, tt));
      room = room_all at next (row_line (row_of t row) ∷ []) (c.in-Ok.ensures.ok 0).taken before.room;
    }

pub returns-clause-ok : goal.returns-clause-ok
returns-clause-ok c =
    let count = c.args.count in
    let before = c.loop-at.invariant in
    let none : count - length c.loop-at.rows ≡ 0 = omega (arith, c.len.ensures) in
    subst (λ (due : Due). Passed (rows_due count) (unread c.args.first) (map row_line (rows_of c.loop-at.reader c.loop-at.rows)) due (unread c.loop-at.at)) (ap rows_due none) before.passed
