use Rattle.std.proofs.Common.{ℕ, List, [], ◌∷◌, refl, sym, subst, ◌∙◌}
use Rattle.std.specs.Prelude.{codes}
use Rattle.certificate_text.specs.Faults.{RowCount, rows_due, Passed}
use Rattle.certificate_text.specs.Lines.{SpellsNumber, SpellsAnswer}
use Rattle.certificate_text.specs.Unread.{unread}
use Rattle.certificate_text.proofs.FaultLemmas.{passed_one, syntax_here, count_here, none_spelled, some_spelled, is_spelled, not_spelled}
use Rattle.certificate_text.proofs.unread.Lines.row_count.Goals as goal

pub returns-then-is_some-clause-fault : goal.returns-then-is_some-clause-fault
returns-then-is_some-clause-fault c =
    let m = is_spelled (SpellsAnswer c.in-Some.line.now) c.answer_line.result c.answer_line.ensures (sym c.is_some.ensures ∙ c.if-is_some.true) in
    rw c.count.ensures (count_here RowCount (unread c.args.self) (unread c.in-Some.next) c.in-Some.line.now c.in-Some.ensures m)

pub returns-in_default-number_line-clause-fault : goal.returns-in_default-number_line-clause-fault
returns-in_default-number_line-clause-fault c =
    rw c.syntax-in_default-number_line.ensures (syntax_here RowCount (unread c.args.self) (unread c.in-Some.next) c.in-Some.line.now c.in-Some.ensures (λ next h. none_spelled (SpellsNumber (codes "rows") c.in-Some.line.now) c.in_default-number_line.ensures h.0 h.1) (λ h. not_spelled (SpellsAnswer c.in-Some.line.now) c.answer_line.result c.answer_line.ensures (sym c.is_some.ensures ∙ c.if-is_some.false) h.0 h.1))

pub returns-clause-ok : goal.returns-clause-ok
returns-clause-ok c =
    let s = some_spelled (SpellsNumber (codes "rows") c.in-Some.line.now) c.in-Some-number_line.number c.in-Some-number_line.ensures in
    let next = rows_due c.in-Some-number_line.number in
    subst (λ (l : List ℕ). Passed RowCount (unread c.args.self) (l ∷ []) next (unread c.in-Some.next)) s.written (passed_one RowCount next (unread c.args.self) (unread c.in-Some.next) c.in-Some.line.now c.in-Some.ensures (c.in-Some-number_line.number, s, refl))
