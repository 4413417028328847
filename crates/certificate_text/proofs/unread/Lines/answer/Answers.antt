use Rattle.std.proofs.Common.{ℕ, List, [], ◌∷◌, refl, sym, subst, ◌∙◌}
use Rattle.std.specs.Prelude.{codes}
use Rattle.certificate_text.specs.Faults.{Answer, answers_due, Passed}
use Rattle.certificate_text.specs.Lines.{SpellsNumber, SpellsAnswer}
use Rattle.certificate_text.specs.Unread.{unread}
use Rattle.certificate_text.proofs.FaultLemmas.{passed_one, syntax_here, count_here, none_spelled, some_spelled, is_spelled, not_spelled}
use Rattle.certificate_text.proofs.unread.Lines.answer.Goals as goal

pub returns-then-is_some-clause-fault : goal.returns-then-is_some-clause-fault
returns-then-is_some-clause-fault c = λ n.
    let m = is_spelled (SpellsNumber (codes "rows") c.in-Some.line.now) c.number_line.result c.number_line.ensures (sym c.is_some.ensures ∙ c.if-is_some.true) in
    rw c.count-then-is_some.ensures (count_here (Answer n) (unread c.args.self) (unread c.in-Some.next) c.in-Some.line.now c.in-Some.ensures m)

pub returns-in_default-answer_line-clause-fault : goal.returns-in_default-answer_line-clause-fault
returns-in_default-answer_line-clause-fault c = λ n.
    rw c.syntax-in_default-answer_line.ensures (syntax_here (Answer n) (unread c.args.self) (unread c.in-Some.next) c.in-Some.line.now c.in-Some.ensures (λ next h. none_spelled (SpellsAnswer c.in-Some.line.now) c.in_default-answer_line.ensures h.0 h.1) (λ h. not_spelled (SpellsNumber (codes "rows") c.in-Some.line.now) c.number_line.result c.number_line.ensures (sym c.is_some.ensures ∙ c.if-is_some.false) h.0 h.1))

pub returns-clause-ok : goal.returns-clause-ok
returns-clause-ok c = λ n.
    let s = some_spelled (SpellsAnswer c.in-Some.line.now) c.in-Some-answer_line.found c.in-Some-answer_line.ensures in
    subst (λ (l : List ℕ). Passed (Answer n) (unread c.args.self) (l ∷ []) (answers_due n) (unread c.in-Some.next)) s.written (passed_one (Answer n) (answers_due n) (unread c.args.self) (unread c.in-Some.next) c.in-Some.line.now c.in-Some.ensures (c.in-Some-answer_line.found, s, refl))

pub returns-clause-fits : goal.returns-clause-fits
returns-clause-fits c = (some_spelled (SpellsAnswer c.in-Some.line.now) c.in-Some-answer_line.found c.in-Some-answer_line.ensures).is
