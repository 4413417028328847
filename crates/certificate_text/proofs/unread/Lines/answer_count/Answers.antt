use Rattle.std.proofs.Common.{ℕ, List, [], ◌∷◌, refl, subst}
use Rattle.std.specs.Prelude.{codes}
use Rattle.certificate_text.specs.Faults.{AnswerCount, answers_due, Passed}
use Rattle.certificate_text.specs.Lines.{SpellsNumber}
use Rattle.certificate_text.specs.Unread.{unread}
use Rattle.certificate_text.proofs.FaultLemmas.{passed_one, syntax_here, none_spelled, some_spelled}
use Rattle.certificate_text.proofs.unread.Lines.answer_count.Goals as goal

pub returns-in_default-number_line-clause-fault : goal.returns-in_default-number_line-clause-fault
returns-in_default-number_line-clause-fault c =
    rw c.syntax-in_default-number_line.ensures (syntax_here AnswerCount (unread c.args.self) (unread c.in-Some.next) c.in-Some.line.now c.in-Some.ensures (λ next h. none_spelled (SpellsNumber (codes "answers") c.in-Some.line.now) c.in_default-number_line.ensures h.0 h.1) (λ h. h))

pub returns-clause-ok : goal.returns-clause-ok
returns-clause-ok c =
    let s = some_spelled (SpellsNumber (codes "answers") c.in-Some.line.now) c.in-Some-number_line.number c.in-Some-number_line.ensures in
    let next = (answers_due c.in-Some-number_line.number) in
    subst (λ (l : List ℕ). Passed AnswerCount (unread c.args.self) (l ∷ []) next (unread c.in-Some.next)) s.written (passed_one AnswerCount next (unread c.args.self) (unread c.in-Some.next) c.in-Some.line.now c.in-Some.ensures (c.in-Some-number_line.number, s, refl))
