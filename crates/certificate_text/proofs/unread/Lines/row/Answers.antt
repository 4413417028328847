use Rattle.std.proofs.Common.{◌≡◌, rules}
use Rattle.std.specs.Prelude.{codes}
use Rattle.certificate_text.specs.Faults.{Row}
use Rattle.certificate_text.specs.Unread.{unread}
use Rattle.residual_table.proofs.Matched.{on_none}
use Rattle.certificate_text.proofs.FaultLemmas.{syntax_here}
use Rattle.certificate_text.proofs.unread.Lines.row.Goals as goal

pub returns-in_default-2-clause-fault : goal.returns-in_default-2-clause-fault
returns-in_default-2-clause-fault c = λ n.
    let other : c.in-Some.line.now ≡ codes "end" → ⊥ = search rules in
    let none = on_none _ _ c.in_ok-row.field-0 c.in_default-2.is c.in_ok-row.ensures.row in
    rw c.syntax-in_default-2.ensures (syntax_here (Row n) (unread c.args.self) (unread c.in-Some.next) c.in-Some.line.now c.in-Some.ensures (λ next h. none h.0 h.1) other)
