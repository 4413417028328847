use Rattle.std.proofs.Common.{◌≡◌, refl, rules, sym, ◌∙◌}
use Rattle.std.proofs.lemmas.Bool.{true≢false}
use Rattle.std.specs.Prelude.{codes}
use Rattle.certificate_text.specs.declared.faults.CertFault.TheVariants.{Syntax}
use Rattle.certificate_text.specs.Faults.{End, Nothing}
use Rattle.certificate_text.specs.Unread.{IsOver, place, unread}
use Rattle.certificate_text.proofs.FaultLemmas.{passed_one, syntax_here, count_here, fault_more, nothing_follows}
use Rattle.certificate_text.proofs.unread.Lines.end.Goals as goal

pub returns-then-is_row-clause-fault : goal.returns-then-is_row-clause-fault
returns-then-is_row-clause-fault c =
    rw c.count.ensures (count_here End (unread c.args.self) (unread c.in-Some.next) c.in-Some.line.now c.in-Some.ensures (c.is_row.ensures.0 c.if-is_row.true))

pub returns-then-ne-clause-fault : goal.returns-then-ne-clause-fault
returns-then-ne-clause-fault c =
    let other : c.in-Some.line.now ≡ codes "end" → ⊥ = search rules in
    rw c.syntax-then-ne.ensures (syntax_here End (unread c.args.self) (unread c.in-Some.next) c.in-Some.line.now c.in-Some.ensures (λ next h. other h.0) (λ row. true≢false (sym (c.is_row.ensures.1 row) ∙ c.if-is_row.false)))

pub returns-then-not-is_over-clause-fault : goal.returns-then-not-is_over-clause-fault
returns-then-not-is_over-clause-fault c =
    let same : c.in-Some.line.now ≡ codes "end" = search rules in
    let passed = passed_one End Nothing (unread c.args.self) (unread c.in-Some.next) c.in-Some.line.now c.in-Some.ensures (same, refl) in
    let some : IsOver (unread c.in-Some.next) → ⊥ = λ over. true≢false (sym (c.is_over.ensures.1 over) ∙ c.if-not-is_over.true) in
    rw c.syntax-then-not-is_over.ensures (fault_more passed (Syntax (place (unread c.in-Some.next))) (nothing_follows (unread c.in-Some.next) some))
