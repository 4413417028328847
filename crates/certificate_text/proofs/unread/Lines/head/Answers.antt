use Rattle.std.proofs.Common.{◌≡◌, ℕ, List, [], ◌∷◌, refl, rules, subst}
use Rattle.std.specs.Prelude.{codes}
use Rattle.certificate_text.specs.Faults.{Head, Version, Passed}
use Rattle.certificate_text.specs.Unread.{unread}
use Rattle.certificate_text.proofs.FaultLemmas.{passed_one, syntax_here}
use Rattle.certificate_text.proofs.unread.Lines.head.Goals as goal

pub returns-clause-ok : goal.returns-clause-ok
returns-clause-ok c =
    let same : c.in-Some.line.now ≡ codes "certificate 1" = search rules in
    subst (λ (l : List ℕ). Passed Head (unread c.args.self) (l ∷ []) Version (unread c.in-Some.next)) same (passed_one Head Version (unread c.args.self) (unread c.in-Some.next) c.in-Some.line.now c.in-Some.ensures (same, refl))

pub returns-then-ne-clause-fault : goal.returns-then-ne-clause-fault
returns-then-ne-clause-fault c =
    let other : c.in-Some.line.now ≡ codes "certificate 1" → ⊥ = search rules in
    rw c.syntax-then-ne.ensures (syntax_here Head (unread c.args.self) (unread c.in-Some.next) c.in-Some.line.now c.in-Some.ensures (λ next h. other h.0) (λ h. h))
