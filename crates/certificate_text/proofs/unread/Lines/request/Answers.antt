use Rattle.std.proofs.Common.{◌≡◌, ℕ, List, [], ◌∷◌, Option, Some, None, refl, sym, subst, ◌∙◌}
use Rattle.fare_law.specs.declared.requests.Request.{Request}
use Rattle.certificate_text.specs.Faults.{Asked, AnswerCount, Passed, SpellsRequest}
use Rattle.certificate_text.specs.Unread.{unread}
use Rattle.certificate_text.proofs.FaultLemmas.{passed_one, syntax_here}
use Rattle.certificate_text.proofs.unread.Lines.request.Goals as goal

pub returns-in_default-2-clause-fault : goal.returns-in_default-2-clause-fault
returns-in_default-2-clause-fault c =
    let none : (q : Request) → SpellsRequest c.in-Some.line.now q → ⊥ = λ q s. (let e : ◌≡◌ {A = Option Request} None (Some q) = sym c.in_default-2.is ∙ (c.in_ok-request.ensures q).1 s in absurd (cc)) in
    rw c.syntax-in_default-2.ensures (syntax_here Asked (unread c.args.self) (unread c.in-Some.next) c.in-Some.line.now c.in-Some.ensures (λ next h. none h.0 h.1) (λ h. h))

pub returns-clause-ok : goal.returns-clause-ok
returns-clause-ok c =
    let s = (c.in_ok-request.ensures c.in-Some-2.request).0 c.in-Some-2.is in
    record {
      written = s.text;
      is = s.is;
      request = s.request;
      passed = subst (λ (l : List ℕ). Passed Asked (unread c.args.self) (l ∷ []) AnswerCount (unread c.in-Some.next)) s.written (passed_one Asked AnswerCount (unread c.args.self) (unread c.in-Some.next) c.in-Some.line.now c.in-Some.ensures (c.in-Some-2.request, s, refl));
    }
