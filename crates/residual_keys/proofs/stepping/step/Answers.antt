use Rattle.std.proofs.Common.{Option, Some, None, IfSome}
use Rattle.residual_keys.specs.declared.residual.Next.{Next}
use Rattle.residual_keys.specs.Steps.{StepsTo}
use Rattle.residual_keys.specs.Written.{IsWrittenNext}
use Rattle.residual_keys.proofs.stepping.step.Goals as goal

found_so : (P Q : Next → Type 0) (found : Option Next) → ((next : Next) → P next → Q next) → IfSome found P → IfSome found Q
found_so P Q None to h = tt
found_so P Q (Some next) to h = to next h

pub returns-clause-written : goal.returns-clause-written
returns-clause-written c = λ written.
    found_so (StepsTo c.args.book.now c.args.request.now c.args.residual.now c.args.mv.now) IsWrittenNext c.next_by.result
    (λ next s. c.reached_is_written.ensures.moves c.args.book.now c.args.request.now c.book_limits.ensures c.requires c.args.residual.now (record { mv = c.args.mv.now; price = s.0; next = next }) written s.1)
    c.next_by.ensures.some
