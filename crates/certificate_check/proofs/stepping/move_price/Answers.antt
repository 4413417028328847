use Rattle.std.proofs.Common.{◌≡◌, Some, subst}
use Rattle.certificate_check.proofs.MovePrices.{none_first, none_last, priced_by}
use Rattle.fare_law.specs.declared.requests.Request.{Request}
use Rattle.fare_law.specs.declared.tickets.Component.{Component}
use Rattle.fare_law.specs.Parts.{IsPart, Part, price_of}
use Rattle.certificate_check.proofs.stepping.move_price.Goals as goal

pub returns-in_err-first-clause-value : goal.returns-in_err-first-clause-value
returns-in_err-first-clause-value c = none_first c.args.book.now c.args.mv.now _ c.in_err-first.ensures

pub returns-in_err-last-clause-value : goal.returns-in_err-last-clause-value
returns-in_err-last-clause-value c = none_last c.args.book.now c.args.mv.now _ c.in_err-last.ensures

pub returns-clause-value : goal.returns-clause-value
returns-clause-value c =
    priced_by c.args.book.now c.args.mv.now c.in_ok-first.first.now c.in_ok-last.last.now c.component_price.result c.in_ok-first.ensures c.in_ok-last.ensures
    (subst (λ (z : Component). (q : Request) (part : Part) → IsPart c.args.book.now q z part → c.component_price.result ≡ Some (price_of part.flights part.piece)) c.component_of.ensures c.component_price.ensures.part)
