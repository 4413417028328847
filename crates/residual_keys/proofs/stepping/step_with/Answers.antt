use Rattle.std.proofs.Common.{rules, sym, ap, subst, ◌∙◌, arith}
use Rattle.fare_law.specs.declared.tickets.Piece.{Piece}
use Rattle.fare_law.specs.Lists.{Matched}
use Rattle.fare_law.specs.Offers.{flights_of}
use Rattle.open_unit.proofs.OtherFares.{dressed}
use Rattle.residual_keys.specs.AskedKeys.{IsLeg}
use Rattle.residual_keys.specs.declared.residual.Next.{Next}
use Rattle.residual_keys.specs.Steps.{Leaves, StepsTo}
use Rattle.residual_keys.proofs.OtherFares.{dressed_fare, leaves_same}
use Rattle.residual_keys.proofs.StepFacts.{IsOver, key_directed, offered_lawful}
use Rattle.residual_keys.proofs.StepTaken.{if_none, if_some, missed, move_offered, taken}
use Rattle.law_lemmas.proofs.Tests.{not_so}
use Rattle.residual_keys.proofs.stepping.step_with.Goals as goal

pub is_offered-requires-clause-direction : goal.is_offered-requires-clause-direction
is_offered-requires-clause-direction c = key_directed c.args.mv.now c.args.flights.now c.args.row.now.fare.key c.requires.live.key

pub returns-then-not-is_offered-clause-none : goal.returns-then-not-is_offered-clause-none
returns-then-not-is_offered-clause-none c = λ next s.
    let l = c.legs_of-legs.ensures in
    let legs = c.as_slice.ensures.items in
    not_so c.is_offered.result c.if-not-is_offered.true c.is_offered.ensures.1
    (move_offered c.args.book.now c.args.request.now c.args.residual.now c.args.mv.now c.args.flights.now c.args.after c.requires.path c.args.row.now c.as_slice.result.now c.requires.live
    (subst (Matched (IsLeg c.args.book.now c.args.request.now.party) c.args.flights.now) (sym legs) l.legs) (ap flights_of legs ∙ l.flights) (omega (arith, c.requires.fare.class)) next s)

-- the component with the row's fare leaves what its facts leave
pub returns-clause-some : goal.returns-clause-some
returns-clause-some c =
    let b = c.args.book.now in
    let q = c.args.request.now in
    let r = c.args.residual.now in
    let m = c.args.mv.now in
    let fs = c.args.flights.now in
    let row = c.args.row.now in
    let facts = c.facts_over-facts.result in
    let o = c.facts_over-facts.ensures.over in
    let p : Piece = dressed facts row.fare in
    let fare = dressed_fare facts row.fare o.carrier o.number o.kind in
    let over : IsOver q m fs row p = record { begins = o.begins; ends = o.ends; fare = fare; rule = o.rule; reverse = o.reverse_is ∙ c.closes.ensures; sale = search rules } in
    let l = c.legs_of-legs.ensures in
    let legs = c.as_slice.ensures.items in
    let lawful = offered_lawful b q.party fs c.as_slice.result.now row p (subst (Matched (IsLeg b q.party) fs) (sym legs) l.legs) (ap flights_of legs ∙ l.flights) fare o.rule (omega (arith, c.requires.fare.class)) c.requires.path.shape (c.is_offered.ensures.0 c.if-not-is_offered.false) in
    if_some (Leaves r c.args.after facts m.role m.slot) (StepsTo b q r m) c.next_after.result c.next_after.ensures.some
    (λ next h. taken b q r m fs c.args.after c.requires.path row p c.requires.live over lawful next ((leaves_same facts row.fare r c.args.after m.role m.slot next).0 h))

pub returns-clause-none : goal.returns-clause-none
returns-clause-none c =
    let b = c.args.book.now in
    let q = c.args.request.now in
    let r = c.args.residual.now in
    let m = c.args.mv.now in
    let row = c.args.row.now in
    let facts = c.facts_over-facts.result in
    let o = c.facts_over-facts.ensures.over in
    let p : Piece = dressed facts row.fare in
    let over : IsOver q m c.args.flights.now row p
    = record { begins = o.begins; ends = o.ends; fare = dressed_fare facts row.fare o.carrier o.number o.kind; rule = o.rule; reverse = o.reverse_is ∙ c.closes.ensures; sale = search rules } in
    if_none ((next : Next) → Leaves r c.args.after facts m.role m.slot next → ⊥) ((next : Next) → StepsTo b q r m next → ⊥) c.next_after.result c.next_after.ensures.none
    (λ no next s. no next ((leaves_same facts row.fare r c.args.after m.role m.slot next).1 (missed b q r m c.args.flights.now c.args.after c.requires.path row p c.requires.live over next s).1))
