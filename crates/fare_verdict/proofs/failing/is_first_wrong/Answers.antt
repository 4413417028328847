use Rattle.std.proofs.Common.{◌≡◌, ◌+◌, suc, subst, arith}
use Rattle.std.proofs.lemmas.Bool.Decides.{Decides-eqb}
use Rattle.ticket_whole.specs.declared.demand.Demand.TheVariants.{Labels}
use Rattle.ticket_whole.specs.Breaches.{FirstBroken}
use Rattle.fare_verdict.proofs.failing.is_first_wrong.Goals as goal

pub returns-in-Some : goal.returns-in-Some
returns-in-Some c =
    let number = c.in-Some.number in
    let count = c.args.count in
    let first : FirstBroken c.args.book.now c.args.request.now c.args.ticket.now Labels number = c.in-Some.ensures in (
      λ e. subst (λ n. FirstBroken c.args.book.now c.args.request.now c.args.ticket.now Labels n) (let s : number ≡ count + 1 = (Decides-eqb number (count + 1)).0 e in let f : number ≡ suc count = omega (arith, s) in f) first,
      λ h. (Decides-eqb number (count + 1)).1 (let x = first.least (suc count) h.breaks in let y = h.least number first.breaks in omega (arith, x, y)),
    )
