use Rattle.std.proofs.Common.{◌≡◌, ◌<◌, ◌≤◌, ◌+◌, List, length, get_or, subst, sym}
use Rattle.fare_law.specs.declared.tickets.Component.{Component}
use Rattle.fare_law.specs.Lawful.{unit_of}
use Rattle.fare_law.specs.Units.{IsUnit}
use Rattle.ticket_whole.specs.Known.{parts_of}
use Rattle.answer_text.specs.Answer.{ComponentText}
use Rattle.answer_text.specs.Lines.{Adds}
use Rattle.answer_text.proofs.TicketTexts.{PartText, Stands, all_of, all_stand, each_there, one_added, part_added, ticket_added}
use Rattle.answer_text.proofs.tickets.push_priced.Goals as goal

pub loop-at-preserved : goal.loop-at-preserved
loop-at-preserved c q right =
    let b = c.args.book.now in
    let cs = c.args.priced.now.ticket.components in
    let items = c.as_slice-components.ensures.items in
    let at = c.loop-at.at in
    let x = c.index-components-at.result in
    let lt = subst (λ (xs : List Component). at < length xs) items c.loop-at-test.true in
    let is = subst (λ (xs : List Component). x ≡ get_or xs at x) items c.index-components-at.is in
    let s = each_there (Stands b q cs) cs at x x (all_stand b q c.args.priced.now.ticket right.0) lt is in
    let unit = subst (λ (xs : List Component). IsUnit s.kind (unit_of x.unit (parts_of b q.sale xs))) (sym items) s.unit in
    let added = subst (λ (xs : List Component). Adds (ComponentText (parts_of b q.sale xs) (at + 1) s.part) c.loop-at.text.items c.push_part.new.text.items) items (c.in_ok-push_part.ensures q s.part s.kind s.is s.found unit) in
    one_added (PartText b q cs) cs at x x c.push_ticket.new.text.items c.loop-at.text.items c.push_part.new.text.items lt is (c.loop-at.invariant q right)
    (part_added b q cs (at + 1) x s.part c.loop-at.text.items c.push_part.new.text.items s.found added)

pub returns : goal.returns
returns c q right =
    let b = c.args.book.now in
    let cs = c.args.priced.now.ticket.components in
    let all = subst (λ (xs : List Component). length xs ≤ c.loop-at.at) c.as_slice-components.ensures.items c.loop-at-test.false in
    ticket_added b q c.args.number c.args.priced.now c.args.text.now.items c.push_ticket.new.text.items c.loop-at.text.items right c.in_ok-push_ticket.ensures
    (all_of (PartText b q cs) cs c.loop-at.at c.push_ticket.new.text.items c.loop-at.text.items all (c.loop-at.invariant q right))
