use Rattle.std.proofs.Common.{◌∙◌, ap, length, subst, sym}
use Rattle.fare_law.specs.Book.{Book}
use Rattle.fare_law.specs.Lists.{IsPrefix}
use Rattle.search_desk.specs.Desks.{DeskView, Has, IsSettled}
use Rattle.search_desk.proofs.Remembering.{known_settled, remembers_now, remembers_still}
use Rattle.search_desk.proofs.Settling.{all_published, on_ok, unless_mem}
use Rattle.search_desk.proofs.desk.Desk.searched.Goals as goal

pub returns-clause-learnt : goal.returns-clause-learnt
returns-clause-learnt g c =
    let seen = subst (λ (b : Book). IsPrefix c.self.inside.watch.told b.entries) c.in-Ok.ensures.book c.in-Ok.ensures.learnt in
    on_ok c.search-answer-2.result (Has c.args.self.sight.told c.look.new.self.book) (record { begins = subst (λ (d : DeskView). IsPrefix d.sight.told c.look.new.self.book.entries) c.self.view_is seen })

pub returns-clause-looked : goal.returns-clause-looked
returns-clause-looked g c =
    let seen = subst (λ (b : Book). IsPrefix c.self.inside.watch.told b.entries) c.in-Ok.ensures.book c.in-Ok.ensures.learnt in
    unless_mem c.search-answer-2.result (Has c.args.self.sight.told c.look.new.self.book) (record { begins = subst (λ (d : DeskView). IsPrefix d.sight.told c.look.new.self.book.entries) c.self.view_is seen })

pub returns-clause-published : goal.returns-clause-published
returns-clause-published g c =
    all_published c.search-answer-2.result _ c.deref-2.result.now c.look.new.self.book c.args.request.now (c.deref-2.ensures ∙ c.in-Ok.ensures.book) c.search-answer-2.ensures.settled

pub returns-clause-stays : goal.returns-clause-stays
returns-clause-stays g c = record {
  each = λ a h. c.search-answer-2.ensures.stays a (subst (λ (d : DeskView). IsSettled d.pass a) (sym c.self.view_is) h);
}

pub invariant_of-desk : goal.invariant_of-desk
invariant_of-desk g c = remembers_still c.self.inside.watch c.look.new.self c.self.inside.pass c.self.inside.settled c.look.ensures.seen c.self.invariant

pub invariant_of-desk-then-is_settled : goal.invariant_of-desk-then-is_settled
invariant_of-desk-then-is_settled g c = remembers_still c.self.inside.watch c.look.new.self c.self.inside.pass c.self.inside.settled c.look.ensures.seen c.self.invariant

pub returns-then-is_settled-clause-published : goal.returns-then-is_settled-clause-published
returns-then-is_settled-clause-published g c =
    let still = remembers_still c.self.inside.watch c.look.new.self c.self.inside.pass c.self.inside.settled c.look.ensures.seen c.self.invariant in
    let number = c.number.ensures.value ∙ ap (λ (b : Book). length b.entries) (c.deref.ensures ∙ c.in-Ok.ensures.book) in
    on_ok c.search-answer.result _
    (known_settled c.look.new.self c.self.inside.pass c.self.inside.settled c.number.result c.args.request.now still (c.is_settled.ensures.some c.if-is_settled.true) (c.is_settled.ensures.same c.if-is_settled.true) number)

pub invariant_of-desk-2 : goal.invariant_of-desk-2
invariant_of-desk-2 g c =
    let published = all_published c.search-answer-2.result _ c.deref-2.result.now c.look.new.self.book c.args.request.now (c.deref-2.ensures ∙ c.in-Ok.ensures.book) c.search-answer-2.ensures.settled in
    let number = c.number-2.ensures.value ∙ ap (λ (b : Book). length b.entries) (c.deref-3.ensures ∙ c.in-Ok.ensures.book) in
    remembers_now c.look.new.self _ c.settled_by-settled.result c.number-2.result c.args.request.now c.search-answer-2.result c.settled_by-settled.ensures.same c.settled_by-settled.ensures.answered published number
