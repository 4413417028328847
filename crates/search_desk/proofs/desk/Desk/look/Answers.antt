use Rattle.std.proofs.Common.{subst}
use Rattle.fare_law.specs.Book.{Book}
use Rattle.fare_law.specs.Lists.{IsPrefix}
use Rattle.search_desk.specs.Desks.{DeskView}
use Rattle.search_desk.proofs.Remembering.{remembers_still}
use Rattle.search_desk.proofs.desk.Desk.look.Goals as goal

pub invariant_of-self : goal.invariant_of-self
invariant_of-self c = remembers_still c.self.inside.watch c.look.new.self c.self.inside.pass c.self.inside.settled c.look.ensures.seen c.self.invariant

pub invariant_of-self-2 : goal.invariant_of-self-2
invariant_of-self-2 c = remembers_still c.self.inside.watch c.look.new.self c.self.inside.pass c.self.inside.settled c.look.ensures.seen c.self.invariant

pub returns-clause-learnt : goal.returns-clause-learnt
returns-clause-learnt c =
    let seen = subst (λ (b : Book). IsPrefix c.self.inside.watch.told b.entries) c.in_ok-look.ensures.book c.in_ok-look.ensures.learnt in
    subst (λ (d : DeskView). IsPrefix d.sight.told c.look.new.self.book.entries) c.self.view_is seen
