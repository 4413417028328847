use Rattle.std.proofs.Common.{refl}
use Rattle.search_steps.proofs.ListsByNumber.{lists_stay}
use Rattle.search_steps.proofs.numbered.StepLists.made_position.Goals as goal

pub returns-clause-right : goal.returns-clause-right
returns-clause-right c =
    lists_stay c.args.case.now.request.now c.args.tables.now.kept.items c.position_steps.new.tables.kept.items c.position_steps.new.numbers c.args.self.now _ c.position_steps.ensures.grows c.position_steps.ensures.stays refl refl refl refl c.requires.right
