use Rattle.std.proofs.Common.{refl, subst, sym}
use Rattle.search_steps.specs.Numbers.{ListsAt}
use Rattle.search_steps.proofs.ListsByNumber.{grows_same, has_table_of, lists_at, live_slots, placed_are}
use Rattle.search_steps.proofs.keyed.placed_at.Goals as goal

pub find_unit-requires-clause-lists : goal.find_unit-requires-clause-lists
find_unit-requires-clause-lists c = lists_at c.args.lists.now.positions.items c.args.key.position c.args.at c.index.result.now c.requires.found c.index.ensures

pub find_unit-requires-2-clause-lists : goal.find_unit-requires-2-clause-lists
find_unit-requires-2-clause-lists c =
    let s = c.index.result.now in
    subst (λ ps. ListsAt ps c.args.at s.place) (sym c.find_unit.ensures.positions) (lists_at c.args.lists.now.positions.items c.args.key.position c.args.at s c.requires.found c.index.ensures)

pub find_unit-requires-clause-slot : goal.find_unit-requires-clause-slot
find_unit-requires-clause-slot c = (live_slots c.args.lists.now.numbers c.args.lists.now.numbers c.args.key (grows_same c.args.lists.now.numbers) c.requires.live).0

pub find_unit-requires-clause-place : goal.find_unit-requires-clause-place
find_unit-requires-clause-place c = has_table_of c.args.case.now.request.now c.args.tables.now.kept.items c.args.lists.now c.args.key.position c.args.at c.index.result.now c.requires.right c.requires.found c.index.ensures

pub find_unit-requires-2-clause-slot : goal.find_unit-requires-2-clause-slot
find_unit-requires-2-clause-slot c = (live_slots c.args.lists.now.numbers c.find_unit.new.self.numbers c.args.key c.find_unit.ensures.grows c.requires.live).1

pub find_unit-requires-2-clause-place : goal.find_unit-requires-2-clause-place
find_unit-requires-2-clause-place c = has_table_of c.args.case.now.request.now c.args.tables.now.kept.items c.args.lists.now c.args.key.position c.args.at c.index.result.now c.requires.right c.requires.found c.index.ensures

pub returns-clause-placed : goal.returns-clause-placed
returns-clause-placed c =
    placed_are c.args.lists.now c.find_unit.new.self c.find_unit-2.new.self c.args.key c.args.at c.index.result.now c.in_ok-first.first c.in_ok-second.second c.requires.found c.index.ensures c.find_unit.ensures.positions c.find_unit-2.ensures.positions c.find_unit-2.ensures.stays
    c.in_ok-first.ensures.found c.in_ok-second.ensures.found _ refl refl refl
