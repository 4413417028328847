use Rattle.std.proofs.Common.{◌<◌, refl, subst, sym}
use Rattle.outline_tables.proofs.TableFacts.{place_set, room_place_within, room_within}
use Rattle.outline_tables.proofs.flight_tables.set_place.Goals as goal

pub index_mut-requires : goal.index_mut-requires
index_mut-requires c = subst (λ n. c.args.level < n) (sym c.args.levels.now.ok.0) (room_within c.args.levels.now.items c.args.level c.args.flight c.requires)

pub index_mut-requires-2 : goal.index_mut-requires-2
index_mut-requires-2 c =
    let places = c.index_mut.result.now in
    subst (λ n. c.args.flight < n) (sym places.ok.0) (room_place_within c.args.levels.now.items c.args.level c.args.flight places c.requires c.index_mut.ensures.value)

pub returns : goal.returns
returns c = place_set c.args.levels.now.items c.args.level c.args.flight c.args.place c.index_mut.result.now _ c.requires c.index_mut.ensures.value refl
