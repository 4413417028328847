use Rattle.std.proofs.Common.{false, true, length, sym, subst, ◌∙◌}
use Rattle.cheap_moves.specs.contracts.hopes.PathClassPartialEq.TheImpl as class
use Rattle.cheap_moves.specs.contracts.hopes.PathStartPartialEq.TheImpl as start
use Rattle.cheap_moves.specs.Making.{IsWithinFiled}
use Rattle.cheap_moves.specs.Prospects.{HasProspects}
use Rattle.cheap_moves.proofs.PathMoves.{both_ways, forward_alone}
use Rattle.cheap_moves.proofs.Suiting.{has_prospects, hopeless, no_flights, none_there}
use Rattle.fare_law.specs.contracts.names.PlacePartialEq.TheImpl as place
use Rattle.flight_paths.specs.declared.positions.Path.{Path}
use Rattle.residual_keys.specs.Gathered.{Adds}
use Rattle.law_lemmas.proofs.Options.{on_ok}
use Rattle.law_lemmas.proofs.Tests.{same_byte}
use Rattle.cheap_moves.proofs.ways.add_path.Goals as goal

pub returns-in_default-clause-moves : goal.returns-in_default-clause-moves
returns-in_default-clause-moves g c =
    let b = c.args.search.now.book.now in
    let q = c.args.search.now.request.now in
    let r = c.args.search.now.residual.now in
    let bound = g.B.ResidualBounds.bound c.args.search.now.bounds.now in
    let limit = c.args.search.now.limit in
    no_flights b q r bound limit c.args.path.now c.args.found.now c.in_default.ensures.none

pub returns-then-is_empty-clause-moves : goal.returns-then-is_empty-clause-moves
returns-then-is_empty-clause-moves g c =
    let b = c.args.search.now.book.now in
    let q = c.args.search.now.request.now in
    let r = c.args.search.now.residual.now in
    let bound = g.B.ResidualBounds.bound c.args.search.now.bounds.now in
    let limit = c.args.search.now.limit in
    let none = none_there c.groups_of-groups.result.now (same_byte (length c.groups_of-groups.result.now) 0 (sym c.is_empty.ensures ∙ c.if-is_empty.true)) in
    hopeless b q r bound limit c.args.path.now start.ghosts.eq place.ghosts.eq class.ghosts.eq c.args.hopes.now c.requires.hopes c.requires.path.0 c.requires.path.1 c.in-Some.class c.in-Some.ensures.some c.args.found.now (sym c.groups_of-groups.ensures ∙ none)

pub returns-then-is_empty-2-clause-moves : goal.returns-then-is_empty-2-clause-moves
returns-then-is_empty-2-clause-moves g c =
    let b = c.args.search.now.book.now in
    let q = c.args.search.now.request.now in
    let r = c.args.search.now.residual.now in
    let bound = g.B.ResidualBounds.bound c.args.search.now.bounds.now in
    let limit = c.args.search.now.limit in
    let there = subst (λ (p : Path). Adds (IsWithinFiled b q r bound limit p.flights false) c.args.found.now c.add_way.new.found) c.of-way.ensures.path c.in_ok-add_way.ensures.moves in
    forward_alone b q r bound limit c.args.path.now (sym c.of.ensures ∙ c.is_empty-2.ensures.0 c.if-is_empty-2.true) c.args.found.now c.add_way.new.found there

pub returns-clause-moves : goal.returns-clause-moves
returns-clause-moves g c =
    let b = c.args.search.now.book.now in
    let q = c.args.search.now.request.now in
    let r = c.args.search.now.residual.now in
    let bound = g.B.ResidualBounds.bound c.args.search.now.bounds.now in
    let limit = c.args.search.now.limit in
    let there = subst (λ (p : Path). Adds (IsWithinFiled b q r bound limit p.flights false) c.args.found.now c.add_way.new.found) c.of-way.ensures.path c.in_ok-add_way.ensures.moves in
    on_ok c.add_way-2.result _ _
    (λ back. both_ways b q r bound limit c.args.path.now c.args.found.now c.add_way.new.found c.add_way-2.new.found there (subst (λ (p : Path). Adds (IsWithinFiled b q r bound limit p.flights true) c.add_way.new.found c.add_way-2.new.found) c.of-way.ensures.path back))
    c.add_way-2.ensures.moves

pub add_way-requires-clause-prospects : goal.add_way-requires-clause-prospects
add_way-requires-clause-prospects g c =
    let b = c.args.search.now.book.now in
    let q = c.args.search.now.request.now in
    let r = c.args.search.now.residual.now in
    let bound = g.B.ResidualBounds.bound c.args.search.now.bounds.now in
    let limit = c.args.search.now.limit in
    let groups = c.in_ok-prospects.prospects in
    subst (λ (p : Path). HasProspects b q r bound limit p groups) (sym c.of-way.ensures.path)
    (has_prospects b q r bound limit c.args.path.now start.ghosts.eq place.ghosts.eq class.ghosts.eq c.args.hopes.now c.requires.hopes c.requires.path.0 c.requires.path.1 c.in-Some.class c.in-Some.ensures.some groups (c.in_ok-prospects.ensures ∙ c.groups_of-groups.ensures))

pub add_way-requires-2-clause-prospects : goal.add_way-requires-2-clause-prospects
add_way-requires-2-clause-prospects g c =
    let b = c.args.search.now.book.now in
    let q = c.args.search.now.request.now in
    let r = c.args.search.now.residual.now in
    let bound = g.B.ResidualBounds.bound c.args.search.now.bounds.now in
    let limit = c.args.search.now.limit in
    let groups = c.in_ok-prospects.prospects in
    subst (λ (p : Path). HasProspects b q r bound limit p groups) (sym c.of-way.ensures.path)
    (has_prospects b q r bound limit c.args.path.now start.ghosts.eq place.ghosts.eq class.ghosts.eq c.args.hopes.now c.requires.hopes c.requires.path.0 c.requires.path.1 c.in-Some.class c.in-Some.ensures.some groups (c.in_ok-prospects.ensures ∙ c.groups_of-groups.ensures))
