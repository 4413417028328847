use Rattle.std.proofs.Common.{◌≡◌, ◌<◌, ◌+◌, Bool, ℕ, List, length, ap, refl, subst, sym, ◌∙◌, inl, inr}
use Rattle.cheap_moves.specs.contracts.hopes.PathClassPartialEq.TheImpl as class
use Rattle.cheap_moves.specs.contracts.hopes.PathStartPartialEq.TheImpl as start
use Rattle.cheap_moves.specs.declared.endings.Endings.{Endings}
use Rattle.cheap_moves.specs.Hopes.{begins_with, marked}
use Rattle.cheap_moves.specs.Sought.{AreSoughtBy}
use Rattle.cheap_moves.proofs.DrawnPaths.{hopes_now, no_marks}
use Rattle.cheap_moves.proofs.Passing.{batch_passed, narrowed_for}
use Rattle.fare_law.specs.declared.flights.Flight.{Flight}
use Rattle.fare_law.specs.Book.{Book}
use Rattle.fare_law.specs.contracts.names.PlacePartialEq.TheImpl as place
use Rattle.fare_law.specs.Lists.{Each}
use Rattle.flight_paths.specs.Heads.{AreSomeTails, HasTails, chosen}
use Rattle.residual_keys.specs.Residuals.{State}
use Rattle.cheap_moves.proofs.drawing.list_paths.Goals as goal

pub paths_from-requires-clause-open : goal.paths_from-requires-clause-open
paths_from-requires-clause-open g c =
    let s = c.args.draw.now.search.now in
    let d = c.args.drawn.now in
    let bound = g.B.ResidualBounds.bound s.bounds.now in
    let hopes = hopes_now start.ghosts.eq place.ghosts.eq class.ghosts.eq s.book.now s.request.now s.residual.now bound s.limit c.args.draw.now.hopes.now c.requires.hopes d.limit d.sunk c.hopes_within-hopes.result.now c.requires.drawn.1.hopes
    c.hopes_within-hopes.ensures.some c.hopes_within-hopes.ensures.none in
    let t = narrowed_for s.book.now s.request.now s.residual.now bound s.limit c.args.draw.now.wanted c.requires.drawn.0 d.kept.items d.limit c.requires.drawn.1.kept start.ghosts.eq place.ghosts.eq class.ghosts.eq c.hopes_within-hopes.result.now hopes c.args.draw.now.tails.now
    c.args.endings.now.numbers c.narrow.new.endings.numbers c.requires.drawn.2 (elim c.in_ok-narrow.ensures [ inl e ↦ inl (ap (λ (x : Endings). x.numbers) e) | inr f ↦ inr (f s.request.now.slices (s.residual.now.at.slice + 1) c.requires.tails) ]) in
    let plan = c.schedule_of.ensures in
    let chosen_as = λ (b : Book) (ns : List ℕ) (x : State). AreSomeTails b s.request.now.slices (x.at.slice + 1) (chosen c.args.draw.now.tails.now ns) in
    record {
      known = subst (λ (x : State). x.at.slice < length s.request.now.slices) (sym c.residual.view_is) c.requires.known;
      marks = no_marks c.schedule_of.result.now.flights c.args.draw.now.tails.now _ refl;
      numbers = subst (Each (λ n. n < length c.args.draw.now.tails.now)) (sym c.as_slice.ensures) t.ending.within;
      tails = λ b h. subst (chosen_as b c.as_slice.result.now) (sym c.residual.view_is) (subst (λ ns. chosen_as b ns s.residual.now) (sym c.as_slice.ensures) (t.ending.to b (record { places = h.places ∙ sym plan.places; flights = h.flights ∙ sym plan.flights })).are);
    }

pub returns-clause-tails : goal.returns-clause-tails
returns-clause-tails g c = λ seen drawn for.
    let s = c.args.draw.now.search.now in
    let d = c.args.drawn.now in
    let bound = g.B.ResidualBounds.bound s.bounds.now in
    let hopes = hopes_now start.ghosts.eq place.ghosts.eq class.ghosts.eq s.book.now s.request.now s.residual.now bound s.limit c.args.draw.now.hopes.now c.requires.hopes d.limit d.sunk c.hopes_within-hopes.result.now drawn.hopes
    c.hopes_within-hopes.ensures.some c.hopes_within-hopes.ensures.none in
    narrowed_for s.book.now s.request.now s.residual.now bound s.limit c.args.draw.now.wanted seen d.kept.items d.limit drawn.kept start.ghosts.eq place.ghosts.eq class.ghosts.eq c.hopes_within-hopes.result.now hopes c.args.draw.now.tails.now
    c.args.endings.now.numbers c.narrow.new.endings.numbers for (elim c.in_ok-narrow.ensures [ inl e ↦ inl (ap (λ (x : Endings). x.numbers) e) | inr f ↦ inr (f s.request.now.slices (s.residual.now.at.slice + 1) c.requires.tails) ])

pub returns-clause-paths : goal.returns-clause-paths
returns-clause-paths g c = λ seen drawn for.
    let s = c.args.draw.now.search.now in
    let d = c.args.drawn.now in
    let bound = g.B.ResidualBounds.bound s.bounds.now in
    let h = c.hopes_within-hopes.result.now in
    let hopes = hopes_now start.ghosts.eq place.ghosts.eq class.ghosts.eq s.book.now s.request.now s.residual.now bound s.limit c.args.draw.now.hopes.now c.requires.hopes d.limit d.sunk h drawn.hopes c.hopes_within-hopes.ensures.some c.hopes_within-hopes.ensures.none in
    let t = narrowed_for s.book.now s.request.now s.residual.now bound s.limit c.args.draw.now.wanted seen d.kept.items d.limit drawn.kept start.ghosts.eq place.ghosts.eq class.ghosts.eq h hopes c.args.draw.now.tails.now
    c.args.endings.now.numbers c.narrow.new.endings.numbers for (elim c.in_ok-narrow.ensures [ inl e ↦ inl (ap (λ (x : Endings). x.numbers) e) | inr f ↦ inr (f s.request.now.slices (s.residual.now.at.slice + 1) c.requires.tails) ]) in
    let begun : Flight → Bool = λ f. marked start.ghosts.eq h.starts (begins_with f) in
    let ends = λ (ns : List ℕ) (x : State). HasTails s.book.now s.request.now.slices (x.at.slice + 1) t.at_end (chosen c.args.draw.now.tails.now ns) in
    let all = subst (ends c.as_slice.result.now) (sym c.residual.view_is) (subst (λ ns. ends ns s.residual.now) (sym c.as_slice.ensures) (t.ending.to s.book.now (record { places = refl; flights = refl })).all) in
    batch_passed s.book.now s.request.now s.residual.now bound s.limit c.args.draw.now.wanted seen d.kept.items d.limit drawn.kept start.ghosts.eq place.ghosts.eq class.ghosts.eq h hopes c.args.draw.now.tails.now c.narrow.new.endings.numbers t (λ n. n ≡ c.args.number) c.in_ok-paths.paths
    (subst (λ (x : State). AreSoughtBy s.book.now s.request.now.slices x.at begun t.at_end (λ n. n ≡ c.args.number) c.in_ok-paths.paths) c.residual.view_is (c.in_ok-paths.ensures s.book.now t.at_end c.schedule_of.ensures all))
