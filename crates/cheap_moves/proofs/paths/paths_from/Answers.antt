use Rattle.std.proofs.Common.{◌≡◌, ◌+◌, Bool, [], false, slice_get, sym, ap, subst, ◌∙◌}
use Rattle.cheap_moves.specs.contracts.hopes.PathStartPartialEq.TheImpl as start
use Rattle.cheap_moves.specs.Hopes.{begins_with, marked}
use Rattle.cheap_moves.specs.Sought.{AreSoughtBy}
use Rattle.cheap_moves.proofs.Seeking.{begun_by, none_begun}
use Rattle.fare_law.specs.declared.flights.Flight.{Flight}
use Rattle.flight_paths.specs.declared.positions.Position.{Position}
use Rattle.flight_paths.specs.Heads.{AreReached, AreSomeTails, HasTails, chosen}
use Rattle.law_lemmas.proofs.Lists.{get_is}
use Rattle.cheap_moves.proofs.paths.paths_from.Goals as goal

pub returns-then-not-may_begin : goal.returns-then-not-may_begin
returns-then-not-may_begin c = λ b wanted h tails.
    let o = c.args.opening.now in
    let begun : Flight → Bool = λ f. marked start.ghosts.eq c.args.hopes.now.starts (begins_with f) in
    let n = c.args.number in
    let f = c.requires.departs.0 in
    let same = get_is c.flights.result.now n f _ (ap (λ xs. slice_get xs n) c.flights.ensures.flights ∙ c.requires.departs.1) in
    subst (AreSoughtBy b o.request.now.slices o.position.now begun wanted (λ m. m ≡ n)) (sym c.new.ensures)
    (none_begun b o.request.now.slices o.position.now n begun wanted c.requires.range.0 c.requires.range.1 f (ap (λ xs. slice_get xs n) h.flights ∙ c.requires.departs.1) (subst (λ (x : Flight). begun x ≡ false) same (sym c.may_begin.ensures ∙ c.if-not-may_begin.true)))

pub visit_paths-requires-clause-tails : goal.visit_paths-requires-clause-tails
visit_paths-requires-clause-tails c = λ b h.
    let o = c.args.opening.now in
    subst (λ (p : Position). AreSomeTails b o.request.now.slices (p.slice + 1) (chosen o.tails.all.now o.tails.numbers.now)) (sym c.narrowed-narrow.ensures) (c.requires.open.tails b h)

pub returns : goal.returns
returns c = λ b wanted h tails.
    let o = c.args.opening.now in
    let begun : Flight → Bool = λ f. marked start.ghosts.eq c.args.hopes.now.starts (begins_with f) in
    let all = subst (λ (p : Position). HasTails b o.request.now.slices (p.slice + 1) wanted (chosen o.tails.all.now o.tails.numbers.now)) (sym c.narrowed-narrow.ensures) tails in
    let saw = c.in_ok-visit_paths.ensures b h wanted all in
    subst (AreSoughtBy b o.request.now.slices o.position.now begun wanted (λ m. m ≡ c.args.number)) (sym (c.from_vec.ensures ∙ saw.told [] c.new-2.ensures.items))
    (begun_by b o.request.now.slices o.position.now c.args.number begun wanted c.requires.range.0 c.requires.range.1 saw.seen (subst (λ (p : Position). AreReached b o.request.now.slices p wanted saw.seen) c.narrowed-narrow.ensures saw.are))
