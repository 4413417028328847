use Rattle.std.proofs.Common.{ap, refl, slice_get, subst, sym, ◌∙◌}
use Rattle.component_table.proofs.FlightFacts.{priced_none, third_outlined}
use Rattle.fare_law.specs.declared.flights.Flight.{Flight}
use Rattle.component_table.specs.Begun.{TakesOne}
use Rattle.law_lemmas.proofs.Lists.{got_is, got_within}
use Rattle.law_lemmas.proofs.Tests.{not_so}
use Rattle.fare_ends.specs.Begins.{shared}
use Rattle.component_table.proofs.networks.Network.begin_shared.Goals as goal

pub begin-requires-clause-one : goal.begin-requires-clause-one
begin-requires-clause-one c =
    let b = c.args.case.now.book.now in
    let q = c.args.case.now.request.now in
    let f = c.requires.flight in
    subst (TakesOne b q) (sym c.shared.ensures) (record { slice = got_within q.slices c.args.at.now.slice c.args.slice.now c.requires.slice; one = refl; first = f.0; stands = f.1 })

pub returns-clause-table : goal.returns-clause-table
returns-clause-table c =
    let b = c.args.case.now.book.now in
    let q = c.args.case.now.request.now in
    let at = c.args.at.now in
    let n = c.args.number in
    let f = c.requires.flight in
    let same = got_is c.flights.result.now n _ f.0 (ap (λ fs. slice_get fs n) c.flights.ensures.flights ∙ f.1) in
    priced_none b q (shared at n) c.args.self.now.room.known.outlines.of.items c.clear.new.self.found.items c.clear.ensures.found
    (third_outlined b q (shared at n) c.args.slice.now c.requires.slice n f.0 f.1 c.if-at-lt2.false (λ e. not_so c.is.result c.if-is.false c.is.ensures.1 (ap (λ (x : Flight). x.to) same ∙ e)) refl refl)
