use Rattle.std.proofs.Common.{◌∙◌, ◌++◌, IfSome, Some, ap, subst, sym}
use Rattle.std.proofs.lemmas.Bool.Decides.{Decides-eqb}
use Rattle.std.proofs.lemmas.Slice.Eq.{strip_prefix_is}
use Rattle.residual_keys.proofs.WordFacts.{Words}
use Rattle.residual_table.proofs.PositionAhead.{position_ahead}
use Rattle.residual_table.specs.KeyReading.{HasPosition, IsKnownPosition}
use Rattle.residual_table.proofs.key_reader.KeyReader.position_of.Goals as goal

pub returns-in-Some-strip_prefix-clause-position : goal.returns-in-Some-strip_prefix-clause-position
returns-in-Some-strip_prefix-clause-position c =
    let known = c.in-Some.known in
    let rest = c.in-Some-strip_prefix.rest.now in
    let is = strip_prefix_is Decides-eqb c.args.text.now c.as_slice.result.now (Some c.in-Some-strip_prefix.rest) c.in-Some-strip_prefix.ensures.cases ∙ ap (λ t. t ++ rest) c.as_slice.ensures.value in
    let right : IsKnownPosition c.self.inside.parts known = subst (λ o. IfSome o (IsKnownPosition c.self.inside.parts)) c.in-Some.is c.self.invariant.0 in
    subst (λ t. HasPosition t c.args.text.now known.number rest) c.self.view_is (subst (λ w. HasPosition c.self.inside.parts w known.number rest) (sym is) (right rest))

pub add_position-requires : goal.add_position-requires
add_position-requires c =
    let known : Words = record { cut = c.cuts_tell.ensures.first; number = c.numbers_tell.ensures.number; digits = c.numbers_tell.ensures.digits } in
    position_ahead known c.args.text.now (c.in-Some-position_of.at, c.in-Some-position_of.rest.now) c.in-Some-position_of.ensures
