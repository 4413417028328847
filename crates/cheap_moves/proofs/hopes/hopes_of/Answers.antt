use Rattle.cheap_moves.specs.contracts.hopes.PathClassPartialEq.TheImpl as class
use Rattle.cheap_moves.specs.contracts.hopes.PathStartPartialEq.TheImpl as start
use Rattle.cheap_moves.proofs.Hoped.{are_hopes}
use Rattle.law_lemmas.proofs.Options.{if_ok}
use Rattle.fare_law.specs.contracts.names.PlacePartialEq.TheImpl as place
use Rattle.cheap_moves.proofs.hopes.hopes_of.Goals as goal

pub returns : goal.returns
returns g c =
    if_ok c.within.result _ _
    (λ h has. are_hopes start.ghosts.eq place.ghosts.eq class.ghosts.eq c.args.search.now.book.now c.args.search.now.request.now c.args.search.now.residual.now (g.B.ResidualBounds.bound c.args.search.now.bounds.now) c.args.search.now.limit c.args.leads.now c.requires h has) c.within.ensures
