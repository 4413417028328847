use Rattle.cheap_moves.proofs.RoleMoves.{back_roles}
use Rattle.law_lemmas.proofs.Options.{on_ok}
use Rattle.cheap_moves.proofs.roles.add_closing.Goals as goal

pub returns : goal.returns
returns g c =
    on_ok c.add_role-2.result _ _
    (back_roles c.args.search.now.residual.now (g.B.ResidualBounds.bound c.args.search.now.bounds.now) c.args.search.now.limit c.args.component.now c.keeps.ensures.few c.requires.reverse c.args.found.now c.add_role.new.found c.add_role-2.new.found c.in_ok-add_role.ensures)
    c.add_role-2.ensures
