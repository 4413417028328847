use Rattle.cheap_moves.proofs.RoleMoves.{forward_roles}
use Rattle.law_lemmas.proofs.Options.{on_ok}
use Rattle.cheap_moves.proofs.roles.add_forward.Goals as goal

pub returns : goal.returns
returns g c =
    on_ok c.add_role-4.result _ _
    (forward_roles c.args.search.now.residual.now (g.B.ResidualBounds.bound c.args.search.now.bounds.now) c.args.search.now.limit c.args.component.now c.keeps.ensures.few c.requires.forward c.args.found.now c.add_role.new.found c.add_role-2.new.found c.add_role-3.new.found c.add_role-4.new.found
    c.in_ok-add_role.ensures c.in_ok-add_role-2.ensures c.in_ok-add_role-3.ensures)
    c.add_role-4.ensures
