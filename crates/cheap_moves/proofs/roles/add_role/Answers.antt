use Rattle.std.proofs.Common.{sym}
use Rattle.cheap_moves.proofs.RoleMoves.{role_had, role_none, role_unbound}
use Rattle.law_lemmas.proofs.Options.{on_ok}
use Rattle.cheap_moves.proofs.roles.add_role.Goals as goal

pub returns-in_default : goal.returns-in_default
returns-in_default g c = role_none c.args.search.now.residual.now (g.B.ResidualBounds.bound c.args.search.now.bounds.now) c.args.search.now.limit c.args.component.now c.args.role c.args.slot c.args.found.now c.in_default.ensures.none

pub returns-in_default-rest_after : goal.returns-in_default-rest_after
returns-in_default-rest_after g c =
    role_unbound c.args.search.now.residual.now (g.B.ResidualBounds.bound c.args.search.now.bounds.now) c.args.search.now.limit c.args.component.now c.args.role c.args.slot c.in-Some.next c.args.found.now c.in-Some.ensures.some (sym c.in_default-rest_after.ensures)

pub returns : goal.returns
returns g c =
    on_ok c.add_fares.result _ _
    (role_had c.args.search.now.residual.now (g.B.ResidualBounds.bound c.args.search.now.bounds.now) c.args.search.now.limit c.args.component.now (record { role = c.args.role; slot = c.args.slot; next = c.in-Some.next; rest = c.in-Some-rest_after.rest })
    c.args.found.now c.add_fares.new.found c.in-Some.ensures.some (sym c.in-Some-rest_after.ensures)) c.add_fares.ensures
