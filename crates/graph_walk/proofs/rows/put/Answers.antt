use Rattle.std.proofs.Common.{◌∙◌, sym}
use Rattle.graph_walk.proofs.Chains.{added_last, looked_nowhere}
use Rattle.graph_walk.proofs.rows.put.Goals as goal

pub add-requires : goal.add-requires
add-requires g c = looked_nowhere g.K.PartialEq.eq g.met.K.Eq.laws c.args.key c.args.rows.now.entries c.in-None.ensures.absent

pub returns-in_ok-add-in-None-clause-puts : goal.returns-in_ok-add-in-None-clause-puts
returns-in_ok-add-in-None-clause-puts g c =
    c.in_ok-add-in-None.ensures ∙ sym (added_last g.K.PartialEq.eq g.met.K.Eq.laws c.args.key c.args.bound c.args.rows.now.entries (looked_nowhere g.K.PartialEq.eq g.met.K.Eq.laws c.args.key c.args.rows.now.entries c.in-None.ensures.absent))
