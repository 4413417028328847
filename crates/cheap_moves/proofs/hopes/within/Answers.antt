use Rattle.std.proofs.Common.{refl}
use Rattle.cheap_moves.specs.contracts.hopes.PathClassPartialEq.TheImpl as class
use Rattle.cheap_moves.specs.contracts.hopes.PathStartPartialEq.TheImpl as start
use Rattle.cheap_moves.proofs.Hoped.{hopes_more}
use Rattle.fare_law.specs.contracts.names.PlacePartialEq.TheImpl as place
use Rattle.cheap_moves.proofs.hopes.within.Goals as goal

pub loop-lead-preserved : goal.loop-lead-preserved
loop-lead-preserved c = hopes_more start.ghosts.eq place.ghosts.eq class.ghosts.eq c.args.limit c.args.leads.now c.loop-lead.lead-index _ _ c.loop-lead.hopes c.add_lead.new.hopes c.loop-lead-test.true refl c.loop-lead.invariant c.in_ok-add_lead.ensures
