use Rattle.cheap_moves.specs.contracts.hopes.PathClassPartialEq.TheImpl as class
use Rattle.cheap_moves.specs.contracts.hopes.PathStartPartialEq.TheImpl as start
use Rattle.cheap_moves.proofs.Hoped.{lead_added}
use Rattle.fare_law.specs.contracts.names.PlacePartialEq.TheImpl as place
use Rattle.cheap_moves.proofs.hopes.add_lead.Goals as goal

pub returns : goal.returns
returns c =
    lead_added start.ghosts.eq place.ghosts.eq class.ghosts.eq c.args.limit c.args.lead.now c.args.hopes.now (record { starts = c.mark.new.marks; ends = c.mark-2.new.marks; classes = c.add_group.new.classes }) c.start_of.result c.class_of.result c.prospect_of-group.result
    c.add_group.result c.start_of.ensures c.class_of.ensures c.prospect_of-group.ensures c.in_ok-mark.ensures.has c.in_ok-mark.ensures.keeps c.in_ok-mark-2.ensures.has c.in_ok-mark-2.ensures.keeps c.add_group.ensures
