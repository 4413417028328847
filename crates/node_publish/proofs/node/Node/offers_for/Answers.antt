use Rattle.std.proofs.Common.{◌∙◌}
use Rattle.node_publish.proofs.node.Node.offers_for.Goals as goal

pub returns : goal.returns
returns c = c.same_offers.ensures c.self.inside.key c.args.key.now (c.self.view_is ∙ c.requires) c.self.inside.offers.value c.self.invariant
