use Rattle.std.proofs.Common.{subst, sym}
use Rattle.fare_component.specs.Offers.{AreOffers}
use Rattle.node_publish.proofs.node.Node.copy.Goals as goal

pub invariant_of-result : goal.invariant_of-result
invariant_of-result c =
    subst (AreOffers c.in_ok-key.key) (sym c.in_ok-offers.ensures) (c.same_offers.ensures c.self.inside.key c.in_ok-key.key (sym c.in_ok-key.ensures) c.self.inside.offers.value c.self.invariant)
