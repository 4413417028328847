use Rattle.std.proofs.lemmas.Slice.Eq.{slice_eq-Decides}
use Rattle.node_publish.proofs.SameLegs.{legs_tell}
use Rattle.node_publish.proofs.keys.same_legs.Goals as goal

pub returns : goal.returns
returns c = slice_eq-Decides legs_tell _ _ _ c.eq.ensures
