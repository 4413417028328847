use Rattle.std.proofs.Common.{◌≡◌, Some, None, IfSome, IfNone, Option, ℕ, position, sym}
use Rattle.std.specs.Map.{keys_of}
use Rattle.graph_walk.specs.Rows.{IsAt, IsNowhere}
use Rattle.graph_walk.proofs.Chains.{found_at, found_nowhere}
use Rattle.graph_walk.proofs.table.Rows.find.Goals as goal

pub returns : goal.returns
returns g c = by c.place_of.result c.place_of.ensures.found c.place_of.ensures.absent
  where
    by : (r : Option ℕ) → IfSome r (IsAt g.K.PartialEq.eq c.args.key.now c.args.self.now.entries) → IfNone r (IsNowhere g.K.PartialEq.eq c.args.key.now c.args.self.now.entries) → r ≡ position (g.K.PartialEq.eq c.args.key.now) (keys_of c.args.self.now.entries)
    by None found absent = sym (found_nowhere g.K.PartialEq.eq g.met.K.Eq.laws c.args.key.now c.args.self.now.entries absent)
    by (Some i) found absent = sym (found_at g.K.PartialEq.eq g.met.K.Eq.laws c.args.key.now c.args.self.now.entries i c.place_of.ensures.differ found)
