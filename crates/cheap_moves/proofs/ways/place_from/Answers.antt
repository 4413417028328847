use Rattle.std.proofs.Common.{◌≡◌, ◌≢◌, MatchOption, IfNone, None, Option, Some, ℕ}
use Rattle.fare_groups.specs.declared.group.FareGroup.{FareGroup}
use Rattle.fare_groups.specs.Grouping.{HasKeyAt}
use Rattle.fare_law.specs.Lists.{Each}
use Rattle.cheap_moves.proofs.ways.place_from.Goals as goal

pub returns-clause-none : goal.returns-clause-none
returns-clause-none c = by c.place_of.result c.place_of.ensures
  where
    by : (o : Option ℕ) → MatchOption o (Each (λ (g : FareGroup). g.key ≢ c.args.prospect.now.key) c.args.groups.now) (HasKeyAt c.args.prospect.now.key c.args.groups.now) → IfNone o (c.args.prospect.now.reverse ≡ c.args.reverse → Each (λ (g : FareGroup). g.key ≢ c.args.prospect.now.key) c.args.groups.now)
    by None h = λ way. h
    by (Some at) h = _
