use Rattle.std.proofs.Common.{rules}
use Rattle.std.proofs.lemmas.Fn.{always_returns_same}
use Rattle.fare_groups.specs.declared.group.FareGroup.{FareGroup}
use Rattle.fare_groups.specs.Grouping.{key_order}
use Rattle.fare_groups.proofs.KeyOrder.{groups_rise, key_at, no_key}
use Rattle.fare_groups.proofs.grouping.place_of.Goals as goal

pub returns-in-Ok : goal.returns-in-Ok
returns-in-Ok c =
    let ord = λ (g : FareGroup). key_order g.key c.args.key in
    key_at c.args.key c.args.groups.now c.in-Ok.at c.in-Ok.ensures.bound (c.in-Ok.ensures.position ord (always_returns_same _ _ _ (λ a r q k. search rules)))

pub returns-in-Err : goal.returns-in-Err
returns-in-Err c =
    let ord = λ (g : FareGroup). key_order g.key c.args.key in
    let point = c.in-Err.ensures.position ord (always_returns_same _ _ _ (λ a r q k. search rules)) (groups_rise c.args.key c.args.groups.now c.requires) in
    no_key c.args.key c.args.groups.now c.in-Err.field-0 point.0 point.1
