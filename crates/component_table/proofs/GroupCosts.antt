-- What a group costs on a path, as outlines of a position.
use Rattle.std.proofs.Common.{◌≡◌, ℕ, ◌+◌, ◌≤◌, Bool, List, slice_get, Some, refl, sym, ap, subst, ◌∙◌}
use Rattle.fare_ends.specs.declared.ends.EndGroup.{EndGroup}
use Rattle.fare_ends.specs.declared.ends.FareEnds.{FareEnds}
use Rattle.fare_ends.specs.declared.rule_numbers.KnownRule.{KnownRule}
use Rattle.fare_ends.specs.Ends.{IsEndGroup, between}
use Rattle.fare_ends.specs.Rules.{IsKnownRule}
use Rattle.fare_groups.specs.declared.group.FareGroup.{FareGroup}
use Rattle.fare_groups.specs.Grouping.{Cheapest, first_share}
use Rattle.fare_groups.specs.Groups.{Permits, extra_of}
use Rattle.fare_law.specs.declared.flights.Flight.{Flight}
use Rattle.fare_law.specs.declared.requests.Request.{Request}
use Rattle.fare_law.specs.declared.rules.Rule.{Rule}
use Rattle.fare_law.specs.declared.sheets.Leg.{Leg}
use Rattle.fare_law.specs.Book.{Book, live_rule}
use Rattle.fare_law.specs.Lists.{IsIn}
use Rattle.fare_law.specs.Sheets.{Sheet}
use Rattle.flight_paths.specs.declared.positions.Path.{Path}
use Rattle.flight_paths.specs.declared.positions.Position.{Position}
use Rattle.law_lemmas.proofs.Options.{some_one}
use Rattle.outlines.specs.declared.outline.Outline.{Outline}
use Rattle.outlines.specs.ByGroups.{IsCovered, OutlineOver, OverMarket}
use Rattle.outlines.specs.Outlines.{Outlined}
use Rattle.outlines.proofs.ByGroups.{groups_give}
use Rattle.fare_ends.specs.Floors.{CostsOn}

-- a group of the sheet that is filed over a path, with its rungs and its rule
module _ (b : Book) (q : Request) (at : Position) (path : Path) (fs : List Flight) (legs : List Leg) (classes : ℕ) (reverse : Bool) (sheet : Sheet) (groups : List FareGroup) (over : OverMarket b q at path fs legs classes reverse sheet groups)
    (known : FareEnds) (group : FareGroup) (g : EndGroup) (is : IsEndGroup known reverse group g) (rule : KnownRule) (stands : slice_get known.rules.of.items g.rule ≡ Some rule) (right : IsKnownRule b rule) where
  same_rule : is.rule.rule ≡ rule
  same_rule = some_one (slice_get known.rules.of.items g.rule) is.rule.rule rule is.rule.stands stands

  pub carrier_is : rule.carrier ≡ group.key.carrier
  carrier_is = ap (λ (r : KnownRule). r.carrier) (sym same_rule) ∙ is.rule.carrier_is

  pub rule_is : live_rule b group.key.carrier group.key.number ≡ Some rule.rule
  rule_is =
      let number : rule.number ≡ group.key.number = ap (λ (r : KnownRule). r.number) (sym same_rule) ∙ is.rule.number_is in
      subst (λ n. live_rule b group.key.carrier n ≡ Some rule.rule) number (subst (λ c. live_rule b c rule.number ≡ Some rule.rule) carrier_is right.live)

  -- what it costs there some component of its outline costs
  pub costs_outlined : IsIn group groups → (price : ℕ) → CostsOn rule.rule rule.carrier (first_share (between known.rungs.items g.from g.to)) (record { flights = fs; classes = classes }) price → (o : Outline) → OutlineOver o path.after fs group.key reverse → Outlined b q at o price
  costs_outlined i price c o oo =
      let cheap = subst (Cheapest classes group.fares) c.open_share (is.rungs.least classes) in
      let permits = subst (λ carrier. Permits rule.rule carrier fs) carrier_is c.permits in
      subst (Outlined b q at o) (sym c.price_is) (groups_give b q at path fs legs classes reverse sheet groups over group i rule.rule rule_is permits c.share cheap o oo)

  -- and a component that it covers costs no less than it does
  pub covered_costs : (o : Outline) (price : ℕ) (cover : IsCovered b path fs classes reverse groups o price) → cover.group ≡ group
      → (least : ℕ) × CostsOn rule.rule rule.carrier (first_share (between known.rungs.items g.from g.to)) (record { flights = fs; classes = classes }) least × (least ≤ price)
  covered_costs o price cover e =
      let fares = subst (λ (x : FareGroup). Cheapest classes x.fares (first_share (between known.rungs.items g.from g.to) classes)) (sym e) (is.rungs.least classes) in
      let low = cover.below (first_share (between known.rungs.items g.from g.to) classes) fares in
      let live = subst (λ (x : FareGroup). live_rule b x.key.carrier x.key.number ≡ Some cover.rule) e cover.live in
      let same : cover.rule ≡ rule.rule = some_one (live_rule b group.key.carrier group.key.number) cover.rule rule.rule live rule_is in
      let permits = subst (λ (r : Rule). Permits r rule.carrier fs) same (subst (λ c. Permits cover.rule c fs) (ap (λ (x : FareGroup). x.key.carrier) e ∙ sym carrier_is) cover.permits) in
      (low.0 + extra_of rule.rule fs, record { permits = permits; share = low.0; open_share = low.1; price_is = refl }, subst (λ (r : Rule). (low.0 + extra_of r fs) ≤ price) same low.2)
