-- What a group tells of its fares. Given on to the crates above.
use Rattle.std.proofs.Common.{◌≡◌, ℕ, ◌+◌, sym, ap, subst, ◌∙◌, arith}
use Rattle.fare_groups.specs.Groups.{OfferedByGroup, OneRule, PricedByGroup, extra_of, share_of}
use Rattle.fare_groups.specs.declared.group.GroupKey.{GroupKey}
use Rattle.fare_law.specs.Book.{live_rule}
use Rattle.fare_law.specs.Lists.{OnFirst}
use Rattle.fare_law.specs.Offers.{flights_of}
use Rattle.fare_law.specs.Parts.{DayTimeHolds, FlightsHold, StopoversHold, TransfersHold, stopover_charge, surcharges}
use Rattle.law_lemmas.proofs.Options.{some_one}

pub offered_by_group : OfferedByGroup
offered_by_group g rule legs row of same direction =
    let fs = flights_of legs in
    let carrier : row.fare.key.carrier ≡ g.carrier = ap (λ x. x.carrier) of in (
      λ h. (
        record {
          day_time = subst (λ r. OnFirst (DayTimeHolds r) fs) same h.day_time;
          flights = subst (λ r. FlightsHold r fs) same h.flights;
          stopovers = subst (λ r. StopoversHold r fs) same h.stopovers;
          transfers = subst (λ c. TransfersHold rule c fs) carrier (subst (λ r. TransfersHold r row.fare.key.carrier fs) same h.transfers);
        },
        h.seats,
      ),
      λ h. record {
        direction = direction;
        seats = h.1;
        day_time = subst (λ r. OnFirst (DayTimeHolds r) fs) (sym same) h.0.day_time;
        flights = subst (λ r. FlightsHold r fs) (sym same) h.0.flights;
        stopovers = subst (λ r. StopoversHold r fs) (sym same) h.0.stopovers;
        transfers = subst (λ r. TransfersHold r row.fare.key.carrier fs) (sym same) (subst (λ c. TransfersHold rule c fs) (sym carrier) h.0.transfers);
      },
    )

grouped_sum : (a b c : ℕ) → a + b + c ≡ a + (b + c)
grouped_sum a b c = omega arith

pub priced_by_group : PricedByGroup
priced_by_group rule fs row same = grouped_sum (share_of row) (stopover_charge row.rule fs) (surcharges row.rule.cat12 fs) ∙ ap (λ r. share_of row + extra_of r fs) same

pub one_rule_all : OneRule
one_rule_all b from to sheet s r t i j same =
    let live = ((s.live r).0 i).rule in
    let other = ((s.live t).0 j).rule in
    some_one (live_rule b t.fare.key.carrier t.fare.rule) r.rule t.rule (ap (λ (g : GroupKey). live_rule b g.carrier g.number) (sym same) ∙ live) other
