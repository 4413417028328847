use Rattle.std.proofs.Common.{◌≡◌, ◌∙◌, ℤ, ap, arith, pos, refl, rules, subst, sym}
use Rattle.std.proofs.lemmas.Int.{ints}
use Rattle.fare_law.specs.Days.{IsCalendarDay}
use Rattle.fare_law.specs.Limits.{IsFlight}
use Rattle.fare_law.specs.RuleLimits.{IsRule}
use Rattle.fare_law.specs.declared.flights.Flight.{Flight}
use Rattle.fare_law.specs.declared.rules.Rule.{Rule}
use Rattle.fare_law.specs.declared.tickets.Piece.{Piece}
use Rattle.open_unit.specs.Ranges.{PieceInRanges}
use Rattle.law_lemmas.proofs.Ends.{last_like}
use Rattle.fare_rules.specs.Ranges.{IsDayWithin, StaysInRange}
use Rattle.residual_keys.proofs.OneNext.{first_one, last_one}
use Rattle.residual_keys.proofs.component.facts_over.Goals as goal

pub returns-clause-over : goal.returns-clause-over
returns-clause-over c = record {
  begins = search rules;
  ends = last_like _ _ c.args.flights.now c.last_of-last.ensures.last (λ f e. search rules);
  carrier = refl;
  number = refl;
  kind = refl;
  rule = search rules;
  reverse_is = refl;
  sale_is = search rules;
}

-- a day of the calendar lies in the range of a component's days
within : (day : ℤ) → IsCalendarDay day → IsDayWithin (pos 99000) day
within day h = (omega (arith, ints), omega (arith, ints))

in_ranges : ((r : Rule) → IsRule r → StaysInRange r) → (p : Piece) (first last : Flight) (rule : Rule) (sale : ℤ) → IsFlight first → IsFlight last → IsRule rule → IsCalendarDay sale
    → p.first_day ≡ first.day → p.last_day ≡ last.day → p.rule ≡ rule → p.sale ≡ sale → PieceInRanges p
in_ranges law p first last rule sale from to is on begin end like day =
    record {
      first_day = subst (IsDayWithin (pos 99000)) (sym begin) (within first.day from.day);
      last_day = subst (IsDayWithin (pos 99000)) (sym end) (within last.day to.day);
      sale = subst (IsDayWithin (pos 99000)) (sym day) (within sale on);
      rule = subst StaysInRange (sym like) (law rule is);
    }

pub returns-clause-in_ranges : goal.returns-clause-in_ranges
returns-clause-in_ranges c =
    let fs = c.args.flights.now in
    let first = c.first_of-first.result.now in
    let last = c.last_of-last.result.now in
    let o = returns-clause-over c in
    in_ranges c.rules_stay_in_range.ensures _ first last c.args.row.now.rule c.args.sale (c.first_of-first.ensures.limits c.requires.flights) (c.last_of-last.ensures.limits c.requires.flights) c.requires.rule c.requires.sale
    (first_one (λ f. first ≡ f) _ _ (λ f e x. x.1 ∙ ap (λ g. g.day) (sym e)) fs c.first_of-first.ensures.first o.begins)
    (last_one (λ f. last ≡ f) _ _ (λ f e x. x.1 ∙ ap (λ g. g.day) (sym e)) fs c.last_of-last.ensures.last o.ends)
    o.rule o.sale_is
