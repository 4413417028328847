use Rattle.std.proofs.Common.{◌≡◌, ℕ, suc, ◌+◌, ◌++◌, ◌∷◌, [], take, get_or, refl, sym, ap, subst, ◌∙◌, arith, IsBitSet, ◌↔◌, ◌≤◌}
use Rattle.std.proofs.Math.Seq.{take-suc}
use Rattle.fare_law.specs.declared.sheets.Leg.{Leg}
use Rattle.fare_law.specs.Lists.{Matched}
use Rattle.fare_law.specs.Offers.{flights_of}
use Rattle.residual_keys.specs.AskedKeys.{IsLeg}
use Rattle.residual_keys.proofs.Components.{legs_more}
use Rattle.law_lemmas.proofs.Pairs.{matched_more}
use Rattle.residual_keys.proofs.component.legs_of.Goals as goal

one_more : (i : ℕ) → suc i ≡ i + 1
one_more i = omega arith

pub loop-flight-preserved : goal.loop-flight-preserved
loop-flight-preserved c =
    let b = c.args.book.now in
    let fs = c.args.flights.now in
    let i = c.loop-flight.flight-index in
    let f = get_or fs i _ in
    let leg : Leg = record { flight = f; classes = c.mask.result } in
    let next : take (i + 1) fs ≡ take i fs ++ f ∷ [] = ap (λ k. take k fs) (sym (one_more i)) ∙ take-suc fs i _ c.loop-flight-test.true in
    let is : IsLeg b c.args.party f leg = record { flight = refl; fits = c.mask.type_inv; classes = λ class lt. subst (λ n. IsBitSet c.mask.result class ↔ (c.args.party ≤ n)) (c.seats-seats.ensures.flights f class) (c.mask.ensures class lt) } in (
      subst (Matched (IsLeg b c.args.party) (take (i + 1) fs)) (sym c.push.ensures) (subst (λ xs. Matched (IsLeg b c.args.party) xs (c.loop-flight.legs ++ leg ∷ [])) (sym next) (matched_more (IsLeg b c.args.party) (take i fs) c.loop-flight.legs f leg c.loop-flight.invariant.0 is)),
      ap flights_of c.push.ensures ∙ legs_more c.loop-flight.legs leg ∙ ap (λ xs. xs ++ f ∷ []) c.loop-flight.invariant.1 ∙ sym next,
    )
