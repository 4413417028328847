use Rattle.std.proofs.Common.{◌≡◌, ◌+◌, ◌++◌, ◌<◌, List, ℕ, drop, filter, length, sym, subst, ◌∙◌}
use Rattle.fare_law.specs.Lists.{Each}
use Rattle.flight_paths.specs.Heads.{TailsTo, chosen, ends_wanted, last_wanted}
use Rattle.flight_paths.proofs.Wanting.{all_kept, kept_next, known_next, left_next, wanted_tails}
use Rattle.flight_paths.proofs.ends.tails_to.Goals as goal
use Rattle.flight_paths.proofs.ends.tails_to.Goals.{then-ends_wanted+in_ok-push, else-ends_wanted}

pub loop-number-preserved : goal.loop-number-preserved
loop-number-preserved g c =
    let flights = c.args.schedule.now.flights in
    let wanted = g.E.Ends.wanted c.args.ends.now in
    let ts = c.args.tails.now in
    let ns = c.loop-number.numbers in
    let i = c.loop-number.number in
    let t = c.index-tails-number.result in
    let test = ends_wanted flights wanted in
    let told = subst (λ ns. c.ends_wanted.result ≡ last_wanted flights wanted ns) c.as_slice.ensures.items (subst (λ fs. c.ends_wanted.result ≡ last_wanted fs wanted c.as_slice.result.now) c.flights-flights.ensures.flights c.ends_wanted.ensures) in
    let is = c.index-tails-number.is in
    let lt = c.loop-number-test.true in
    let old = c.loop-number.invariant in
    elim c.if-ends_wanted.branch [
      | then-ends_wanted+in_ok-push w ↦
          let new = w.numbers-is ∙ w.in_ok-push.ensures.items in
          record {
            within = subst (Each (λ n. n < length ts)) (sym new) (known_next test ts ns i t lt is old.within);
            those = subst (λ (xs : List ℕ). chosen ts xs ++ filter test (drop (i + 1) ts) ≡ filter test ts) (sym new) (kept_next test ts ns i t lt is (sym told ∙ w.if-ends_wanted.true) old.those);
          }
      | else-ends_wanted w ↦
          record {
            within = subst (Each (λ n. n < length ts)) (sym w.numbers-is) old.within;
            those = subst (λ (xs : List ℕ). chosen ts xs ++ filter test (drop (i + 1) ts) ≡ filter test ts) (sym w.numbers-is) (left_next test ts ns i t lt is (sym told ∙ w.if-ends_wanted.false) old.those);
          }
    ]

pub returns-clause-tails : goal.returns-clause-tails
returns-clause-tails g c = λ b slices i k d.
    let plan = c.args.schedule.now in
    let wanted = g.E.Ends.wanted c.args.ends.now in
    let ts = c.args.tails.now in
    let is = all_kept (ends_wanted plan.flights wanted) (chosen ts c.loop-number.numbers) ts c.loop-number.number c.loop-number-test.false c.loop-number.invariant.those in
    subst (TailsTo b slices i wanted) (sym is) (wanted_tails b slices i plan wanted ts k d)
