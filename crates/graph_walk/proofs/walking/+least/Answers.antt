use Rattle.std.proofs.Common.{◌≡◌, ◌⊎◌, ◌∙◌, ◌+◌, ◌++◌, ◌∷◌, [], ℕ, suc, length, take, ◌≤◌, Some, None, option_map, sym, ap, subst, arith, rules}
use Rattle.std.proofs.Math.Seq.{take-suc}
use Rattle.std.proofs.lemmas.List.{take_all}
use Rattle.fare_law.specs.Lists.{IsIn}
use Rattle.graph_walk.specs.Walks.{states, Costs, LeastBy, Reached}
use Rattle.graph_walk.specs.Walks.Reached.{here}
use Rattle.graph_walk.specs.Steps.{AreLive, Good, KeepsStates, TellsStates, Walked, lesser, outcome_of, outcomes_of, rows_of}
use Rattle.graph_walk.proofs.RowFacts.{as_many_rows, found, keeps_on, keeps_self, live_rows, live_set, missing, one_more_row, outcomes_snoc, row_in, rows_length, same_rows, sets, Sets}
use Rattle.graph_walk.proofs.Chains.{added_last}
use Rattle.graph_walk.proofs.Going.{Going, begins, above, least_of_run, good_here, walked_here}
use Rattle.graph_walk.proofs.Ending.{too_many, move_of, live_of, short_after, exceeds_if, from_here, low_rest, least_over, turn_over, turn_on}
use Rattle.graph_walk.proofs.walking.+least.Goals as goal
use Rattle.graph_walk.proofs.walking.+least.Goals.{least_of_new-in-None, least_of_new-in-Some+in_ok-rest-in-Some}

pub least_from-returns-in-Some-clause-good : goal.least_from-returns-in-Some-clause-good
least_from-returns-in-Some-clause-good g t c =
    let L = g.S.Steps.leads c.args.context.now in
    let live = g.S.Steps.live in
    let state = g.S.Steps.state in
    let known = g.S.Steps.known c.args.context.now in
    let eq = g.K.PartialEq.eq in
    let s0 = c.args.steps.now in
    let key = c.args.key in
    let x = state s0 key in
    let es0 = c.args.rows.now.entries in
    let r0 = rows_of (state s0) es0 in
    let i = found eq (live s0) (state s0) c.requires.tells key c.in-Some.known es0 c.requires.live c.requires.alive (sym c.in-Some.ensures) in
    let good = c.requires.above x (row_in x c.in-Some.known r0 i) (omega arith) in
    good

pub least_from-returns-in-Some-clause-least : goal.least_from-returns-in-Some-clause-least
least_from-returns-in-Some-clause-least g t c =
    let L = g.S.Steps.leads c.args.context.now in
    let live = g.S.Steps.live in
    let state = g.S.Steps.state in
    let known = g.S.Steps.known c.args.context.now in
    let eq = g.K.PartialEq.eq in
    let s0 = c.args.steps.now in
    let key = c.args.key in
    let x = state s0 key in
    let es0 = c.args.rows.now.entries in
    let r0 = rows_of (state s0) es0 in
    let i = found eq (live s0) (state s0) c.requires.tells key c.in-Some.known es0 c.requires.live c.requires.alive (sym c.in-Some.ensures) in
    let good = c.requires.above x (row_in x c.in-Some.known r0 i) (omega arith) in
    good.least c.in-Some.known i

pub least_from-returns-in-None-clause-large : goal.least_from-returns-in-None-clause-large
least_from-returns-in-None-clause-large g t c =
    let L = g.S.Steps.leads c.args.context.now in
    let live = g.S.Steps.live in
    let state = g.S.Steps.state in
    let known = g.S.Steps.known c.args.context.now in
    let eq = g.K.PartialEq.eq in
    let s0 = c.args.steps.now in
    let key = c.args.key in
    let x = state s0 key in
    let es0 = c.args.rows.now.entries in
    let r0 = rows_of (state s0) es0 in
    let none = missing eq (live s0) (state s0) c.requires.tells key es0 c.requires.live c.requires.alive (sym c.in-None.ensures) in
    let long = rows_length (state s0) es0 in
    too_many L x r0 c.args.budget c.requires.once none (omega (arith, c.if-len-budget.true, c.len.ensures.len, c.requires.few))

pub least_of_new-loop-outcome-init : goal.least_of_new-loop-outcome-init
least_of_new-loop-outcome-init g t c =
    let L = g.S.Steps.leads c.args.context.now in
    let live = g.S.Steps.live in
    let state = g.S.Steps.state in
    let known = g.S.Steps.known c.args.context.now in
    let eq = g.K.PartialEq.eq in
    let s0 = c.args.steps.now in
    let key = c.args.key in
    let x = state s0 key in
    let es0 = c.args.rows.now.entries in
    let r0 = rows_of (state s0) es0 in
    let s1 = c.outcomes.new.self in
    let es1 = c.add.new.self.entries in
    let none = missing eq (live s0) (state s0) c.requires.tells key es0 c.requires.live c.requires.alive c.requires.new in
    let is = c.in_ok-add.ensures ∙ sym (added_last eq g.met.K.Eq.laws key None es0 c.requires.new) in
    let alive = subst (λ rows. AreLive (live s0) rows) (sym is) (live_set eq (live s0) key None es0 c.requires.live c.requires.alive) in
    let keeps = c.in_ok-outcomes.ensures.keeps in
    let same = same_rows (live s0) (live s1) (state s0) (state s1) keeps es1 alive in
    let one = subst (λ rows. Sets x None r0 (rows_of (state s0) rows)) (sym is) (sets eq (live s0) (state s0) c.requires.tells key None es0 c.requires.live c.requires.alive c.requires.once) in
    let many = one_more_row eq key None es0 in
    let long = ap length is in record {
      going = begins L (known s0) (known s1) x r0 (rows_of (state s1) es1) (λ z. g.met.S.Steps.stays c.args.context.now s0 s1 z c.outcomes.ensures.later) c.in_ok-outcomes.ensures.asked none (subst (λ rows. Sets x None r0 rows) (sym same) one);
      alive = live_rows (live s0) (live s1) (state s0) (state s1) keeps es1 alive;
      tells = c.in_ok-outcomes.ensures.tells;
      keeps = keeps;
      later = keeps_self (live s1) (state s1);
      so_far = c.outcomes.ensures.later;
      few = omega (arith, c.requires.few, many, long);
    }

pub least_of_new-least_from-requires : goal.least_of_new-least_from-requires
least_of_new-least_from-requires g t c κs within =
    let L = g.S.Steps.leads c.args.context.now in
    let live = g.S.Steps.live in
    let state = g.S.Steps.state in
    let known = g.S.Steps.known c.args.context.now in
    let eq = g.K.PartialEq.eq in
    let s0 = c.args.steps.now in
    let key = c.args.key in
    let x = state s0 key in
    let es0 = c.args.rows.now.entries in
    let r0 = rows_of (state s0) es0 in
    let s1 = c.outcomes.new.self in
    let s = c.loop-outcome.steps in
    let es = c.loop-outcome.rows.entries in
    let r = rows_of (state s) es in
    let os = c.as_slice-outcome-items.result.now in
    let items = c.in_ok-outcomes.outcomes.items in
    let i = c.loop-outcome.outcome-index in
    let done = outcomes_of (state s1) (take i os) in
    let least = c.loop-outcome.least in
    let invariant = c.loop-outcome.invariant in
    let going = invariant.going in
    let o = c.outcome-item.result in
    let made = outcome_of (state s1) o in
    let any = move_of L (state s1) x os items i o c.in_ok-outcomes.ensures.outcomes c.as_slice-outcome-items.ensures.value c.loop-outcome-test.true c.outcome-item.is in
    let next = c.in-Some.next in
    let lives = live_of (live s1) os items i o next c.in_ok-outcomes.ensures.live c.as_slice-outcome-items.ensures.value c.loop-outcome-test.true c.outcome-item.is c.in-Some.is in
    let kept = invariant.later next lives in
    let y = state s next in
    let made_is : made.next ≡ Some y = ap (option_map (state s1)) c.in-Some.is ∙ ap (λ z. Some z) (sym kept.1) in
    let l = subst (λ n. L x n o.price) made_is any in
    let up = c.requires.short.raises x y o.price here l in
    let short = short_after L g.S.Steps.level x y o.price l c.requires.short in
    let few = short.few y here in
    let high = above L g.S.Steps.level (known s0) (known s) x y r0 r done least up c.requires.above going in
    (omega (arith, c.decreases, up, few), (within.0, (within.1.0, (within.1.1.0, (within.1.1.1, (g.met.S.Steps.fitting c.args.context.now s0 s invariant.so_far c.requires.fits, (kept.0, (invariant.alive, (invariant.tells, (short, (going.once, (high, invariant.few))))))))))))

pub least_of_new-returns-in_err-rest-in-Some-clause-large : goal.least_of_new-returns-in_err-rest-in-Some-clause-large
least_of_new-returns-in_err-rest-in-Some-clause-large g t c =
    let L = g.S.Steps.leads c.args.context.now in
    let live = g.S.Steps.live in
    let state = g.S.Steps.state in
    let known = g.S.Steps.known c.args.context.now in
    let eq = g.K.PartialEq.eq in
    let s0 = c.args.steps.now in
    let key = c.args.key in
    let x = state s0 key in
    let es0 = c.args.rows.now.entries in
    let r0 = rows_of (state s0) es0 in
    let s1 = c.outcomes.new.self in
    let s = c.loop-outcome.steps in
    let es = c.loop-outcome.rows.entries in
    let r = rows_of (state s) es in
    let os = c.as_slice-outcome-items.result.now in
    let items = c.in_ok-outcomes.outcomes.items in
    let i = c.loop-outcome.outcome-index in
    let done = outcomes_of (state s1) (take i os) in
    let least = c.loop-outcome.least in
    let invariant = c.loop-outcome.invariant in
    let going = invariant.going in
    let o = c.outcome-item.result in
    let made = outcome_of (state s1) o in
    let any = move_of L (state s1) x os items i o c.in_ok-outcomes.ensures.outcomes c.as_slice-outcome-items.ensures.value c.loop-outcome-test.true c.outcome-item.is in
    let next = c.in-Some.next in
    let lives = live_of (live s1) os items i o next c.in_ok-outcomes.ensures.live c.as_slice-outcome-items.ensures.value c.loop-outcome-test.true c.outcome-item.is c.in-Some.is in
    let kept = invariant.later next lives in
    let y = state s next in
    let made_is : made.next ≡ Some y = ap (option_map (state s1)) c.in-Some.is ∙ ap (λ z. Some z) (sym kept.1) in
    let l = subst (λ n. L x n o.price) made_is any in
    let far = exceeds_if (λ z. IsIn z (states r) ⊎ Reached L y z) (λ z. IsIn z (states r0) ⊎ Reached L x z) c.args.budget c.in_err-rest-in-Some.field-0.0
    (from_here L (known s0) (known s) x y o.price r0 r done least l going) c.in_err-rest-in-Some.ensures.large in
    search (rules, far)

pub least_of_new-lesser-least-requires : goal.least_of_new-lesser-least-requires
least_of_new-lesser-least-requires g t c =
    let L = g.S.Steps.leads c.args.context.now in
    let live = g.S.Steps.live in
    let state = g.S.Steps.state in
    let known = g.S.Steps.known c.args.context.now in
    let eq = g.K.PartialEq.eq in
    let s0 = c.args.steps.now in
    let key = c.args.key in
    let x = state s0 key in
    let es0 = c.args.rows.now.entries in
    let r0 = rows_of (state s0) es0 in
    let s1 = c.outcomes.new.self in
    let s = c.loop-outcome.steps in
    let es = c.loop-outcome.rows.entries in
    let r = rows_of (state s) es in
    let os = c.as_slice-outcome-items.result.now in
    let items = c.in_ok-outcomes.outcomes.items in
    let i = c.loop-outcome.outcome-index in
    let done = outcomes_of (state s1) (take i os) in
    let least = c.loop-outcome.least in
    let invariant = c.loop-outcome.invariant in
    let going = invariant.going in
    let o = c.outcome-item.result in
    let made = outcome_of (state s1) o in
    let any = move_of L (state s1) x os items i o c.in_ok-outcomes.ensures.outcomes c.as_slice-outcome-items.ensures.value c.loop-outcome-test.true c.outcome-item.is in
    elim c.match-outcome.branch [
      | least_of_new-in-None w ↦ low_rest L g.S.Steps.level x made.next o.price c.match-outcome.rest c.requires.short any (least_over L made.next c.match-outcome.rest (ap (option_map (state s1)) w.in-None.is) w.rest-is)
      | least_of_new-in-Some+in_ok-rest-in-Some w ↦
          let next = w.in-Some.next in
          let lives = live_of (live s1) os items i o next c.in_ok-outcomes.ensures.live c.as_slice-outcome-items.ensures.value c.loop-outcome-test.true c.outcome-item.is w.in-Some.is in
          let kept = invariant.later next lives in
          let y = state s next in
          let made_is : made.next ≡ Some y = ap (option_map (state s1)) w.in-Some.is ∙ ap (λ z. Some z) (sym kept.1) in
          let l = subst (λ n. L x n o.price) made_is any in
          low_rest L g.S.Steps.level x (Some y) o.price c.match-outcome.rest c.requires.short l (subst (λ b. LeastBy (Costs L (Some y)) b) (sym w.rest-is) w.in_ok-rest-in-Some.ensures.least)
    ]

pub least_of_new-loop-outcome-preserved : goal.least_of_new-loop-outcome-preserved
least_of_new-loop-outcome-preserved g t c =
    let L = g.S.Steps.leads c.args.context.now in
    let live = g.S.Steps.live in
    let state = g.S.Steps.state in
    let known = g.S.Steps.known c.args.context.now in
    let eq = g.K.PartialEq.eq in
    let s0 = c.args.steps.now in
    let key = c.args.key in
    let x = state s0 key in
    let es0 = c.args.rows.now.entries in
    let r0 = rows_of (state s0) es0 in
    let s1 = c.outcomes.new.self in
    let s = c.loop-outcome.steps in
    let es = c.loop-outcome.rows.entries in
    let r = rows_of (state s) es in
    let os = c.as_slice-outcome-items.result.now in
    let items = c.in_ok-outcomes.outcomes.items in
    let i = c.loop-outcome.outcome-index in
    let done = outcomes_of (state s1) (take i os) in
    let least = c.loop-outcome.least in
    let invariant = c.loop-outcome.invariant in
    let going = invariant.going in
    let o = c.outcome-item.result in
    let made = outcome_of (state s1) o in
    let any = move_of L (state s1) x os items i o c.in_ok-outcomes.ensures.outcomes c.as_slice-outcome-items.ensures.value c.loop-outcome-test.true c.outcome-item.is in
    let s2 = c.match-outcome.steps in
    let es2 = c.match-outcome.rows.entries in
    let r2 = rows_of (state s2) es2 in
    let rest = c.match-outcome.rest in
    let after : suc i ≡ i + 1 = omega arith in
    let front : take (i + 1) os ≡ take i os ++ o ∷ [] = ap (λ (n : ℕ). take n os) (sym after) ∙ (take-suc os i o c.loop-outcome-test.true ∙ ap (λ z. take i os ++ z ∷ []) (sym c.outcome-item.is)) in
    let fronts : outcomes_of (state s1) (take (i + 1) os) ≡ done ++ made ∷ [] = ap (outcomes_of (state s1)) front ∙ outcomes_snoc (state s1) (take i os) o in
    let turned = λ (h : Going L (known s0) (known s2) x r0 r2 (done ++ made ∷ []) (lesser least rest o.price)).
    subst (λ b. Going L (known s0) (known s2) x r0 r2 (outcomes_of (state s1) (take (i + 1) os)) b) (sym c.lesser-least.ensures) (subst (λ d. Going L (known s0) (known s2) x r0 r2 d (lesser least rest o.price)) (sym fronts) h) in
    elim c.match-outcome.branch [
      | least_of_new-in-None w ↦
          let rows_are : r2 ≡ r = λ j. rows_of (state (w.steps-is j)) (w.rows-is j).entries in record {
            going = turned (turn_over L known s0 s s2 x r0 r r2 done made least rest w.steps-is rows_are w.rest-is (ap (option_map (state s1)) w.in-None.is) going);
            alive = subst (λ m. AreLive (live s2) m.entries) (sym w.rows-is) (subst (λ z. AreLive (live z) es) (sym w.steps-is) invariant.alive);
            tells = subst (λ z. TellsStates (live z) (state z) eq) (sym w.steps-is) invariant.tells;
            keeps = subst (λ z. KeepsStates (live s0) (live z) (state s0) (state z)) (sym w.steps-is) invariant.keeps;
            later = subst (λ z. KeepsStates (live s1) (live z) (state s1) (state z)) (sym w.steps-is) invariant.later;
            so_far = subst (λ z. g.S.Steps.later s0 z) (sym w.steps-is) invariant.so_far;
            few = subst (λ m. length m.entries ≤ c.args.budget) (sym w.rows-is) invariant.few;
          }
      | least_of_new-in-Some+in_ok-rest-in-Some w ↦
          let next = w.in-Some.next in
          let lives = live_of (live s1) os items i o next c.in_ok-outcomes.ensures.live c.as_slice-outcome-items.ensures.value c.loop-outcome-test.true c.outcome-item.is w.in-Some.is in
          let kept = invariant.later next lives in
          let y = state s next in
          let made_is : made.next ≡ Some y = ap (option_map (state s1)) w.in-Some.is ∙ ap (λ z. Some z) (sym kept.1) in
          let l = subst (λ n. L x n o.price) made_is any in
          let s3 = w.least_from.new.steps in
          let es3 = w.least_from.new.rows.entries in
          let found_there = w.in_ok-rest-in-Some.ensures in
          let rows_are : r2 ≡ rows_of (state s3) es3 = λ j. rows_of (state (w.steps-is j)) (w.rows-is j).entries in record {
            going = turned (turn_on L known s0 s s2 s3 x y r0 r r2 (rows_of (state s3) es3) done made least rest w.in_ok-rest-in-Some.rest w.steps-is rows_are w.rest-is made_is any (λ z. g.met.S.Steps.stays c.args.context.now s s3 z w.least_from.ensures.later) found_there.walked found_there.good found_there.least going);
            alive = subst (λ m. AreLive (live s2) m.entries) (sym w.rows-is) (subst (λ z. AreLive (live z) es3) (sym w.steps-is) found_there.alive);
            tells = subst (λ z. TellsStates (live z) (state z) eq) (sym w.steps-is) found_there.tells;
            keeps = subst (λ z. KeepsStates (live s0) (live z) (state s0) (state z)) (sym w.steps-is) (keeps_on (live s0) (live s) (live s3) (state s0) (state s) (state s3) invariant.keeps found_there.keeps);
            later = subst (λ z. KeepsStates (live s1) (live z) (state s1) (state z)) (sym w.steps-is) (keeps_on (live s1) (live s) (live s3) (state s1) (state s) (state s3) invariant.later found_there.keeps);
            so_far = subst (λ z. g.S.Steps.later s0 z) (sym w.steps-is) (g.met.S.Steps.further s0 s s3 invariant.so_far w.least_from.ensures.later);
            few = subst (λ m. length m.entries ≤ c.args.budget) (sym w.rows-is) found_there.few;
          }
    ]

pub least_of_new-returns-clause-walked : goal.least_of_new-returns-clause-walked
least_of_new-returns-clause-walked g t c =
    let L = g.S.Steps.leads c.args.context.now in
    let live = g.S.Steps.live in
    let state = g.S.Steps.state in
    let known = g.S.Steps.known c.args.context.now in
    let eq = g.K.PartialEq.eq in
    let s0 = c.args.steps.now in
    let key = c.args.key in
    let x = state s0 key in
    let es0 = c.args.rows.now.entries in
    let r0 = rows_of (state s0) es0 in
    let s1 = c.outcomes.new.self in
    let s = c.loop-outcome.steps in
    let es = c.loop-outcome.rows.entries in
    let r = rows_of (state s) es in
    let os = c.as_slice-outcome-items.result.now in
    let items = c.in_ok-outcomes.outcomes.items in
    let i = c.loop-outcome.outcome-index in
    let done = outcomes_of (state s1) (take i os) in
    let least = c.loop-outcome.least in
    let invariant = c.loop-outcome.invariant in
    let going = invariant.going in
    let es2 = c.put.new.rows.entries in
    let all = take_all i os c.loop-outcome-test.false in
    let ended = subst (λ d. Going L (known s0) (known s) x r0 r (outcomes_of (state s1) d) least) (all ∙ c.as_slice-outcome-items.ensures.value) going in
    let here_live = invariant.keeps key c.requires.live in
    let one = subst (λ y. Sets y least r (rows_of (state s) es2)) here_live.1 (subst (λ rows. Sets (state s key) least r (rows_of (state s) rows)) (sym c.in_ok-put.ensures.puts)
    (sets eq (live s) (state s) invariant.tells key least es here_live.0 invariant.alive ended.once)) in
    subst (λ z. Walked L (known s0) (known z) x r0 (rows_of (state z) es2)) (sym c.take_back.ensures) (walked_here L (known s0) (known s) x r0 r (rows_of (state s) es2) (outcomes_of (state s1) items) least c.in_ok-outcomes.ensures.outcomes ended one)

pub least_of_new-returns-clause-good : goal.least_of_new-returns-clause-good
least_of_new-returns-clause-good g t c =
    let L = g.S.Steps.leads c.args.context.now in
    let live = g.S.Steps.live in
    let state = g.S.Steps.state in
    let known = g.S.Steps.known c.args.context.now in
    let eq = g.K.PartialEq.eq in
    let s0 = c.args.steps.now in
    let key = c.args.key in
    let x = state s0 key in
    let es0 = c.args.rows.now.entries in
    let r0 = rows_of (state s0) es0 in
    let s1 = c.outcomes.new.self in
    let s = c.loop-outcome.steps in
    let es = c.loop-outcome.rows.entries in
    let r = rows_of (state s) es in
    let os = c.as_slice-outcome-items.result.now in
    let items = c.in_ok-outcomes.outcomes.items in
    let i = c.loop-outcome.outcome-index in
    let done = outcomes_of (state s1) (take i os) in
    let least = c.loop-outcome.least in
    let invariant = c.loop-outcome.invariant in
    let going = invariant.going in
    let es2 = c.put.new.rows.entries in
    let all = take_all i os c.loop-outcome-test.false in
    let ended = subst (λ d. Going L (known s0) (known s) x r0 r (outcomes_of (state s1) d) least) (all ∙ c.as_slice-outcome-items.ensures.value) going in
    let here_live = invariant.keeps key c.requires.live in
    let one = subst (λ y. Sets y least r (rows_of (state s) es2)) here_live.1 (subst (λ rows. Sets (state s key) least r (rows_of (state s) rows)) (sym c.in_ok-put.ensures.puts)
    (sets eq (live s) (state s) invariant.tells key least es here_live.0 invariant.alive ended.once)) in
    subst (λ z. Good L (known z) (rows_of (state z) es2) x) (sym c.take_back.ensures) (good_here L (known s0) (known s) x r0 r (rows_of (state s) es2) (outcomes_of (state s1) items) least c.in_ok-outcomes.ensures.outcomes ended one)

pub least_of_new-returns-clause-least : goal.least_of_new-returns-clause-least
least_of_new-returns-clause-least g t c =
    let L = g.S.Steps.leads c.args.context.now in
    let live = g.S.Steps.live in
    let state = g.S.Steps.state in
    let known = g.S.Steps.known c.args.context.now in
    let eq = g.K.PartialEq.eq in
    let s0 = c.args.steps.now in
    let key = c.args.key in
    let x = state s0 key in
    let es0 = c.args.rows.now.entries in
    let r0 = rows_of (state s0) es0 in
    let s1 = c.outcomes.new.self in
    let s = c.loop-outcome.steps in
    let es = c.loop-outcome.rows.entries in
    let r = rows_of (state s) es in
    let os = c.as_slice-outcome-items.result.now in
    let items = c.in_ok-outcomes.outcomes.items in
    let i = c.loop-outcome.outcome-index in
    let done = outcomes_of (state s1) (take i os) in
    let least = c.loop-outcome.least in
    let invariant = c.loop-outcome.invariant in
    let going = invariant.going in
    let es2 = c.put.new.rows.entries in
    let all = take_all i os c.loop-outcome-test.false in
    let ended = subst (λ d. Going L (known s0) (known s) x r0 r (outcomes_of (state s1) d) least) (all ∙ c.as_slice-outcome-items.ensures.value) going in
    let here_live = invariant.keeps key c.requires.live in
    let one = subst (λ y. Sets y least r (rows_of (state s) es2)) here_live.1 (subst (λ rows. Sets (state s key) least r (rows_of (state s) rows)) (sym c.in_ok-put.ensures.puts)
    (sets eq (live s) (state s) invariant.tells key least es here_live.0 invariant.alive ended.once)) in
    least_of_run L x (outcomes_of (state s1) items) c.in_ok-outcomes.ensures.outcomes least ended.priced

pub least_of_new-returns-clause-few : goal.least_of_new-returns-clause-few
least_of_new-returns-clause-few g t c =
    let L = g.S.Steps.leads c.args.context.now in
    let live = g.S.Steps.live in
    let state = g.S.Steps.state in
    let known = g.S.Steps.known c.args.context.now in
    let eq = g.K.PartialEq.eq in
    let s0 = c.args.steps.now in
    let key = c.args.key in
    let x = state s0 key in
    let es0 = c.args.rows.now.entries in
    let r0 = rows_of (state s0) es0 in
    let s1 = c.outcomes.new.self in
    let s = c.loop-outcome.steps in
    let es = c.loop-outcome.rows.entries in
    let r = rows_of (state s) es in
    let os = c.as_slice-outcome-items.result.now in
    let items = c.in_ok-outcomes.outcomes.items in
    let i = c.loop-outcome.outcome-index in
    let done = outcomes_of (state s1) (take i os) in
    let least = c.loop-outcome.least in
    let invariant = c.loop-outcome.invariant in
    let going = invariant.going in
    let es2 = c.put.new.rows.entries in
    let all = take_all i os c.loop-outcome-test.false in
    let ended = subst (λ d. Going L (known s0) (known s) x r0 r (outcomes_of (state s1) d) least) (all ∙ c.as_slice-outcome-items.ensures.value) going in
    let here_live = invariant.keeps key c.requires.live in
    let one = subst (λ y. Sets y least r (rows_of (state s) es2)) here_live.1 (subst (λ rows. Sets (state s key) least r (rows_of (state s) rows)) (sym c.in_ok-put.ensures.puts)
    (sets eq (live s) (state s) invariant.tells key least es here_live.0 invariant.alive ended.once)) in
    let same = as_many_rows eq (live s) (state s) invariant.tells key least es here_live.0 invariant.alive (subst (λ y. IsIn y (states r)) (sym here_live.1) ended.has) in
    let is = c.in_ok-put.ensures.puts in
    let long = ap length is in
    omega (arith, same, long, invariant.few)

pub least_of_new-returns-clause-alive : goal.least_of_new-returns-clause-alive
least_of_new-returns-clause-alive g t c =
    let L = g.S.Steps.leads c.args.context.now in
    let live = g.S.Steps.live in
    let state = g.S.Steps.state in
    let known = g.S.Steps.known c.args.context.now in
    let eq = g.K.PartialEq.eq in
    let s0 = c.args.steps.now in
    let key = c.args.key in
    let x = state s0 key in
    let es0 = c.args.rows.now.entries in
    let r0 = rows_of (state s0) es0 in
    let s1 = c.outcomes.new.self in
    let s = c.loop-outcome.steps in
    let es = c.loop-outcome.rows.entries in
    let r = rows_of (state s) es in
    let os = c.as_slice-outcome-items.result.now in
    let items = c.in_ok-outcomes.outcomes.items in
    let i = c.loop-outcome.outcome-index in
    let done = outcomes_of (state s1) (take i os) in
    let least = c.loop-outcome.least in
    let invariant = c.loop-outcome.invariant in
    let going = invariant.going in
    let es2 = c.put.new.rows.entries in
    let all = take_all i os c.loop-outcome-test.false in
    let ended = subst (λ d. Going L (known s0) (known s) x r0 r (outcomes_of (state s1) d) least) (all ∙ c.as_slice-outcome-items.ensures.value) going in
    let here_live = invariant.keeps key c.requires.live in
    let one = subst (λ y. Sets y least r (rows_of (state s) es2)) here_live.1 (subst (λ rows. Sets (state s key) least r (rows_of (state s) rows)) (sym c.in_ok-put.ensures.puts)
    (sets eq (live s) (state s) invariant.tells key least es here_live.0 invariant.alive ended.once)) in
    subst (λ z. AreLive (live z) es2) (sym c.take_back.ensures) (subst (λ rows. AreLive (live s) rows) (sym c.in_ok-put.ensures.puts) (live_set eq (live s) key least es here_live.0 invariant.alive))
