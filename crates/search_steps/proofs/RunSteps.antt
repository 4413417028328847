-- Runs of entries: where a step has the mark of one of them at no higher price, those behind it add nothing.
use Rattle.std.proofs.Common.{◌≡◌, ◌≤◌, ◌<◌, ◌+◌, ◌-◌, ◌∙◌, ℕ, suc, zero, false, List, [], ◌∷◌, ◌++◌, length, take, get_or, slice_get, Some, inl, inr, sym, ap, subst, arith}
use Rattle.std.proofs.lemmas.List.{length-append}
use Rattle.outlines.specs.declared.outline.Entry.{Entry}
use Rattle.residual_table.specs.Keys.{Tables as Numbers}
use Rattle.search_steps.specs.declared.listing.Listing.{Listing}
use Rattle.search_steps.specs.declared.numbered.Step.{Step}
use Rattle.search_steps.specs.Listing.{IsListed, leaves_by}
use Rattle.search_steps.specs.Numbers.{AreBare, AreStepsOf, IsBare}
use Rattle.search_steps.specs.Runs.{IsAlike, IsRun, IsRunAt}
use Rattle.search_steps.specs.Shortening.{HasNoDearer}
use Rattle.search_steps.proofs.ListedSteps.{by_leaves, steps_had}
use Rattle.search_steps.proofs.ListsByNumber.{bare_at}
use Rattle.law_lemmas.proofs.Lists.{front_is, got_is, got_last, got_read, got_within, read_got}
use Rattle.law_lemmas.proofs.Numbers.{here_or_before}
use Rattle.law_lemmas.proofs.Options.{some_one}
use Rattle.law_lemmas.proofs.Pairs.{matched_long}

-- no step is dearer than the one before it in its run
no_dearer : (ss : List Step) (e d : Entry) (s u : Step) → IsAlike e d s u → HasNoDearer ss s → HasNoDearer ss u
no_dearer ss e d s u alike has =
    let m = has.2 in
    let k = alike.mark in
    let p = has.3 in
    let q = alike.price in
    (has.0, has.1, record { after = m.after ∙ k.after; unit = m.unit ∙ k.unit; carrier = m.carrier ∙ k.carrier; ends = m.ends ∙ k.ends }, omega (arith, p, q))

-- the rest of a run
run_rest : (es : List Entry) (bs : List Step) (at n : ℕ) → IsRun es bs at (suc n) → IsRun es bs (at + 1) n
run_rest es bs at n run i e d s u from to = run i e d s u (omega (arith, from)) (omega (arith, to))

-- a run with one more behind
module _ (es : List Entry) (bs : List Step) (from count last : ℕ) (e d : Entry) (s u : Step) where
  run_more : last + 1 ≡ from + count → slice_get es last ≡ Some e → slice_get es (last + 1) ≡ Some d → slice_get bs last ≡ Some s → slice_get bs (last + 1) ≡ Some u → IsAlike e d s u → IsRun es bs from count → IsRun es bs from (count + 1)
  run_more is got_e got_d got_s got_u alike run i e' d' s' u' first below he hd hs hu = elim (here_or_before i last (omega (arith, below, is))) [
    | inl before ↦ run i e' d' s' u' first (omega (arith, before, is)) he hd hs hu
    | inr here ↦
        let same_e : e ≡ e' = some_one (slice_get es i) e e' (subst (λ n. slice_get es n ≡ Some e) (sym here) got_e) he in
        let same_d : d ≡ d' = some_one (slice_get es (i + 1)) d d' (subst (λ n. slice_get es (n + 1) ≡ Some d) (sym here) got_d) hd in
        let same_s : s ≡ s' = some_one (slice_get bs i) s s' (subst (λ n. slice_get bs n ≡ Some s) (sym here) got_s) hs in
        let same_u : u ≡ u' = some_one (slice_get bs (i + 1)) u u' (subst (λ n. slice_get bs (n + 1) ≡ Some u) (sym here) got_u) hu in
        subst (λ z. IsAlike z d' s' u') same_e (subst (λ z. IsAlike e z s' u') same_d (subst (λ z. IsAlike e d z u') same_s (subst (λ z. IsAlike e d s z) same_u alike)))
  ]

-- the same with what stands before and at the place behind it
pub run_on_to : (es : List Entry) (bs : List Step) (from count at : ℕ) (e d e0 d0 : Entry) (s u : Step) → 1 ≤ count → at ≡ from + count → at < length es → length bs ≡ length es → e ≡ get_or es (at - 1) e0 → d ≡ get_or es at d0 → IsAlike e d (get_or bs (at - 1) s) (get_or bs at u) → IsRun es bs from count
    → IsRun es bs from (count + 1)
run_on_to es bs from count at e d e0 d0 s u some is within many is_e is_d alike run =
    let behind : (at - 1) + 1 ≡ at = omega (arith, some, is) in
    let before : at - 1 < length es = omega (arith, within) in
    run_more es bs from count (at - 1) e d (get_or bs (at - 1) s) (get_or bs at u) (behind ∙ is) (read_got es (at - 1) e0 e before is_e) (subst (λ n. slice_get es n ≡ Some d) (sym behind) (read_got es at d0 d within is_d)) (got_read bs (at - 1) s (omega (arith, before, many)))
    (subst (λ n. slice_get bs n ≡ Some (get_or bs at u)) (sym behind) (got_read bs at u (omega (arith, within, many)))) alike run

-- a run of one entry
pub run_one : (es : List Entry) (bs : List Step) (from : ℕ) → IsRun es bs from 1
run_one es bs from i e d s u first below = absurd (omega (arith, first, below))

-- where a step is there that one of a run can't lower, all of the run add nothing
module _ (t : Numbers) (l : Listing) (es : List Entry) (bs ss : List Step) (are : AreBare t es bs) where
  passed_one : (at : ℕ) (e : Entry) (b : Step) → slice_get es at ≡ Some e → slice_get bs at ≡ Some b → leaves_by l.doing e.outline.reverse ≡ false → HasNoDearer ss b → AreStepsOf t (IsListed l) (take at es) ss → AreStepsOf t (IsListed l) (take (at + 1) es) ss
  passed_one at e b got_e got_b none has h =
      let within = got_within es at e got_e in
      let bare : IsBare t e b = subst (IsBare t e) (got_is bs at b b got_b) (bare_at t es bs at e e b within (sym (got_is es at e e got_e)) are) in
      let front = front_is es at e within (sym (got_is es at e e got_e)) in
      subst (λ xs. AreStepsOf t (IsListed l) xs ss) (sym front) (steps_had t (IsListed l) e b ss bare (by_leaves l e none) has (take at es) h)

  pub run_passed : (n at : ℕ) (e : Entry) (b : Step) → at + suc n ≤ length es → IsRun es bs at (suc n) → slice_get es at ≡ Some e → slice_get bs at ≡ Some b → leaves_by l.doing e.outline.reverse ≡ false → HasNoDearer ss b → AreStepsOf t (IsListed l) (take at es) ss
      → AreStepsOf t (IsListed l) (take (at + suc n) es) ss
  run_passed zero at e b within run got_e got_b none has h = subst (λ k. AreStepsOf t (IsListed l) (take k es) ss) (let k : at + 1 ≡ at + suc zero = omega arith in k) (passed_one at e b got_e got_b none has h)
  run_passed (suc n) at e b within run got_e got_b none has h =
      let next : at + 1 < length es = omega (arith, within) in
      let d = get_or es (at + 1) e in
      let u = get_or bs (at + 1) b in
      let many = matched_long (IsBare t) es bs are in
      let got_d = got_read es (at + 1) e next in
      let got_u = got_read bs (at + 1) b (omega (arith, next, many)) in
      let alike = run at e d b u (omega arith) (omega arith) got_e got_d got_b got_u in
      let rest = run_passed n (at + 1) d u (omega (arith, within)) (run_rest es bs at (suc n) run) got_d got_u (subst (λ z. leaves_by l.doing z ≡ false) alike.way none) (no_dearer ss e d b u alike has) (passed_one at e b got_e got_b none has h) in
      subst (λ k. AreStepsOf t (IsListed l) (take k es) ss) (let k : (at + 1) + suc n ≡ at + suc (suc n) = omega arith in k) rest

-- the same for a run from a place on, with what stands there
pub run_idle : (t : Numbers) (l : Listing) (es : List Entry) (bs ss : List Step) (at count : ℕ) (e d : Entry) (b c : Step) → AreBare t es bs → IsRunAt es bs at count → at < length es → e ≡ get_or es at d → b ≡ get_or bs at c → leaves_by l.doing e.outline.reverse ≡ false → HasNoDearer ss b
    → AreStepsOf t (IsListed l) (take at es) ss → AreStepsOf t (IsListed l) (take (at + count) es) ss
run_idle t l es bs ss at zero e d b c are r within is_e is_b none has h = let some = r.some in absurd (omega (arith, some))
run_idle t l es bs ss at (suc n) e d b c are r within is_e is_b none has h =
    let many = matched_long (IsBare t) es bs are in
    run_passed t l es bs ss are n at e b r.within r.run (read_got es at d e within is_e) (read_got bs at c b (omega (arith, within, many)) is_b) none has h

-- what is there before the last
got_front : (xs : List ℕ) (x i y : ℕ) → i < length xs → slice_get (xs ++ x ∷ []) i ≡ Some y → slice_get xs i ≡ Some y
got_front [] x i y less h = absurd (omega (arith, less))
got_front (z ∷ zs) x zero y less h = h
got_front (z ∷ zs) x (suc i) y less h = got_front zs x i y (omega (arith, less)) h

-- the lengths of runs with one more
pub runs_many : (counts new : List ℕ) (at count : ℕ) → length counts ≡ at → new ≡ counts ++ count ∷ [] → length new ≡ at + 1
runs_many counts new at count many is = let long : length new ≡ length (counts ++ count ∷ []) = ap length is in let more = length-append counts (count ∷ []) in omega (arith, long, more, many)

pub runs_next : (es : List Entry) (bs : List Step) (counts new : List ℕ) (at count : ℕ) → length counts ≡ at → ((i n : ℕ) → slice_get counts i ≡ Some n → IsRunAt es bs i n) → IsRunAt es bs at count → new ≡ counts ++ count ∷ [] → (i n : ℕ) → slice_get new i ≡ Some n → IsRunAt es bs i n
runs_next es bs counts new at count many before last is i n got = elim (here_or_before i at (within (got_within new i n got))) [
  | inl less ↦ before i n (got_front counts count i n (omega (arith, less, many)) (subst (λ ys. slice_get ys i ≡ Some n) is got))
  | inr here ↦
      let got_here : slice_get (counts ++ count ∷ []) (length counts) ≡ Some n = subst (λ k. slice_get (counts ++ count ∷ []) k ≡ Some n) (here ∙ sym many) (subst (λ ys. slice_get ys i ≡ Some n) is got) in
      let same : count ≡ n = some_one (slice_get (counts ++ count ∷ []) (length counts)) count n (got_last counts count) got_here in
      subst (λ k. IsRunAt es bs k n) (sym here) (subst (IsRunAt es bs at) same last)
]
  where
    within : i < length new → i < at + 1
    within lt = let long = runs_many counts new at count many is in omega (arith, lt, long)

-- what runs say of each place, from where they were found one after another
pub run_on : (es : List Entry) (bs : List Step) (at left : ℕ) → IsRunAt es bs at left → (at + 1 + (left - 1) ≤ length es) × IsRun es bs (at + 1) (left - 1)
run_on es bs at zero r = let some = r.some in absurd (omega (arith, some))
run_on es bs at (suc n) r = let w = r.within in (omega (arith, w), subst (IsRun es bs (at + 1)) (let k : n ≡ suc n - 1 = omega arith in k) (run_rest es bs at n r.run))
