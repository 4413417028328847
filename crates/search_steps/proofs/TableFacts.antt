-- The outcomes of a table, as the walk has them.
use Rattle.std.proofs.Common.{◌≡◌, ◌∙◌, ℕ, suc, ◌+◌, ◌<◌, List, [], ◌∷◌, ◌++◌, length, Option, Some, None, refl, sym, ap, subst, inl, inr, arith, take, get_or, map}
use Rattle.std.proofs.Math.Seq.{take-suc}
use Rattle.std.proofs.lemmas.List.{map-append}
use Rattle.graph_walk.specs.declared.outcome.Outcome.{Outcome}
use Rattle.graph_walk.specs.Steps.{AreOutcomes}
use Rattle.fare_law.specs.declared.requests.Request.{Request}
use Rattle.fare_law.specs.Book.{Book}
use Rattle.fare_law.specs.Lists.{Each, IsIn}
use Rattle.outlines.specs.declared.outline.Outcome.{Outcome as Tried}
use Rattle.outlines.specs.Outcomes.{AreOutcomes as TriedAre, IsAttained}
use Rattle.residual_keys.specs.declared.residual.Chosen.{Chosen}
use Rattle.residual_keys.specs.declared.residual.Next.{Next}
use Rattle.residual_keys.specs.declared.residual.Next.TheVariants.{At, Done}
use Rattle.residual_keys.specs.Residuals.{State}
use Rattle.residual_keys.specs.Steps.{IsChosen}
use Rattle.search_steps.specs.Leads.{leads_of, next_of, state_of}
use Rattle.search_steps.specs.Tables.{AsTried, outcome_tried}

next_again : (next : Next) → next_of (state_of next) ≡ next
next_again Done = refl
next_again (At x) = refl

state_again : (next : Option State) → state_of (next_of next) ≡ next
state_again None = refl
state_again (Some x) = refl

tried_in : (o : Tried) (found : List Tried) → IsIn o found → IsIn (outcome_tried o) (map outcome_tried found)
tried_in o [] h = h
tried_in o (p ∷ ps) (inl e) = inl (ap outcome_tried e)
tried_in o (p ∷ ps) (inr h) = inr (tried_in o ps h)

each_lead : (b : Book) (q : Request) (x : State) (found : List Tried) → Each (IsAttained b q x) found → Each (λ (o : Outcome State). leads_of b q x o.next o.price) (map outcome_tried found)
each_lead b q x [] h = tt
each_lead b q x (o ∷ os) h = ((h.0.0, subst (λ n. IsChosen b q x (record { mv = h.0.0; price = o.price; next = n })) (sym (next_again o.next)) h.0.1), each_lead b q x os h.1)

pub tried_are : (b : Book) (q : Request) (x : State) (found : List Tried) (os : List (Outcome State)) → TriedAre b q x found → AsTried found os → AreOutcomes (leads_of b q) x os
tried_are b q x found os m a = subst (AreOutcomes (leads_of b q) x) (sym a) (record {
  attained = each_lead b q x found m.attained;
  covered = λ next price l.
      let c : Chosen = record { mv = l.0; price = price; next = next_of next } in
      let o = m.covered c l.1 in
      (outcome_tried o.0, tried_in o.0 found o.1, ap state_of o.2 ∙ state_again next, o.3);
})

pub tried_more : (found : List Tried) (i : ℕ) (d o : Tried) (os os' : List (Outcome State)) → i < length found → o ≡ get_or found i d → AsTried (take i found) os → os' ≡ os ++ outcome_tried o ∷ [] → AsTried (take (i + 1) found) os'
tried_more found i d o os os' h is a e =
    let next : suc i ≡ i + 1 = omega arith in
    let front : take (i + 1) found ≡ take i found ++ o ∷ [] = ap (λ (n : ℕ). take n found) (sym next) ∙ (take-suc found i d h ∙ ap (λ z. take i found ++ z ∷ []) (sym is)) in
    e ∙ (ap (λ l. l ++ outcome_tried o ∷ []) a ∙ sym (ap (map outcome_tried) front ∙ map-append outcome_tried (take i found) (o ∷ [])))
