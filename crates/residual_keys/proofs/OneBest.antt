-- The order of tickets by price and code is strict and total, and there is one list of the best. Given on to the crates above.
use Rattle.std.proofs.Common.{◌≡◌, ℕ, ◌⊎◌, ◌+◌, List, [], ◌∷◌, sym, refl, ap, ap₂, ◌∙◌, subst, inl, inr, sum_by}
use Rattle.std.proofs.lemmas.List.Sums.{sum_by-cons}
use Rattle.fare_law.specs.declared.moves.Move.{Move}
use Rattle.fare_law.specs.declared.requests.Request.{Request}
use Rattle.fare_law.specs.declared.tickets.Component.{Component}
use Rattle.fare_law.specs.declared.tickets.Ticket.{Ticket}
use Rattle.fare_law.specs.Book.{Book, live_fare, live_rule}
use Rattle.fare_law.specs.Lawful.{Lawful}
use Rattle.fare_law.specs.Parts.{Part, IsPart, price_of, share, stopover_charge, surcharges}
use Rattle.fare_law.specs.Lists.{Each, Matched}
use Rattle.fare_law.specs.Moves.{moves_of}
use Rattle.fare_law.specs.Codes.{run_code, code}
use Rattle.fare_law.specs.Best.{Before, Best, Cheaper, Costs}
use Rattle.fare_law.specs.Limits.{HasKeys}
use Rattle.residual_keys.specs.Searches.{Drawn, IsDrawn, DrawnBefore, BestRuns}
use Rattle.residual_keys.proofs.LeastOne.{k_least_one}
use Rattle.residual_keys.proofs.NothingLost.{ticket_run}
use Rattle.residual_keys.proofs.OneNext.{run_has_keys}
use Rattle.residual_keys.proofs.OneTicket.{ticket_one}
use Rattle.residual_keys.proofs.RunsBest.{cheaper}
use Rattle.ticket_order.specs.Coding.{Coded}
use Rattle.law_lemmas.proofs.LawFacts.{numbers_one}
use Rattle.law_lemmas.proofs.Options.{some_one}

-- a component costs one price
part_one : (b : Book) (q : Request) (c : Component) (x y : Part) → IsPart b q c x → IsPart b q c y → price_of x.flights x.piece ≡ price_of y.flights y.piece
part_one b q c x y h k =
    let fs = numbers_one b c.flights x.flights y.flights h.flights k.flights in
    let fare = some_one (live_fare b c.fare) x.piece.fare y.piece.fare h.stands.fare k.stands.fare in
    let rule = some_one (live_rule b c.fare.carrier x.piece.fare.rule) x.piece.rule y.piece.rule h.stands.rule (ap (λ f. live_rule b c.fare.carrier f.rule) fare ∙ k.stands.rule) in
    λ i. share (fare i).kind (fare i).amount + stopover_charge (rule i) (fs i) + surcharges (rule i).cat12 (fs i)

parts_one : (b : Book) (q : Request) (cs : List Component) (xs ys : List Part) → Matched (IsPart b q) cs xs → Matched (IsPart b q) cs ys
    → sum_by (λ part. price_of part.flights part.piece) xs ≡ sum_by (λ part. price_of part.flights part.piece) ys
parts_one b q [] [] [] h k = refl
parts_one b q [] [] (y ∷ ys) h k = absurd k
parts_one b q [] (x ∷ xs) ys h k = absurd h
parts_one b q (c ∷ cs) [] ys h k = absurd h
parts_one b q (c ∷ cs) (x ∷ xs) [] h k = absurd k
parts_one b q (c ∷ cs) (x ∷ xs) (y ∷ ys) h k =
    sum_by-cons (λ part. price_of part.flights part.piece) x xs
    ∙ ap₂ (λ m n. m + n) (part_one b q c x y h.0 k.0) (parts_one b q cs xs ys h.1 k.1)
    ∙ sym (sum_by-cons (λ part. price_of part.flights part.piece) y ys)

-- a ticket costs one price
pub costs_one : (b : Book) (q : Request) (t : Ticket) (m n : ℕ) → Costs t b q m → Costs t b q n → m ≡ n
costs_one b q t m n (xs, h, e) (ys, k, f) = e ∙ parts_one b q t.components xs ys h k ∙ sym f

-- what is used of the order of words: it is strict
module _ (never : (p : ℕ) (w : List ℕ) → Before p w p w → ⊥) where
  pub cheaper_never : (b : Book) (q : Request) (t : Ticket) → Cheaper b q t t → ⊥
  cheaper_never b q t (m, n, h, k, w) = never n (code t) (subst (λ z. Before z (code t) n (code t)) (costs_one b q t m n h k) w)

module _ (trans : (p q r : ℕ) (u v w : List ℕ) → Before p u q v → Before q v r w → Before p u r w) where
  pub cheaper_trans : (b : Book) (q : Request) (t u v : Ticket) → Cheaper b q t u → Cheaper b q u v → Cheaper b q t v
  cheaper_trans b q t u v (m, n, h, k, w) (m', n', h', k', w') =
      (m, n', h, k', trans m n n' (code t) (code u) (code v) w (subst (λ z. Before z (code u) n' (code v)) (costs_one b q u m' n h' k) w'))

-- and total, where a code tells its moves
module _
    (total : (p q : ℕ) (v w : List ℕ) → Before p v q w ⊎ (((p ≡ q) × (v ≡ w)) ⊎ Before q w p v))
    (same : (xs ys : List Move) → Each Coded xs → Each Coded ys → run_code xs ≡ run_code ys → xs ≡ ys)
    (b : Book) (q : Request) (keys : HasKeys b) where
  pub runs_total : (d e : Drawn) → IsDrawn b q d → IsDrawn b q e → DrawnBefore d e ⊎ ((d ≡ e) ⊎ DrawnBefore e d)
  runs_total d e h k = elim (total d.price e.price (run_code d.moves) (run_code e.moves)) [
    | inl l ↦ inl l
    | inr o ↦ elim o [
      | inr g ↦ inr (inr g)
      | inl s ↦
          let m = same d.moves e.moves (run_has_keys b q keys _ d.moves d.price h.2) (run_has_keys b q keys _ e.moves e.price k.2) s.1 in
          inr (inl (λ i. record { price = s.0 i; moves = m i }))
    ]
  ]

  pub tickets_total : (t u : Ticket) → Lawful t b q → Lawful u b q → Cheaper b q t u ⊎ ((t ≡ u) ⊎ Cheaper b q u t)
  tickets_total t u h k =
      let r = ticket_run b q t h in
      let s = ticket_run b q u k in
      let d : Drawn = record { price = r.0; moves = moves_of t } in
      let e : Drawn = record { price = s.0; moves = moves_of u } in
      elim (runs_total d e r.1 s.1) [
        | inl l ↦ inl (cheaper b q d e t u (h, refl, r.2) (k, refl, s.2) l)
        | inr o ↦ elim o [
          | inl z ↦ inr (inl (ticket_one b q t u h k (ap (λ y. y.moves) z)))
          | inr g ↦ inr (inr (cheaper b q e d u t (k, refl, s.2) (h, refl, r.2) g))
        ]
      ]

  module _
      (never : (p : ℕ) (w : List ℕ) → Before p w p w → ⊥)
      (trans : (p q r : ℕ) (u v w : List ℕ) → Before p u q v → Before q v r w → Before p u r w) where
    pub best_runs_one : (ds es : List Drawn) → BestRuns b q q.best ds → BestRuns b q q.best es → ds ≡ es
    best_runs_one ds es h k =
        k_least_one DrawnBefore (λ x y z. trans x.price y.price z.price (run_code x.moves) (run_code y.moves) (run_code z.moves)) (λ x. never x.price (run_code x.moves)) ds es
        (IsDrawn b q) q.best runs_total h k

    pub best_tickets_one : (ts us : List Ticket) → Best b q ts → Best b q us → ts ≡ us
    best_tickets_one ts us h k = k_least_one (Cheaper b q) (cheaper_trans trans b q) (cheaper_never never b q) ts us (λ t. Lawful t b q) q.best tickets_total h k
