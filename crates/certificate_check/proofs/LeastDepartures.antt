-- The departures of a front: the least move that no answer takes decides them.
use Rattle.std.proofs.Common.{◌≡◌, ◌≢◌, ◌⊎◌, ◌↔◌, ◌∙◌, ℕ, ◌+◌, ◌<◌, List, [], ◌∷◌, ◌++◌, map, Option, Some, None, sym, refl, ap, subst, inl, inr, arith}
use Rattle.certificate.specs.BoundCheck.{state_after}
use Rattle.certificate.specs.declared.parts.CertAnswer.{CertAnswer}
use Rattle.certificate.specs.declared.parts.CertRow.{CertRow}
use Rattle.certificate.specs.DepartureCheck.{ComesAfter, CountsFor, Departs, IsFront, LeadsFor, NoneTakes}
use Rattle.certificate.specs.RowCheck.{IsRoot}
use Rattle.certificate_check.specs.Fronts.{CountsBeginning, FrontFails, FrontHolds, IsTaken, TakenByAny, UntakenFirst}
use Rattle.certificate_check.proofs.Pigeons.{few_taken}
use Rattle.fare_law.specs.declared.flights.Flight.{Flight}
use Rattle.fare_law.specs.declared.moves.Move.{Move}
use Rattle.fare_law.specs.declared.requests.Request.{Request}
use Rattle.fare_law.specs.declared.tickets.Piece.{Piece}
use Rattle.fare_law.specs.Best.{Before}
use Rattle.fare_law.specs.Book.{Book}
use Rattle.fare_law.specs.Codes.{move_code, run_code}
use Rattle.fare_law.specs.Lists.{AllDifferent, Each, EachPair, IsIn, KLeast}
use Rattle.fare_law.specs.Parts.{price_of}
use Rattle.flight_paths.specs.declared.positions.Position.{Position}
use Rattle.open_unit.specs.declared.units.OpenUnit.{OpenUnit}
use Rattle.residual_keys.specs.Residuals.{Moves, State, begins, part_with}
use Rattle.residual_keys.specs.Steps.{left_at}
use Rattle.residual_keys.proofs.LeastOne.{below_all, pairs_rest}
use Rattle.residual_keys.proofs.OneNext.{moves_one}
use Rattle.search_steps.specs.declared.least.LeastMove.{LeastMove}
use Rattle.search_steps.specs.Leads.{next_of}
use Rattle.search_steps.specs.LeastMoves.{Counts, IsSooner, RestIs}
use Rattle.ticket_order.proofs.Codes.{codes_joined}
use Rattle.ticket_order.proofs.Words.{before_never, before_second, before_total, before_trans}
use Rattle.certificate.proofs.YesIsBest.{root_same}
use Rattle.flight_paths.proofs.Skipping.{some_same}
use Rattle.law_lemmas.proofs.EachOne.{each_member}
use Rattle.law_lemmas.proofs.Ends.{on_last}
use Rattle.law_lemmas.proofs.Lists.{append_none}
use Rattle.law_lemmas.proofs.Members.{in_middle}
use Rattle.search_steps.proofs.Bridge.{not_at, not_done, same_at}

-- the state and the price to which moves lead are one
pub leads_one : (b : Book) (q : Request) (ms : List Move) (r x y : State) (price other : ℕ) → LeadsFor b q r ms x price → LeadsFor b q r ms y other → (x ≡ y) × (price ≡ other)
leads_one b q [] r x y price other h k = (h.0 ∙ sym k.0, h.1 ∙ sym k.1)
leads_one b q (m ∷ ms) r x y price other (fs, p, at, us, rest, mv, h, e) (gs, p', at', us', rest', mv', k, f) =
    let o = moves_one b q r m fs gs p p' (Some at) (Some at') us us' mv mv' in
    let a = some_same at at' o.2 in
    let s : state_after r m p' at' us' ≡ state_after r m p at us = λ i. record { at = sym a i; units = sym o.3 i; part = part_with r.part (begins m.role) (sym o.1 i) } in
    let w = leads_one b q ms (state_after r m p at us) x y rest rest' h (subst (λ z. LeadsFor b q z ms y rest') s k) in
    let c : price_of fs p ≡ price_of gs p' = ap (λ z. price_of z p) o.0 ∙ ap (price_of gs) o.1 in
    let d = w.1 in
    (w.0, omega (arith, e, f, c, d))

code_more : (front : List Move) (m : Move) → run_code (front ++ m ∷ []) ≡ run_code front ++ move_code m
code_more front m = codes_joined front (m ∷ []) ∙ ap (λ z. run_code front ++ z) (append_none (move_code m))

-- what comes no sooner than what comes after comes after
after_more : (q : Request) (answers : List CertAnswer) (front : List Move) (m n : Move) (price total other : ℕ) → ComesAfter q answers (front ++ m ∷ []) (price + total)
    → Before total (move_code m) other (move_code n) ⊎ ((total ≡ other) × (move_code m ≡ move_code n)) → ComesAfter q answers (front ++ n ∷ []) (price + other)
after_more q answers front m n price total other h (inl s) = (
  h.0,
  on_last (λ a. Before a.price (run_code a.moves) (price + total) (run_code (front ++ m ∷ []))) (λ a. Before a.price (run_code a.moves) (price + other) (run_code (front ++ n ∷ [])))
      (λ a w. before_trans a.price (price + total) (price + other) (run_code a.moves) (run_code (front ++ m ∷ [])) (run_code (front ++ n ∷ [])) w
      (subst (λ z. Before (price + total) z (price + other) (run_code (front ++ n ∷ []))) (sym (code_more front m)) (subst (λ z. Before (price + total) (run_code front ++ move_code m) (price + other) z) (sym (code_more front n))
      ((before_second price total other (run_code front) (move_code m) (move_code n)).0 s))))
      answers h.1,
)
after_more q answers front m n price total other h (inr (t, c)) = (
  h.0,
  on_last (λ a. Before a.price (run_code a.moves) (price + total) (run_code (front ++ m ∷ []))) (λ a. Before a.price (run_code a.moves) (price + other) (run_code (front ++ n ∷ [])))
      (λ a w. subst (λ z. Before a.price (run_code a.moves) (price + z) (run_code (front ++ n ∷ []))) t (subst (λ z. Before a.price (run_code a.moves) (price + total) z) (code_more front m ∙ ap (λ z. run_code front ++ z) c ∙ sym (code_more front n)) w))
      answers h.1,
)

pairs_drop : {X : Type 0} (R : X → X → Type 0) (before : List X) (x : X) (after : List X) → EachPair R (before ++ x ∷ after) → EachPair R (x ∷ after)
pairs_drop R [] x after h = h
pairs_drop R (y ∷ before) x after h = pairs_drop R before x after (pairs_rest R y (before ++ x ∷ after) h)

split_in : {X : Type 0} (z : X) (before : List X) (x : X) (after : List X) → IsIn z (before ++ x ∷ after) → IsIn z before ⊎ ((z ≡ x) ⊎ IsIn z after)
split_in z [] x after (inl e) = inr (inl e)
split_in z [] x after (inr i) = inr (inr i)
split_in z (y ∷ before) x after (inl e) = inl (inl e)
split_in z (y ∷ before) x after (inr i) = elim (split_in z before x after i) [
  | inl j ↦ inl (inr j)
  | inr o ↦ inr o
]

sooner_trans : (x y z : LeastMove State) → IsSooner x y → IsSooner y z → IsSooner x z
sooner_trans x y z h k = before_trans x.total y.total z.total (move_code x.mv) (move_code y.mv) (move_code z.mv) h k

-- bounds as the rows have them
abbrev pub BoundsAre : List CertRow → (State → ℕ → Type 0) → Type 0
BoundsAre rows Bound = (x : State) (rest : ℕ) → Bound x rest ↔ ((row : CertRow) × IsIn row rows × (row.residual ≡ x) × (row.bound ≡ Some rest))

module _ (b : Book) (q : Request) (rows : List CertRow) (Bound : State → ℕ → Type 0) (bounds : BoundsAre rows Bound) (unique : (y : State) (m n : ℕ) → Bound y m → Bound y n → m ≡ n) where
  counts_more : (x : State) (m : Move) (last : ℕ) → CountsFor b q rows x m last → (lm : LeastMove State) × Counts b q Bound x lm × (lm.mv ≡ m) × (lm.total ≡ last)
  counts_more x m last (inl (fs, p, mv, e)) = (
    record { mv = m; price = price_of fs p; next = None; total = last },
    record { move = record { flights = fs; piece = p; after = None; units = []; moves = mv; costs = refl; left = refl }; rest = 0; bound = refl; total = omega (arith, e) },
    refl,
    refl,
  )
  counts_more x m last (inr (fs, p, at, us, row, bound, mv, i, r, s, e)) = (
    record { mv = m; price = price_of fs p; next = Some (state_after x m p at us); total = last },
    record { move = record { flights = fs; piece = p; after = Some at; units = us; moves = mv; costs = refl; left = refl }; rest = bound; bound = (bounds (state_after x m p at us) bound).1 (row, i, r, s); total = e },
    refl,
    refl,
  )

  counts_for : (x : State) (lm : LeastMove State) → Counts b q Bound x lm → CountsFor b q rows x lm.mv lm.total
  counts_for x lm c = by lm.next c.move.flights c.move.piece c.move.after c.move.units c.move.moves c.move.costs c.move.left c.bound
    where
      by : (next : Option State) (fs : List Flight) (p : Piece) (after : Option Position) (us : List OpenUnit) → Moves b q x lm.mv fs p after us → lm.price ≡ price_of fs p
          → next_of next ≡ left_at after us (part_with x.part (begins lm.mv.role) p) → RestIs Bound next c.rest → CountsFor b q rows x lm.mv lm.total
      by None fs p None us mv e l r = inl (fs, p, subst (λ v. Moves b q x lm.mv fs p None v) mv.done mv, let t = c.total in omega (arith, t, e, r))
      by None fs p (Some at) us mv e l r = absurd (not_at _ l)
      by (Some y) fs p None us mv e l r = absurd (not_done y l)
      by (Some y) fs p (Some at) us mv e l r = let k = (bounds y c.rest).0 r in inr (fs, p, at, us, k.0, c.rest, mv, k.1, k.2 ∙ same_at y _ l, k.3, let t = c.total in omega (arith, t, e))

  rests : (l k : Option State) (i j : ℕ) → next_of l ≡ next_of k → RestIs Bound l i → RestIs Bound k j → i ≡ j
  rests None None i j e h g = h ∙ sym g
  rests None (Some y) i j e h g = absurd (not_at y e)
  rests (Some y) None i j e h g = absurd (not_done y e)
  rests (Some y) (Some z) i j e h g = unique z i j (subst (λ w. Bound w i) (same_at y z e) h) g

  one_total : (x : State) (m n : LeastMove State) → Counts b q Bound x m → Counts b q Bound x n → m.mv ≡ n.mv → m.total ≡ n.total
  one_total x m n c d e =
      let h = c.move in
      let k = d.move in
      let r = moves_one b q x n.mv h.flights k.flights h.piece k.piece h.after k.after h.units k.units (subst (λ z. Moves b q x z h.flights h.piece h.after h.units) e h.moves) k.moves in
      let price : m.price ≡ n.price = h.costs ∙ ap (λ fs. price_of fs h.piece) r.0 ∙ ap (λ p. price_of k.flights p) r.1 ∙ sym k.costs in
      let next : next_of m.next ≡ next_of n.next =
      h.left ∙ ap (λ a. left_at a h.units (part_with x.part (begins m.mv.role) h.piece)) r.2 ∙ ap (λ us. left_at k.after us (part_with x.part (begins m.mv.role) h.piece)) r.3
      ∙ ap (λ z. left_at k.after k.units (part_with x.part (begins z.role) h.piece)) e ∙ ap (λ p. left_at k.after k.units (part_with x.part (begins n.mv.role) p)) r.1 ∙ sym k.left in
      let rest = rests m.next n.next c.rest d.rest next c.bound d.bound in
      let s = c.total in
      let t = d.total in
      omega (arith, s, t, price, rest)

  moves_differ : (x : State) (ms : List (LeastMove State)) → Each (Counts b q Bound x) ms → EachPair IsSooner ms → AllDifferent (map (λ m. m.mv) ms)
  moves_differ x [] h s = tt
  moves_differ x (m ∷ ms) h s = (differ_from ms h.1 (below_all IsSooner sooner_trans m ms s), moves_differ x ms h.1 (pairs_rest IsSooner m ms s))
    where
      differ_from : (ns : List (LeastMove State)) → Each (Counts b q Bound x) ns → Each (IsSooner m) ns → Each (λ y. m.mv ≢ y) (map (λ n. n.mv) ns)
      differ_from [] k s = tt
      differ_from (n ∷ ns) k s = (
        λ e. before_never n.total (move_code n.mv) (subst (λ t. Before t (move_code n.mv) n.total (move_code n.mv)) (one_total x m n h.0 k.0 e) (subst (λ c. Before m.total (move_code c) n.total (move_code n.mv)) e s.0)),
        differ_from ns k.1 s.1,
      )

  module _ (answers : List CertAnswer) (front : List Move) (root x : State) (price : ℕ) (is_root : IsRoot b q root) (leads : LeadsFor b q root front x price) where
    -- each departure is a move that counts here
    counted : (m : Move) (least : ℕ) → Departs b q rows answers front m least → (lm : LeastMove State) × Counts b q Bound x lm × (lm.mv ≡ m) × (least ≡ price + lm.total)
    counted m least d =
        let r = root_same b q root d.root is_root d.is_root in
        let o = leads_one b q front root x d.there price d.price leads (subst (λ z. LeadsFor b q z front d.there d.price) (sym r) d.leads) in
        let c = counts_more x m d.last (subst (λ z. CountsFor b q rows z m d.last) (sym o.0) d.counts) in
        let w = d.whole in
        let p = o.1 in
        let t = c.3 in
        (c.0, c.1, c.2, omega (arith, w, p, t))

    not_taken : (m n : Move) → NoneTakes answers front m → n ≡ m → IsTaken answers front n → ⊥
    not_taken m n none e t = none t.0 t.2.0 t.1 (t.2.1 ∙ ap (λ z. front ++ z ∷ t.2.0) e)

    pub all_taken : (n wanted : ℕ) (ms : List (LeastMove State)) → n < wanted → CountsBeginning front answers n → KLeast (Counts b q Bound x) IsSooner wanted ms → TakenByAny answers front ms → FrontHolds b q rows answers front
    all_taken n wanted ms enough c k t m least d =
        let lm = counted m least d in
        let few = few_taken answers front n ms c (moves_differ x ms k.each k.ascending) t in
        let many = (k.rest lm.0 lm.1 (λ i. not_taken m lm.0.mv d.none_takes lm.2 (each_member (λ z. IsTaken answers front z.mv) lm.0 ms t i))).1 in
        absurd (omega (arith, few, many, enough))

    pub least_holds : (wanted : ℕ) (ms : List (LeastMove State)) (u : LeastMove State) → KLeast (Counts b q Bound x) IsSooner wanted ms → UntakenFirst answers front ms u
        → ComesAfter q answers (front ++ u.mv ∷ []) (price + u.total) → FrontHolds b q rows answers front
    least_holds wanted ms u k f after m least d =
        let lm = counted m least d in
        let later : ComesAfter q answers (front ++ lm.0.mv ∷ []) (price + lm.0.total) = after_more q answers front u.mv lm.0.mv price u.total lm.0.total after (cases lm.0 lm.1 (not_taken m lm.0.mv d.none_takes lm.2)) in
        subst (ComesAfter q answers (front ++ m ∷ [])) (sym lm.3) (subst (λ z. ComesAfter q answers (front ++ z ∷ []) (price + lm.0.total)) lm.2 later)
      where
        onwards : EachPair IsSooner (u ∷ f.after)
        onwards = pairs_drop IsSooner f.before u f.after (subst (EachPair IsSooner) f.whole k.ascending)

        there : IsIn u ms
        there = subst (IsIn u) (sym f.whole) (in_middle f.before u f.after)

        never : (l : LeastMove State) → IsSooner l l → ⊥
        never l s = before_never l.total (move_code l.mv) s

        out : (l : LeastMove State) → (IsTaken answers front l.mv → ⊥) → IsSooner l u → IsIn l ms → ⊥
        out l denied s i = elim (split_in l f.before u f.after (subst (IsIn l) f.whole i)) [
          | inl j ↦ denied (each_member (λ z. IsTaken answers front z.mv) l f.before f.taken j)
          | inr o ↦ elim o [
            | inl e ↦ never u (subst (λ z. IsSooner z u) e s)
            | inr j ↦ never l (sooner_trans l u l s (each_member (IsSooner u) l f.after (below_all IsSooner sooner_trans u f.after onwards) j))
          ]
        ]

        cases : (l : LeastMove State) → Counts b q Bound x l → (IsTaken answers front l.mv → ⊥) → Before u.total (move_code u.mv) l.total (move_code l.mv) ⊎ ((u.total ≡ l.total) × (move_code u.mv ≡ move_code l.mv))
        cases l c denied = elim (before_total u.total l.total (move_code u.mv) (move_code l.mv)) [
          | inl s ↦ inl s
          | inr o ↦ elim o [
            | inl e ↦ inr e
            | inr s ↦ absurd (never u (sooner_trans u l u (each_member (λ y. IsSooner y l) u ms (k.rest l c (out l denied s)).0 there) s))
          ]
        ]

    pub least_fails : (wanted : ℕ) (ms : List (LeastMove State)) (u : LeastMove State) → IsFront answers front → KLeast (Counts b q Bound x) IsSooner wanted ms → UntakenFirst answers front ms u
        → (ComesAfter q answers (front ++ u.mv ∷ []) (price + u.total) → ⊥) → FrontFails b q rows answers front
    least_fails wanted ms u is_front k f denied = record {
      move = u.mv;
      least = price + u.total;
      departs = record {
        root = root;
        there = x;
        price = price;
        last = u.total;
        is_root = is_root;
        leads = leads;
        is_front = is_front;
        none_takes = λ a rest i e. f.untaken (a, i, (rest, e));
        counts = counts_for x u (each_member (Counts b q Bound x) u ms k.each (subst (IsIn u) (sym f.whole) (in_middle f.before u f.after)));
        whole = refl;
      };
      fails = denied;
    }
