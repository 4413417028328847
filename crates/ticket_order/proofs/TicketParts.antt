-- The components of a ticket and its moves.
use Rattle.std.proofs.Common.{◌≡◌, ℕ, ◌+◌, ◌≤◌, ◌<◌, List, [], ◌∷◌, ◌++◌, length, take, drop, get_or, Option, Some, None, refl, sym, ap, ap₂, ◌∙◌, subst, append_assoc, append-nil, arith, length-append}
use Rattle.std.proofs.lemmas.List.{drop_all}
use Rattle.fare_law.specs.declared.flights.Flight.{Flight}
use Rattle.fare_law.specs.declared.moves.Move.{Move}
use Rattle.fare_law.specs.declared.names.Place.{Place}
use Rattle.fare_law.specs.declared.tickets.Component.{Component}
use Rattle.fare_law.specs.declared.tickets.Ticket.{Ticket}
use Rattle.fare_law.specs.Lawful.{Numbered}
use Rattle.fare_law.specs.Lists.{Matched}
use Rattle.fare_law.specs.Moves.{moves_after, move_of}
use Rattle.fare_law.specs.declared.limits.TheConstants.{MOST_COMPONENTS}
use Rattle.ticket_order.specs.Tickets.{IsComponent, FiledOver, LeadFrom, TicketOfMoves, AreLabels, labels, market_of}
use Rattle.ticket_order.proofs.TicketMoves.{rest_is}
use Rattle.law_lemmas.proofs.Lists.{front_at, front_is, rest_at}
use Rattle.law_lemmas.proofs.Pairs.{matched_long, matched_more}

-- what a call that looks for the ends found
abbrev pub EndsFound : List Flight → Move → Option (Place × Place) → Type 0
EndsFound flights m found = (b e : Place) → LeadFrom flights m.flights b e → found ≡ Some (b, e)

-- where the ends of the flights are known, the component of a move is one
pub component_one : (flights : List Flight) (m : Move) (unit : ℕ) (begin end : Place) (made c : Component) → EndsFound flights m (Some (begin, end))
    → made.flights ≡ m.flights → made.fare.carrier ≡ m.carrier → made.fare.basis ≡ m.basis → made.unit ≡ unit → (made.fare.from, made.fare.to) ≡ market_of m.role begin end
    → IsComponent flights m c → c.unit ≡ unit → made ≡ c
component_one flights m unit begin end made c only f k b u e is unit_is =
    let (cb, ce, lead, filed) = is.filed in
    let found = only cb ce (subst (λ ns. LeadFrom flights ns cb ce) is.flights_are lead) in
    let market : ◌≡◌ {A = Place × Place} (made.fare.from, made.fare.to) (c.fare.from, c.fare.to) = e ∙ ap₂ (market_of m.role) (first found) (second found) ∙ sym filed in
    let x : made.flights ≡ c.flights = f ∙ sym is.flights_are in
    let y : made.fare.carrier ≡ c.fare.carrier = k ∙ sym is.carrier in
    let z : made.fare.basis ≡ c.fare.basis = b ∙ sym is.basis in
    let v : made.unit ≡ c.unit = u ∙ sym unit_is in
    λ i. record { flights = x i; fare = record { carrier = y i; from = (market i).0; to = (market i).1; basis = z i }; unit = v i }
  where
    pairs : {r : Place × Place} → Some (begin, end) ≡ Some r → ◌≡◌ {A = Place × Place} (begin, end) r
    pairs h = cc

    first : {p q : Place} → ◌≡◌ {A = Option (Place × Place)} (Some (begin, end)) (Some (p, q)) → begin ≡ p
    first h = ap (λ x. x.0) (pairs h)

    second : {p q : Place} → ◌≡◌ {A = Option (Place × Place)} (Some (begin, end)) (Some (p, q)) → end ≡ q
    second h = ap (λ x. x.1) (pairs h)

pub component_none : (flights : List Flight) (m : Move) (c : Component) → EndsFound flights m None → IsComponent flights m c → ⊥
component_none flights m c only is =
    let (cb, ce, lead, filed) = is.filed in
    none (only cb ce (subst (λ ns. LeadFrom flights ns cb ce) is.flights_are lead))
  where
    none : {p : Place × Place} → None ≡ Some p → ⊥
    none h = cc

-- a component that a call found, if there is one
abbrev pub PartFound : List Flight → Move → ℕ → Option Component → Type 0
PartFound flights m unit found = (c : Component) → IsComponent flights m c → c.unit ≡ unit → found ≡ Some c

-- the components made so far
pub record Built (flights : List Flight) (ms : List Move) (ls : List ℕ) (i : ℕ) (made : List Component) : Type 0 where
  pub each : length made ≡ i
  pub parts : Matched (IsComponent flights) (take i ms) made
  pub units : labels made ≡ take i ls
  pub rest : (all : List Component) → Matched (IsComponent flights) ms all → labels all ≡ ls → (more : List Component) × (all ≡ made ++ more) × Matched (IsComponent flights) (drop i ms) more × (labels more ≡ drop i ls)

labels_push : (cs : List Component) (c : Component) → labels (cs ++ c ∷ []) ≡ labels cs ++ c.unit ∷ []
labels_push [] c = refl
labels_push (d ∷ cs) c = ap (λ ls. d.unit ∷ ls) (labels_push cs c)

pub built_none : (flights : List Flight) (ms : List Move) (ls : List ℕ) → Built flights ms ls 0 []
built_none flights ms ls = record { each = refl; parts = tt; units = refl; rest = λ all m u. (all, refl, m, u) }

module _ (flights : List Flight) (ms : List Move) (ls : List ℕ) (i : ℕ) (made : List Component) (b : Built flights ms ls i made) (m : Move) (low : i < length ms) (high : i < length ls) (is : m ≡ get_or ms i m) where
  -- the next component of such a list
  next_part : (all : List Component) → Matched (IsComponent flights) ms all → labels all ≡ ls
      → (d : Component) × (more : List Component) × (all ≡ made ++ d ∷ more) × IsComponent flights m d × (d.unit ≡ get_or ls i 0) × Matched (IsComponent flights) (drop (i + 1) ms) more × (labels more ≡ drop (i + 1) ls)
  next_part all h u =
      let (more, e, k, l) = b.rest all h u in
      split more e (subst (λ x. Matched (IsComponent flights) x more) (rest_is ms i m low is) k) (l ∙ rest_at ls i 0 high)
    where
      split : (more : List Component) → all ≡ made ++ more → Matched (IsComponent flights) (m ∷ drop (i + 1) ms) more → labels more ≡ get_or ls i 0 ∷ drop (i + 1) ls
          → (d : Component) × (rest : List Component) × (all ≡ made ++ d ∷ rest) × IsComponent flights m d × (d.unit ≡ get_or ls i 0) × Matched (IsComponent flights) (drop (i + 1) ms) rest × (labels rest ≡ drop (i + 1) ls)
      split [] e k l = absurd k
      split (d ∷ rest) e k l = (d, rest, e, k.0, first l, k.1, second l)
        where
          first : d.unit ∷ labels rest ≡ get_or ls i 0 ∷ drop (i + 1) ls → d.unit ≡ get_or ls i 0
          first q = cc

          second : d.unit ∷ labels rest ≡ get_or ls i 0 ∷ drop (i + 1) ls → labels rest ≡ drop (i + 1) ls
          second q = cc

  pub built_next : (c : Component) → IsComponent flights m c → c.unit ≡ get_or ls i 0 → PartFound flights m (get_or ls i 0) (Some c) → Built flights ms ls (i + 1) (made ++ c ∷ [])
  built_next c part unit only = record {
    each = omega (arith, length-append made (c ∷ []), b.each);
    parts = subst (λ x. Matched (IsComponent flights) x (made ++ c ∷ [])) (sym (front_is ms i m low is)) (matched_more (IsComponent flights) (take i ms) made m c b.parts part);
    units = labels_push made c ∙ ap₂ (λ x y. x ++ y ∷ []) b.units unit ∙ sym (front_at ls i 0 high);
    rest = λ all h u.
        let (d, more, e, k, l, n, v) = next_part all h u in
        (more, e ∙ ap (λ x. made ++ x ∷ more) (sym (same d (only d k l))) ∙ sym (append_assoc made (c ∷ []) more), n, v);
  }
    where
      same : (d : Component) → Some c ≡ Some d → c ≡ d
      same d h = cc

  pub built_lost : PartFound flights m (get_or ls i 0) None → (all : List Component) → Matched (IsComponent flights) ms all → labels all ≡ ls → ⊥
  built_lost only all h u =
      let (d, more, e, k, l, n, v) = next_part all h u in
      none d (only d k l)
    where
      none : (d : Component) → None ≡ Some d → ⊥
      none d h = cc

pub built_all : (flights : List Flight) (ms : List Move) (ls : List ℕ) (i : ℕ) (made : List Component) → Built flights ms ls i made → length ms ≤ i → (all : List Component) → Matched (IsComponent flights) ms all → labels all ≡ ls → made ≡ all
built_all flights ms ls i made b le all h u =
    let (more, e, k, l) = b.rest all h u in
    ended more e (subst (λ x. Matched (IsComponent flights) x more) (drop_all i ms le) k)
  where
    ended : (more : List Component) → all ≡ made ++ more → Matched (IsComponent flights) [] more → made ≡ all
    ended [] e k = sym (e ∙ append-nil made)
    ended (d ∷ more) e k = absurd k

-- moves and components

moves_made : (flights : List Flight) (before : List ℕ) (cs : List Component) (ms : List Move) → Matched (IsComponent flights) ms cs → AreLabels before (labels cs) ms → moves_after before cs ≡ ms
moves_made flights before [] [] h r = refl
moves_made flights before [] (m ∷ ms) h r = absurd h
moves_made flights before (c ∷ cs) [] h r = absurd h
moves_made flights before (c ∷ cs) (m ∷ ms) h r =
    let part = h.0 in
    let role = r.0 in
    let slot = r.1 in
    let rest = moves_made flights (before ++ c.unit ∷ []) cs ms h.1 r.2 in
    λ i. record { flights = part.flights_are i; carrier = part.carrier i; basis = part.basis i; role = sym role i; slot = sym slot i } ∷ rest i

labels_made : (before : List ℕ) (cs : List Component) (ms : List Move) → moves_after before cs ≡ ms → AreLabels before (labels cs) ms
labels_made before [] [] e = tt
labels_made before [] (m ∷ ms) e = absurd (cc)
labels_made before (c ∷ cs) [] e = absurd (cc)
labels_made before (c ∷ cs) (m ∷ ms) e =
    let h : move_of before c (labels cs) ≡ m = head e in
    (sym (ap (λ x. x.role) h), sym (ap (λ x. x.slot) h), labels_made (before ++ c.unit ∷ []) cs ms (tail e))
  where
    head : move_of before c (labels cs) ∷ moves_after (before ++ c.unit ∷ []) cs ≡ m ∷ ms → move_of before c (labels cs) ≡ m
    head q = cc

    tail : move_of before c (labels cs) ∷ moves_after (before ++ c.unit ∷ []) cs ≡ m ∷ ms → moves_after (before ++ c.unit ∷ []) cs ≡ ms
    tail q = cc

parts_made : (flights : List Flight) (before : List ℕ) (cs : List Component) (ms : List Move) → moves_after before cs ≡ ms → Matched (λ m c. FiledOver flights m.role c) ms cs → Matched (IsComponent flights) ms cs
parts_made flights before [] [] e h = tt
parts_made flights before [] (m ∷ ms) e h = absurd h
parts_made flights before (c ∷ cs) [] e h = absurd h
parts_made flights before (c ∷ cs) (m ∷ ms) e h =
    let k : move_of before c (labels cs) ≡ m = head e in
    (record { flights_are = ap (λ x. x.flights) k; carrier = ap (λ x. x.carrier) k; basis = ap (λ x. x.basis) k; filed = h.0 }, parts_made flights (before ++ c.unit ∷ []) cs ms (tail e) h.1)
  where
    head : move_of before c (labels cs) ∷ moves_after (before ++ c.unit ∷ []) cs ≡ m ∷ ms → move_of before c (labels cs) ≡ m
    head q = cc

    tail : move_of before c (labels cs) ∷ moves_after (before ++ c.unit ∷ []) cs ≡ m ∷ ms → moves_after (before ++ c.unit ∷ []) cs ≡ ms
    tail q = cc

filed_each : (flights : List Flight) (ms : List Move) (cs : List Component) → Matched (IsComponent flights) ms cs → Matched (λ m c. FiledOver flights m.role c) ms cs
filed_each flights [] [] h = tt
filed_each flights [] (c ∷ cs) h = absurd h
filed_each flights (m ∷ ms) [] h = absurd h
filed_each flights (m ∷ ms) (c ∷ cs) h = (h.0.filed, filed_each flights ms cs h.1)

pub ticket_made : (flights : List Flight) (ms : List Move) (ls : List ℕ) (t : Ticket) → length ms ≤ MOST_COMPONENTS → Numbered 0 ls → AreLabels [] ls ms → Matched (IsComponent flights) ms t.components → labels t.components ≡ ls → TicketOfMoves flights ms t
ticket_made flights ms ls t few n r h u = record {
  few = omega (arith, matched_long (IsComponent flights) ms t.components h);
  numbered = subst (Numbered 0) (sym u) n;
  moves_are = moves_made flights [] t.components ms h (subst (λ x. AreLabels [] x ms) (sym u) r);
  filed = filed_each flights ms t.components h;
}

pub ticket_labels : (flights : List Flight) (ms : List Move) (t : Ticket) → TicketOfMoves flights ms t → AreLabels [] (labels t.components) ms
ticket_labels flights ms t h = labels_made [] t.components ms h.moves_are

pub ticket_parts : (flights : List Flight) (ms : List Move) (t : Ticket) → TicketOfMoves flights ms t → Matched (IsComponent flights) ms t.components
ticket_parts flights ms t h = parts_made flights [] t.components ms h.moves_are h.filed

pub ticket_short : (flights : List Flight) (ms : List Move) (t : Ticket) → TicketOfMoves flights ms t → length ms ≤ MOST_COMPONENTS
ticket_short flights ms t h = omega (arith, matched_long (IsComponent flights) ms t.components (ticket_parts flights ms t h), h.few)
