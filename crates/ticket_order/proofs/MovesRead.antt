-- The moves of a code, read one after another.
use Rattle.std.proofs.Common.{◌≡◌, ◌≢◌, ◌↔◌, ℕ, ◌<◌, ◌≤◌, ◌^◌, ◌-◌, ◌==◌, true, false, IfNone, List, [], ◌∷◌, ◌++◌, length, take, drop, get_or, Option, Some, None, refl, sym, ap, ap₂, ◌∙◌, subst, arith, append_assoc, append-nil, length-append}
use Rattle.std.proofs.lemmas.Bool.{eqb-true}
use Rattle.std.proofs.lemmas.List.{take_rest, take-append-drop}
use Rattle.fare_law.specs.declared.moves.Move.{Move}
use Rattle.fare_law.specs.Lists.{Each}
use Rattle.fare_law.specs.Codes.{move_code, role_code, run_code, basis_number, carrier_number}
use Rattle.fare_law.specs.Names.{IsBasis, IsCarrier}
use Rattle.fare_law.specs.declared.limits.TheConstants.{MOST_COMPONENTS, MOST_FLIGHTS_OF_A_COMPONENT}
use Rattle.ticket_order.specs.Coding.{Coded, IsCodeOf, IsMove}
use Rattle.ticket_order.proofs.Codes.{codes_joined, codes_same, move_parts}
use Rattle.law_lemmas.proofs.Lists.{parts_same}

-- numbers are their first, and a front and a rest of the others
pub first_flights_are : (ns fs front back : List ℕ) → 1 ≤ length ns → front ≡ take (get_or ns 0 0) (take (length ns - 1) (drop 1 ns)) → back ≡ drop (get_or ns 0 0) (take (length ns - 1) (drop 1 ns))
    → length front ≡ get_or ns 0 0 → fs ≡ front → ns ≡ length fs ∷ fs ++ back
first_flights_are [] fs front back some f b l e = absurd (omega arith)
first_flights_are (n ∷ ns) fs front back some f b l e =
    let others = take_rest (n ∷ ns) 1 in
    ap₂ (λ x xs. x ∷ xs) (sym l ∙ ap length (sym e)) (sym (take-append-drop n ns) ∙ ap₂ (λ xs ys. xs ++ ys) (sym (ap (take n) others) ∙ sym f ∙ sym e) (sym (ap (drop n) others) ∙ sym b))

-- ---- one move

four_first : (ns : List ℕ) → 4 ≤ length ns → ns ≡ get_or ns 0 0 ∷ get_or ns 1 0 ∷ get_or ns 2 0 ∷ get_or ns 3 0 ∷ take (length ns - 4) (drop 4 ns)
four_first [] h = absurd (omega arith)
four_first (a ∷ []) h = absurd (omega arith)
four_first (a ∷ b ∷ []) h = absurd (omega arith)
four_first (a ∷ b ∷ c ∷ []) h = absurd (omega arith)
four_first (a ∷ b ∷ c ∷ d ∷ ns) h = ap (λ z. a ∷ b ∷ c ∷ d ∷ z) (sym (take_rest (a ∷ b ∷ c ∷ d ∷ ns) 4))

-- what follows its flights is of the move
pub record PartsAre (m : Move) (rest : List ℕ) : Type 0 where
  pub carrier : carrier_number m.carrier ≡ get_or rest 0 0
  pub basis : basis_number m.basis ≡ get_or rest 1 0
  pub role : role_code m.role ≡ get_or rest 2 0
  pub slot : m.slot ≡ get_or rest 3 0

pub parts_are : (numbers fs rest : List ℕ) → numbers ≡ length fs ∷ fs ++ rest → (m : Move) (after : List ℕ) → numbers ≡ move_code m ++ after → PartsAre m rest
parts_are numbers fs rest e m after h =
    let q : move_code m ++ after ≡ length fs ∷ fs ++ rest = sym h ∙ e in
    let l : length m.flights ≡ length fs = head_same q in
    let t : (m.flights ++ (carrier_number m.carrier ∷ basis_number m.basis ∷ role_code m.role ∷ m.slot ∷ [])) ++ after ≡ fs ++ rest = tail_same q in
    let r = parts_same m.flights fs (carrier_number m.carrier ∷ basis_number m.basis ∷ role_code m.role ∷ m.slot ∷ after) rest l (sym (append_assoc m.flights _ after) ∙ t) in
    record { carrier = ap (λ z. get_or z 0 0) r.1; basis = ap (λ z. get_or z 1 0) r.1; role = ap (λ z. get_or z 2 0) r.1; slot = ap (λ z. get_or z 3 0) r.1 }
  where
    head_same : move_code m ++ after ≡ length fs ∷ fs ++ rest → length m.flights ≡ length fs
    head_same q = cc

    tail_same : move_code m ++ after ≡ length fs ∷ fs ++ rest → (m.flights ++ (carrier_number m.carrier ∷ basis_number m.basis ∷ role_code m.role ∷ m.slot ∷ [])) ++ after ≡ fs ++ rest
    tail_same q = cc

pub move_found : (numbers fs rest : List ℕ) (m : Move) → Each (λ n. n < 2 ^ 32) fs × (numbers ≡ length fs ∷ fs ++ rest) → length fs ≤ MOST_FLIGHTS_OF_A_COMPONENT → 4 ≤ length rest → m.flights ≡ fs
    → IsCarrier m.carrier × (carrier_number m.carrier ≡ get_or rest 0 0) → IsBasis m.basis × (basis_number m.basis ≡ get_or rest 1 0) → role_code m.role ≡ get_or rest 2 0 → (m.slot ≡ get_or rest 3 0) × (m.slot < 2 ^ 8)
    → IsMove m × (numbers ≡ move_code m ++ take (length rest - 4) (drop 4 rest))
move_found numbers fs rest m h few long f c b r s = (
  record { few = subst (λ z. length z ≤ MOST_FLIGHTS_OF_A_COMPONENT) (sym f) few; flights = subst (Each (λ n. n < 2 ^ 32)) (sym f) h.0; slot = s.1; coded = (c.0, b.0) },
  h.1 ∙ ap₂ (λ x y. length x ∷ x ++ y) (sym f) (four_first rest long ∙ parts (sym c.1) (sym b.1) (sym r) (sym s.0)) ∙ ap (λ z. length m.flights ∷ z) (sym (append_assoc m.flights _ (take (length rest - 4) (drop 4 rest)))),
)
  where
    parts : get_or rest 0 0 ≡ carrier_number m.carrier → get_or rest 1 0 ≡ basis_number m.basis → get_or rest 2 0 ≡ role_code m.role → get_or rest 3 0 ≡ m.slot
        → get_or rest 0 0 ∷ get_or rest 1 0 ∷ get_or rest 2 0 ∷ get_or rest 3 0 ∷ take (length rest - 4) (drop 4 rest) ≡ (carrier_number m.carrier ∷ basis_number m.basis ∷ role_code m.role ∷ m.slot ∷ []) ++ take (length rest - 4) (drop 4 rest)
    parts a b c d = λ i. a i ∷ b i ∷ c i ∷ d i ∷ take (length rest - 4) (drop 4 rest)

-- nothing is found
pub lost : {X : Type 0} (found : Option X) (P : Type 0) → found ≡ None → P → IfNone found P
lost found P e p = subst (λ z. IfNone z P) (sym e) p

-- ---- moves

pub some_left : (ns : List ℕ) → false ≡ (length ns == 0) → ns ≢ []
some_left [] e = absurd (cc)
some_left (n ∷ ns) e = λ h. absurd (cc)

pub none_left : (ns : List ℕ) → true ≡ (length ns == 0) → ns ≡ []
none_left [] e = refl
none_left (n ∷ ns) e = let l = eqb-true (length (n ∷ ns)) 0 (sym e) in absurd (omega arith)

each_coded : (ms : List Move) → Each IsMove ms → Each Coded ms
each_coded [] h = tt
each_coded (m ∷ ms) h = (h.0.coded, each_coded ms h.1)

each_push : (ms : List Move) (m : Move) → Each IsMove ms → IsMove m → Each IsMove (ms ++ m ∷ [])
each_push [] m h k = (k, tt)
each_push (n ∷ ms) m h k = (h.0, each_push ms m h.1 k)

each_rest : (ms more : List Move) → Each IsMove (ms ++ more) → Each IsMove more
each_rest [] more h = h
each_rest (m ∷ ms) more h = each_rest ms more h.1

-- After these moves of a code these numbers are still to be read.
pub record MovesRead (code : List ℕ) (moves : List Move) (rest : List ℕ) : Type 0 where
  pub few : length moves ≤ MOST_COMPONENTS
  pub each : Each IsMove moves
  pub joined : code ≡ run_code moves ++ rest
  pub whole : (ms : List Move) → Each IsMove ms → code ≡ run_code ms → (more : List Move) × (ms ≡ moves ++ more) × (rest ≡ run_code more)

pub read_none : (code : List ℕ) → MovesRead code [] code
read_none code = record { few = omega arith; each = tt; joined = refl; whole = λ ms h e. (ms, refl, e) }

module _ (code : List ℕ) (moves : List Move) (rest : List ℕ) (r : MovesRead code moves rest) where
  -- the next move of such a list
  next_move : (ms : List Move) → rest ≢ [] → Each IsMove ms → code ≡ run_code ms → (m : Move) × (more : List Move) × (ms ≡ moves ++ m ∷ more) × IsMove m × (rest ≡ move_code m ++ run_code more)
  next_move ms some h e = let w = r.whole ms h e in split w.0 w.1 w.2
    where
      split : (more : List Move) → ms ≡ moves ++ more → rest ≡ run_code more → (m : Move) × (more : List Move) × (ms ≡ moves ++ m ∷ more) × IsMove m × (rest ≡ move_code m ++ run_code more)
      split [] q k = absurd (some k)
      split (m ∷ more) q k = (m, more, q, (each_rest moves (m ∷ more) (subst (Each IsMove) q h)).0, k)

  pub move_read : (m : Move) (after : List ℕ) → rest ≢ [] → length moves < MOST_COMPONENTS → IsMove m → rest ≡ move_code m ++ after → MovesRead code (moves ++ m ∷ []) after
  move_read m after some lt is e = record {
    few = omega (arith, length-append moves (m ∷ []));
    each = each_push moves m r.each is;
    joined = r.joined ∙ ap (λ z. run_code moves ++ z) e ∙ sym (append_assoc (run_code moves) (move_code m) after) ∙ ap (λ z. z ++ after) (ap (λ z. run_code moves ++ z) (sym (append-nil (move_code m))) ∙ sym (codes_joined moves (m ∷ [])));
    whole = λ ms h f.
        let n = next_move ms some h f in
        let p = move_parts m n.0 after (run_code n.1) is.coded n.3.coded (sym e ∙ n.4) in
        (n.1, n.2 ∙ ap (λ z. moves ++ z ∷ n.1) (sym p.0) ∙ sym (append_assoc moves (m ∷ []) n.1), p.1);
  }

  pub move_lost : rest ≢ [] → ((m : Move) (after : List ℕ) → IsMove m → rest ≡ move_code m ++ after → ⊥) → (ms : List Move) → IsCodeOf code ms → ⊥
  move_lost some none ms is = let n = next_move ms some is.each is.code_is in none n.0 (run_code n.1) n.3 n.4

  pub too_many : rest ≢ [] → MOST_COMPONENTS ≤ length moves → (ms : List Move) → IsCodeOf code ms → ⊥
  too_many some full ms is =
      let n = next_move ms some is.each is.code_is in
      omega (arith, ap length n.2, length-append moves (n.0 ∷ n.1), is.few)

  pub moves_read : rest ≡ [] → (ms : List Move) → (Some moves ≡ Some ms) ↔ IsCodeOf code ms
  moves_read none ms = (
    λ e. subst (IsCodeOf code) (some_same e) read,
    λ is. ap Some (codes_same moves ms (each_coded moves r.each) (each_coded ms is.each) (sym read.code_is ∙ is.code_is)),
  )
    where
      some_same : Some moves ≡ Some ms → moves ≡ ms
      some_same e = cc

      read : IsCodeOf code moves
      read = record { few = r.few; each = r.each; code_is = r.joined ∙ ap (λ z. run_code moves ++ z) none ∙ append-nil (run_code moves) }

pub none_read : (code : List ℕ) (found : Option (List Move)) → found ≡ None → ((ms : List Move) → IsCodeOf code ms → ⊥) → (ms : List Move) → (found ≡ Some ms) ↔ IsCodeOf code ms
none_read code found e none ms = (λ f. absurd (cc), λ is. absurd (none ms is))
