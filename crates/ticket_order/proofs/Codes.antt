-- A code tells its moves, and no code is the front of another but that of a front of its moves. Given on to the crates above.
use Rattle.std.proofs.Common.{◌≡◌, ℕ, zero, suc, ◌+◌, ◌-◌, ◌*◌, ◌^◌, ◌≤◌, ◌<◌, ◌⊎◌, cond, List, [], ◌∷◌, ◌++◌, length, sym, refl, ap, ap₂, ◌∙◌, subst, inl, inr, arith, append_assoc, append-nil, pow-suc, mul-le-mul_right, suc-mul, mul_comm}
use Rattle.std.proofs.lemmas.Bool.{le-leb, lt-leb, cases_eq, cases_order}
use Rattle.fare_law.specs.declared.names.Basis.{Basis}
use Rattle.fare_law.specs.declared.names.Carrier.{Carrier}
use Rattle.fare_law.specs.Lists.{Each, IsPrefix}
use Rattle.fare_law.specs.Codes.{character_value, in_places, carrier_number, basis_number, role_code, move_code, run_code}
use Rattle.fare_law.specs.Names.{IsCharacter, IsCarrier, IsBasis}
use Rattle.fare_law.specs.declared.moves.Move.{Move}
use Rattle.fare_law.specs.declared.moves.Role.{Role}
use Rattle.fare_law.specs.declared.moves.Role.TheVariants.{Alone, Opens, GoesOn, Closes}
use Rattle.ticket_order.specs.Coding.{Apart}
use Rattle.law_lemmas.proofs.Lists.{parts_same}
pub use Rattle.ticket_order.specs.Coding.{Coded}
pub use Rattle.law_lemmas.proofs.Words.{less_total}
pub use Rattle.ticket_order.proofs.Words.{less_cut}

pub value_small : (c : ℕ) → IsCharacter c → (1 ≤ character_value c) × (character_value c ≤ 36)
value_small c (inl h) = subst (λ b. (1 ≤ cond b (c - 47) (c - 54)) × (cond b (c - 47) (c - 54) ≤ 36)) (sym (le-leb c 57 h.1)) (omega (arith, h.0), omega (arith, h.1))
value_small c (inr h) = subst (λ b. (1 ≤ cond b (c - 47) (c - 54)) × (cond b (c - 47) (c - 54) ≤ 36)) (sym (lt-leb c 57 (omega (arith, h.0)))) (omega (arith, h.0), omega (arith, h.1))

value_digit : (c : ℕ) → c ≤ 57 → character_value c ≡ c - 47
value_digit c h = ap (λ b. cond b (c - 47) (c - 54)) (le-leb c 57 h)

value_capital : (c : ℕ) → 57 < c → character_value c ≡ c - 54
value_capital c h = ap (λ b. cond b (c - 47) (c - 54)) (lt-leb c 57 h)

pub value_one : (c d : ℕ) → IsCharacter c → IsCharacter d → character_value c ≡ character_value d → c ≡ d
value_one c d (inl h) (inl k) e = omega (arith, value_digit c h.1, value_digit d k.1, h.0, k.0)
value_one c d (inl h) (inr k) e = absurd (omega (arith, value_digit c h.1, value_capital d (omega (arith, k.0)), h.0, h.1, k.0))
value_one c d (inr h) (inl k) e = absurd (omega (arith, value_capital c (omega (arith, h.0)), value_digit d k.1, h.0, k.0, k.1))
value_one c d (inr h) (inr k) e = omega (arith, value_capital c (omega (arith, h.0)), value_capital d (omega (arith, k.0)), h.0, k.0)

times_below : (a p r : ℕ) → a ≤ 36 → r < p → a * p + r < 37 * p
times_below a p r h lt = omega (arith, mul-le-mul_right p (le h), suc-mul a p)
  where
    le : a ≤ 36 → suc a ≤ 37
    le h = omega arith

pub positive : (n : ℕ) → 0 < 37 ^ n
positive zero = omega arith
positive (suc n) = omega (arith, positive n, pow-suc 37 n, mul_comm (37 ^ n) 37)

pub places_below : (n : ℕ) (cs : List ℕ) → Each IsCharacter cs → in_places n cs < 37 ^ n
places_below zero cs h = omega arith
places_below (suc n) [] h = positive (suc n)
places_below (suc n) (c ∷ cs) h = subst (λ z. character_value c * 37 ^ n + in_places n cs < z) (sym (pow-suc 37 n ∙ mul_comm (37 ^ n) 37)) (times_below (character_value c) (37 ^ n) (in_places n cs) (value_small c h.0).1 (places_below n cs h.1))

pub digits : (a b p r s : ℕ) → r < p → s < p → a * p + r ≡ b * p + s → (a ≡ b) × (r ≡ s)
digits a b p r s x y e = elim (cases_order a b) [
  | inl same ↦ (same, rests same)
  | inr o ↦ elim o [ inl lt ↦ absurd (less a b r s x lt e) | inr gt ↦ absurd (less b a s r y gt (sym e)) ]
]
  where
    rests : a ≡ b → r ≡ s
    rests h = let m : a * p ≡ b * p = ap (λ z. z * p) h in omega arith

    less : (a b r s : ℕ) → r < p → a < b → a * p + r ≡ b * p + s → ⊥
    less a b r s x lt e = omega (arith, mul-le-mul_right p lt, suc-mul a p)

pub some_places : (n c : ℕ) (cs : List ℕ) → IsCharacter c → 1 ≤ character_value c * 37 ^ n + in_places n cs
some_places n c cs h = let m = mul-le-mul_right (37 ^ n) (value_small c h).0 in let p : 0 < 37 ^ n = positive n in omega (arith, m)

places_one : (n : ℕ) (cs ds : List ℕ) → length cs ≤ n → length ds ≤ n → Each IsCharacter cs → Each IsCharacter ds → in_places n cs ≡ in_places n ds → cs ≡ ds
places_one n [] [] a b h k e = refl
places_one zero [] (d ∷ ds) a b h k e = absurd (omega arith)
places_one zero (c ∷ cs) ds a b h k e = absurd (omega arith)
places_one (suc n) [] (d ∷ ds) a b h k e = absurd (omega (arith, some_places n d ds k.0))
places_one (suc n) (c ∷ cs) [] a b h k e = absurd (omega (arith, some_places n c cs h.0))
places_one (suc n) (c ∷ cs) (d ∷ ds) a b h k e =
    let r = digits (character_value c) (character_value d) (37 ^ n) (in_places n cs) (in_places n ds) (places_below n cs h.1) (places_below n ds k.1) e in
    ap₂ (λ z zs. z ∷ zs) (value_one c d h.0 k.0 r.0) (places_one n cs ds (omega arith) (omega arith) h.1 k.1 r.1)

pub carrier_one : (c d : Carrier) → IsCarrier c → IsCarrier d → carrier_number c ≡ carrier_number d → c ≡ d
carrier_one c d h k e = let s = places_one 2 c.0 d.0 (omega (arith, h.0)) (omega (arith, k.0)) h.1 k.1 e in λ i. record { 0 = s i }

pub basis_one : (c d : Basis) → IsBasis c → IsBasis d → basis_number c ≡ basis_number d → c ≡ d
basis_one c d h k e = let s = places_one 8 c.0 d.0 h.1 k.1 h.2 k.2 e in λ i. record { 0 = s i }

role_one : (r s : Role) → role_code r ≡ role_code s → r ≡ s
role_one Alone Alone e = refl
role_one Alone Opens e = absurd (omega arith)
role_one Alone GoesOn e = absurd (omega arith)
role_one Alone Closes e = absurd (omega arith)
role_one Opens Alone e = absurd (omega arith)
role_one Opens Opens e = refl
role_one Opens GoesOn e = absurd (omega arith)
role_one Opens Closes e = absurd (omega arith)
role_one GoesOn Alone e = absurd (omega arith)
role_one GoesOn Opens e = absurd (omega arith)
role_one GoesOn GoesOn e = refl
role_one GoesOn Closes e = absurd (omega arith)
role_one Closes Alone e = absurd (omega arith)
role_one Closes Opens e = absurd (omega arith)
role_one Closes GoesOn e = absurd (omega arith)
role_one Closes Closes e = refl

pub move_parts : (m n : Move) (us vs : List ℕ) → Coded m → Coded n → move_code m ++ us ≡ move_code n ++ vs → (m ≡ n) × (us ≡ vs)
move_parts m n us vs h k e =
    let l : length m.flights ≡ length n.flights = head_same e in
    let t : (m.flights ++ tail m) ++ us ≡ (n.flights ++ tail n) ++ vs = tail_same e in
    let r = parts_same m.flights n.flights (tail m ++ us) (tail n ++ vs) l (sym (append_assoc m.flights (tail m) us) ∙ t ∙ append_assoc n.flights (tail n) vs) in
    let c = carrier_one m.carrier n.carrier h.0 k.0 (first r.1) in
    let b = basis_one m.basis n.basis h.1 k.1 (second r.1) in
    let o = role_one m.role n.role (third r.1) in
    let s : m.slot ≡ n.slot = fourth r.1 in
    ((λ i. record { flights = r.0 i; carrier = c i; basis = b i; role = o i; slot = s i }), last r.1)
  where
    tail : Move → List ℕ
    tail k = carrier_number k.carrier ∷ basis_number k.basis ∷ role_code k.role ∷ k.slot ∷ []

    head_same : move_code m ++ us ≡ move_code n ++ vs → length m.flights ≡ length n.flights
    head_same e = cc

    tail_same : move_code m ++ us ≡ move_code n ++ vs → (m.flights ++ (carrier_number m.carrier ∷ basis_number m.basis ∷ role_code m.role ∷ m.slot ∷ [])) ++ us ≡ (n.flights ++ (carrier_number n.carrier ∷ basis_number n.basis ∷ role_code n.role ∷ n.slot ∷ [])) ++ vs
    tail_same e = cc

    first : (carrier_number m.carrier ∷ basis_number m.basis ∷ role_code m.role ∷ m.slot ∷ us) ≡ (carrier_number n.carrier ∷ basis_number n.basis ∷ role_code n.role ∷ n.slot ∷ vs) → carrier_number m.carrier ≡ carrier_number n.carrier
    first e = cc

    second : (carrier_number m.carrier ∷ basis_number m.basis ∷ role_code m.role ∷ m.slot ∷ us) ≡ (carrier_number n.carrier ∷ basis_number n.basis ∷ role_code n.role ∷ n.slot ∷ vs) → basis_number m.basis ≡ basis_number n.basis
    second e = cc

    third : (carrier_number m.carrier ∷ basis_number m.basis ∷ role_code m.role ∷ m.slot ∷ us) ≡ (carrier_number n.carrier ∷ basis_number n.basis ∷ role_code n.role ∷ n.slot ∷ vs) → role_code m.role ≡ role_code n.role
    third e = cc

    fourth : (carrier_number m.carrier ∷ basis_number m.basis ∷ role_code m.role ∷ m.slot ∷ us) ≡ (carrier_number n.carrier ∷ basis_number n.basis ∷ role_code n.role ∷ n.slot ∷ vs) → m.slot ≡ n.slot
    fourth e = cc

    last : (carrier_number m.carrier ∷ basis_number m.basis ∷ role_code m.role ∷ m.slot ∷ us) ≡ (carrier_number n.carrier ∷ basis_number n.basis ∷ role_code n.role ∷ n.slot ∷ vs) → us ≡ vs
    last e = cc

-- Where a code begins with the code of moves, its moves begin with them.
pub code_front : (xs ys : List Move) (more : List ℕ) → Each Coded xs → Each Coded ys → run_code ys ≡ run_code xs ++ more → (rest : List Move) × (ys ≡ xs ++ rest)
code_front [] ys more h k e = (ys, refl)
code_front (x ∷ xs) [] more h k e = absurd (none e)
  where
    none : [] ≡ run_code (x ∷ xs) ++ more → ⊥
    none e = cc
code_front (x ∷ xs) (y ∷ ys) more h k e =
    let r = move_parts y x (run_code ys) (run_code xs ++ more) k.0 h.0 (e ∙ append_assoc (move_code x) (run_code xs) more) in
    let f = code_front xs ys more h.1 k.1 r.1 in
    (f.0, ap₂ (λ z zs. z ∷ zs) r.0 f.1)

pub codes_same : (xs ys : List Move) → Each Coded xs → Each Coded ys → run_code xs ≡ run_code ys → xs ≡ ys
codes_same [] [] h k e = refl
codes_same [] (y ∷ ys) h k e = absurd (none e)
  where
    none : [] ≡ run_code (y ∷ ys) → ⊥
    none e = cc
codes_same (x ∷ xs) [] h k e = absurd (none e)
  where
    none : run_code (x ∷ xs) ≡ [] → ⊥
    none e = cc
codes_same (x ∷ xs) (y ∷ ys) h k e =
    let r = move_parts x y (run_code xs) (run_code ys) h.0 k.0 e in
    ap₂ (λ z zs. z ∷ zs) r.0 (codes_same xs ys h.1 k.1 r.1)

pub codes_joined : (xs ys : List Move) → run_code (xs ++ ys) ≡ run_code xs ++ run_code ys
codes_joined [] ys = refl
codes_joined (x ∷ xs) ys = ap (λ z. move_code x ++ z) (codes_joined xs ys) ∙ sym (append_assoc (move_code x) (run_code xs) (run_code ys))

-- where the code of one move begins with that of another, they are one move
pub move_front : (m n : Move) → Coded m → Coded n → IsPrefix (move_code m) (move_code n) → m ≡ n
move_front m n h k (more, e) = (move_parts m n more [] h k (sym e ∙ sym (append-nil (move_code n)))).0

numbers_decided : (xs ys : List ℕ) → (xs ≡ ys) ⊎ (xs ≡ ys → ⊥)
numbers_decided [] [] = inl refl
numbers_decided [] (y ∷ ys) = inr (λ e. cc)
numbers_decided (x ∷ xs) [] = inr (λ e. cc)
numbers_decided (x ∷ xs) (y ∷ ys) = elim (cases_eq x y) [
  | inl e ↦ elim (numbers_decided xs ys) [ inl f ↦ inl (ap₂ (λ z zs. z ∷ zs) e f) | inr ne ↦ inr (λ h. ne (tail_same h)) ]
  | inr ne ↦ inr (λ h. ne (head_same h))
]
  where
    tail_same : x ∷ xs ≡ y ∷ ys → xs ≡ ys
    tail_same h = cc

    head_same : x ∷ xs ≡ y ∷ ys → x ≡ y
    head_same h = cc

-- codes of two single moves are equal, or neither is the front of the other
pub moves_apart : (m n : Move) → Coded m → Coded n → (move_code m ≡ move_code n) ⊎ Apart (move_code m) (move_code n)
moves_apart m n h k = elim (numbers_decided (move_code m) (move_code n)) [
  | inl e ↦ inl e
  | inr ne ↦ inr ((λ p. ne (ap move_code (move_front m n h k p))), (λ p. ne (sym (ap move_code (move_front n m k h p)))))
]
