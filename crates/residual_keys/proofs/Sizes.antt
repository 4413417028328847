-- The size of a search is one number, and more states than n are reached exactly where it is greater than n. Given on to the crates above.
use Rattle.std.proofs.Common.{◌≡◌, ◌≢◌, ◌↔◌, ◌∙◌, ℕ, zero, suc, ◌≤◌, ◌<◌, List, [], ◌∷◌, length, take, refl, sym, ap, subst, inl, inr, arith}
use Rattle.fare_law.specs.declared.requests.Request.{Request}
use Rattle.fare_law.specs.Book.{Book}
use Rattle.fare_law.specs.Lists.{AllDifferent, Each, EachPair, IsIn}
use Rattle.residual_keys.specs.ResidualOrder.{StateBefore}
use Rattle.residual_keys.specs.Residuals.{State}
use Rattle.residual_keys.specs.Searches.{IsSize, Reached, ReachesMoreThan}
use Rattle.residual_keys.proofs.LeastOne.{below_all, pairs_rest}
use Rattle.residual_keys.proofs.Needed.{need_one}
use Rattle.residual_keys.proofs.Ordered.{states}
use Rattle.law_lemmas.proofs.EachOne.{each_from, each_take, each_weaker}
use Rattle.law_lemmas.proofs.Lists.{front_many}

-- the others of these, without x
record Others {X : Type 0} (x : X) (ys : List X) : Type 0 where
  pub rest : List X
  pub many : length ys ≡ suc (length rest)
  pub among : (z : X) → IsIn z ys → x ≢ z → IsIn z rest

take_out : {X : Type 0} (x : X) (ys : List X) → IsIn x ys → Others x ys
take_out x [] i = absurd i
take_out x (y ∷ ys) (inl e) = record { rest = ys; many = refl; among = among }
  where
    among : (z : _) → IsIn z (y ∷ ys) → x ≢ z → IsIn z ys
    among z (inl f) ne = absurd (ne (e ∙ sym f))
    among z (inr j) ne = j
take_out x (y ∷ ys) (inr i) = let r = take_out x ys i in record { rest = y ∷ r.rest; many = ap suc r.many; among = among r }
  where
    among : (r : Others x ys) (z : _) → IsIn z (y ∷ ys) → x ≢ z → IsIn z (y ∷ r.rest)
    among r z (inl f) ne = inl f
    among r z (inr j) ne = inr (r.among z j ne)

both_in : {X : Type 0} (x : X) (ys rest : List X) (xs : List X) → ((z : X) → IsIn z ys → x ≢ z → IsIn z rest) → Each (λ z. IsIn z ys) xs → Each (λ z. x ≢ z) xs → Each (λ z. IsIn z rest) xs
both_in x ys rest [] to h k = tt
both_in x ys rest (z ∷ xs) to h k = (to z h.0 k.0, both_in x ys rest xs to h.1 k.1)

-- different elements of a list are no more than it has
pub no_more : {X : Type 0} (xs ys : List X) → AllDifferent xs → Each (λ x. IsIn x ys) xs → length xs ≤ length ys
no_more [] ys d h = omega arith
no_more (x ∷ xs) ys d h =
    let o = take_out x ys h.0 in
    let n = no_more xs o.rest d.1 (both_in x ys o.rest xs o.among h.1 d.0) in
    omega (arith, n, o.many)

-- what stands in the order of states differs
differ : (xs : List State) → EachPair StateBefore xs → AllDifferent xs
differ [] h = tt
differ (x ∷ xs) h = (
  each_weaker (StateBefore x) (λ y. x ≢ y) (λ y b e. states.never x (subst (StateBefore x) (sym e) b)) xs (below_all StateBefore states.trans x xs h),
  differ xs (pairs_rest StateBefore x xs h),
)

front_differs : {X : Type 0} (n : ℕ) (xs : List X) → AllDifferent xs → AllDifferent (take n xs)
front_differs zero xs h = tt
front_differs (suc n) [] h = tt
front_differs (suc n) (x ∷ xs) h = (each_take (λ y. x ≢ y) n xs h.0, front_differs n xs h.1)

pub one_size : (b : Book) (q : Request) (m n : ℕ) → IsSize b q m → IsSize b q n → m ≡ n
one_size b q m n h k = h.2 ∙ ap length (need_one b q h.0 k.0 h.1 k.1) ∙ sym k.2

pub more_reached : (b : Book) (q : Request) (size n : ℕ) → IsSize b q size → ReachesMoreThan n b q ↔ (n < size)
more_reached b q size n s = (λ h. many h, λ lt. enough lt)
  where
    all_needed : (xs : List State) → Each (Reached b q) xs → Each (λ x. IsIn x s.0) xs
    all_needed [] h = tt
    all_needed (x ∷ xs) h = ((s.1.are x).1 h.0, all_needed xs h.1)

    many : ReachesMoreThan n b q → n < size
    many h = let l = no_more h.0 s.0 h.2 (all_needed h.0 h.3) in omega (arith, l, h.1, s.2)

    enough : n < size → ReachesMoreThan n b q
    enough lt = (
      take (suc n) s.0,
      front_many (suc n) s.0 (omega (arith, lt, s.2)),
      front_differs (suc n) s.0 (differ s.0 s.1.in_order),
      each_take (Reached b q) (suc n) s.0 (each_from (Reached b q) s.0 (λ x i. (s.1.are x).0 i)),
    )
