-- The laws of the graph that the tests draw from.
use Rattle.std.proofs.Common.{◌≡◌, ℕ, zero, suc, ◌<◌, ◌≤◌, ◌+◌, List, [], ◌∷◌, ◌++◌, length, take, Some, None, sym, refl, ap, subst, inl, inr, arith, ◌∙◌}
use Rattle.fare_law.specs.Lists.{IsPrefix, KLeast}
use Rattle.best_steps.specs.declared.steps.Step.{Step}
use Rattle.best_steps.specs.Runs.{Leads, price_of, word_of, Sooner, StepLaws}
use Rattle.call_tests.specs.Switches.{after, switch, HasSwitch}

next_after : (n m : ℕ) → after n ≡ Some m → n ≡ suc m
next_after zero m e = absurd (cc)
next_after (suc n) m e = (let x : n ≡ m = cc in ap suc x)

-- what each step of a node has
digit_of : (n : ℕ) (s : Step) → HasSwitch n s → (d : ℕ) × (d ≤ 1) × (s ≡ switch n d)
digit_of n s h = elim h.1 [ inl e ↦ (0, omega arith, e) | inr e ↦ (1, omega arith, e) ]

same_digit : (n d e : ℕ) → IsPrefix (d ∷ []) (e ∷ []) → switch n d ≡ switch n e
same_digit n d e p = let q = p.1 in let x : d ≡ e = cc in ap (λ z. switch n z) x

few : (n : ℕ) (steps : List Step) → Leads HasSwitch (Some n) steps None → price_of steps ≤ n + 1
few n [] l = omega arith
few n (s ∷ []) l =
    let d = digit_of l.0 s l.2 in
    let p = ap (λ z. z.price) d.2 in
    omega (arith, p, d.1)
few n (s ∷ t ∷ more) l =
    let d = digit_of l.0 s l.2 in
    let p = ap (λ z. z.price) d.2 in
    let k : n ≡ l.0 = (let x = l.1 in cc) in
    let e : after l.0 ≡ Some l.3.0 = sym (ap (λ z. z.next) d.2) ∙ l.3.1 in
    let q = next_after l.0 l.3.0 e in
    let f = few l.3.0 (t ∷ more) (l.3.0, refl, l.3.2, l.3.3) in
    omega (arith, p, d.1, k, q, f)

brief : (n : ℕ) (steps : List Step) → Leads HasSwitch (Some n) steps None → length (word_of steps) ≤ n + 1
brief n [] l = omega arith
brief n (s ∷ []) l =
    let d = digit_of l.0 s l.2 in
    let w = ap (λ z. length (z.word ++ [])) d.2 in
    omega (arith, w)
brief n (s ∷ t ∷ more) l =
    let d = digit_of l.0 s l.2 in
    let w = ap (λ z. length (z.word ++ word_of (t ∷ more))) d.2 in
    let k : n ≡ l.0 = (let x = l.1 in cc) in
    let e : after l.0 ≡ Some l.3.0 = sym (ap (λ z. z.next) d.2) ∙ l.3.1 in
    let q = next_after l.0 l.3.0 e in
    let f = brief l.3.0 (t ∷ more) (l.3.0, refl, l.3.2, l.3.3) in
    omega (arith, w, k, q, f)

known : (n : ℕ) (steps : List Step) → Leads HasSwitch (Some n) steps None → n < 7
known n [] l = absurd (none l)
  where
    none : Some n ≡ None → ⊥
    none e = absurd (cc)
known n (s ∷ more) l = let k : n ≡ l.0 = (let x = l.1 in cc) in let h = l.2.0 in omega arith

pub switch_laws : StepLaws HasSwitch 7 (λ n. n)
switch_laws = record {
  within = λ n m s h e. let d = digit_of n s h in let q = next_after n m (sym (ap (λ z. z.next) d.2) ∙ e) in let k = h.0 in omega arith;
  down = λ n m s h e. let d = digit_of n s h in let q = next_after n m (sym (ap (λ z. z.next) d.2) ∙ e) in omega arith;
  apart = λ n s t h k p.
      let a = digit_of n s h in
      let b = digit_of n t k in
      a.2 ∙ same_digit n a.0 b.0 (subst (λ z. IsPrefix (a.0 ∷ []) z.word) b.2 (subst (λ z. IsPrefix z.word t.word) a.2 p)) ∙ sym b.2;
  last = λ n s h e. let d = digit_of n s h in ap (λ z. z.total) d.2 ∙ sym (ap (λ z. z.price) d.2);
  bound = λ n m s t h e k. let d = digit_of n s h in let x = ap (λ z. z.total) d.2 in let y = ap (λ z. z.price) d.2 in omega (arith, x, y);
  met = λ n m s h e.
      let d = digit_of n s h in
      let q = next_after n m (sym (ap (λ z. z.next) d.2) ∙ e) in
      let k = h.0 in
      let x = ap (λ z. z.total) d.2 in
      let y = ap (λ z. z.price) d.2 in
      (switch m 0, (omega arith, inl refl), omega (arith, x, y));
  small = λ n steps l. let f = few n steps l in let k = known n steps l in omega (arith, f, k);
  short = λ n steps l. let f = brief n steps l in let k = known n steps l in omega (arith, f, k);
}

take_none : (k : ℕ) → ◌≡◌ {A = List Step} (take k []) []
take_none zero = refl
take_none (suc k) = refl

-- a node's steps by digit, as many as are wanted, are its least
pub least_switches : (n k : ℕ) → n < 7 → KLeast (HasSwitch n) Sooner k (take k (switch n 0 ∷ switch n 1 ∷ []))
least_switches n zero h = record { ascending = tt; each = tt; few = omega arith; rest = λ x a out. (tt, refl) }
least_switches n (suc zero) h = record {
  ascending = tt;
  each = ((h, inl refl), tt);
  few = omega arith;
  rest = λ x a out. elim a.1 [
    | inl e ↦ absurd (out (inl e))
    | inr e ↦ ((subst (λ z. Sooner (switch n 0) z) (sym e) (inl (omega arith)), tt), refl)
  ];
}
least_switches n (suc (suc k)) h = subst (λ z. KLeast (HasSwitch n) Sooner (suc (suc k)) (switch n 0 ∷ switch n 1 ∷ z)) (sym (take_none k)) (record {
  ascending = (inl (omega arith), tt);
  each = ((h, inl refl), ((h, inr refl), tt));
  few = omega arith;
  rest = λ x a out. elim a.1 [ inl e ↦ absurd (out (inl e)) | inr e ↦ absurd (out (inr (inl e))) ];
})
