-- Steps one after another.
use Rattle.std.proofs.Common.{◌≡◌, ℕ, zero, suc, ◌<◌, ◌≤◌, ◌+◌, List, [], ◌∷◌, ◌++◌, Option, Some, None, sym, refl, ap, subst, inl, inr, arith, ◌∙◌, append_assoc}
use Rattle.best_steps.specs.declared.steps.Step.{Step}
use Rattle.best_steps.specs.Runs.{Leads, price_of, word_of, StepLaws}
use Rattle.best_k.proofs.Orders.{cancel, fronts}
use Rattle.law_lemmas.proofs.Options.{some_same}

pub none_some : (n : ℕ) → ◌≡◌ {A = Option ℕ} None (Some n) → ⊥
none_some n e = absurd (cc)

-- one path and then another
pub leads_on : (Has : ℕ → Step → Type 0) (from at to : Option ℕ) (f g : List Step) → Leads Has from f at → Leads Has at g to
    → Leads Has from (f ++ g) to
leads_on Has from at to [] g h k = subst (λ z. Leads Has z g to) (sym h) k
leads_on Has from at to (s ∷ f) g h k = (h.0, h.1, h.2, leads_on Has s.next at to f g h.3 k)

pub price_on : (f g : List Step) → price_of (f ++ g) ≡ price_of f + price_of g
price_on [] g = omega arith
price_on (s ∷ f) g = let h = price_on f g in omega arith

pub word_on : (f g : List Step) → word_of (f ++ g) ≡ word_of f ++ word_of g
word_on [] g = refl
word_on (s ∷ f) g = ap (λ z. s.word ++ z) (word_on f g) ∙ sym (append_assoc s.word (word_of f) (word_of g))

-- steps of a node of which the one's word and what follows is the other's and what follows are the same
pub same_step : (Has : ℕ → Step → Type 0) (nodes : ℕ) (level : ℕ → ℕ) → StepLaws Has nodes level → (n : ℕ) (s t : Step) (x y : List ℕ)
    → Has n s → Has n t → s.word ++ x ≡ t.word ++ y → s ≡ t
same_step Has nodes level laws n s t x y h k e = elim (fronts s.word t.word x y e) [
  | inl p ↦ laws.apart n s t h k p
  | inr p ↦ sym (laws.apart n t s k h p)
]

-- What is left of a run after a path and a step that its word begins with.
pub record Through (Has : ℕ → Step → Type 0) (path : List Step) (s : Step) (run : List Step) : Type 0 where
  pub rest : List Step
  pub is : run ≡ path ++ (s ∷ rest)
  pub leads : Leads Has s.next rest None

pub through : (Has : ℕ → Step → Type 0) (nodes : ℕ) (level : ℕ → ℕ) → StepLaws Has nodes level → (from : Option ℕ) (n : ℕ) (path : List Step) (s : Step)
    (run : List Step) (x : List ℕ) → Leads Has from path (Some n) → Has n s → Leads Has from run None
    → word_of run ≡ (word_of path ++ s.word) ++ x → Through Has path s run
through Has nodes level laws from n [] s [] x h k l e = absurd (none_some n (sym l ∙ h))
through Has nodes level laws from n [] s (u ∷ run) x h k l e =
    let q = some_same l.0 n (sym l.1 ∙ h) in
    let same = same_step Has nodes level laws n u s (word_of run) x (subst (λ z. Has z u) q l.2) k e in
    record { rest = run; is = ap (λ z. z ∷ run) same; leads = subst (λ z. Leads Has z run None) (ap (λ z. z.next) same) l.3 }
through Has nodes level laws from n (g ∷ path) s [] x h k l e = absurd (none_some h.0 (sym l ∙ h.1))
through Has nodes level laws from n (g ∷ path) s (u ∷ run) x h k l e =
    let q = some_same l.0 h.0 (sym l.1 ∙ h.1) in
    let w : u.word ++ word_of run ≡ g.word ++ ((word_of path ++ s.word) ++ x) =
    e ∙ append_assoc (g.word ++ word_of path) s.word x ∙ append_assoc g.word (word_of path) (s.word ++ x) ∙ ap (λ z. g.word ++ z) (sym (append_assoc (word_of path) s.word x)) in
    let same = same_step Has nodes level laws h.0 u g (word_of run) ((word_of path ++ s.word) ++ x) (subst (λ z. Has z u) q l.2) h.2 w in
    let w2 : g.word ++ word_of run ≡ g.word ++ ((word_of path ++ s.word) ++ x) = ap (λ z. z.word ++ word_of run) (sym same) ∙ w in
    let r = through Has nodes level laws g.next n path s run x h.3 k (subst (λ z. Leads Has z run None) (ap (λ z. z.next) same) l.3) (cancel g.word (word_of run) ((word_of path ++ s.word) ++ x) w2) in
    record { rest = r.rest; is = ap (λ z. z ∷ run) same ∙ ap (λ z. g ∷ z) r.is; leads = r.leads }

-- no run costs less than the total of its first step
pub total_least : (Has : ℕ → Step → Type 0) (nodes : ℕ) (level : ℕ → ℕ) → StepLaws Has nodes level → (n : ℕ) (s : Step) (rest : List Step)
    → Has n s → Leads Has s.next rest None → s.total ≤ price_of (s ∷ rest)
total_least Has nodes level laws n s [] h l = let e = laws.last n s h l in omega arith
total_least Has nodes level laws n s (t ∷ rest) h l =
    let k = total_least Has nodes level laws l.0 t rest l.2 l.3 in
    let b = laws.bound n l.0 s t h l.1 l.2 in
    omega (arith, k, b)

-- a step and what may follow it, at its total
pub record Completed (Has : ℕ → Step → Type 0) (s : Step) : Type 0 where
  pub rest : List Step
  pub leads : Leads Has s.next rest None
  pub price : price_of (s ∷ rest) ≡ s.total

pub completed : (Has : ℕ → Step → Type 0) (nodes : ℕ) (level : ℕ → ℕ) → StepLaws Has nodes level → (fuel n : ℕ) (s : Step)
    → level n < fuel → Has n s → Completed Has s
completed Has nodes level laws zero n s lt h = absurd (omega arith)
completed Has nodes level laws (suc fuel) n s lt h = by_next (λ m t k. completed Has nodes level laws fuel m t k) s.next refl
  where
    by_next : ((m : ℕ) (t : Step) → level m < fuel → Has m t → Completed Has t) → (o : Option ℕ) → s.next ≡ o → Completed Has s
    by_next below None e = record { rest = []; leads = e; price = omega (arith, laws.last n s h e) }
    by_next below (Some m) e =
        let t = laws.met n m s h e in
        let d = laws.down n m s h e in
        let c = below m t.0 (omega (arith, d)) t.1 in
        record { rest = t.0 ∷ c.rest; leads = (m, e, t.1, c.leads); price = omega (arith, c.price, t.2) }

-- a step costs no more than its total
pub price_within : (Has : ℕ → Step → Type 0) (nodes : ℕ) (level : ℕ → ℕ) → StepLaws Has nodes level → (n : ℕ) (s : Step) → Has n s → s.price ≤ s.total
price_within Has nodes level laws n s h = let c = completed Has nodes level laws (suc (level n)) n s (omega arith) h in omega (arith, c.price)
