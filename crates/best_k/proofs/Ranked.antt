-- The ranked list of a node is ascending, and has exactly what the node derives.
use Rattle.std.proofs.Common.{◌≡◌, ℕ, zero, suc, ◌<◌, ◌⊎◌, List, [], ◌∷◌, sym, refl, ap, subst, inl, inr, arith, ◌+◌, Bool, true, false, ◌++◌, Some, None, ◌∙◌, cond, map, Decides}
use Rattle.std.proofs.lemmas.Bool.{cases_order}
use Rattle.std.proofs.lemmas.Bool.Decides.{Decides-or, Decides-and, Decides-ltb, Decides-eqb}
use Rattle.fare_law.specs.Lists.{IsIn, EachPair, Less}
use Rattle.best_k.specs.declared.lattice.Choice.{Choice}
use Rattle.best_k.specs.declared.lattice.Choice.TheVariants.{Leaf, Pair}
use Rattle.best_k.specs.declared.lattice.Derivation.{Derivation}
use Rattle.best_k.specs.Derivations.{Shape, DerivesBy, by_leaf, by_first, by_pair, Derives, Under, LatticeLaws}
use Rattle.best_k.specs.Ranked.{join, joins, of_choice, of_choices, of_node, is_less, is_under, put, in_order, ranked}
use Rattle.best_k.proofs.Places.{in_left}
use Rattle.best_k.proofs.Orders.{under_total}
use Rattle.best_k.proofs.Ranks.{rest_ascending, head_under}

less_tells : (v w : List ℕ) → Decides (is_less v w) (Less v w)
less_tells [] [] = (λ h. absurd (cc), λ h. absurd h)
less_tells [] (y ∷ w) = (λ h. tt, λ h. refl)
less_tells (x ∷ v) [] = (λ h. absurd (cc), λ h. absurd h)
less_tells (x ∷ v) (y ∷ w) = Decides-or _ _ (Decides-ltb x y) (Decides-and _ _ (Decides-eqb x y) (less_tells v w))

under_tells : (d e : Derivation) → Decides (is_under d e) (Under d e)
under_tells d e = Decides-or _ _ (Decides-ltb d.price e.price) (Decides-and _ _ (Decides-eqb d.price e.price) (less_tells d.word e.word))

-- where neither comes before the other
neither : (d e : Derivation) → is_under d e ≡ false → is_under e d ≡ false → d ≡ e
neither d e h k = elim (under_total d e) [
  | inl u ↦ let t = (under_tells d e).1 u in absurd (cc)
  | inr o ↦ elim o [ inl s ↦ s | inr u ↦ let t = (under_tells e d).1 u in absurd (cc) ]
]

put_are : (d : Derivation) (es : List Derivation) (x : Derivation) → IsIn x (put d es) → (x ≡ d) ⊎ IsIn x es
unfolding put
put_are d [] x i = i
put_are d (e ∷ es) x i = go (is_under d e) (is_under e d) (put_are d es x) i
  where
    go : (b c : Bool) → (IsIn x (put d es) → (x ≡ d) ⊎ IsIn x es)
        → IsIn x (cond b (d ∷ e ∷ es) (cond c (e ∷ put d es) (e ∷ es))) → (x ≡ d) ⊎ IsIn x (e ∷ es)
    go true c f i = i
    go false true f (inl s) = inr (inl s)
    go false true f (inr j) = elim (f j) [ inl s ↦ inl s | inr k ↦ inr (inr k) ]
    go false false f i = inr i

put_has : (d : Derivation) (es : List Derivation) (x : Derivation) → (x ≡ d) ⊎ IsIn x es → IsIn x (put d es)
unfolding put
put_has d [] x i = i
put_has d (e ∷ es) x i = go (is_under d e) (is_under e d) (neither d e) (put_has d es x) i
  where
    go : (b c : Bool) → (b ≡ false → c ≡ false → d ≡ e) → ((x ≡ d) ⊎ IsIn x es → IsIn x (put d es))
        → (x ≡ d) ⊎ IsIn x (e ∷ es) → IsIn x (cond b (d ∷ e ∷ es) (cond c (e ∷ put d es) (e ∷ es)))
    go true c s f i = i
    go false true s f (inl k) = inr (f (inl k))
    go false true s f (inr (inl k)) = inl k
    go false true s f (inr (inr k)) = inr (f (inr k))
    go false false s f (inl k) = inl (k ∙ s refl refl)
    go false false s f (inr k) = k

cons_ascending : (x : Derivation) (xs : List Derivation) → EachPair Under xs
    → ((y : Derivation) → IsIn y xs → Under x y) → EachPair Under (x ∷ xs)
cons_ascending x [] up all = tt
cons_ascending x (y ∷ ys) up all = (all y (inl refl), up)

put_ascending : (d : Derivation) (es : List Derivation) → EachPair Under es → EachPair Under (put d es)
unfolding put
put_ascending d [] up = tt
put_ascending d (e ∷ es) up = go (is_under d e) (is_under e d) (under_tells d e).0 (under_tells e d).0 (put_ascending d es (rest_ascending e es up))
  where
    go : (b c : Bool) → (b ≡ true → Under d e) → (c ≡ true → Under e d) → EachPair Under (put d es)
        → EachPair Under (cond b (d ∷ e ∷ es) (cond c (e ∷ put d es) (e ∷ es)))
    go true c f g up' = (f refl, up)
    go false true f g up' = cons_ascending e (put d es) up' (λ y i. elim (put_are d es y i) [ inl s ↦ subst (λ z. Under e z) (sym s) (g refl) | inr j ↦ head_under e es y up j ])
    go false false f g up' = up

in_order_are : (ds : List Derivation) (x : Derivation) → IsIn x (in_order ds) → IsIn x ds
unfolding in_order
in_order_are [] x i = i
in_order_are (d ∷ ds) x i = elim (put_are d (in_order ds) x i) [ inl s ↦ inl s | inr j ↦ inr (in_order_are ds x j) ]

in_order_has : (ds : List Derivation) (x : Derivation) → IsIn x ds → IsIn x (in_order ds)
unfolding in_order
in_order_has [] x i = i
in_order_has (d ∷ ds) x (inl s) = put_has d (in_order ds) x (inl s)
in_order_has (d ∷ ds) x (inr j) = put_has d (in_order ds) x (inr (in_order_has ds x j))

in_order_ascending : (ds : List Derivation) → EachPair Under (in_order ds)
unfolding in_order
in_order_ascending [] = tt
in_order_ascending (d ∷ ds) = put_ascending d (in_order ds) (in_order_ascending ds)

in_behind : {X : Type 0} (xs ys : List X) (x : X) → IsIn x ys → IsIn x (xs ++ ys)
in_behind [] ys x i = i
in_behind (y ∷ xs) ys x i = inr (in_behind xs ys x i)

in_either : {X : Type 0} (xs ys : List X) (x : X) → IsIn x (xs ++ ys) → IsIn x xs ⊎ IsIn x ys
in_either [] ys x i = inr i
in_either (y ∷ xs) ys x (inl s) = inl (inl s)
in_either (y ∷ xs) ys x (inr i) = elim (in_either xs ys x i) [ inl j ↦ inl (inr j) | inr j ↦ inr j ]

joined_has : (d : Derivation) (es : List Derivation) (e : Derivation) → IsIn e es
    → IsIn (join d e) (map (λ x. join d x) es)
joined_has d [] e i = absurd i
joined_has d (x ∷ es) e (inl s) = inl (ap (λ z. join d z) s)
joined_has d (x ∷ es) e (inr i) = inr (joined_has d es e i)

joined_are : (d : Derivation) (es : List Derivation) (x : Derivation) → IsIn x (map (λ y. join d y) es)
    → (e : Derivation) × IsIn e es × (x ≡ join d e)
joined_are d [] x i = absurd i
joined_are d (y ∷ es) x (inl s) = (y, inl refl, s)
joined_are d (y ∷ es) x (inr i) = let r = joined_are d es x i in (r.0, inr r.1, r.2)

joins_has : (ds es : List Derivation) (d e : Derivation) → IsIn d ds → IsIn e es
    → IsIn (join d e) (joins ds es)
unfolding joins
joins_has [] es d e i j = absurd i
joins_has (x ∷ ds) es d e (inl s) j = in_left (map (λ y. join x y) es) (joins ds es) (join d e) (subst (λ z. IsIn (join z e) (map (λ y. join x y) es)) (sym s) (joined_has x es e j))
joins_has (x ∷ ds) es d e (inr i) j = in_behind (map (λ y. join x y) es) (joins ds es) (join d e) (joins_has ds es d e i j)

joins_are : (ds es : List Derivation) (x : Derivation) → IsIn x (joins ds es)
    → (d : Derivation) × (e : Derivation) × IsIn d ds × IsIn e es × (x ≡ join d e)
unfolding joins
joins_are [] es x i = absurd i
joins_are (d ∷ ds) es x i = elim (in_either (map (λ y. join d y) es) (joins ds es) x i) [
  | inl j ↦ let r = joined_are d es x j in (d, r.0, inl refl, r.1, r.2)
  | inr j ↦ let (a, e, h, k, s) = joins_are ds es x j in (a, e, inr h, k, s)
]

of_choices_has : (of : ℕ → List Derivation) (n at : ℕ) (x : Derivation) → at < n → IsIn x (of at)
    → IsIn x (of_choices of n)
unfolding of_choices
of_choices_has of zero at x h i = absurd (omega arith)
of_choices_has of (suc n) at x h i = elim (cases_order at n) [
  | inl e ↦ in_left (of n) (of_choices of n) x (subst (λ z. IsIn x (of z)) e i)
  | inr o ↦ elim o [ inl lt ↦ in_behind (of n) (of_choices of n) x (of_choices_has of n at x lt i) | inr gt ↦ absurd (omega arith) ]
]

of_choices_are : (of : ℕ → List Derivation) (n : ℕ) (x : Derivation) → IsIn x (of_choices of n)
    → (at : ℕ) × (at < n) × IsIn x (of at)
unfolding of_choices
of_choices_are of zero x i = absurd i
of_choices_are of (suc n) x i = elim (in_either (of n) (of_choices of n) x i) [
  | inl j ↦ (n, omega arith, j)
  | inr j ↦ let r = of_choices_are of n x j in (r.0, omega (arith, r.1), r.2)
]

of_choice_derives : (l : Shape) (of : ℕ → List Derivation)
    → ((node : ℕ) (d : Derivation) → IsIn d (of node) → Derives l node d) → (node at : ℕ) (d : Derivation)
    → at < l.choices node → (c : Choice) → l.choice node at ≡ c → IsIn d (of_choice of c)
    → DerivesBy l node at d.price d.word
unfolding of_choice
of_choice_derives l of f node at d k (Leaf price word) e i = elim i [ inl s ↦ subst (λ z. DerivesBy l node at z.price z.word) (sym s) (by_leaf k e) | inr n ↦ absurd n ]
of_choice_derives l of f node at d k (Pair first None) e i = let r = f first d i in by_first first r.0 k e r.1
of_choice_derives l of f node at d k (Pair first (Some rest)) e i =
    let (a, b, h, g, s) = joins_are (of first) (of rest) d i in
    let r = f first a h in
    let q = f rest b g in
    subst (λ z. DerivesBy l node at z.price z.word) (sym s) (by_pair first rest r.0 q.0 k e r.1 q.1)

of_node_derives : (l : Shape) (n node : ℕ) (d : Derivation) → IsIn d (of_node l n node) → Derives l node d
unfolding of_node
of_node_derives l zero node d i = absurd i
of_node_derives l (suc n) node d i =
    let r = of_choices_are (λ at. of_choice (of_node l n) (l.choice node at)) (l.choices node) d i in
    (r.0, of_choice_derives l (of_node l n) (of_node_derives l n) node r.0 d r.1 (l.choice node r.0) refl r.2)

derives_of_node : (l : Shape) → LatticeLaws l → (n node : ℕ) → node < n → node < l.nodes
    → (at price : ℕ) (word : List ℕ) → DerivesBy l node at price word
    → IsIn (record { price = price; word = word }) (of_node l n node)
unfolding of_node of_choice
derives_of_node l laws zero node b h at price word d = absurd (omega arith)
derives_of_node l laws (suc n) node b h at price word (by_leaf k e) =
    of_choices_has (λ z. of_choice (of_node l n) (l.choice node z)) (l.choices node) at (record { price = price; word = word }) k
    (subst (λ z. IsIn (record { price = price; word = word }) (of_choice (of_node l n) z)) (sym e) (inl refl))
derives_of_node l laws (suc n) node b h at price word (by_first first by k e d) =
    let s = laws.smaller node at first None h k e in
    of_choices_has (λ z. of_choice (of_node l n) (l.choice node z)) (l.choices node) at (record { price = price; word = word }) k
    (subst (λ z. IsIn (record { price = price; word = word }) (of_choice (of_node l n) z)) (sym e) (derives_of_node l laws n first (omega (arith, s.0)) (omega (arith, s.0)) by price word d))
derives_of_node l laws (suc n) node b h at price word (by_pair {p = p} {r = r} {v = v} {w = w} first rest by by' k e d f) =
    let s = laws.smaller node at first (Some rest) h k e in
    of_choices_has (λ z. of_choice (of_node l n) (l.choice node z)) (l.choices node) at (record { price = p + r; word = v ++ w }) k
    (subst (λ z. IsIn (record { price = p + r; word = v ++ w }) (of_choice (of_node l n) z)) (sym e)
    (joins_has (of_node l n first) (of_node l n rest) (record { price = p; word = v }) (record { price = r; word = w }) (derives_of_node l laws n first (omega (arith, s.0)) (omega (arith, s.0)) by p v d) (derives_of_node l laws n rest (omega (arith, s.1)) (omega (arith, s.1)) by' r w f)))

pub ranked_ascending : (l : Shape) (node : ℕ) → EachPair Under (ranked l node)
unfolding ranked
ranked_ascending l node = in_order_ascending (of_node l (suc node) node)

pub ranked_are : (l : Shape) (node : ℕ) (d : Derivation) → IsIn d (ranked l node) → Derives l node d
unfolding ranked
ranked_are l node d i = of_node_derives l (suc node) node d (in_order_are (of_node l (suc node) node) d i)

pub ranked_has : (l : Shape) → LatticeLaws l → (node : ℕ) (d : Derivation) → node < l.nodes → Derives l node d
    → IsIn d (ranked l node)
unfolding ranked
ranked_has l laws node d h (at, k) = in_order_has (of_node l (suc node) node) d (derives_of_node l laws (suc node) node (omega arith) h at d.price d.word k)
