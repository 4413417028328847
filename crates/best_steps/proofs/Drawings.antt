-- How a run is drawn, branch by branch.
use Rattle.std.proofs.Common.{◌≡◌, ℕ, ◌≤◌, ◌+◌, ◌⊎◌, List, [], ◌∷◌, ◌++◌, length, Some, None, sym, refl, ap, subst, inl, inr, arith, ◌∙◌, append_assoc, append-nil, length-append}
use Rattle.std.proofs.lemmas.Bool.{cases_order}
use Rattle.std.specs.List.Sorted.{IsPermutation}
use Rattle.fare_law.specs.Lists.{IsIn, IsPrefix, Each, EachPair}
use Rattle.fare_law.specs.Lists.{Less}
use Rattle.best_steps.specs.declared.steps.Step.{Step}
use Rattle.best_k.specs.declared.lattice.Derivation.{Derivation}
use Rattle.best_k.specs.Derivations.{Under}
use Rattle.best_steps.specs.Runs.{Leads, price_of, word_of, StepLaws, Sooner, IsAt, IsRun, LeastRuns}
use Rattle.best_steps.specs.Waiting.{Open, Stands, StandsIn, IsOpen, Parted, Takes, Ahead, NoLater, Beats, Drawing, IsNext, Searching, key_price, key_word}
use Rattle.best_k.proofs.Orders.{cancel}
use Rattle.best_k.proofs.Reordered.{moves_permutation}
use Rattle.best_steps.proofs.WordOrder.{AtMost, at_most_trans, at_most_on, at_most_behind, front_or_beats, beats_behind, beats_wider, beats_longer, beats_less}
use Rattle.best_steps.proofs.Pairs.{pairwise_first, pairwise_more, pairwise_moved, pairwise_rest}
use Rattle.best_steps.proofs.Asks.{Told, sooner_never, sooner_trans, asked_has, next_asked, first_asked}
use Rattle.best_steps.proofs.Paths.{leads_on, price_on, word_on, same_step, through, total_least, none_some}

module _ (Has : ℕ → Step → Type 0) (nodes : ℕ) (level : ℕ → ℕ) (laws : StepLaws Has nodes level) where
  told : (n : ℕ) → Told (Has n)
  told n s t a b e = same_step Has nodes level laws n s t [] [] a b (ap (λ z. z ++ []) e)

  stands_has : (o : Open) (d : Derivation) → (h : Stands Has o d) → Has o.node h.first
  stands_has o d h = let e : o.node ≡ h.leads.0 = (let l = h.leads.1 in cc) in subst (λ z. Has z h.first) (sym e) h.leads.2

  -- a run that stands under a branch is a run
  pub stands_run : (root n : ℕ) (o : Open) (d : Derivation) → IsOpen Has root n o → Stands Has o d → IsRun Has root d
  stands_run root n o d v h = (
    v.path ++ (h.first ∷ h.more),
    leads_on Has (Some root) (Some o.node) None v.path (h.first ∷ h.more) v.leads h.leads,
    h.price ∙ ap (λ z. z + price_of (h.first ∷ h.more)) v.cost ∙ sym (price_on v.path (h.first ∷ h.more)),
    h.word ∙ ap (λ z. z ++ word_of (h.first ∷ h.more)) v.front ∙ sym (word_on v.path (h.first ∷ h.more)),
  )

  -- a run whose word begins with a branch's word stands under it
  stands_through : (root n : ℕ) (o : Open) (d : Derivation) → IsOpen Has root n o → IsRun Has root d → IsPrefix (key_word o) d.word → Stands Has o d
  stands_through root n o d v r p =
      let h = asked_has (Has o.node) o.place o.step v.there in
      let e : word_of r.0 ≡ (word_of v.path ++ o.step.word) ++ p.0 = sym r.3 ∙ p.1 ∙ ap (λ z. (z ++ o.step.word) ++ p.0) v.front in
      let t = through Has nodes level laws (Some root) o.node v.path o.step r.0 p.0 v.leads h r.1 e in
      record {
        first = o.step;
        more = t.rest;
        leads = (o.node, refl, h, t.leads);
        late = inl refl;
        price = r.2 ∙ ap price_of t.is ∙ price_on v.path (o.step ∷ t.rest) ∙ ap (λ z. z + price_of (o.step ∷ t.rest)) (sym v.cost);
        word = r.3 ∙ ap word_of t.is ∙ word_on v.path (o.step ∷ t.rest) ∙ ap (λ z. z ++ word_of (o.step ∷ t.rest)) (sym v.front);
      }

  -- what stands under a branch comes no sooner than the branch
  stands_late : (o : Open) (d : Derivation) → Stands Has o d → (key_price o ≤ d.price) × (key_price o ≡ d.price → AtMost (key_word o) d.word)
  stands_late o d h =
      let l = h.leads in
      let b = total_least Has nodes level laws l.0 h.first h.more l.2 l.3 in
      let p = h.price in
      elim h.late [
        | inl e ↦ let t = ap (λ z. z.total) e in (omega arith, λ q. word_from o d h (inl (ap (λ z. z.word) (sym e))))
        | inr s ↦ elim s [
          | inl lt ↦ (omega arith, λ q. absurd (omega arith))
          | inr less ↦ let t = less.0 in (omega arith, λ q. word_from o d h (inr less.1))
        ]
      ]
    where
      word_from : (o : Open) (d : Derivation) (h : Stands Has o d) → AtMost o.step.word h.first.word → AtMost (key_word o) d.word
      word_from o d h a = subst (λ z. AtMost (key_word o) z) (sym h.word)
          (at_most_behind o.front o.step.word (h.first.word ++ word_of h.more) (at_most_trans o.step.word h.first.word (h.first.word ++ word_of h.more) a (at_most_on h.first.word (word_of h.more))))

  -- the branch that comes first is ahead of all that stands under another
  ahead_first : (root n m : ℕ) (o e : Open) (d : Derivation) → IsOpen Has root n o → IsOpen Has root m e → NoLater o e → Stands Has e d
      → (Stands Has o d → ⊥) → Ahead o d
  ahead_first root n m o e d v w order h out =
      let late = stands_late e d h in
      let p = late.0 in
      elim order [
        | inl lt ↦ inl (omega arith)
        | inr same ↦ elim (cases_order (key_price o) d.price) [
          | inl q ↦
              let s = same.0 in
              inr (
                q,
                elim (front_or_beats (key_word o) d.word (at_most_trans (key_word o) (key_word e) d.word same.1 (late.1 (sym s ∙ q)))) [
                  | inl f ↦ absurd (out (stands_through root n o d v (stands_run root m e d w h) f))
                  | inr b ↦ b
                ],
              )
          | inr c ↦ let s = same.0 in elim c [ inl lt ↦ inl lt | inr gt ↦ absurd (omega arith) ]
        ]
      ]

  later_sooner : (s t u : Step) → Sooner s t → ((u ≡ t) ⊎ Sooner t u) → Sooner s u
  later_sooner s t u h (inl e) = subst (λ z. Sooner s z) (sym e) h
  later_sooner s t u h (inr k) = sooner_trans s t u h k

  -- a branch is ahead of what takes a later step of its node
  ahead_later : (o : Open) (d : Derivation) → Has o.node o.step → (h : Stands Has o d) → Sooner o.step h.first → Ahead o d
  ahead_later o d here h s =
      let l = h.leads in
      let b = total_least Has nodes level laws l.0 h.first h.more l.2 l.3 in
      let p = h.price in
      elim s [
        | inl lt ↦ inl (omega arith)
        | inr less ↦ let t = less.0 in elim (cases_order (key_price o) d.price) [
          | inl q ↦ inr (
            q,
            elim (front_or_beats o.step.word h.first.word (inr less.1)) [
              | inl f ↦ absurd (sooner_never h.first (subst (λ z. Sooner z h.first) (laws.apart o.node o.step h.first here (stands_has o d h) f) (inr less)))
              | inr x ↦ subst (λ z. Beats (key_word o) z) (sym h.word) (beats_behind o.front o.step.word (h.first.word ++ word_of h.more) (beats_wider o.step.word h.first.word (word_of h.more) x))
            ],
          )
          | inr c ↦ elim c [ inl lt ↦ inl lt | inr gt ↦ absurd (omega arith) ]
        ]
      ]

  -- two ways in which a run stands under a branch begin with the same step
  stands_one : (o : Open) (d : Derivation) (h k : Stands Has o d) → h.first ≡ k.first
  stands_one o d h k =
      same_step Has nodes level laws o.node h.first k.first (word_of h.more) (word_of k.more) (stands_has o d h) (stands_has o d k)
      (cancel o.front (h.first.word ++ word_of h.more) (k.first.word ++ word_of k.more) (sym h.word ∙ k.word))

  pub open_more : (root m n : ℕ) (o : Open) → m ≤ n → IsOpen Has root m o → IsOpen Has root n o
  open_more root m n o le v = record { path = v.path; leads = v.leads; cost = v.cost; front = v.front; there = v.there; few = omega (arith, v.few) }

  -- the branch of the next step of the same node
  abbrev pub beside : Open → Step → Open
  beside o t = record { cost = o.cost; front = o.front; node = o.node; place = o.place + 1; step = t }

  -- the branch of the first step of the next node
  abbrev pub below : Open → ℕ → Step → Open
  below o m s = record { cost = o.cost + o.step.price; front = o.front ++ o.step.word; node = m; place = 0; step = s }

  widen : (o : Open) (t : Step) (d : Derivation) → Sooner o.step t → Stands Has (beside o t) d → Stands Has o d
  widen o t d s h = record { first = h.first; more = h.more; leads = h.leads; late = inr (later_sooner o.step t h.first s h.late); price = h.price; word = h.word }

  -- the other steps of the node wait
  pub waits_more : (root n : ℕ) (All : Derivation → Type 0) (o : Open) (t : Step) (ws ws' : List Open) → Drawing Has root n All (Stands Has o) o ws
      → IsAt (Has o.node) (o.place + 1) (Some t) → IsPermutation (beside o t ∷ ws) ws' → Drawing Has root n All (Takes Has o) o ws'
  unfolding widen
  waits_more root n All o t ws ws' g a m =
      let b = beside o t in
      let here = asked_has (Has o.node) o.place o.step g.held.there in
      let next = next_asked (Has o.node) (told o.node) o.place o.step (Some t) g.held.there a in
      let mv = moves_permutation (b ∷ ws) ws' m in
      record {
        held = g.held;
        each = λ e i. elim (mv.back e i) [
          | inl q ↦ subst (λ z. IsOpen Has root (n + 1) z) (sym q) (record { path = g.held.path; leads = g.held.leads; cost = g.held.cost; front = g.held.front; there = a; few = omega (arith, g.held.few) })
          | inr j ↦ g.each e j
        ];
        separate = pairwise_moved (Parted Has) (b ∷ ws) ws' mv (pairwise_more (Parted Has) b ws
            (λ y i d h k. g.apart d (widen o t d next.1 h) (y, i, k))
            (λ y i d k h. g.apart d (widen o t d next.1 h) (y, i, k)) g.separate);
        apart = λ d h w. elim (mv.back w.0 w.1) [
          | inl q ↦
              let k = subst (λ z. Stands Has z d) q w.2 in
              let s = later_sooner o.step t k.first next.1 k.late in
              sooner_never o.step (subst (λ z. Sooner o.step z) (stands_one o d (widen o t d next.1 k) h.0 ∙ h.1) s)
          | inr j ↦ g.apart d h.0 (w.0, j, w.2)
        ];
        covers = λ d x. elim (g.covers d x) [
          | inl h ↦ elim h.late [
            | inl e ↦ inl (h, e)
            | inr s ↦ inr (b, mv.to b (inl refl), record { first = h.first; more = h.more; leads = h.leads; late = next.2 h.first (stands_has o d h) s; price = h.price; word = h.word })
          ]
          | inr w ↦ inr (w.0, mv.to w.0 (inr w.1), w.2)
        ];
        within = λ d x. elim x [
          | inl h ↦ g.within d (inl h.0)
          | inr w ↦ elim (mv.back w.0 w.1) [
            | inl q ↦ g.within d (inl (widen o t d next.1 (subst (λ z. Stands Has z d) q w.2)))
            | inr j ↦ g.within d (inr (w.0, j, w.2))
          ]
        ];
        ahead = λ d w. elim (mv.back w.0 w.1) [
          | inl q ↦
              let k = subst (λ z. Stands Has z d) q w.2 in
              ahead_later o d here (widen o t d next.1 k) (later_sooner o.step t k.first next.1 k.late)
          | inr j ↦ g.ahead d (w.0, j, w.2)
        ];
      }

  -- no other step of the node is left
  pub waits_none : (root n : ℕ) (All : Derivation → Type 0) (o : Open) (ws : List Open) → Drawing Has root n All (Stands Has o) o ws
      → IsAt (Has o.node) (o.place + 1) None → Drawing Has root n All (Takes Has o) o ws
  waits_none root n All o ws g a =
      let next = next_asked (Has o.node) (told o.node) o.place o.step None g.held.there a in
      record {
        held = g.held;
        each = g.each;
        separate = g.separate;
        apart = λ d h w. g.apart d h.0 w;
        covers = λ d x. elim (g.covers d x) [
          | inl h ↦ elim h.late [ inl e ↦ inl (h, e) | inr s ↦ absurd (next h.first (stands_has o d h) s) ]
          | inr w ↦ inr w
        ];
        within = λ d x. elim x [ inl h ↦ g.within d (inl h.0) | inr w ↦ g.within d (inr w) ];
        ahead = g.ahead;
      }

  takes_down : (o : Open) (m : ℕ) (s : Step) (d : Derivation) → o.step.next ≡ Some m → ((u : Step) → Has m u → (u ≡ s) ⊎ Sooner s u) → Takes Has o d
      → Stands Has (below o m s) d
  takes_down o m s d e first h =
      let q = h.1 in
      let w : d.word ≡ o.front ++ (o.step.word ++ word_of h.0.more) = h.0.word ∙ ap (λ z. o.front ++ (z.word ++ word_of h.0.more)) q in
      let p : d.price ≡ o.cost + (o.step.price + price_of h.0.more) = h.0.price ∙ ap (λ z. o.cost + (z.price + price_of h.0.more)) q in
      rest h.0.more (subst (λ z. Leads Has z h.0.more None) (ap (λ z. z.next) q ∙ e) h.0.leads.3) p w
    where
      rest : (more : List Step) → Leads Has (Some m) more None → d.price ≡ o.cost + (o.step.price + price_of more)
          → d.word ≡ o.front ++ (o.step.word ++ word_of more) → Stands Has (below o m s) d
      rest [] l p w = absurd (none_some m (sym l))
      rest (u ∷ more) l p w = record {
        first = u;
        more = more;
        leads = l;
        late = first u (let k : m ≡ l.0 = (let x = l.1 in cc) in subst (λ z. Has z u) (sym k) l.2);
        price = omega arith;
        word = w ∙ sym (append_assoc o.front o.step.word (word_of (u ∷ more)));
      }

  takes_up : (o : Open) (m : ℕ) (s : Step) (d : Derivation) → Has o.node o.step → o.step.next ≡ Some m → Stands Has (below o m s) d → Takes Has o d
  takes_up o m s d here e h = (
    record {
      first = o.step;
      more = h.first ∷ h.more;
      leads = (o.node, refl, here, subst (λ z. Leads Has z (h.first ∷ h.more) None) (sym e) h.leads);
      late = inl refl;
      price = (let p = h.price in omega arith);
      word = h.word ∙ append_assoc o.front o.step.word (word_of (h.first ∷ h.more));
    },
    refl,
  )

  -- the least total of what follows
  total_down : (o : Open) (m : ℕ) (s : Step) → Has o.node o.step → o.step.next ≡ Some m → Has m s
      → ((u : Step) → Has m u → (u ≡ s) ⊎ Sooner s u) → o.step.total ≡ o.step.price + s.total
  total_down o m s here e h first =
      let t = laws.met o.node m o.step here e in
      let b = laws.bound o.node m o.step s here e h in
      let q = t.2 in
      elim (first t.0 t.1) [
        | inl same ↦ let x = ap (λ z. z.total) same in omega arith
        | inr k ↦ elim k [ inl lt ↦ omega arith | inr less ↦ let x = less.0 in omega arith ]
      ]

  -- the step is taken, and the next node's first step is in hand
  pub goes_down : (root n : ℕ) (All : Derivation → Type 0) (o : Open) (m : ℕ) (s : Step) (ws : List Open) → Drawing Has root n All (Takes Has o) o ws
      → o.step.next ≡ Some m → IsAt (Has m) 0 (Some s) → Drawing Has root n All (Stands Has (below o m s)) (below o m s) ws
  goes_down root n All o m s ws g e a =
      let here = asked_has (Has o.node) o.place o.step g.held.there in
      let first = first_asked (Has m) (told m) (Some s) a in
      let total = total_down o m s here e first.0 first.1 in
      record {
        held = record {
          path = g.held.path ++ (o.step ∷ []);
          leads = leads_on Has (Some root) (Some o.node) (Some m) g.held.path (o.step ∷ []) g.held.leads (o.node, refl, here, e);
          cost = omega (arith, price_on g.held.path (o.step ∷ []), g.held.cost);
          front = ap (λ z. z ++ o.step.word) g.held.front ∙ ap (λ z. word_of g.held.path ++ z) (sym (append-nil o.step.word)) ∙ sym (word_on g.held.path (o.step ∷ []));
          there = a;
          few = omega arith;
        };
        each = g.each;
        separate = g.separate;
        apart = λ d h w. g.apart d (takes_up o m s d here e h) w;
        covers = λ d x. elim (g.covers d x) [ inl h ↦ inl (takes_down o m s d e first.1 h) | inr w ↦ inr w ];
        within = λ d x. elim x [ inl h ↦ g.within d (inl (takes_up o m s d here e h)) | inr w ↦ g.within d (inr w) ];
        ahead = λ d w. elim (g.ahead d w) [
          | inl lt ↦ inl (omega arith)
          | inr b ↦ let q = b.0 in inr (omega arith, beats_longer (key_word o) d.word s.word b.1)
        ];
      }

  -- the node that a step leads to has a step
  pub never_none : (o : Open) (m : ℕ) → Has o.node o.step → o.step.next ≡ Some m → IsAt (Has m) 0 None → ⊥
  never_none o m here e a = let t = laws.met o.node m o.step here e in first_asked (Has m) (told m) None a t.0 t.1

  -- the step to the end is taken
  pub ends_here : (root n : ℕ) (All : Derivation → Type 0) (o : Open) (ws : List Open) (r : Derivation) → Drawing Has root n All (Takes Has o) o ws
      → o.step.next ≡ None → r.price ≡ o.cost + o.step.price → r.word ≡ o.front ++ o.step.word → IsNext Has root n All r ws
  ends_here root n All o ws r g e p w =
      let here = asked_has (Has o.node) o.place o.step g.held.there in
      let total = laws.last o.node o.step here e in
      let word : r.word ≡ o.front ++ word_of (o.step ∷ []) = w ∙ ap (λ z. o.front ++ z) (sym (append-nil o.step.word)) in
      let own : Stands Has o r = record { first = o.step; more = []; leads = (o.node, refl, here, e); late = inl refl; price = omega arith; word = word } in
      record {
        each = g.each;
        separate = g.separate;
        run = stands_run root n o r g.held own;
        among = g.within r (inl (own, refl));
        covers = λ d x. elim (g.covers d x) [ inl h ↦ inl (only d h) | inr k ↦ inr k ];
        within = λ d k. g.within d (inr k);
        ahead = λ d k. elim (g.ahead d k) [
          | inl lt ↦ inl (omega arith)
          | inr b ↦ let q = b.0 in inr (omega arith, subst (λ z. Less z d.word) (sym w) (beats_less (key_word o) d.word b.1))
        ];
      }
    where
      alone : (d : Derivation) (more : List Step) → Leads Has None more None → d.price ≡ o.cost + (o.step.price + price_of more)
          → d.word ≡ o.front ++ (o.step.word ++ word_of more) → d ≡ r
      alone d [] l dp dw =
          let x : d.price ≡ r.price = omega arith in
          let y : d.word ≡ r.word = dw ∙ ap (λ z. o.front ++ z) (append-nil o.step.word) ∙ sym w in
          λ i. record { price = x i; word = y i }
      alone d (u ∷ more) l dp dw = absurd (none_some l.0 l.1)

      only : (d : Derivation) → Takes Has o d → d ≡ r
      only d h =
          let q = h.1 in
          alone d h.0.more (subst (λ z. Leads Has z h.0.more None) (ap (λ z. z.next) q ∙ e) h.0.leads.3)
          (h.0.price ∙ ap (λ z. o.cost + (z.price + price_of h.0.more)) q)
          (h.0.word ∙ ap (λ z. o.front ++ (z.word ++ word_of h.0.more)) q)

  -- the first branch is taken out
  pub takes_out : (root : ℕ) (ds : List Derivation) (o : Open) (ws rest : List Open) → Searching Has root ds ws → IsPermutation ws (o ∷ rest)
      → ((e : Open) → IsIn e rest → NoLater o e) → Drawing Has root (length ds) (StandsIn Has ws) (Stands Has o) o rest
  takes_out root ds o ws rest s m first =
      let mv = moves_permutation ws (o ∷ rest) m in
      let pairs = pairwise_moved (Parted Has) ws (o ∷ rest) mv s.separate in
      let held = s.each o (mv.back o (inl refl)) in
      record {
        held = held;
        each = λ e i. open_more root (length ds) (length ds + 1) e (omega arith) (s.each e (mv.back e (inr i)));
        separate = pairwise_rest (Parted Has) o rest pairs;
        apart = λ d h w. pairwise_first (Parted Has) o rest pairs w.0 w.1 d h w.2;
        covers = λ d x. elim (mv.to x.0 x.1) [ inl q ↦ inl (subst (λ z. Stands Has z d) q x.2) | inr j ↦ inr (x.0, j, x.2) ];
        within = λ d x. elim x [ inl h ↦ (o, mv.back o (inl refl), h) | inr w ↦ (w.0, mv.back w.0 (inr w.1), w.2) ];
        ahead = λ d w. ahead_first root (length ds) (length ds) o w.0 d held (s.each w.0 (mv.back w.0 (inr w.1))) (first w.0 w.1) w.2
            (λ h. pairwise_first (Parted Has) o rest pairs w.0 w.1 d h w.2);
      }

  each_more : (P : Derivation → Type 0) (ds : List Derivation) (r : Derivation) → Each P ds → P r → Each P (ds ++ r ∷ [])
  each_more P [] r h k = (k, tt)
  each_more P (d ∷ ds) r h k = (h.0, each_more P ds r h.1 k)

  rises_more : (ds : List Derivation) (r : Derivation) → EachPair Under ds → Each (λ e. Under e r) ds → EachPair Under (ds ++ r ∷ [])
  rises_more [] r h k = tt
  rises_more (d ∷ []) r h k = (k.0, tt)
  rises_more (d ∷ e ∷ ds) r h k = (h.0, rises_more (e ∷ ds) r h.1 k.1)

  in_more : (d : Derivation) (ds : List Derivation) (r : Derivation) → IsIn d ds ⊎ (d ≡ r) → IsIn d (ds ++ r ∷ [])
  in_more d [] r (inl h) = absurd h
  in_more d [] r (inr e) = inl e
  in_more d (x ∷ ds) r (inl h) = elim h [ inl e ↦ inl e | inr i ↦ inr (in_more d ds r (inl i)) ]
  in_more d (x ∷ ds) r (inr e) = inr (in_more d ds r (inr e))

  -- one more answer
  pub found_more : (root : ℕ) (ds : List Derivation) (r : Derivation) (ws ws' : List Open) → Searching Has root ds ws
      → IsNext Has root (length ds) (StandsIn Has ws) r ws' → Searching Has root (ds ++ r ∷ []) ws'
  found_more root ds r ws ws' s x = record {
    each = λ e i. open_more root (length ds + 1) (length (ds ++ r ∷ [])) e (omega (arith, length-append ds (r ∷ []))) (x.each e i);
    separate = x.separate;
    runs = each_more (IsRun Has root) ds r s.runs x.run;
    ascending = rises_more ds r s.ascending (s.later r x.among);
    covers = λ d h. elim (s.covers d h) [
      | inl i ↦ inl (in_more d ds r (inl i))
      | inr w ↦ elim (x.covers d w) [ inl e ↦ inl (in_more d ds r (inr e)) | inr k ↦ inr k ]
    ];
    later = λ d w. each_more (λ e. Under e d) ds r (s.later d (x.within d w)) (x.ahead d w);
  }

  -- the root's first step, where it has one, begins all runs
  pub begins : (root : ℕ) (s : Step) → IsAt (Has root) 0 (Some s)
      → Searching Has root [] (record { cost = 0; front = []; node = root; place = 0; step = s } ∷ [])
  begins root s a = record {
    each = λ e i. elim i [ inl q ↦ subst (λ z. IsOpen Has root 0 z) (sym q) (record { path = []; leads = refl; cost = refl; front = refl; there = a; few = omega arith }) | inr j ↦ absurd j ];
    separate = pairwise_more (Parted Has) _ [] (λ y i. absurd i) (λ y i. absurd i) (λ i j x y h k ne. absurd h);
    runs = tt;
    ascending = tt;
    covers = λ d h. inr (_, inl refl, all d h.0 h.1 h.2 h.3);
    later = λ d w. tt;
  }
    where
      all : (d : Derivation) (steps : List Step) → Leads Has (Some root) steps None → d.price ≡ price_of steps → d.word ≡ word_of steps
          → Stands Has (record { cost = 0; front = []; node = root; place = 0; step = s }) d
      all d [] l p w = absurd (none_some root (sym l))
      all d (u ∷ more) l p w = record {
        first = u;
        more = more;
        leads = l;
        late = (first_asked (Has root) (told root) (Some s) a).1 u (let k : root ≡ l.0 = (let x = l.1 in cc) in subst (λ z. Has z u) (sym k) l.2);
        price = omega arith;
        word = w;
      }

  -- a root without a step has no run
  pub begins_none : (root : ℕ) → IsAt (Has root) 0 None → Searching Has root [] []
  begins_none root a = record {
    each = λ e i. absurd i;
    separate = λ i j x y h k ne. absurd h;
    runs = tt;
    ascending = tt;
    covers = λ d h. absurd (none d h.0 h.1);
    later = λ d w. tt;
  }
    where
      none : (d : Derivation) (steps : List Step) → Leads Has (Some root) steps None → ⊥
      none d [] l = none_some root (sym l)
      none d (u ∷ more) l = first_asked (Has root) (told root) None a u (let k : root ≡ l.0 = (let x = l.1 in cc) in subst (λ z. Has z u) (sym k) l.2)

-- enough answers, or all
pub finished : (Has : ℕ → Step → Type 0) (root k : ℕ) (ds : List Derivation) (ws : List Open) → Searching Has root ds ws → length ds ≤ k
    → (length ds ≡ k) ⊎ (ws ≡ []) → LeastRuns Has root k ds
finished Has root k ds ws s few end = record {
  ascending = s.ascending;
  each = s.runs;
  few = few;
  rest = λ x h out. elim (s.covers x h) [
    | inl i ↦ absurd (out i)
    | inr w ↦ (s.later x w, elim end [ inl e ↦ e | inr e ↦ absurd (subst (λ z. IsIn w.0 z) e w.1) ])
  ];
}
