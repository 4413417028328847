-- Where the component of a finding stands.
use Rattle.std.proofs.Common.{◌≡◌, ◌<◌, ◌≤◌, ◌+◌, ◌⊎◌, ℕ, suc, List, [], ◌∷◌, ◌++◌, map, length, take, drop, get_or, refl, sym, ap, subst, ◌∙◌, inl, inr, arith, drop-cons, add-one, take-append-drop, length-take}
use Rattle.fare_law.specs.declared.requests.Request.{Request}
use Rattle.fare_law.specs.declared.tickets.Component.{Component}
use Rattle.fare_law.specs.declared.tickets.Ticket.{Ticket}
use Rattle.fare_law.specs.Book.{Book}
use Rattle.fare_law.specs.Lists.{EachPair, IsIn}
use Rattle.ticket_whole.specs.declared.demand.Demand.{Demand}
use Rattle.ticket_whole.specs.Breaches.{number_of}
use Rattle.fare_verdict.specs.declared.finding.Finding.{Finding}
use Rattle.fare_verdict.specs.Findings.{AreAll, Before, Fails, IsOf, OnComponent, OnWhole}
use Rattle.fare_verdict.specs.Told.{AreCategories, Extends, IsAt, IsOnWhole, with_category}
use Rattle.fare_verdict.proofs.Growth.{all_like, extends_like, extends_more}

pub splits_at : {A : Type 0} (xs : List A) (i : ℕ) (d : A) → i < length xs → xs ≡ take i xs ++ get_or xs i d ∷ drop (i + 1) xs
splits_at xs i d l =
    let rest : drop i xs ≡ get_or xs i d ∷ drop (i + 1) xs = rw (drop-cons xs i d l, add-one) refl in
    sym (take-append-drop i xs) ∙ ap (λ ys. take i xs ++ ys) rest

-- what stands before and at a place
pub one_split : {A : Type 0} (xs before : List A) (x : A) (after : List A) (i : ℕ) (d : A) → xs ≡ before ++ x ∷ after → i ≡ length before → (take i xs ≡ before) × (get_or xs i d ≡ x)
one_split xs before x after i d e l = subst (λ ys. (take i ys ≡ before) × (get_or ys i d ≡ x)) (sym e) (subst (λ j. (take j (before ++ x ∷ after) ≡ before) × (get_or (before ++ x ∷ after) j d ≡ x)) (sym l) (at before x after d))
  where
    at : {A : Type 0} (before : List A) (x : A) (after : List A) (d : A) → (take (length before) (before ++ x ∷ after) ≡ before) × (get_or (before ++ x ∷ after) (length before) d ≡ x)
    at [] x after d = (refl, refl)
    at (y ∷ before) x after d = (ap (λ ys. y ∷ ys) (at before x after d).0, (at before x after d).1)

pub split_long : {A : Type 0} (xs before : List A) (x : A) (after : List A) → xs ≡ before ++ x ∷ after → suc (length before) ≤ length xs
split_long xs before x after e = subst (λ ys. suc (length before) ≤ length ys) (sym e) (long before x after)
  where
    long : {A : Type 0} (before : List A) (x : A) (after : List A) → suc (length before) ≤ length (before ++ x ∷ after)
    long [] x after = omega arith
    long (y ∷ before) x after = let h = long before x after in omega (arith, h)

in_map : (g : Finding) (ks : List ℕ) (f : Finding) → IsIn f (map (with_category g) ks) → (k : ℕ) × IsIn k ks × (f ≡ with_category g k)
in_map g [] f i = absurd i
in_map g (k ∷ ks) f i = elim i [ inl e ↦ (k, inl refl, e) | inr j ↦ let r = in_map g ks f j in (r.0, inr r.1, r.2) ]

map_in : (g : Finding) (ks : List ℕ) (k : ℕ) → IsIn k ks → IsIn (with_category g k) (map (with_category g) ks)
map_in g [] k i = absurd i
map_in g (l ∷ ks) k i = elim i [ inl e ↦ inl (ap (with_category g) e) | inr j ↦ inr (map_in g ks k j) ]

map_order : (g : Finding) (ks : List ℕ) → EachPair (λ k l. k < l) ks → EachPair Before (map (with_category g) ks)
map_order g [] h = tt
map_order g (k ∷ []) h = tt
map_order g (k ∷ l ∷ ks) h = (inr (refl, inr (refl, h.0)), map_order g (l ∷ ks) h.1)

-- the finding g, with any category by which it holds
abbrev IsLike : Finding → (ℕ → Type 0) → Finding → Type 0
IsLike g By f = (f.rule ≡ g.rule) × (f.component ≡ g.component) × (f.unit ≡ g.unit) × By f.category

like_of : (g : Finding) (By : ℕ → Type 0) (f : Finding) (k : ℕ) → By k → f ≡ with_category g k → IsLike g By f
like_of g By f k h e = (ap (λ x. x.rule) e, ap (λ x. x.component) e, ap (λ x. x.unit) e, subst By (sym (ap (λ x. x.category) e)) h)

same_fields : (g f : Finding) → f.rule ≡ g.rule → f.component ≡ g.component → f.unit ≡ g.unit → with_category g f.category ≡ f
same_fields g f r c u =
    let e : ◌≡◌ {A = Finding} (record { rule = g.rule; component = g.component; unit = g.unit; category = f.category }) (record { rule = f.rule; component = f.component; unit = f.unit; category = f.category }) = cc in
    e

by_categories : (By : ℕ → Type 0) (ks : List ℕ) (g : Finding) → AreCategories By ks → AreAll (IsLike g By) (map (with_category g) ks)
by_categories By ks g h = record {
  order = map_order g ks h.order;
  each = λ f. (
    λ i. let r = in_map g ks f i in like_of g By f r.0 ((h.each r.0).0 r.1) r.2,
    λ l. subst (λ x. IsIn x (map (with_category g) ks)) (same_fields g f l.0 l.1 l.2) (map_in g ks f.category ((h.each f.category).1 l.3)),
  );
}

module _ (b : Book) (q : Request) (t : Ticket) (demand : Demand) where
  at_of : (g : Finding) (at : ℕ) (d : Component) (f : Finding) → at < length t.components → g.rule ≡ number_of demand → g.component ≡ suc at → g.unit ≡ (get_or t.components at d).unit
      → IsLike g (λ k. Fails b q t demand k (take at t.components) (get_or t.components at d)) f → IsAt b q t demand at f
  at_of g at d f l r c u h = (
    h.0 ∙ r,
    h.1 ∙ c,
    record {
      before = take at t.components;
      component = get_or t.components at d;
      after = drop (at + 1) t.components;
      split = splits_at t.components at d l;
      at = h.1 ∙ c ∙ ap suc (let e = length-take at t.components in omega (arith, e, l));
      unit = h.2 ∙ u;
      fails = h.3;
    },
  )

  of_at : (g : Finding) (at : ℕ) (d : Component) (f : Finding) → g.rule ≡ number_of demand → g.component ≡ suc at → g.unit ≡ (get_or t.components at d).unit
      → IsAt b q t demand at f → IsLike g (λ k. Fails b q t demand k (take at t.components) (get_or t.components at d)) f
  of_at g at d f r c u h =
      let o = h.2 in
      let here : at ≡ length o.before = let x = o.at in let y = h.1 in omega (arith, x, y) in
      let s = one_split t.components o.before o.component o.after at d o.split here in (
        h.0 ∙ sym r,
        h.1 ∙ sym c,
        o.unit ∙ sym (ap (λ x. x.unit) s.1) ∙ sym u,
        subst (λ x. Fails b q t demand f.category (take at t.components) x) (sym s.1) (subst (λ xs. Fails b q t demand f.category xs o.component) (sym s.0) o.fails),
      )

  -- the findings at one component were added
  pub added_at : (g : Finding) (at : ℕ) (d : Component) (ks : List ℕ) (old new : List Finding) → at < length t.components → g.rule ≡ number_of demand → g.component ≡ suc at → g.unit ≡ (get_or t.components at d).unit
      → AreCategories (λ k. Fails b q t demand k (take at t.components) (get_or t.components at d)) ks → new ≡ old ++ map (with_category g) ks → Extends (IsAt b q t demand at) old new
  added_at g at d ks old new l r c u h e = record {
    more = map (with_category g) ks;
    whole = e;
    all = all_like (IsLike g (λ k. Fails b q t demand k (take at t.components) (get_or t.components at d))) (IsAt b q t demand at) (map (with_category g) ks)
        (λ f p. at_of g at d f l r c u p) (λ f p. of_at g at d f r c u p) (by_categories _ ks g h);
  }

  -- a finding of this demand, on the whole ticket or at one of the first components
  abbrev pub IsReached : ℕ → Finding → Type 0
  IsReached at f = (f.rule ≡ number_of demand) × (OnWhole b q t demand f ⊎ ((f.component ≤ at) × OnComponent b q t demand f))

  pub reached_none : (old new : List Finding) → Extends (IsOnWhole b q t demand) old new → Extends (IsReached 0) old new
  reached_none old new h = extends_like (IsOnWhole b q t demand) (IsReached 0) old new (λ f p. (p.0, inl p.1))
      (λ f p. elim p.1 [ inl w ↦ (p.0, w) | inr o ↦ let x = o.0 in let y = o.1.at in absurd (omega (arith, x, y)) ]) h

  reached_below : (at : ℕ) (f g : Finding) → IsReached at f → IsAt b q t demand at g → Before f g
  reached_below at f g p s =
      let low : f.component ≤ at = elim p.1 [ inl w ↦ let x = w.component in omega (arith, x) | inr o ↦ o.0 ] in
      inr (p.0 ∙ sym s.0, inl (let y = s.1 in omega (arith, low, y)))

  reached_to : (at : ℕ) (f : Finding) → IsReached at f ⊎ IsAt b q t demand at f → IsReached (at + 1) f
  reached_to at f p = elim p [ inl r ↦ (r.0, elim r.1 [ inl w ↦ inl w | inr o ↦ inr (let x = o.0 in omega (arith, x), o.1) ]) | inr s ↦ (s.0, inr (let x = s.1 in omega (arith, x), s.2)) ]

  reached_from : (at : ℕ) (f : Finding) → IsReached (at + 1) f → IsReached at f ⊎ IsAt b q t demand at f
  reached_from at f p = elim p.1 [
    | inl w ↦ inl (p.0, inl w)
    | inr o ↦ elim (below at f.component o.0) [ inl l ↦ inl (p.0, inr (l, o.1)) | inr e ↦ inr (p.0, e, o.1) ]
  ]
    where
      below : (at n : ℕ) → n ≤ at + 1 → (n ≤ at) ⊎ (n ≡ suc at)
      below at n h = search (arith, h)

  pub reached_more : (at : ℕ) (old mid new : List Finding) → Extends (IsReached at) old mid → Extends (IsAt b q t demand at) mid new → Extends (IsReached (at + 1)) old new
  reached_more at old mid new h k = extends_more (IsReached at) (IsAt b q t demand at) (IsReached (at + 1)) old mid new h k (reached_below at) (reached_to at) (reached_from at)

  pub reached_all : (at : ℕ) (old new : List Finding) → length t.components ≤ at → Extends (IsReached at) old new → Extends (IsOf b q t demand) old new
  reached_all at old new l h = extends_like (IsReached at) (IsOf b q t demand) old new
      (λ f p. record { rule = p.0; fails = elim p.1 [ inl w ↦ inl w | inr o ↦ inr o.1 ] })
      (λ f p. (p.rule, elim p.fails [ inl w ↦ inl w | inr o ↦ inr (let x = split_long t.components o.before o.component o.after o.split in let y = o.at in omega (arith, x, y, l), o) ])) h
