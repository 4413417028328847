-- The tails of one length that begin in a range stand together.
use Rattle.std.proofs.Common.{◌≡◌, ◌⊎◌, ℕ, zero, suc, ◌+◌, ◌-◌, ◌≤◌, ◌<◌, true, false, ◌&&◌, ◌||◌, nat_eq, nat_lt, List, [], ◌∷◌, ◌++◌, length, take, drop, get_or, refl, sym, ap, subst, ◌∙◌, inl, inr, arith}
use Rattle.std.specs.List.Sorted.{IsPartitionPoint, IsPartitionedBy}
use Rattle.std.proofs.lemmas.Bool.{cases_lt}
use Rattle.fare_law.specs.declared.requests.Slice.{Slice}
use Rattle.fare_law.specs.Book.{Book}
use Rattle.fare_law.specs.Lists.{EachPair, IsIn, OnFirst, Less}
use Rattle.fare_law.specs.declared.limits.TheConstants.{MOST_FLIGHTS_OF_A_COMPONENT}
use Rattle.flight_paths.specs.declared.positions.Path.{Path}
use Rattle.flight_paths.specs.declared.positions.Position.{Position}
use Rattle.flight_paths.specs.Heads.{AreRest, AreRestOf, AreSomeTails, Crossing, Enters, Follows, IsJoined, stands_before}
use Rattle.flight_paths.specs.Paths.{Precedes}
use Rattle.flight_paths.specs.Ranges.{first_of}
use Rattle.flight_paths.proofs.Apart.{different_more, first_of_all}
use Rattle.flight_paths.proofs.Joining.{joined_tail, same_middle, tail_count}
use Rattle.law_lemmas.proofs.Members.{in_either, in_left, in_list, in_right}
use Rattle.law_lemmas.proofs.Tests.{true_false}

told : (l f c n : ℕ) → (nat_lt l c || (nat_eq l c && nat_lt f n)) ≡ true → (l < c) ⊎ ((l ≡ c) × (f < n))
told l f c n h = grind arith

tells : (l f c n : ℕ) → (l < c) ⊎ ((l ≡ c) × (f < n)) → (nat_lt l c || (nat_eq l c && nat_lt f n)) ≡ true
tells l f c n h = grind arith

first_less : (ns ms : List ℕ) → length ns ≡ length ms → Less ns ms → first_of ns ≤ first_of ms
first_less [] [] e h = absurd h
first_less [] (m ∷ ms) e h = absurd (omega (arith, e))
first_less (n ∷ ns) [] e h = absurd h
first_less (n ∷ ns) (m ∷ ms) e (inl h) = omega (arith, h)
first_less (n ∷ ns) (m ∷ ms) e (inr h) = omega (arith, h.0)

tail_order : (p : Path) (ps : List Path) → EachPair (λ p q. Precedes p.flights q.flights) (p ∷ ps) → EachPair (λ p q. Precedes p.flights q.flights) ps
tail_order p [] h = tt
tail_order p (q ∷ ps) h = h.1

ordered : (ts : List Path) (i j : ℕ) (d : Path) → EachPair (λ p q. Precedes p.flights q.flights) ts → i < j → j < length ts → Precedes (get_or ts i d).flights (get_or ts j d).flights
ordered [] i j d h lt k = absurd (omega arith)
ordered (p ∷ ts) i zero d h lt k = absurd (omega arith)
ordered (p ∷ ts) zero (suc j) d h lt k = first_of_all p ts h (get_or ts j d) (in_list ts j d (omega arith))
ordered (p ∷ ts) (suc i) (suc j) d h lt k = ordered ts i j d (tail_order p ts h) (omega arith) (omega arith)

pub parted : (c n : ℕ) (ts : List Path) → EachPair (λ p q. Precedes p.flights q.flights) ts → IsPartitionedBy (stands_before c n) ts
parted c n ts h = λ i j d le lt t. at i j d le lt t (cases_lt i j)
  where
    earlier : (p q : Path) → Precedes p.flights q.flights → stands_before c n q ≡ true → stands_before c n p ≡ true
    earlier p q r t = tells (length p.flights) (first_of p.flights) c n (by r (told (length q.flights) (first_of q.flights) c n t))
      where
        by : Precedes p.flights q.flights → (length q.flights < c) ⊎ ((length q.flights ≡ c) × (first_of q.flights < n)) → (length p.flights < c) ⊎ ((length p.flights ≡ c) × (first_of p.flights < n))
        by (inl a) (inl k) = inl (omega (arith, a, k))
        by (inl a) (inr k) = inl (omega (arith, a, k.0))
        by (inr a) (inl k) = inl (omega (arith, a.0, k))
        by (inr a) (inr k) = inr (a.0 ∙ k.0, omega (arith, k.1, first_less p.flights q.flights a.0 a.1))

    at : (i j : ℕ) (d : Path) → i ≤ j → j < length ts → stands_before c n (get_or ts j d) ≡ true → (i < j) ⊎ (j ≤ i) → stands_before c n (get_or ts i d) ≡ true
    at i j d le lt t (inl k) = earlier (get_or ts i d) (get_or ts j d) (ordered ts i j d h k lt) t
    at i j d le lt t (inr k) = let e : j ≡ i = omega (arith, le, k) in subst (λ x. stands_before c n (get_or ts x d) ≡ true) e t

-- parts of a list
in_take : {X : Type 0} (xs : List X) (m : ℕ) (x : X) → IsIn x (take m xs) → (k : ℕ) × (k < m) × (k < length xs) × (get_or xs k x ≡ x)
in_take [] zero x i = absurd i
in_take [] (suc m) x i = absurd i
in_take (y ∷ xs) zero x i = absurd i
in_take (y ∷ xs) (suc m) x (inl e) = (0, omega arith, omega arith, sym e)
in_take (y ∷ xs) (suc m) x (inr i) = let r = in_take xs m x i in (suc r.0, omega (arith, r.1), omega (arith, r.2), r.3)

in_part : {X : Type 0} (xs : List X) (a m : ℕ) (x : X) → IsIn x (take m (drop a xs)) → (k : ℕ) × (a ≤ k) × (k < a + m) × (k < length xs) × (get_or xs k x ≡ x)
in_part xs zero m x i = let r = in_take xs m x i in (r.0, omega arith, omega (arith, r.1), r.2, r.3)
in_part [] (suc a) zero x i = absurd i
in_part [] (suc a) (suc m) x i = absurd i
in_part (y ∷ xs) (suc a) m x i = let r = in_part xs a m x i in (suc r.0, omega (arith, r.1), omega (arith, r.2), omega (arith, r.3), r.4)

to_take : {X : Type 0} (xs : List X) (m k : ℕ) (x : X) → k < m → k < length xs → get_or xs k x ≡ x → IsIn x (take m xs)
to_take [] m k x a l e = absurd (omega arith)
to_take (y ∷ xs) zero k x a l e = absurd (omega arith)
to_take (y ∷ xs) (suc m) zero x a l e = inl (sym e)
to_take (y ∷ xs) (suc m) (suc k) x a l e = inr (to_take xs m k x (omega arith) (omega arith) e)

to_part : {X : Type 0} (xs : List X) (a m k : ℕ) (x : X) → a ≤ k → k < a + m → k < length xs → get_or xs k x ≡ x → IsIn x (take m (drop a xs))
to_part xs zero m k x le lt l e = to_take xs m k x (omega (arith, lt)) l e
to_part [] (suc a) m k x le lt l e = absurd (omega arith)
to_part (y ∷ xs) (suc a) m zero x le lt l e = absurd (omega arith)
to_part (y ∷ xs) (suc a) m (suc k) x le lt l e = to_part xs a m k x (omega arith) (omega arith) (omega arith) e

index_of : {X : Type 0} (xs : List X) (x : X) → IsIn x xs → (k : ℕ) × (k < length xs) × (get_or xs k x ≡ x)
index_of [] x i = absurd i
index_of (y ∷ xs) x (inl e) = (0, omega arith, sym e)
index_of (y ∷ xs) x (inr i) = let r = index_of xs x i in (suc r.0, omega (arith, r.1), r.2)

at_index : {X : Type 0} (xs : List X) (k : ℕ) (x : X) → k < length xs → get_or xs k x ≡ x → IsIn x xs
at_index xs k x lt e = subst (λ y. IsIn y xs) e (in_list xs k x lt)

part_order : (ts : List Path) (a m : ℕ) → EachPair (λ p q. Precedes p.flights q.flights) ts → EachPair (λ p q. Precedes p.flights q.flights) (take m (drop a ts))
part_order ts zero m h = front ts m h
  where
    front : (xs : List Path) (m : ℕ) → EachPair (λ p q. Precedes p.flights q.flights) xs → EachPair (λ p q. Precedes p.flights q.flights) (take m xs)
    front [] zero h = tt
    front [] (suc m) h = tt
    front (x ∷ xs) zero h = tt
    front (x ∷ []) (suc zero) h = tt
    front (x ∷ []) (suc (suc m)) h = tt
    front (x ∷ y ∷ xs) (suc zero) h = tt
    front (x ∷ y ∷ xs) (suc (suc m)) h = (h.0, front (y ∷ xs) (suc m) h.1)
part_order [] (suc a) zero h = tt
part_order [] (suc a) (suc m) h = tt
part_order (t ∷ ts) (suc a) m h = part_order ts a m (tail_order t ts h)

pub part_ordered : (ts : List Path) (a m : ℕ) → EachPair (λ p q. Precedes p.flights q.flights) ts → EachPair (λ p q. Precedes p.flights q.flights) (take m (drop a ts))
part_ordered = part_order

pub part_of : {X : Type 0} (xs : List X) (a m : ℕ) (x : X) → IsIn x (take m (drop a xs)) → IsIn x xs
part_of xs a m x i = let r = in_part xs a m x i in at_index xs r.0 x r.3 r.4

module _ (b : Book) (sl : List Slice) (at : Position) (h : Path) (middle : Position) (cr : Crossing b sl at h middle) (ts : List Path) (c from to : ℕ)
    (p : IsPartitionPoint (λ t. stands_before c middle.lo t ≡ true) (λ t. stands_before c middle.lo t ≡ false) ts from)
    (q : IsPartitionPoint (λ t. stands_before c middle.hi t ≡ true) (λ t. stands_before c middle.hi t ≡ false) ts to) where
  -- what may follow stands between
  between : (t : Path) → IsIn t ts → length t.flights ≡ c → Follows b sl at h t → (k : ℕ) × (from ≤ k) × (k < to) × (k < length ts) × (get_or ts k t ≡ t)
  between t i e f =
      let r = index_of ts t i in
      let range = first_in t.flights (subst (λ m. OnFirst (λ n. (m.lo ≤ n) × (n < m.hi)) t.flights) (same_middle b sl at h t middle cr f) f.in_range) in
      (r.0, low r.0 r.2 range.0 (cases_lt r.0 from), high r.0 r.1 r.2 range.1 (cases_lt r.0 to), r.1, r.2)
    where
      first_in : (ns : List ℕ) → OnFirst (λ n. (middle.lo ≤ n) × (n < middle.hi)) ns → (middle.lo ≤ first_of ns) × (first_of ns < middle.hi)
      first_in [] o = absurd o
      first_in (n ∷ ns) o = o

      low : (k : ℕ) → get_or ts k t ≡ t → middle.lo ≤ first_of t.flights → (k < from) ⊎ (from ≤ k) → from ≤ k
      low k g le (inr a) = a
      low k g le (inl a) = absurd (by (told (length t.flights) (first_of t.flights) c middle.lo (subst (λ x. stands_before c middle.lo x ≡ true) g (p.0 k t (omega arith) a))))
        where
          by : (length t.flights < c) ⊎ ((length t.flights ≡ c) × (first_of t.flights < middle.lo)) → ⊥
          by (inl x) = omega (arith, x, e)
          by (inr x) = omega (arith, x.1, le)

      high : (k : ℕ) → k < length ts → get_or ts k t ≡ t → first_of t.flights < middle.hi → (k < to) ⊎ (to ≤ k) → k < to
      high k l g lt (inl a) = a
      high k l g lt (inr a) = absurd (true_false (tells (length t.flights) (first_of t.flights) c middle.hi (inr (e, lt))) (subst (λ x. stands_before c middle.hi x ≡ false) g (q.1 k t a l)))

  pub none_between : to ≤ from → AreRestOf b sl at h ts c []
  none_between le = record { once = tt; are = λ x. (λ i. absurd i, λ w. let k = between w.0 w.1 w.2 w.3.follows in empty k.0 k.1 k.2) }
    where
      empty : (k : ℕ) → from ≤ k → k < to → ⊥
      empty k a l = omega (arith, le, a, l)

  pub all_between : (ps : List Path) → from ≤ to → AreRest b sl at h (take (to - from) (drop from ts)) ps → AreRestOf b sl at h ts c ps
  all_between ps le r = record { once = r.once; are = λ x. (λ i. let w = (r.are x).0 i in forth x w.0 w.1 w.2, λ w. (r.are x).1 (w.0, back w.0 (between w.0 w.1 w.2 w.3.follows), w.3)) }
    where
      back : (t : Path) → (k : ℕ) × (from ≤ k) × (k < to) × (k < length ts) × (get_or ts k t ≡ t) → IsIn t (take (to - from) (drop from ts))
      back t w = to_part ts from (to - from) w.0 t w.1 (omega (arith, le, w.1, w.2)) w.3 w.4

      forth : (x t : Path) → IsIn t (take (to - from) (drop from ts)) → IsJoined b sl at h t x → (tail : Path) × IsIn tail ts × (length tail.flights ≡ c) × IsJoined b sl at h tail x
      forth x t i j =
          let w = in_part ts from (to - from) t i in
          let k = w.0 in
          let no_lo = subst (λ y. stands_before c middle.lo y ≡ false) w.4 (p.1 k t w.1 w.3) in
          let yes_hi = subst (λ y. stands_before c middle.hi y ≡ true) w.4 (q.0 k t (omega arith) (omega (arith, le, w.2))) in
          (t, at_index ts k t w.3 w.4, same no_lo (told (length t.flights) (first_of t.flights) c middle.hi yes_hi), j)
        where
          same : stands_before c middle.lo t ≡ false → (length t.flights < c) ⊎ ((length t.flights ≡ c) × (first_of t.flights < middle.hi)) → length t.flights ≡ c
          same n (inl a) = absurd (true_false (tells (length t.flights) (first_of t.flights) c middle.lo (inl a)) n)
          same n (inr a) = a.0

module _ (h : Path) (middle : Position) (ts : List Path) (c from to : ℕ)
    (p : IsPartitionPoint (λ t. stands_before c middle.lo t ≡ true) (λ t. stands_before c middle.lo t ≡ false) ts from)
    (q : IsPartitionPoint (λ t. stands_before c middle.hi t ≡ true) (λ t. stands_before c middle.hi t ≡ false) ts to) where
  -- what stands between is of the range, and has so many flights
  pub entering : from ≤ to → length h.flights + c ≤ MOST_FLIGHTS_OF_A_COMPONENT → (t : Path) → 1 ≤ length t.flights → IsIn t (take (to - from) (drop from ts)) → Enters middle h t
  entering le room t some i =
      let w = in_part ts from (to - from) t i in
      let k = w.0 in
      let no_lo = subst (λ y. stands_before c middle.lo y ≡ false) w.4 (p.1 k t w.1 w.3) in
      let yes_hi = subst (λ y. stands_before c middle.hi y ≡ true) w.4 (q.0 k t (omega arith) (omega (arith, le, w.2))) in
      by no_lo (told (length t.flights) (first_of t.flights) c middle.hi yes_hi) (cases_lt (first_of t.flights) middle.lo)
    where
      first_in : (ns : List ℕ) → 1 ≤ length ns → middle.lo ≤ first_of ns → first_of ns < middle.hi → OnFirst (λ n. (middle.lo ≤ n) × (n < middle.hi)) ns
      first_in [] l a b = absurd (omega (arith, l))
      first_in (n ∷ ns) l a b = (a, b)

      by : stands_before c middle.lo t ≡ false → (length t.flights < c) ⊎ ((length t.flights ≡ c) × (first_of t.flights < middle.hi)) → (first_of t.flights < middle.lo) ⊎ (middle.lo ≤ first_of t.flights) → Enters middle h t
      by n (inl a) x = absurd (true_false (tells (length t.flights) (first_of t.flights) c middle.lo (inl a)) n)
      by n (inr a) (inl x) = absurd (true_false (tells (length t.flights) (first_of t.flights) c middle.lo (inr (a.0, x))) n)
      by n (inr a) (inr x) = record { in_range = first_in t.flights some x a.1; few = omega (arith, room, a.0) }

module _ (b : Book) (sl : List Slice) (at : Position) (h : Path) (ts : List Path) where
  pub too_many : (c : ℕ) → MOST_FLIGHTS_OF_A_COMPONENT < length h.flights + c → AreRestOf b sl at h ts c []
  too_many c gt = record { once = tt; are = λ x. (λ i. absurd i, λ w. long w.0 w.2 w.3.follows.few) }
    where
      long : (t : Path) → length t.flights ≡ c → length h.flights + length t.flights ≤ MOST_FLIGHTS_OF_A_COMPONENT → ⊥
      long t e few = omega (arith, gt, e, few)

  -- tails of one flight, then of two
  pub record IsTwo (ps : List Path) : Type 0 where
    pub first : List Path
    pub second : List Path
    pub is : ps ≡ first ++ second
    pub one : AreRestOf b sl at h ts 1 first
    pub two : AreRestOf b sl at h ts 2 second

  pub two_parts : (ps qs : List Path) → AreRestOf b sl at h ts 1 ps → AreRestOf b sl at h ts 2 qs → IsTwo (ps ++ qs)
  two_parts ps qs p q = record { first = ps; second = qs; is = refl; one = p; two = q }

  pub counts : (xs rs : List Path) → AreSomeTails b sl (suc at.slice) ts → IsTwo xs → AreRestOf b sl at h ts 3 rs → AreRest b sl at h ts (xs ++ rs)
  counts xs rs d w three = subst (λ ys. AreRest b sl at h ts (ys ++ rs)) (sym w.is) (three_parts w.first w.second rs d w.one w.two three)
    where
      -- the tails are of one, two or three flights
      three_parts : (ps qs rs : List Path) → AreSomeTails b sl (suc at.slice) ts → AreRestOf b sl at h ts 1 ps → AreRestOf b sl at h ts 2 qs → AreRestOf b sl at h ts 3 rs → AreRest b sl at h ts ((ps ++ qs) ++ rs)
      three_parts ps qs rs d one two three = record {
        once = different_more (ps ++ qs) rs (different_more ps qs one.once two.once (λ x i j. let w = (one.are x).0 i in let v = (two.are x).0 j in differ x w.0 v.0 w.3 v.3 (λ e. omega (arith, w.2, v.2, ap (λ y. length y.flights) e)))) three.once
            (λ x i j. let v = (three.are x).0 j in elim (in_either x ps qs i) [
              | inl k ↦ let w = (one.are x).0 k in differ x w.0 v.0 w.3 v.3 (λ e. omega (arith, w.2, v.2, ap (λ y. length y.flights) e))
              | inr k ↦ let w = (two.are x).0 k in differ x w.0 v.0 w.3 v.3 (λ e. omega (arith, w.2, v.2, ap (λ y. length y.flights) e))
            ]);
        are = λ x. (forth x, λ w. back x w.0 w.1 w.2 (tail_count b sl at (suc at.slice) ts d w.0 w.1));
      }
        where
          differ : (x t u : Path) → IsJoined b sl at h t x → IsJoined b sl at h u x → (t ≡ u → ⊥) → ⊥
          differ x t u j k n = n (joined_tail b sl at h t u x j k)

          forth : (x : Path) → IsIn x ((ps ++ qs) ++ rs) → (tail : Path) × IsIn tail ts × IsJoined b sl at h tail x
          forth x i = elim (in_either x (ps ++ qs) rs i) [
            | inl l ↦ elim (in_either x ps qs l) [ inl k ↦ let w = (one.are x).0 k in (w.0, w.1, w.3) | inr k ↦ let w = (two.are x).0 k in (w.0, w.1, w.3) ]
            | inr k ↦ let w = (three.are x).0 k in (w.0, w.1, w.3)
          ]

          back : (x t : Path) → IsIn t ts → IsJoined b sl at h t x → (1 ≤ length t.flights) × (length t.flights ≤ 3) → IsIn x ((ps ++ qs) ++ rs)
          back x t i j room = by (length t.flights) refl room.0 room.1
            where
              by : (n : ℕ) → length t.flights ≡ n → 1 ≤ n → n ≤ 3 → IsIn x ((ps ++ qs) ++ rs)
              by zero e a l = absurd (omega (arith, a))
              by (suc zero) e a l = in_left x (ps ++ qs) rs (in_left x ps qs ((one.are x).1 (t, i, e, j)))
              by (suc (suc zero)) e a l = in_left x (ps ++ qs) rs (in_right x ps qs ((two.are x).1 (t, i, e, j)))
              by (suc (suc (suc zero))) e a l = in_right x (ps ++ qs) rs ((three.are x).1 (t, i, e, j))
              by (suc (suc (suc (suc n)))) e a l = absurd (omega (arith, l))
