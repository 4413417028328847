-- Numbers of flights by origin: the order of origins, and the part of one origin.
use Rattle.std.proofs.Common.{◌≡◌, ℕ, zero, suc, ◌+◌, ◌-◌, ◌≤◌, ◌<◌, true, false, eqb, List, [], ◌∷◌, length, map, take, drop, get_or, slice_get, Some, refl, sym, ap, ap₂, ◌∙◌, subst, inl, inr, arith}
use Rattle.std.proofs.Math.ListN.{get_or-map}
use Rattle.std.proofs.lemmas.Bool.{cases_eq, cases_lt, ne_eqb, eqb-false}
use Rattle.std.proofs.lemmas.Cmp.{then_total, on_total, nat_cmp_total, nat_list_cmp_total, tied_itself, ranked}
use Rattle.std.proofs.lemmas.List.{get_or-take, get_or-drop, length-map, length-take, length-drop}
use Rattle.std.proofs.lemmas.List.Sorted.{Contains-permutation, IsPermutation-map, IsPermutation-sym}
use Rattle.std.proofs.lemmas.Map.Keys.{IsDistinct-IsPermutation, IsDistinct-from_apart, apart_from_distinct}
use Rattle.std.specs.Cmp.{IsTotalOrder}
use Rattle.std.specs.Cmp.Lexicographic.{slice_cmp}
use Rattle.std.specs.declared.cmp.Ordering.{Ordering}
use Rattle.std.specs.declared.cmp.Ordering.TheVariants.{Less as Lower, Equal, Greater}
use Rattle.std.specs.List.{Contains, IsDistinct}
use Rattle.std.specs.List.Sorted.{IsPermutation, IsSorted}
use Rattle.std.specs.Ordering.{MatchOrdering, is_lt, nat_cmp, ordering_then}
use Rattle.fare_law.specs.declared.flights.Flight.{Flight}
use Rattle.fare_law.specs.declared.names.Place.{Place}
use Rattle.fare_law.specs.Lists.{EachPair, IsIn, Less}
use Rattle.schedule_book.specs.Departures.{AreDepartures, DepartsFrom, origins}
use Rattle.law_lemmas.proofs.Tests.{less_is, true_false}
use Rattle.law_lemmas.proofs.Words.{words_told}

-- by origin, then by number
abbrev pub origin_cmp : Place × ℕ → Place × ℕ → Ordering
origin_cmp k l = ordering_then (slice_cmp nat_cmp k.0.0 l.0.0) (nat_cmp k.1 l.1)

origin_total : IsTotalOrder origin_cmp
origin_total = then_total (on_total (λ (k : Place × ℕ). k.0.0) nat_list_cmp_total) (on_total (λ (k : Place × ℕ). k.1) nat_cmp_total)

lower_is : (o : Ordering) → is_lt o ≡ true → o ≡ Lower
lower_is Lower t = refl
lower_is Equal t = absurd (cc)
lower_is Greater t = absurd (cc)

-- a key of the place, against the place with a number
at_place : (p : Place) (n m : ℕ) → origin_cmp (p, n) (p, m) ≡ nat_cmp n m
at_place p n m = ap (λ o. ordering_then o (nat_cmp n m)) (tied_itself nat_list_cmp_total p.0)

number_below : (n m : ℕ) (o : Ordering) → o ≡ nat_cmp n m → is_lt o ≡ true → n < m
number_below n m Lower e t = ranked n m Lower e
number_below n m Equal e t = absurd (cc)
number_below n m Greater e t = absurd (cc)

number_above : (n m : ℕ) → is_lt (nat_cmp n m) ≡ false → m ≤ n
number_above n m f = elim (cases_lt n m) [
  | inl lt ↦ absurd (true_false (ap is_lt (less_is n m lt)) f)
  | inr le ↦ le
]

-- a key that isn't before the place with lo and is before the place with hi
pub between_told : (p : Place) (lo hi : ℕ) (k : Place × ℕ) → is_lt (origin_cmp k (p, lo)) ≡ false → is_lt (origin_cmp k (p, hi)) ≡ true → (k.0.0 ≡ p.0) × (lo ≤ k.1) × (k.1 < hi)
between_told p lo hi k low high = by (slice_cmp nat_cmp k.0.0 p.0) (words_told k.0.0 p.0) low high
  where
    by : (o : Ordering) → MatchOrdering o (Less k.0.0 p.0) (k.0.0 ≡ p.0) (Less p.0 k.0.0) → is_lt (ordering_then o (nat_cmp k.1 lo)) ≡ false → is_lt (ordering_then o (nat_cmp k.1 hi)) ≡ true → (k.0.0 ≡ p.0) × (lo ≤ k.1) × (k.1 < hi)
    by Lower h l g = absurd (cc)
    by Equal h l g = (h, number_above k.1 lo l, number_below k.1 hi (nat_cmp k.1 hi) refl g)
    by Greater h l g = absurd (cc)

contains_in : {X : Type 0} (x : X) (xs : List X) (k : ℕ) → k < length xs → get_or xs k x ≡ x → IsIn x xs
contains_in x [] k lt e = absurd (omega arith)
contains_in x (y ∷ xs) zero lt e = inl (sym e)
contains_in x (y ∷ xs) (suc k) lt e = inr (contains_in x xs k (omega arith) e)

in_contains : {X : Type 0} (x : X) (xs : List X) → IsIn x xs → Contains xs x
in_contains x [] i = absurd i
in_contains x (y ∷ xs) (inl e) = (0, omega arith, sym e)
in_contains x (y ∷ xs) (inr i) = let r = in_contains x xs i in (suc r.0, omega (arith, r.1), r.2)

-- what stands among the origins
origin_told : (flights : List Flight) (n0 i : ℕ) (d : Place × ℕ) → i < length flights → (f : Flight) × (slice_get flights i ≡ Some f) × (get_or (origins n0 flights) i d ≡ (f.from, n0 + i))
origin_told [] n0 i d lt = absurd (omega arith)
origin_told (f ∷ flights) n0 zero d lt = let e : n0 ≡ n0 + 0 = omega arith in (f, refl, ap (λ n. (f.from, n)) e)
origin_told (f ∷ flights) n0 (suc i) d lt =
    let r = origin_told flights (suc n0) i d (omega arith) in
    let e : suc n0 + i ≡ n0 + suc i = omega arith in
    (r.0, r.1, r.2 ∙ ap (λ n. (r.0.from, n)) e)

origins_long : (flights : List Flight) (n0 : ℕ) → length (origins n0 flights) ≡ length flights
origins_long [] n0 = refl
origins_long (f ∷ flights) n0 = ap suc (origins_long flights (suc n0))

slice_short : (flights : List Flight) (n : ℕ) (f : Flight) → slice_get flights n ≡ Some f → n < length flights
slice_short [] n f e = absurd (cc)
slice_short (g ∷ flights) zero f e = omega arith
slice_short (g ∷ flights) (suc n) f e = let r = slice_short flights n f e in omega (arith, r)

get_any : {X : Type 0} (xs : List X) (k : ℕ) (d e : X) → k < length xs → get_or xs k d ≡ get_or xs k e
get_any [] k d e lt = absurd (omega arith)
get_any (x ∷ xs) zero d e lt = refl
get_any (x ∷ xs) (suc k) d e lt = get_any xs k d e (omega arith)

-- a part of a list
part_in : (xs : List ℕ) (a m n : ℕ) → a + m ≤ length xs → IsIn n (take m (drop a xs)) → (k : ℕ) × (a ≤ k) × (k < a + m) × (get_or xs k n ≡ n)
part_in xs a m n le i =
    let c = in_contains n (take m (drop a xs)) i in
    let small : c.0 < m = omega (arith, c.1, length-take m (drop a xs)) in
    (a + c.0, omega arith, omega arith, sym (get_or-take m (drop a xs) c.0 n small ∙ get_or-drop a xs c.0 n) ∙ c.2)

part_at : (xs : List ℕ) (a m j d : ℕ) → j < m → get_or (take m (drop a xs)) j d ≡ get_or xs (a + j) d
part_at xs a m j d lt = get_or-take m (drop a xs) j d lt ∙ get_or-drop a xs j d

in_part : (xs : List ℕ) (a m n k : ℕ) → a + m ≤ length xs → a ≤ k → k < a + m → get_or xs k n ≡ n → IsIn n (take m (drop a xs))
in_part xs a m n k le low high e =
    contains_in n (take m (drop a xs)) (k - a) (omega (arith, length-take m (drop a xs), length-drop a xs)) (part_at xs a m (k - a) n (omega arith) ∙ ap (λ z. get_or xs z n) back ∙ e)
  where
    back : a + (k - a) ≡ k
    back = omega arith

part_long : (xs : List ℕ) (a m : ℕ) → a + m ≤ length xs → length (take m (drop a xs)) ≡ m
part_long xs a m le = omega (arith, length-take m (drop a xs), length-drop a xs)

pairs_from : (xs : List ℕ) → ((j : ℕ) → j + 1 < length xs → get_or xs j 0 < get_or xs (j + 1) 0) → EachPair (λ m n. m < n) xs
pairs_from [] h = tt
pairs_from (x ∷ []) h = tt
pairs_from (x ∷ y ∷ xs) h = (h 0 (omega arith), pairs_from (y ∷ xs) (λ j lt. next j (h (suc j) (omega arith))))
  where
    next : (j : ℕ) → get_or (x ∷ y ∷ xs) (suc j) 0 < get_or (x ∷ y ∷ xs) (suc j + 1) 0 → get_or (y ∷ xs) j 0 < get_or (y ∷ xs) (j + 1) 0
    next j q = let e : suc j + 1 ≡ suc (j + 1) = omega arith in subst (λ n. get_or (y ∷ xs) j 0 < get_or (x ∷ y ∷ xs) n 0) e q

-- the numbers of the origins are all different
number_at : (flights : List Flight) (n0 i d : ℕ) → i < length flights → get_or (map (λ k. k.1) (origins n0 flights)) i d ≡ n0 + i
number_at [] n0 i d lt = absurd (omega arith)
number_at (f ∷ flights) n0 zero d lt = omega arith
number_at (f ∷ flights) n0 (suc i) d lt = let r = number_at flights (suc n0) i d (omega arith) in omega (arith, r)

eq_flips : (x y : ℕ) → eqb x y ≡ eqb y x
eq_flips x y = elim (cases_eq x y) [
  | inl e ↦ ap₂ eqb e (sym e)
  | inr ne ↦ ne_eqb x y ne ∙ sym (ne_eqb y x (λ q. ne (sym q)))
]

-- the flights' origins in order, and their numbers in that order
pub record ByOrigin (flights : List Flight) (keys : List (Place × ℕ)) (numbers : List ℕ) : Type 0 where
  pub keys_are : IsPermutation (origins 0 flights) keys
  pub sorted : IsSorted origin_cmp keys
  pub numbers_are : numbers ≡ map (λ k. k.1) keys

module _ (flights : List Flight) (keys : List (Place × ℕ)) (numbers : List ℕ) (ix : ByOrigin flights keys numbers) where
  numbers_differ : IsDistinct eqb (map (λ k. k.1) keys)
  numbers_differ =
      IsDistinct-IsPermutation eqb eq_flips (map (λ k. k.1) (origins 0 flights)) (map (λ k. k.1) keys) (IsPermutation-map (λ (k : Place × ℕ). k.1) (origins 0 flights) keys ix.keys_are)
      (IsDistinct-from_apart eqb (map (λ k. k.1) (origins 0 flights)) (λ i j d lt jl. apart i j d lt (subst (λ n. j < n) (long (origins 0 flights) ∙ origins_long flights 0) jl)))
    where
      long : (ks : List (Place × ℕ)) → length (map (λ (k : Place × ℕ). k.1) ks) ≡ length ks
      long ks = rw length-map refl

      apart : (i j d : ℕ) → i < j → j < length flights → eqb (get_or (map (λ (k : Place × ℕ). k.1) (origins 0 flights)) i d) (get_or (map (λ (k : Place × ℕ). k.1) (origins 0 flights)) j d) ≡ false
      apart i j d lt jl = ap₂ eqb (number_at flights 0 i d (omega arith)) (number_at flights 0 j d jl) ∙ ne_eqb (0 + i) (0 + j) (λ q. omega arith)

  pub keys_long : length numbers ≡ length keys
  keys_long = ap length ix.numbers_are ∙ long keys
    where
      long : (ks : List (Place × ℕ)) → length (map (λ (k : Place × ℕ). k.1) ks) ≡ length ks
      long ks = rw length-map refl

  number_is : (k : ℕ) (d : Place × ℕ) → get_or numbers k d.1 ≡ (get_or keys k d).1
  number_is k d = ap (λ ns. get_or ns k d.1) ix.numbers_are ∙ get_or-map (λ (k : Place × ℕ). k.1) keys k d

  module _ (place : Place) (lo hi a b : ℕ) (order : lo < hi) (al : a ≤ length keys) (bl : b ≤ length keys)
      (pa : (k : ℕ) (d : Place × ℕ) → 0 ≤ k → k < a → is_lt (origin_cmp (get_or keys k d) (place, lo)) ≡ true) (qa : (k : ℕ) (d : Place × ℕ) → a ≤ k → k < length keys → is_lt (origin_cmp (get_or keys k d) (place, lo)) ≡ false)
      (pb : (k : ℕ) (d : Place × ℕ) → 0 ≤ k → k < b → is_lt (origin_cmp (get_or keys k d) (place, hi)) ≡ true) (qb : (k : ℕ) (d : Place × ℕ) → b ≤ k → k < length keys → is_lt (origin_cmp (get_or keys k d) (place, hi)) ≡ false) where
    pub in_turn : a ≤ b
    in_turn = elim (cases_lt b a) [
      | inr le ↦ le
      | inl lt ↦
          let key : Place × ℕ = get_or keys b (place, lo) in
          let below = lower_is (origin_cmp key (place, lo)) (pa b (place, lo) (omega arith) lt) in
          let step : origin_cmp (place, lo) (place, hi) ≡ Lower = at_place place lo hi ∙ less_is lo hi order in
          absurd (true_false (ap is_lt (origin_total.trans key (place, lo) (place, hi) below step)) (qb b (place, lo) (omega arith) (omega arith)))
    ]

    told_at : (k : ℕ) (d : Place × ℕ) → a ≤ k → k < b → ((get_or keys k d).0.0 ≡ place.0) × (lo ≤ (get_or keys k d).1) × ((get_or keys k d).1 < hi)
    told_at k d low high = between_told place lo hi (get_or keys k d) (qa k d low (omega arith)) (pb k d (omega arith) high)

    found : (n : ℕ) → IsIn n (take (b - a) (drop a numbers)) → (lo ≤ n) × (n < hi) × DepartsFrom flights place n
    found n i =
        let turn = in_turn in
        let (k, low, high, e) = part_in numbers a (b - a) n (omega (arith, keys_long, turn)) i in
        let d : Place × ℕ = (place, n) in
        let key : Place × ℕ = get_or keys k d in
        let lt : k < b = omega (arith, turn) in
        let t = told_at k d low lt in
        let is_n : key.1 ≡ n = sym (number_is k d) ∙ e in
        let long : k < length keys = omega (arith, lt) in
        let c = Contains-permutation keys (origins 0 flights) key (IsPermutation-sym (origins 0 flights) keys ix.keys_are) (k, long, get_any keys k key d long) in
        let o = origin_told flights 0 c.0 key (omega (arith, c.1, origins_long flights 0)) in
        let same : key ≡ (o.0.from, 0 + c.0) = sym c.2 ∙ o.2 in (
          omega (arith, t.1, is_n),
          omega (arith, t.2, is_n),
          (
            o.0,
            subst (λ z. slice_get flights z ≡ Some o.0) (plus c.0 ∙ sym (ap (λ x. x.1) same) ∙ is_n) o.1,
            place_is (o.0.from) (sym (ap (λ x. x.0.0) same) ∙ t.0),
          ),
        )
      where
        plus : (z : ℕ) → z ≡ 0 + z
        plus z = omega arith

        place_is : (q : Place) → q.0 ≡ place.0 → q ≡ place
        place_is q h = λ i. record { 0 = h i }

    keeps : (n : ℕ) → (lo ≤ n) × (n < hi) × DepartsFrom flights place n → IsIn n (take (b - a) (drop a numbers))
    keeps n (low, high, (f, e, q)) =
        let turn = in_turn in
        let key : Place × ℕ = (place, n) in
        let short = slice_short flights n f e in
        let o = origin_told flights 0 n key short in
        let at_n : get_or (origins 0 flights) n key ≡ key = o.2 ∙ here o.0 o.1 in
        let c = Contains-permutation (origins 0 flights) keys key ix.keys_are (n, omega (arith, short, origins_long flights 0), at_n) in
        let after : a ≤ c.0 = from_lo c.0 c.2 in
        let before : c.0 < b = to_hi c.0 c.1 c.2 in
        in_part numbers a (b - a) n c.0 (omega (arith, keys_long, turn)) after (omega (arith, before, turn)) (number_is c.0 key ∙ ap (λ x. x.1) c.2)
      where
        here : (g : Flight) → slice_get flights n ≡ Some g → ◌≡◌ {A = Place × ℕ} (g.from, 0 + n) (place, n)
        here g h =
            let same : g ≡ f = some_same (sym h ∙ e) in
            let z : 0 + n ≡ n = omega arith in
            pair (ap (λ x. x.from) same ∙ q) z
          where
            some_same : Some g ≡ Some f → g ≡ f
            some_same w = cc

            pair : g.from ≡ place → 0 + n ≡ n → ◌≡◌ {A = Place × ℕ} (g.from, 0 + n) (place, n)
            pair x y = λ i. (x i, y i)

        from_lo : (k : ℕ) → ◌≡◌ {A = Place × ℕ} (get_or keys k (place, n)) (place, n) → a ≤ k
        from_lo k w = elim (cases_lt k a) [
          | inr le ↦ le
          | inl lt ↦
              let t = subst (λ x. is_lt (origin_cmp x (place, lo)) ≡ true) w (pa k (place, n) (omega arith) lt) in
              let r = number_below n lo (origin_cmp (place, n) (place, lo)) (at_place place n lo) t in
              absurd (omega (arith, r))
        ]

        to_hi : (k : ℕ) → k < length keys → ◌≡◌ {A = Place × ℕ} (get_or keys k (place, n)) (place, n) → k < b
        to_hi k kl w = elim (cases_lt k b) [
          | inl lt ↦ lt
          | inr le ↦
              let t = subst (λ x. is_lt (origin_cmp x (place, hi)) ≡ false) w (qb k (place, n) le kl) in
              let r = number_above n hi (sym (ap is_lt (at_place place n hi)) ∙ t) in
              absurd (omega (arith, r))
        ]

    rises : (j : ℕ) → j + 1 < length (take (b - a) (drop a numbers)) → get_or (take (b - a) (drop a numbers)) j 0 < get_or (take (b - a) (drop a numbers)) (j + 1) 0
    rises j lt =
        let turn = in_turn in
        let whole : a + (b - a) ≤ length numbers = omega (arith, keys_long, turn) in
        let size = part_long numbers a (b - a) whole in
        let d : Place × ℕ = (place, 0) in
        let k : ℕ = a + j in
        let one = told_at k d (omega arith) (omega (arith, size, turn)) in
        let two = told_at (k + 1) d (omega arith) (omega (arith, size, turn)) in
        let s = ix.sorted k d (omega arith) (omega (arith, size, turn, bl)) in
        let x : Place × ℕ = get_or keys k d in
        let y : Place × ℕ = get_or keys (k + 1) d in
        let equal : slice_cmp nat_cmp y.0.0 x.0.0 ≡ Equal = ap₂ (slice_cmp nat_cmp) two.0 one.0 ∙ tied_itself nat_list_cmp_total place.0 in
        let rise : x.1 ≤ y.1 = number_above y.1 x.1 (sym (ap (λ o. is_lt (ordering_then o (nat_cmp y.1 x.1))) equal) ∙ s) in
        let apart = apart_from_distinct eqb (map (λ k. k.1) keys) k (k + 1) 0 numbers_differ (omega arith) (omega (arith, size, turn, bl, keys_long, ap length ix.numbers_are)) in
        let m : get_or (map (λ k. k.1) keys) k 0 ≡ x.1 = get_or-map (λ (k : Place × ℕ). k.1) keys k d in
        let n : get_or (map (λ k. k.1) keys) (k + 1) 0 ≡ y.1 = get_or-map (λ (k : Place × ℕ). k.1) keys (k + 1) d in
        let ne = eqb-false x.1 y.1 (sym (ap₂ eqb m n) ∙ apart) in
        let here : get_or (take (b - a) (drop a numbers)) j 0 ≡ x.1 = part_at numbers a (b - a) j 0 (omega (arith, size)) ∙ number_is k d in
        let there : get_or (take (b - a) (drop a numbers)) (j + 1) 0 ≡ y.1 = part_at numbers a (b - a) (j + 1) 0 (omega (arith, size)) ∙ ap (λ z. get_or numbers z 0) (shift j) ∙ number_is (k + 1) d in
        omega (arith, here, there, rise, ne)
      where
        shift : (i : ℕ) → a + (i + 1) ≡ a + i + 1
        shift i = omega arith

    pub departures_are : AreDepartures flights place lo hi (take (b - a) (drop a numbers))
    departures_are = record { ascending = pairs_from (take (b - a) (drop a numbers)) rises; are = λ n. (found n, keeps n) }
