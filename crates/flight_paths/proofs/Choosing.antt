-- The paths of numbers that are all in range stand as the numbers do.
use Rattle.std.proofs.Common.{◌≡◌, ℕ, zero, suc, ◌+◌, ◌-◌, ◌≤◌, ◌<◌, true, false, List, [], ◌∷◌, ◌++◌, length, take, drop, get_or, slice_get, Option, Some, None, option_map, unwrap_or, refl, sym, ap, subst, ◌∙◌, inl, inr, arith}
use Rattle.std.proofs.lemmas.List.{take_all}
use Rattle.std.specs.List.Sorted.{IsPartitionPoint, IsPartitionedBy}
use Rattle.fare_law.specs.Lists.{Each, IsIn}
use Rattle.flight_paths.specs.declared.positions.Path.{Path}
use Rattle.flight_paths.specs.Heads.{chosen, numbered_before, put_one, stands_before}
use Rattle.law_lemmas.proofs.Lists.{got_read}
use Rattle.law_lemmas.proofs.Options.{some_same}

pub chosen_both : (ps : List Path) (ms ns : List ℕ) → chosen ps (ms ++ ns) ≡ chosen ps ms ++ chosen ps ns
chosen_both ps [] ns = refl
chosen_both ps (m ∷ ms) ns = ap (put_one (slice_get ps m)) (chosen_both ps ms ns) ∙ moved (slice_get ps m) (chosen ps ms) (chosen ps ns)
  where
    moved : (o : Option Path) (xs ys : List Path) → put_one o (xs ++ ys) ≡ put_one o xs ++ ys
    moved None xs ys = refl
    moved (Some x) xs ys = refl

-- the path of a number in range, before others
chosen_first : (ps : List Path) (n : ℕ) (ns : List ℕ) (d : Path) → n < length ps → chosen ps (n ∷ ns) ≡ get_or ps n d ∷ chosen ps ns
chosen_first ps n ns d lt = ap (λ o. put_one o (chosen ps ns)) (got_read ps n d lt)

-- and any such path, where there is no other to name
any_path : (ps : List Path) (n : ℕ) → n < length ps → Path
any_path [] n lt = absurd (omega (arith, lt))
any_path (p ∷ ps) n lt = p

pub chosen_one : (ps : List Path) (n : ℕ) (p : Path) → slice_get ps n ≡ Some p → chosen ps (n ∷ []) ≡ p ∷ []
chosen_one ps n p e = ap (λ o. put_one o []) e

pub in_chosen : (ps : List Path) (ns : List ℕ) (i n : ℕ) (p : Path) → slice_get ns i ≡ Some n → slice_get ps n ≡ Some p → IsIn p (chosen ps ns)
in_chosen ps [] i n p e k = absurd (cc)
in_chosen ps (m ∷ ns) zero n p e k = subst (λ o. IsIn p (put_one o (chosen ps ns))) (sym (ap (slice_get ps) (some_same m n e) ∙ k)) (inl refl)
in_chosen ps (m ∷ ns) (suc i) n p e k = later (slice_get ps m) (chosen ps ns) (in_chosen ps ns i n p e k)
  where
    later : (o : Option Path) (xs : List Path) → IsIn p xs → IsIn p (put_one o xs)
    later None xs j = j
    later (Some x) xs j = inr j

pub chosen_length : (ps : List Path) (ns : List ℕ) → Each (λ n. n < length ps) ns → length (chosen ps ns) ≡ length ns
chosen_length ps [] h = refl
chosen_length ps (n ∷ ns) h = ap length (chosen_first ps n ns (any_path ps n h.0) h.0) ∙ ap suc (chosen_length ps ns h.1)

pub chosen_at : (ps : List Path) (ns : List ℕ) (i d : ℕ) (q : Path) → Each (λ n. n < length ps) ns → i < length ns → slice_get ps (get_or ns i d) ≡ Some (get_or (chosen ps ns) i q)
chosen_at ps [] i d q h lt = absurd (omega (arith, lt))
chosen_at ps (n ∷ ns) zero d q h lt = got_read ps n q h.0 ∙ ap (λ xs. Some (get_or xs 0 q)) (sym (chosen_first ps n ns q h.0))
chosen_at ps (n ∷ ns) (suc i) d q h lt = chosen_at ps ns i d q h.1 (omega (arith, lt)) ∙ ap (λ xs. Some (get_or xs (suc i) q)) (sym (chosen_first ps n ns q h.0))

pub chosen_take : (ps : List Path) (ns : List ℕ) (m : ℕ) → Each (λ n. n < length ps) ns → chosen ps (take m ns) ≡ take m (chosen ps ns)
chosen_take ps [] zero h = refl
chosen_take ps [] (suc m) h = refl
chosen_take ps (n ∷ ns) zero h = refl
chosen_take ps (n ∷ ns) (suc m) h =
    let p = any_path ps n h.0 in
    chosen_first ps n (take m ns) p h.0 ∙ ap (λ xs. get_or ps n p ∷ xs) (chosen_take ps ns m h.1) ∙ ap (take (suc m)) (sym (chosen_first ps n ns p h.0))

pub chosen_drop : (ps : List Path) (ns : List ℕ) (a : ℕ) → Each (λ n. n < length ps) ns → chosen ps (drop a ns) ≡ drop a (chosen ps ns)
chosen_drop ps ns zero h = refl
chosen_drop ps [] (suc a) h = refl
chosen_drop ps (n ∷ ns) (suc a) h = chosen_drop ps ns a h.1 ∙ ap (drop (suc a)) (sym (chosen_first ps n ns (any_path ps n h.0) h.0))

pub each_take : {X : Type 0} (P : X → Type 0) (xs : List X) (m : ℕ) → Each P xs → Each P (take m xs)
each_take P [] zero h = tt
each_take P [] (suc m) h = tt
each_take P (x ∷ xs) zero h = tt
each_take P (x ∷ xs) (suc m) h = (h.0, each_take P xs m h.1)

pub each_drop : {X : Type 0} (P : X → Type 0) (xs : List X) (a : ℕ) → Each P xs → Each P (drop a xs)
each_drop P xs zero h = h
each_drop P [] (suc a) h = h
each_drop P (x ∷ xs) (suc a) h = each_drop P xs a h.1

pub chosen_part : (ps : List Path) (ns : List ℕ) (a m : ℕ) → Each (λ n. n < length ps) ns → chosen ps (take m (drop a ns)) ≡ take m (drop a (chosen ps ns))
chosen_part ps ns a m h = chosen_take ps (drop a ns) m (each_drop (λ n. n < length ps) ns a h) ∙ ap (take m) (chosen_drop ps ns a h)

-- where the numbers part, their paths do
module _ (ps : List Path) (ns : List ℕ) (h : Each (λ n. n < length ps) ns) (c n : ℕ) where
  same_test : (i d : ℕ) (q : Path) → i < length ns → numbered_before ps c n (get_or ns i d) ≡ stands_before c n (get_or (chosen ps ns) i q)
  same_test i d q lt = ap (λ o. unwrap_or (option_map (stands_before c n) o) false) (chosen_at ps ns i d q h lt)

  pub numbers_parted : IsPartitionedBy (stands_before c n) (chosen ps ns) → IsPartitionedBy (numbered_before ps c n) ns
  numbers_parted parted i j d le lt t =
      let n_i : i < length ns = omega (arith, le, lt) in
      let q = any_path ps (get_or ns j d) (in_range ns j d h lt) in
      same_test i d q n_i ∙ parted i j q le (omega (arith, lt, chosen_length ps ns h)) (sym (same_test j d q lt) ∙ t)
    where
      in_range : (ms : List ℕ) (i d : ℕ) → Each (λ m. m < length ps) ms → i < length ms → get_or ms i d < length ps
      in_range [] i d k lt = absurd (omega (arith, lt))
      in_range (m ∷ ms) zero d k lt = k.0
      in_range (m ∷ ms) (suc i) d k lt = in_range ms i d k.1 (omega (arith, lt))

  pub point_of_paths : (at : ℕ) → at ≤ length ns → IsPartitionPoint (λ m. numbered_before ps c n m ≡ true) (λ m. numbered_before ps c n m ≡ false) ns at
      → IsPartitionPoint (λ t. stands_before c n t ≡ true) (λ t. stands_before c n t ≡ false) (chosen ps ns) at
  point_of_paths at le p = (
    λ k q low lt. sym (same_test k 0 q (omega (arith, lt, le))) ∙ p.0 k 0 low lt,
    λ k q low lt. sym (same_test k 0 q (omega (arith, lt, chosen_length ps ns h))) ∙ p.1 k 0 low (omega (arith, lt, chosen_length ps ns h)),
  )

-- a front, what comes after it and what is left
pub front_and_more : {X : Type 0} (xs : List X) (a m : ℕ) → take (a + m) xs ≡ take a xs ++ take m (drop a xs)
front_and_more xs zero m = ap (λ k. take k xs) (zero_more m)
  where
    zero_more : (m : ℕ) → 0 + m ≡ m
    zero_more m = omega arith
front_and_more {X} [] (suc a) m = none (suc a + m) ∙ sym (none m)
  where
    empty : List X
    empty = []

    none : (k : ℕ) → take k empty ≡ empty
    none zero = refl
    none (suc k) = refl
front_and_more (x ∷ xs) (suc a) m = ap (λ k. take k (x ∷ xs)) (one_more a m) ∙ ap (λ ys. x ∷ ys) (front_and_more xs a m)
  where
    one_more : (a m : ℕ) → suc a + m ≡ suc (a + m)
    one_more a m = omega arith

pub rest_of : {X : Type 0} (xs : List X) (a : ℕ) → take (length xs - a) (drop a xs) ≡ drop a xs
rest_of xs a = take_all (length xs - a) (drop a xs) (short xs a)
  where
    short : {X : Type 0} (ys : List X) (k : ℕ) → length (drop k ys) ≤ length ys - k
    short ys zero = omega arith
    short [] (suc k) = omega arith
    short (y ∷ ys) (suc k) = omega (arith, short ys k)

-- a part of a list stands where the list does, from a place on
pub part_got : {X : Type 0} (xs : List X) (a m i : ℕ) (x : X) → slice_get (take m (drop a xs)) i ≡ Some x → slice_get xs (a + i) ≡ Some x
part_got {X} xs zero m i x e = subst (λ n. slice_get xs n ≡ Some x) (none_more i) (front xs m i e)
  where
    none_more : (n : ℕ) → n ≡ 0 + n
    none_more n = omega arith

    front : (ys : List X) (m i : ℕ) → slice_get (take m ys) i ≡ Some x → slice_get ys i ≡ Some x
    front [] zero i h = absurd (cc)
    front [] (suc m) i h = absurd (cc)
    front (y ∷ ys) zero i h = absurd (cc)
    front (y ∷ ys) (suc m) zero h = h
    front (y ∷ ys) (suc m) (suc i) h = front ys m i h
part_got [] (suc a) zero i x e = absurd (cc)
part_got [] (suc a) (suc m) i x e = absurd (cc)
part_got {X} (y ∷ ys) (suc a) m i x e = subst (λ n. slice_get (y ∷ ys) n ≡ Some x) (one_more a i) (part_got ys a m i x e)
  where
    one_more : (a i : ℕ) → suc (a + i) ≡ suc a + i
    one_more a i = omega arith

take_none : {X : Type 0} (n : ℕ) → take {A = X} n [] ≡ []
take_none zero = refl
take_none (suc n) = refl

drop_none : {X : Type 0} (n : ℕ) → drop {A = X} n [] ≡ []
drop_none zero = refl
drop_none (suc n) = refl

zero_more : (n : ℕ) → 0 + n ≡ n
zero_more n = omega arith

suc_more : (m n : ℕ) → suc m + n ≡ suc (m + n)
suc_more m n = omega arith

drop_front : {X : Type 0} (xs : List X) (k n : ℕ) → drop k (take (k + n) xs) ≡ take n (drop k xs)
drop_front xs zero n = ap (λ m. take m xs) (zero_more n)
drop_front [] (suc k) n = ap (drop (suc k)) (take_none (suc k + n)) ∙ sym (take_none n)
drop_front (x ∷ xs) (suc k) n = ap (λ m. drop (suc k) (take m (x ∷ xs))) (suc_more k n) ∙ drop_front xs k n

drop_twice : {X : Type 0} (xs : List X) (a k : ℕ) → drop k (drop a xs) ≡ drop (a + k) xs
drop_twice xs zero k = ap (λ m. drop m xs) (sym (zero_more k))
drop_twice [] (suc a) k = drop_none k ∙ sym (drop_none (suc a + k))
drop_twice (x ∷ xs) (suc a) k = drop_twice xs a k ∙ ap (λ m. drop m (x ∷ xs)) (sym (suc_more a k))

-- what is left of a part from a place on
pub later_part : {X : Type 0} (xs : List X) (from at to : ℕ) → from ≤ at → at ≤ to → drop (at - from) (take (to - from) (drop from xs)) ≡ take (to - at) (drop at xs)
later_part xs from at to low high = ap (λ m. drop (at - from) (take m (drop from xs))) parted ∙ drop_front (drop from xs) (at - from) (to - at) ∙ ap (take (to - at)) (drop_twice xs from (at - from) ∙ ap (λ m. drop m xs) there)
  where
    parted : to - from ≡ (at - from) + (to - at)
    parted = omega (arith, low, high)

    there : from + (at - from) ≡ at
    there = omega (arith, low)

pub front_none : {X : Type 0} (xs : List X) → take 0 xs ≡ []
front_none [] = refl
front_none (x ∷ xs) = refl

pub front_twice : {X : Type 0} (xs : List X) (m : ℕ) → take m (take m xs) ≡ take m xs
front_twice [] zero = refl
front_twice [] (suc m) = refl
front_twice (x ∷ xs) zero = refl
front_twice (x ∷ xs) (suc m) = ap (λ ys. x ∷ ys) (front_twice xs m)
