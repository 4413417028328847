-- The tails that end where they are wanted.
use Rattle.std.proofs.Common.{◌≡◌, ℕ, zero, suc, ◌+◌, ◌-◌, ◌≤◌, ◌<◌, Bool, true, false, cond, filter, option_map, unwrap_or, List, [], ◌∷◌, ◌++◌, length, drop, append-nil, append_assoc, get_or, Some, None, refl, sym, ap, subst, ◌∙◌, inl, inr, arith}
use Rattle.fare_law.specs.declared.flights.Flight.{Flight}
use Rattle.fare_law.specs.declared.names.Place.{Place}
use Rattle.fare_law.specs.declared.requests.Slice.{Slice}
use Rattle.fare_law.specs.Book.{Book}
use Rattle.fare_law.specs.Lists.{Each, EachPair, IsIn}
use Rattle.flight_paths.specs.declared.positions.Path.{Path}
use Rattle.flight_paths.specs.Heads.{AreTails, EndWanted, IsTail, TailsTo, chosen, ends_wanted, last_wanted, number_wanted}
use Rattle.flight_paths.specs.Paths.{Precedes}
use Rattle.flight_paths.specs.Plans.{HasPlan}
use Rattle.flight_paths.specs.Positions.{position_before}
use Rattle.flight_paths.specs.Ways.{AreFlightsOf}
use Rattle.flight_paths.proofs.Apart.{first_of_all}
use Rattle.flight_paths.proofs.Choosing.{chosen_both, chosen_one}
use Rattle.flight_paths.proofs.Growth.{flies_numbers}
use Rattle.schedule_book.specs.Plan.{Plan}
use Rattle.law_lemmas.proofs.EachOne.{each_append}
use Rattle.law_lemmas.proofs.Lists.{got_read}

pub last_number : (flights : List Flight) (wanted : Place → Bool) (ns : List ℕ) (d : ℕ) → 1 ≤ length ns → number_wanted flights wanted (get_or ns (length ns - 1) d) ≡ last_wanted flights wanted ns
last_number flights wanted [] d lt = absurd (omega arith)
last_number flights wanted (n ∷ []) d lt = refl
last_number flights wanted (n ∷ m ∷ ns) d lt = ap (λ k. number_wanted flights wanted (get_or (n ∷ m ∷ ns) k d)) (shift (length ns)) ∙ last_number flights wanted (m ∷ ns) d (omega arith)
  where
    shift : (k : ℕ) → suc (suc k) - 1 ≡ suc (suc k - 1)
    shift k = omega arith

-- the last flight of these ends where the last of their numbers does
last_flight : (flights : List Flight) (wanted : Place → Bool) (ns : List ℕ) (fs : List Flight) → AreFlightsOf flights ns fs → EndWanted wanted fs → last_wanted flights wanted ns ≡ true
last_flight flights wanted [] [] h e = absurd e
last_flight flights wanted [] (f ∷ fs) h e = absurd h
last_flight flights wanted (n ∷ ns) [] h e = absurd h
last_flight flights wanted (n ∷ []) (f ∷ []) h e = ap (λ o. unwrap_or (option_map (λ x. wanted x.to) o) false) h.0 ∙ e
last_flight flights wanted (n ∷ []) (f ∷ g ∷ fs) h e = absurd h.1
last_flight flights wanted (n ∷ m ∷ ns) (f ∷ []) h e = absurd h.1
last_flight flights wanted (n ∷ m ∷ ns) (f ∷ g ∷ fs) h e = last_flight flights wanted (m ∷ ns) (g ∷ fs) h.1 e

-- a filter's elements, and their order
of_filter : (t : Path → Bool) (xs : List Path) (x : Path) → IsIn x (filter t xs) → IsIn x xs
of_filter t [] x i = absurd i
of_filter t (y ∷ xs) x i = by (of_filter t xs x) (t y) i
  where
    by : (IsIn x (filter t xs) → IsIn x xs) → (b : Bool) → IsIn x (cond b (y ∷ filter t xs) (filter t xs)) → IsIn x (y ∷ xs)
    by more true (inl e) = inl e
    by more true (inr k) = inr (more k)
    by more false k = inr (more k)

to_filter : (t : Path → Bool) (xs : List Path) (x : Path) → IsIn x xs → t x ≡ true → IsIn x (filter t xs)
to_filter t [] x i h = absurd i
to_filter t (y ∷ xs) x (inl e) h = subst (λ b. IsIn x (cond b (y ∷ filter t xs) (filter t xs))) (sym (ap t (sym e) ∙ h)) (inl e)
to_filter t (y ∷ xs) x (inr i) h = by (to_filter t xs x i h) (t y)
  where
    by : IsIn x (filter t xs) → (b : Bool) → IsIn x (cond b (y ∷ filter t xs) (filter t xs))
    by more true = inr more
    by more false = more

abbrev InOrder : List Path → Type 0
InOrder ps = EachPair (λ p q. Precedes p.flights q.flights) ps

put_first : (p : Path) (ps : List Path) → ((q : Path) → IsIn q ps → Precedes p.flights q.flights) → InOrder ps → InOrder (p ∷ ps)
put_first p [] h k = tt
put_first p (q ∷ ps) h k = (h q (inl refl), k)

rest_order : (p : Path) (ps : List Path) → InOrder (p ∷ ps) → InOrder ps
rest_order p [] k = tt
rest_order p (q ∷ ps) k = k.1

filter_order : (t : Path → Bool) (ps : List Path) → InOrder ps → InOrder (filter t ps)
filter_order t [] h = tt
filter_order t (p ∷ ps) h = by (filter_order t ps (rest_order p ps h)) (t p)
  where
    by : InOrder (filter t ps) → (b : Bool) → InOrder (cond b (p ∷ filter t ps) (filter t ps))
    by more true = put_first p (filter t ps) (λ q i. first_of_all p ps h q (of_filter t ps q i)) more
    by more false = more

pub wanted_tails : (b : Book) (slices : List Slice) (i : ℕ) (plan : Plan) (wanted : Place → Bool) (tails : List Path) → HasPlan b plan → AreTails b slices i tails → TailsTo b slices i wanted (filter (ends_wanted plan.flights wanted) tails)
wanted_tails b slices i plan wanted tails k d = record {
  are = record { in_order = filter_order (ends_wanted plan.flights wanted) tails d.in_order; each = λ p j. (d.are p).0 (of_filter (ends_wanted plan.flights wanted) tails p j) };
  all = λ p fs t e. to_filter (ends_wanted plan.flights wanted) tails p ((d.are p).1 (fs, t)) (last_flight plan.flights wanted p.flights fs (known p fs t) e);
}
  where
    known : (p : Path) (fs : List Flight) → IsTail b slices i p.flights fs p.after → AreFlightsOf plan.flights p.flights fs
    known p fs t = subst (λ xs. AreFlightsOf xs p.flights fs) k.flights (flies_numbers b slices (Some (position_before b i t.slice None)) p.flights fs p.after t.path.flies)

-- where nothing is left, what was kept is the filter
pub all_kept : (t : Path → Bool) (some ps : List Path) (i : ℕ) → length ps ≤ i → some ++ filter t (drop i ps) ≡ filter t ps → some ≡ filter t ps
all_kept t some ps i le h = sym (append-nil some) ∙ ap (λ qs. some ++ filter t qs) (sym (none_left ps i le)) ∙ h
  where
    none_left : (qs : List Path) (n : ℕ) → length qs ≤ n → drop n qs ≡ []
    none_left [] zero k = refl
    none_left [] (suc n) k = refl
    none_left (q ∷ qs) zero k = absurd (omega (arith, k))
    none_left (q ∷ qs) (suc n) k = none_left qs n (omega (arith, k))

-- the next number, of a path that is kept, and of one that isn't
module _ (t : Path → Bool) (ps : List Path) (ns : List ℕ) (i : ℕ) (x : Path) (lt : i < length ps) (is : x ≡ get_or ps i x) where
  next_is : (c : Bool) → t x ≡ c → filter t (drop i ps) ≡ cond c (x ∷ filter t (drop (i + 1) ps)) (filter t (drop (i + 1) ps))
  next_is c e = ap (filter t) (drop_first ps i x lt ∙ ap (λ y. y ∷ drop (i + 1) ps) (sym is)) ∙ ap (λ k. cond k (x ∷ filter t (drop (i + 1) ps)) (filter t (drop (i + 1) ps))) e
    where
      drop_first : (qs : List Path) (n : ℕ) (d : Path) → n < length qs → drop n qs ≡ get_or qs n d ∷ drop (n + 1) qs
      drop_first [] n d h = absurd (omega (arith, h))
      drop_first (q ∷ qs) zero d h = refl
      drop_first (q ∷ qs) (suc n) d h = drop_first qs n d (omega (arith, h)) ∙ ap (λ k. get_or qs n d ∷ drop k (q ∷ qs)) (one_more n)
        where
          one_more : (k : ℕ) → suc (k + 1) ≡ suc k + 1
          one_more k = omega arith

  pub kept_next : t x ≡ true → chosen ps ns ++ filter t (drop i ps) ≡ filter t ps → chosen ps (ns ++ i ∷ []) ++ filter t (drop (i + 1) ps) ≡ filter t ps
  kept_next e h =
      ap (λ ys. ys ++ filter t (drop (i + 1) ps)) (chosen_both ps ns (i ∷ []) ∙ ap (λ ys. chosen ps ns ++ ys) (chosen_one ps i x (got_read ps i x lt ∙ ap Some (sym is))))
      ∙ append_assoc (chosen ps ns) (x ∷ []) (filter t (drop (i + 1) ps)) ∙ ap (λ ys. chosen ps ns ++ ys) (sym (next_is true e)) ∙ h

  pub left_next : t x ≡ false → chosen ps ns ++ filter t (drop i ps) ≡ filter t ps → chosen ps ns ++ filter t (drop (i + 1) ps) ≡ filter t ps
  left_next e h = ap (λ ys. chosen ps ns ++ ys) (sym (next_is false e)) ∙ h

  pub known_next : Each (λ n. n < length ps) ns → Each (λ n. n < length ps) (ns ++ i ∷ [])
  known_next h = each_append (λ n. n < length ps) ns (i ∷ []) h (lt, tt)
