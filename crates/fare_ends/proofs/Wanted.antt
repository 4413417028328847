-- The tails whose ends are wanted.
use Rattle.std.proofs.Common.{◌≡◌, ◌≢◌, ◌⊎◌, ℕ, zero, suc, ◌+◌, ◌<◌, Bool, true, false, not, cond, ◌&&◌, ◌||◌, List, [], ◌∷◌, ◌++◌, length, slice_get, Option, Some, None, unwrap_or, refl, sym, ap, subst, ◌∙◌, inl, inr, arith}
use Rattle.fare_ends.specs.Reaches.{HasNoFares}
use Rattle.fare_ends.specs.Tails.{AreEndsOf, AreNumbersTo, AreTailsFrom, AreTailsOver, AreWanted, EndsAt, SamePlan}
use Rattle.fare_ends.specs.NumberedFlights.{EndsWith}
use Rattle.fare_law.specs.contracts.names.PlacePartialEq.TheImpl as place
use Rattle.fare_law.specs.declared.flights.Flight.{Flight}
use Rattle.fare_law.specs.declared.names.Place.{Place}
use Rattle.fare_law.specs.declared.requests.Request.{Request}
use Rattle.fare_law.specs.Book.{Book}
use Rattle.fare_law.specs.Lists.{Each, EachPair, IsIn, IsPrefix, Matched, OnLast}
use Rattle.fare_law.specs.Parts.{Numbers}
use Rattle.fare_law.proofs.SameNames.{places_tell}
use Rattle.flight_paths.specs.declared.positions.Path.{Path}
use Rattle.flight_paths.specs.Heads.{EndWanted, IsTail, chosen, put_one}
use Rattle.flight_paths.specs.Paths.{Precedes}
use Rattle.flight_paths.specs.Positions.{position_before}
use Rattle.flight_paths.proofs.Cutting.{some_flights}
use Rattle.residual_keys.proofs.Runs.{flies_numbers}
use Rattle.law_lemmas.proofs.EachOne.{each_by, each_in, each_more}
use Rattle.law_lemmas.proofs.LawFacts.{on_last_to}
use Rattle.law_lemmas.proofs.Lists.{got_left, got_within, prefix_self}
use Rattle.law_lemmas.proofs.Members.{got_in, in_got, in_left, in_one, in_right}
use Rattle.law_lemmas.proofs.Options.{some_one}
use Rattle.law_lemmas.proofs.Pairs.{matched_more, pairs_append}
use Rattle.law_lemmas.proofs.Words.{less_trans}

-- where each is related to the next, each is to all later ones
module _ {X : Type 0} (R : X → X → Type 0) (trans : (x y z : X) → R x y → R y z → R x z) where
  first_of_all : (x : X) (xs : List X) → EachPair R (x ∷ xs) → (y : X) → IsIn y xs → R x y
  first_of_all x [] h y i = absurd i
  first_of_all x (z ∷ xs) h y (inl e) = subst (R x) (sym e) h.0
  first_of_all x (z ∷ xs) h y (inr i) = trans x z y h.0 (first_of_all z xs h.1 y i)

  rest_of : (x : X) (xs : List X) → EachPair R (x ∷ xs) → EachPair R xs
  rest_of x [] h = tt
  rest_of x (y ∷ xs) h = h.1

  later : (xs : List X) (m n : ℕ) (x y : X) → EachPair R xs → m < n → slice_get xs m ≡ Some x → slice_get xs n ≡ Some y → R x y
  later [] m n x y h lt e k = absurd (cc)
  later (z ∷ xs) m zero x y h lt e k = absurd (omega (arith, lt))
  later (z ∷ xs) zero (suc n) x y h lt e k = let same : z ≡ x = cc in subst (λ w. R w y) same (first_of_all z xs h y (got_in xs n y k))
  later (z ∷ xs) (suc m) (suc n) x y h lt e k = later xs m n x y (rest_of z xs h) (omega (arith, lt)) e k

put_first : {X : Type 0} (R : X → X → Type 0) (x : X) (xs : List X) → ((y : X) → IsIn y xs → R x y) → EachPair R xs → EachPair R (x ∷ xs)
put_first R x [] h k = tt
put_first R x (y ∷ xs) h k = (h y (inl refl), k)

-- the paths of numbers
of_chosen : (ps : List Path) (ns : List ℕ) (p : Path) → IsIn p (chosen ps ns) → (n : ℕ) × IsIn n ns × (slice_get ps n ≡ Some p)
of_chosen ps [] p i = absurd i
of_chosen ps (n ∷ ns) p i = by (of_chosen ps ns p) (slice_get ps n) refl i
  where
    by : (IsIn p (chosen ps ns) → (m : ℕ) × IsIn m ns × (slice_get ps m ≡ Some p)) → (o : Option Path) → slice_get ps n ≡ o → IsIn p (put_one o (chosen ps ns)) → (m : ℕ) × IsIn m (n ∷ ns) × (slice_get ps m ≡ Some p)
    by more None e j = let r = more j in (r.0, inr r.1, r.2)
    by more (Some q) e (inl same) = (n, inl refl, e ∙ ap Some (sym same))
    by more (Some q) e (inr j) = let r = more j in (r.0, inr r.1, r.2)

to_chosen : (ps : List Path) (ns : List ℕ) (n : ℕ) (p : Path) → IsIn n ns → slice_get ps n ≡ Some p → IsIn p (chosen ps ns)
to_chosen ps [] n p i e = absurd i
to_chosen ps (m ∷ ns) n p (inl same) e = subst (λ o. IsIn p (put_one o (chosen ps ns))) (sym (ap (slice_get ps) (sym same) ∙ e)) (inl refl)
to_chosen ps (m ∷ ns) n p (inr i) e = by (slice_get ps m) (to_chosen ps ns n p i e)
  where
    by : (o : Option Path) → IsIn p (chosen ps ns) → IsIn p (put_one o (chosen ps ns))
    by None j = j
    by (Some q) j = inr j

abbrev Before : Path → Path → Type 0
Before p q = Precedes p.flights q.flights

before_trans : (p q r : Path) → Before p q → Before q r → Before p r
before_trans p q r (inl a) (inl c) = inl (omega (arith, a, c))
before_trans p q r (inl a) (inr c) = inl (omega (arith, a, c.0))
before_trans p q r (inr a) (inl c) = inl (omega (arith, a.0, c))
before_trans p q r (inr a) (inr c) = inr (a.0 ∙ c.0, less_trans p.flights q.flights r.flights a.1 c.1)

abbrev Below : ℕ → ℕ → Type 0
Below m n = m < n

below_trans : (m n k : ℕ) → Below m n → Below n k → Below m k
below_trans m n k a b = omega (arith, a, b)

-- stand as the numbers do
chosen_order : (ps : List Path) (ns : List ℕ) → EachPair Before ps → EachPair Below ns → EachPair Before (chosen ps ns)
chosen_order ps [] h k = tt
chosen_order ps (n ∷ ns) h k = by (slice_get ps n) refl (chosen_order ps ns h (rest_of Below below_trans n ns k))
  where
    by : (o : Option Path) → slice_get ps n ≡ o → EachPair Before (chosen ps ns) → EachPair Before (put_one o (chosen ps ns))
    by None e more = more
    by (Some p) e more = put_first Before p (chosen ps ns) (λ q i.
        let r = of_chosen ps ns q i in
        later Before before_trans ps n r.0 p q h (first_of_all Below below_trans n ns k r.0 r.1) e r.2) more

below_or_last : (n at : ℕ) → n < at + 1 → (n < at) ⊎ (n ≡ at)
below_or_last zero zero lt = inr refl
below_or_last zero (suc at) lt = inl (omega arith)
below_or_last (suc n) zero lt = absurd (omega (arith, lt))
below_or_last (suc n) (suc at) lt = elim (below_or_last n at (omega (arith, lt))) [ inl h ↦ inl (omega (arith, h)) | inr e ↦ inr (ap suc e) ]

module _ (wanted : List Bool) (ends : List ℕ) where
  -- these are the numbers before a place, in order, and among them is each whose end is wanted
  pub record AreBefore (at : ℕ) (numbers : List ℕ) : Type 0 where
    pub in_order : EachPair (λ m n. m < n) numbers
    pub within : Each (λ n. n < at) numbers
    pub all : (n end : ℕ) → n < at → slice_get ends n ≡ Some end → slice_get wanted end ≡ Some true → IsIn n numbers

  pub one_kept : (at : ℕ) (numbers : List ℕ) → AreBefore at numbers → AreBefore (at + 1) (numbers ++ at ∷ [])
  one_kept at numbers h = record {
    in_order = pairs_append (λ m n. m < n) numbers (at ∷ []) h.in_order tt (λ m n i j. subst (λ k. m < k) (sym (in_one n at j)) (each_in (λ k. k < at) numbers m h.within i));
    within = each_more (λ n. n < at + 1) numbers at (each_by (λ n. n < at) (λ n. n < at + 1) numbers (λ n lt. omega (arith, lt)) h.within) (omega arith);
    all = λ n end lt e w. elim (below_or_last n at lt) [ inl k ↦ in_left n numbers (at ∷ []) (h.all n end k e w) | inr k ↦ in_right n numbers (at ∷ []) (inl k) ];
  }

  pub one_left : (at here : ℕ) (numbers : List ℕ) → slice_get ends at ≡ Some here → unwrap_or (slice_get wanted here) false ≡ false → AreBefore at numbers → AreBefore (at + 1) numbers
  one_left at here numbers stands not_here h = record {
    in_order = h.in_order;
    within = each_by (λ n. n < at) (λ n. n < at + 1) numbers (λ n lt. omega (arith, lt)) h.within;
    all = λ n end lt e w. elim (below_or_last n at lt) [ inl k ↦ h.all n end k e w | inr k ↦ absurd (never end (ap (slice_get ends) (sym k) ∙ e) w) ];
  }
    where
      never : (end : ℕ) → slice_get ends at ≡ Some end → slice_get wanted end ≡ Some true → ⊥
      never end e w =
          let same : here ≡ end = some_one (slice_get ends at) here end stands e in
          let yes : unwrap_or (slice_get wanted here) false ≡ true = ap (λ n. unwrap_or (slice_get wanted n) false) same ∙ ap (λ o. unwrap_or o false) w in
          let no : false ≡ true = sym not_here ∙ yes in
          absurd (cc)

  pub all_before : (at : ℕ) (numbers : List ℕ) → at ≡ length ends → AreBefore at numbers → AreNumbersTo wanted ends numbers
  all_before at numbers is h = record {
    in_order = h.in_order;
    within = subst (λ k. Each (λ n. n < k) numbers) is h.within;
    all = λ n end e w. h.all n end (subst (λ k. n < k) (sym is) (got_within ends n end e)) e w;
  }

-- elements that match, at a place
pub matched_at : {X Y : Type 0} (R : X → Y → Type 0) (xs : List X) (ys : List Y) (n : ℕ) (x : X) → Matched R xs ys → slice_get xs n ≡ Some x → (y : Y) × (slice_get ys n ≡ Some y) × R x y
matched_at R [] ys n x h e = absurd (cc)
matched_at R (z ∷ xs) [] n x h e = absurd h
matched_at R (z ∷ xs) (y ∷ ys) zero x h e = let same : z ≡ x = cc in (y, refl, subst (λ w. R w y) same h.0)
matched_at R (z ∷ xs) (y ∷ ys) (suc n) x h e = matched_at R xs ys n x h.1 e

matched_by : {X Y : Type 0} (R S : X → Y → Type 0) (xs : List X) (ys : List Y) → ((x : X) (y : Y) → R x y → S x y) → Matched R xs ys → Matched S xs ys
matched_by R S [] [] f h = tt
matched_by R S [] (y ∷ ys) f h = absurd h
matched_by R S (x ∷ xs) [] f h = absurd h
matched_by R S (x ∷ xs) (y ∷ ys) f h = (f x y h.0, matched_by R S xs ys f h.1)

-- where one more tail ends
pub ends_more : (b : Book) (tails : List Path) (tail : Path) (old new : List Place) (ends more : List ℕ) (end : ℕ)
    → IsPrefix old new → more ≡ ends ++ end ∷ [] → ((fs : List Flight) → Numbers b tail.flights fs → fs ≢ [] → EndsAt new end fs) → AreEndsOf b tails old ends → AreEndsOf b (tails ++ tail ∷ []) new more
ends_more b tails tail old new ends more end p e own h = subst (AreEndsOf b (tails ++ tail ∷ []) new) (sym e) (matched_more (Ends new) tails ends tail end (matched_by (Ends old) (Ends new) tails ends on h) own)
  where
    Ends : List Place → Path → ℕ → Type 0
    Ends places t n = (fs : List Flight) → Numbers b t.flights fs → fs ≢ [] → EndsAt places n fs

    on : (t : Path) (n : ℕ) → Ends old t n → Ends new t n
    on t n k fs m some = let x = k fs m some in record { place = x.place; stands = ap (λ l. slice_get l n) p.1 ∙ got_left old p.0 n x.place x.stands; ends = x.ends }

-- a tail with this last flight ends at the place that is equal to where the flight arrives, and one without a last flight has no flights
pub ends_there : (b : Book) (ns : List ℕ) (last : Flight) (places : List Place) (end : ℕ) (there : Place) → EndsWith b ns last → slice_get places end ≡ Some there → place.ghosts.eq last.to there ≡ true → (fs : List Flight) → Numbers b ns fs → fs ≢ [] → EndsAt places end fs
ends_there b ns last places end there ends stands is fs m some = record {
  place = there;
  stands = stands;
  ends = on_last_to (λ f. f ≡ last) (λ f. f.to ≡ there) fs (λ f e. ap (λ (x : Flight). x.to) e ∙ (places_tell last.to there).0 is) (ends fs m);
}

pub never_ends : (b : Book) (ns : List ℕ) (places : List Place) (end : ℕ) → ((fs : List Flight) → Numbers b ns fs → ns ≢ [] → ⊥) → (fs : List Flight) → Numbers b ns fs → fs ≢ [] → EndsAt places end fs
never_ends b [] places end none [] m some = absurd (some refl)
never_ends b [] places end none (f ∷ fs) m some = absurd m
never_ends b (n ∷ ns) places end none fs m some = absurd (none fs m (λ e. cc))

pub inserted : (b : Bool) (places : List Place) (one : Place) → IsPrefix places (cond b places (places ++ one ∷ []))
inserted true places one = prefix_self places
inserted false places one = (one ∷ [], refl)

-- a place is not wanted that is one of these, and known to be none
abbrev wanted_by : List Place → List Bool → Place → Bool
wanted_by [] ws p = true
wanted_by (x ∷ xs) [] p = true
wanted_by (x ∷ xs) (w ∷ ws) p = (not (place.ghosts.eq x p) || w) && wanted_by xs ws p

no_fares : (b : Book) (from : Place) (xs : List Place) (ws : List Bool) (p : Place) → AreWanted b from xs ws → wanted_by xs ws p ≡ false → HasNoFares b from p
no_fares b from [] ws p h e = absurd (cc)
no_fares b from (x ∷ xs) [] p h e = absurd h
no_fares b from (x ∷ xs) (w ∷ ws) p h e = by (no_fares b from xs ws p h.1) (place.ghosts.eq x p) refl w h.0 e
  where
    by : (wanted_by xs ws p ≡ false → HasNoFares b from p) → (same : Bool) → place.ghosts.eq x p ≡ same → (flag : Bool) → (flag ≡ false → HasNoFares b from x) → ((not same || flag) && wanted_by xs ws p) ≡ false → HasNoFares b from p
    by more true is true none k = more k
    by more true is false none k = subst (HasNoFares b from) ((places_tell x p).0 is) (none refl)
    by more false is flag none k = more k

unwanted : (xs : List Place) (ws : List Bool) (n : ℕ) (p : Place) → slice_get xs n ≡ Some p → slice_get ws n ≡ Some false → wanted_by xs ws p ≡ false
unwanted [] ws n p e k = absurd (cc)
unwanted (x ∷ xs) [] n p e k = absurd (cc)
unwanted (x ∷ xs) (w ∷ ws) zero p e k =
    let same : x ≡ p = cc in
    let none : w ≡ false = cc in
    ap (λ s. (not s || w) && wanted_by xs ws p) ((places_tell x p).1 same) ∙ ap (λ f. f && wanted_by xs ws p) none
unwanted (x ∷ xs) (w ∷ ws) (suc n) p e k = ap (λ r. (not (place.ghosts.eq x p) || w) && r) (unwanted xs ws n p e k) ∙ none (not (place.ghosts.eq x p) || w)
  where
    none : (t : Bool) → (t && false) ≡ false
    none true = refl
    none false = refl

-- flights that end at a wanted place, and at this place
end_wanted : (wanted : Place → Bool) (p : Place) (fs : List Flight) → EndWanted wanted fs → OnLast (λ f. f.to ≡ p) fs → wanted p ≡ true
end_wanted wanted p [] h k = absurd h
end_wanted wanted p (f ∷ []) h k = ap wanted (sym k) ∙ h
end_wanted wanted p (f ∷ g ∷ fs) h k = end_wanted wanted p (g ∷ fs) h k

-- the tails of the numbers of wanted ends are those that a place needs
module _ (b : Book) (q : Request) (from : Place) (slice : ℕ) (tails : List Path) (places : List Place) (ends : List ℕ) (wanted : List Bool) (numbers : List ℕ)
    (are : AreEndsOf b tails places ends) (told : AreWanted b from places wanted) (those : AreNumbersTo wanted ends numbers) where
  among : (p : Path) (fs : List Flight) → Numbers b p.flights fs → fs ≢ [] → EndWanted (wanted_by places wanted) fs → IsIn p tails → IsIn p (chosen tails numbers)
  among p fs m some w i =
      let at = in_got tails p i in
      let end = matched_at (λ (t : Path) end. (fs : List Flight) → Numbers b t.flights fs → fs ≢ [] → EndsAt places end fs) tails ends at.0 p are at.1 in
      let there = end.2 fs m some in
      let flag = matched_at (λ end w. w ≡ false → HasNoFares b from end) places wanted end.0 there.place told there.stands in
      to_chosen tails numbers at.0 p (those.all at.0 end.0 end.1 (yes end.0 there flag.0 flag.1 refl)) at.1
    where
      yes : (end : ℕ) (there : EndsAt places end fs) (flag : Bool) → slice_get wanted end ≡ Some flag → slice_get wanted end ≡ slice_get wanted end → slice_get wanted end ≡ Some true
      yes end there true e k = e
      yes end there false e k = let never : true ≡ false = sym (end_wanted (wanted_by places wanted) there.place fs w there.ends) ∙ unwanted places wanted end there.place there.stands e in absurd (cc)

  pub tails_from : AreTailsOver b q.slices slice tails → AreTailsFrom b q from slice (chosen tails numbers)
  tails_from over = record {
    wanted = wanted_by places wanted;
    tails_to = λ c same.
        let d = over c same.places same.flights in
        record {
          are = record { in_order = chosen_order tails numbers d.in_order those.in_order; each = λ p i. (d.are p).0 (let r = of_chosen tails numbers p i in got_in tails r.0 p r.2) };
          all = λ p fs t e. among p fs (flown c same p fs t) (some_flights c q.slices (Some (position_before c slice t.slice None)) p.flights fs p.after t.path.some t.path.flies) e ((d.are p).1 (fs, t));
        };
    others = λ p e. no_fares b from places wanted p told e;
  }
    where
      flown : (c : Book) → SamePlan c b → (p : Path) (fs : List Flight) → IsTail c q.slices slice p.flights fs p.after → Numbers b p.flights fs
      flown c same p fs t = subst (λ xs. Matched (λ n f. slice_get xs n ≡ Some f) p.flights fs) same.flights (flies_numbers c q.slices (Some (position_before c slice t.slice None)) p.after p.flights fs t.path.flies)
