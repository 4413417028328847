-- Dated numbers: their test, and flights whose numbers are all different.
use Rattle.std.proofs.Common.{◌≡◌, ◌||◌, Bool, true, false, cond, List, [], ◌∷◌, ◌++◌, map, Decides, refl, sym, ap, ap₂, ◌∙◌, subst, inl, inr}
use Rattle.std.specs.Cmp.{IsEquivalence}
use Rattle.std.specs.HashSet.{HashSet, contains}
use Rattle.std.specs.List.{IsDistinct, AllByRecursion, list_any}
use Rattle.std.proofs.lemmas.Bool.Decides.{Decides-like, Decides-and, Decides-eqb, Decides-int_eq, same_from_decides}
use Rattle.std.proofs.lemmas.List.{map-append}
use Rattle.std.proofs.lemmas.List.Folds.{list_any-append}
use Rattle.std.proofs.lemmas.Map.Keys.{IsDistinct-push, IsDistinct-head, IsDistinct-tail}
use Rattle.fare_law.specs.declared.flights.Flight.{Flight}
use Rattle.fare_law.specs.Lists.{IsIn}
use Rattle.schedule_book.specs.contracts.dated.DatedNumberPartialEq.TheImpl as dated
use Rattle.schedule_book.specs.declared.dated.DatedNumber.{DatedNumber}
use Rattle.schedule_book.specs.declared.dated.FlightName.{FlightName}
use Rattle.schedule_book.specs.Expansions.{AllDiffer, IsAmong, SeenAt, StillSeen, name_in, number_of}
use Rattle.fare_law.proofs.SameNames.{carriers_tell, places_tell}
use Rattle.law_lemmas.proofs.Members.{in_right}
use Rattle.law_lemmas.proofs.Tests.{not_true}

pub number_tells : (a b : DatedNumber) → Decides (dated.ghosts.eq a b) (a ≡ b)
number_tells a b =
    Decides-like _ (λ e. whole e.0 e.1.0 e.1.1.0 e.1.1.1) (λ e. (ap (λ x. x.carrier) e, (ap (λ x. x.number) e, (ap (λ x. x.from) e, ap (λ x. x.day) e))))
    (Decides-and _ _ (carriers_tell a.carrier b.carrier) (Decides-and _ _ (Decides-eqb a.number b.number) (Decides-and _ _ (places_tell a.from b.from) (Decides-int_eq a.day b.day))))
  where
    whole : a.carrier ≡ b.carrier → a.number ≡ b.number → a.from ≡ b.from → a.day ≡ b.day → a ≡ b
    whole x y z w = λ i. record { carrier = x i; number = y i; from = z i; day = w i }

abbrev pub same : DatedNumber → DatedNumber → Bool
same = dated.ghosts.eq

pub flips : (a b : DatedNumber) → same a b ≡ same b a
flips a b = same_from_decides (same a b) (same b a) (number_tells a b) (Decides-like _ (λ e. sym e) (λ e. sym e) (number_tells b a))

equivalence : IsEquivalence same
equivalence = record {
  refl = λ x. (number_tells x x).1 refl;
  symm = flips;
  congr = λ x y z e. ap (λ w. same w z) ((number_tells x y).0 e);
}

numbers_push : (flights : List Flight) (f : Flight) → map number_of (flights ++ f ∷ []) ≡ map number_of flights ++ number_of f ∷ []
numbers_push flights f = map-append number_of flights (f ∷ [])

any_push : (test : DatedNumber → Bool) (xs : List DatedNumber) (x : DatedNumber) → list_any test (xs ++ x ∷ []) ≡ list_any test xs || test x
any_push test [] x = or_none (test x)
  where
    or_none : (b : Bool) → b || false ≡ b
    or_none true = refl
    or_none false = refl
any_push test (y ∷ xs) x = by (test y) (any_push test xs x)
  where
    by : (b : Bool) → list_any test (xs ++ x ∷ []) ≡ list_any test xs || test x → b || list_any test (xs ++ x ∷ []) ≡ (b || list_any test xs) || test x
    by true h = refl
    by false h = h

pub flights_push : (flights : List Flight) (f : Flight) → AllDiffer same flights → list_any (same (number_of f)) (map number_of flights) ≡ false → AllDiffer same (flights ++ f ∷ [])
flights_push flights f d none = subst (IsDistinct same) (sym (numbers_push flights f)) (IsDistinct-push equivalence (map number_of flights) (number_of f) d none)

-- a flight whose key is known by an equation is added, and the key to what was seen
module _ {S : Type 0} (flights : List Flight) (f : Flight) (key : DatedNumber) (old new : HashSet DatedNumber S) (e : key ≡ number_of f) (u : (q : DatedNumber) → contains same new q ≡ cond (same key q) true (contains same old q)) where
  pub seen_key : StillSeen same flights old (flights ++ f ∷ []) new
  seen_key q h =
      u q ∙ by (same key q) (contains same old q) ∙ ap₂ (λ a b. a || b) h (ap (λ k. same k q) e ∙ flips (number_of f) q)
      ∙ sym (ap (list_any (same q)) (numbers_push flights f) ∙ any_push (same q) (map number_of flights) (number_of f))
    where
      by : (b o : Bool) → cond b true o ≡ o || b
      by true true = refl
      by true false = refl
      by false true = refl
      by false false = refl

  pub differ_key : AllDiffer same flights → SeenAt same flights old (number_of f) → contains same old key ≡ false → AllDiffer same (flights ++ f ∷ [])
  differ_key d h none = flights_push flights f d (sym h ∙ ap (contains same old) (sym e) ∙ none)

any_told : (flights : List Flight) (f : Flight) → list_any (same (number_of f)) (map number_of flights) ≡ true → IsAmong f flights
any_told [] f e = absurd (cc)
any_told (g ∷ flights) f e = by (any_told flights f) (same (number_of f) (number_of g)) refl e
  where
    by : (list_any (same (number_of f)) (map number_of flights) ≡ true → IsAmong f flights) → (b : Bool) → same (number_of f) (number_of g) ≡ b → b || list_any (same (number_of f)) (map number_of flights) ≡ true → IsAmong f (g ∷ flights)
    by rec true t h = (g, inl refl, sym ((number_tells (number_of f) (number_of g)).0 t))
    by rec false t h = let r = rec h in (r.0, inr r.1, r.2)

pub seen_among : {S : Type 0} (flights : List Flight) (f : Flight) (old : HashSet DatedNumber S) → SeenAt same flights old (number_of f) → contains same old (number_of f) ≡ true → IsAmong f flights
seen_among flights f old h t = any_told flights f (sym h ∙ t)

-- where no flight has the number, no test finds it
pub none_told : (flights : List Flight) (f : Flight) → (IsAmong f flights → ⊥) → list_any (same (number_of f)) (map number_of flights) ≡ false
none_told flights f other = not_true (list_any (same (number_of f)) (map number_of flights)) (λ t. other (any_told flights f t))

-- numbers of another name are as before where flights of a name are added
pub other_names : {S : Type 0} (old more new : List Flight) (seen : HashSet DatedNumber S) (name : FlightName) → new ≡ old ++ more → ((f : Flight) → IsIn f more → name_in (number_of f) ≡ name) → (q : DatedNumber) → (name_in q ≡ name → ⊥) → SeenAt same old seen q → SeenAt same new seen q
other_names old more new seen name e each q other h =
    h ∙ sym (ap (list_any (same q)) (ap (map number_of) e ∙ map-append number_of old more) ∙ list_any-append (same q) (map number_of old) (map number_of more) ∙ ap (λ b. list_any (same q) (map number_of old) || b) (none more each) ∙ or_none (list_any (same q) (map number_of old)))
  where
    or_none : (b : Bool) → b || false ≡ b
    or_none true = refl
    or_none false = refl

    none : (fs : List Flight) → ((f : Flight) → IsIn f fs → name_in (number_of f) ≡ name) → list_any (same q) (map number_of fs) ≡ false
    none [] k = refl
    none (f ∷ fs) k =
        ap (λ b. b || list_any (same q) (map number_of fs)) (not_true (same q (number_of f)) (λ t. other (ap name_in ((number_tells q (number_of f)).0 t) ∙ k f (inl refl))))
        ∙ none fs (λ g i. k g (inr i))

differs_from : (x : DatedNumber) (flights : List Flight) → AllByRecursion (λ y. same x y ≡ false) (map number_of flights) → (g : Flight) → IsIn g flights → x ≡ number_of g → ⊥
differs_from x [] a g i e = i
differs_from x (h ∷ flights) a g (inl s) e = clash ((number_tells x (number_of h)).1 (e ∙ ap number_of s)) a.0
  where
    clash : {b : Bool} → b ≡ true → b ≡ false → ⊥
    clash p q = cc
differs_from x (h ∷ flights) a g (inr i) e = differs_from x flights a.1 g i e

-- where all numbers differ, no flight of a front has the number of one after it
pub parts_differ : (xs ys : List Flight) → IsDistinct same (map number_of (xs ++ ys)) → (f g : Flight) → IsIn f xs → IsIn g ys → number_of f ≡ number_of g → ⊥
parts_differ [] ys d f g i j e = i
parts_differ (x ∷ xs) ys d f g (inl s) j e = differs_from (number_of x) (xs ++ ys) (IsDistinct-head same (number_of x) (map number_of (xs ++ ys)) d) g (in_right g xs ys j) (ap number_of (sym s) ∙ e)
parts_differ (x ∷ xs) ys d f g (inr i) j e = parts_differ xs ys (IsDistinct-tail same (number_of x) (map number_of (xs ++ ys)) d) f g i j e
