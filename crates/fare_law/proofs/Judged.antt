-- Requests that no reason refuses, and requests within their limits. Given on to the crates above.
use Rattle.std.proofs.Common.{◌≡◌, ℕ, ℤ, pos, ◌≤ℤ◌, Bool, true, false, not, ◌&&◌, nat_le, int_le, List, [], ◌∷◌, length, refl, ap, sym, ◌∙◌, subst, Option, None, inl, inr, arith}
use Rattle.std.specs.Int.{IsInRange}
use Rattle.std.specs.List.{list_all}
use Rattle.std.specs.Cmp.Lexicographic.{bytes_decides}
use Rattle.std.proofs.lemmas.Bool.{and_parts, and_from, or_cases, leb-true, le-leb}
use Rattle.std.proofs.lemmas.Int.{ints}
use Rattle.fare_law.specs.declared.names.Place.{Place}
use Rattle.fare_law.specs.declared.requests.Request.{Request}
use Rattle.fare_law.specs.declared.requests.Slice.{Slice}
use Rattle.fare_law.specs.declared.requests.Why.{Why}
use Rattle.fare_law.specs.declared.requests.Why.TheVariants.{Slices, Party, Best, Window, SamePlace, UnknownPlace}
use Rattle.fare_law.specs.Book.{same_place}
use Rattle.fare_law.specs.Days.{IsCalendarDay}
use Rattle.fare_law.specs.Limits.{EndsDiffer, IsPlace, IsRequest, IsSlice}
use Rattle.fare_law.specs.Lists.{Each}
use Rattle.fare_law.specs.Requests.{NamesPlaces, are_known, by_limits, departs, has_window, in_century, is_known, judged, judged_alone, required, within}

-- what is required holds where no reason is left
holds : (test : Bool) (why : Why) (next : Option Why) → required test why next ≡ None → (test ≡ true) × (next ≡ None)
holds true why next e = (refl, e)
holds false why next e = absurd (cc)

passes : (test : Bool) (why : Why) (next : Option Why) → test ≡ true → next ≡ None → required test why next ≡ None
passes test why next e h = ap (λ t. required t why next) e ∙ h

each_of : {A : Type 0} (test : A → Bool) (P : A → Type 0) → ((x : A) → test x ≡ true → P x) → (xs : List A) → list_all test xs ≡ true → Each P xs
each_of test P f [] e = tt
each_of test P f (x ∷ xs) e = let h = and_parts (test x) (list_all test xs) e in (f x h.0, each_of test P f xs h.1)

all_of : {A : Type 0} (test : A → Bool) (P : A → Type 0) → ((x : A) → P x → test x ≡ true) → (xs : List A) → Each P xs → list_all test xs ≡ true
all_of test P f [] h = refl
all_of test P f (x ∷ xs) h = and_from _ _ (f x h.0) (all_of test P f xs h.1)

each_with : {A : Type 0} (P : A → Type 0) (test : A → Bool) (Q : A → Type 0) → ((x : A) → P x → test x ≡ true → Q x) → (xs : List A) → Each P xs → list_all test xs ≡ true → Each Q xs
each_with P test Q f [] h e = tt
each_with P test Q f (x ∷ xs) h e = let t = and_parts (test x) _ e in (f x h.0 t.0, each_with P test Q f xs h.1 t.1)

int_le_is : (x y : ℤ) → int_le x y ≡ true → x ≤ℤ y
int_le_is x y h = grind (arith, ints)

le_int_le : (x y : ℤ) → x ≤ℤ y → int_le x y ≡ true
le_int_le x y h = grind (arith, ints)

same_place_is : (p q : Place) → same_place p q ≡ true → p ≡ q
same_place_is p q h = let e : p.0 ≡ q.0 = (bytes_decides p.0 q.0).0 h in ap {B = Place} (λ xs. record { 0 = xs }) e

same_place_self : (p q : Place) → p ≡ q → same_place p q ≡ true
same_place_self p q e = (bytes_decides p.0 q.0).1 (ap (λ x. x.0) e)

in_range : (low high n : ℕ) → within low high n ≡ true → IsInRange low high n
in_range low high n e = let h = and_parts (nat_le low n) _ e in (leb-true _ _ h.0, leb-true _ _ h.1)

ranged : (low high n : ℕ) → IsInRange low high n → within low high n ≡ true
ranged low high n h = and_from _ _ (le-leb _ _ h.0) (le-leb _ _ h.1)

calendar : (d : ℤ) → in_century d ≡ true → IsCalendarDay d
calendar d e = let h = and_parts (int_le (pos 10957) d) _ e in (int_le_is _ _ h.0, int_le_is _ _ h.1)

dated : (d : ℤ) → IsCalendarDay d → in_century d ≡ true
dated d h = and_from _ _ (le_int_le _ _ h.0) (le_int_le _ _ h.1)

leaves : (s : Slice) → departs s ≡ true → EndsDiffer s
leaves s e same = let t = same_place_self s.from s.to same in absurd (cc)

not_true : (b : Bool) → (b ≡ true → ⊥) → not b ≡ true
not_true true h = absurd (h refl)
not_true false h = refl

apart : (s : Slice) → EndsDiffer s → departs s ≡ true
apart s h = not_true (same_place s.from s.to) (λ e. h (same_place_is s.from s.to e))

windowed : (s : Slice) → NamesPlaces s → has_window s ≡ true → IsSlice s
windowed s h e = let w = and_parts (in_century s.first) _ e in record { from = h.0; to = h.1; first = calendar s.first w.0; days = in_range 1 7 s.days w.1 }

in_window : (s : Slice) → IsSlice s → has_window s ≡ true
in_window s h = and_from _ _ (dated s.first h.first) (ranged 1 7 s.days h.days)

-- what the first five reasons leave open, and what comes after them
record Allowed (q : Request) (next : Option Why) : Type 0 where
  count : within 1 6 (length q.slices) ≡ true
  party : within 1 9 q.party ≡ true
  best : within 1 1000 q.best ≡ true
  sale : in_century q.sale ≡ true
  windows : list_all has_window q.slices ≡ true
  departing : list_all departs q.slices ≡ true
  after : next ≡ None

allowed : (q : Request) (next : Option Why) → by_limits q next ≡ None → Allowed q next
allowed q next e =
    let a = holds (within 1 6 (length q.slices)) Slices _ e in
    let b = holds (within 1 9 q.party) Party _ a.1 in
    let c = holds (within 1 1000 q.best) Best _ b.1 in
    let d = holds (in_century q.sale && list_all has_window q.slices) Window _ c.1 in
    let f = holds (list_all departs q.slices) SamePlace next d.1 in
    let w = and_parts (in_century q.sale) _ d.0 in
    record { count = a.0; party = b.0; best = c.0; sale = w.0; windows = w.1; departing = f.0; after = f.1 }

within_limits : (q : Request) (next : Option Why) → Each NamesPlaces q.slices → Allowed q next → IsRequest q
within_limits q next h a = record {
  sale = calendar q.sale a.sale;
  party = in_range 1 9 q.party a.party;
  best = in_range 1 1000 q.best a.best;
  count = in_range 1 6 (length q.slices) a.count;
  windows = each_with NamesPlaces has_window IsSlice windowed q.slices h a.windows;
  departs = each_of departs EndsDiffer leaves q.slices a.departing;
}

pub judged_within : (q : Request) → Each NamesPlaces q.slices → judged_alone q ≡ None → IsRequest q
judged_within q h e = within_limits q None h (allowed q None e)

pub within_judged : (q : Request) → IsRequest q → judged_alone q ≡ None
within_judged q h =
    passes _ Slices _ (ranged 1 6 (length q.slices) h.count)
    (passes _ Party _ (ranged 1 9 q.party h.party)
    (passes _ Best _ (ranged 1 1000 q.best h.best)
    (passes _ Window _ (and_from _ _ (dated q.sale h.sale) (all_of has_window IsSlice in_window q.slices h.windows))
    (passes _ SamePlace None (all_of departs EndsDiffer apart q.slices h.departs) refl))))

known_place : (places : List Place) (p : Place) → Each IsPlace places → is_known places p ≡ true → IsPlace p
known_place [] p h e = absurd (cc)
known_place (q ∷ qs) p h e = elim (or_cases (same_place p q) (is_known qs p) e) [
  | inl one ↦ subst IsPlace (sym (same_place_is p q one)) h.0
  | inr more ↦ known_place qs p h.1 more
]

named : (places : List Place) → Each IsPlace places → (s : Slice) → are_known places s ≡ true → NamesPlaces s
named places h s e = let k = and_parts (is_known places s.from) _ e in (known_place places s.from h k.0, known_place places s.to h k.1)

pub known_within : (places : List Place) (q : Request) → Each IsPlace places → judged places q ≡ None → IsRequest q
known_within places q h e =
    let a = allowed q (required (list_all (are_known places) q.slices) UnknownPlace None) e in
    let k = holds (list_all (are_known places) q.slices) UnknownPlace None a.after in
    within_limits q _ (each_of (are_known places) NamesPlaces (named places h) q.slices k.0) a
