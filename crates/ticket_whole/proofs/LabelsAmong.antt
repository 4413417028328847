-- Labels among others: whether they come, which is the greatest, and how many stand on both sides of a boundary. Given on to the crates above.
use Rattle.std.proofs.Common.{◌≡◌, ◌≢◌, ◌⊎◌, ◌↔◌, ◌<◌, ◌≤◌, ◌+◌, ◌==◌, ◌++◌, ◌∙◌, ℕ, zero, suc, true, false, List, [], ◌∷◌, length, map, take, get_or, refl, ap, sym, subst, inl, inr, arith}
use Rattle.std.specs.List.{Any, slice_index_or}
use Rattle.std.proofs.lemmas.Bool.{cases_order}
use Rattle.std.proofs.lemmas.Bool.Decides.{Decides-eqb}
use Rattle.std.proofs.lemmas.List.{take_all}
use Rattle.fare_law.specs.declared.tickets.Component.{Component}
use Rattle.fare_law.specs.Lawful.{comes_in, StandsOnBothSides}
use Rattle.fare_law.specs.Lists.{Each, AllDifferent}
use Rattle.ticket_whole.specs.Boundaries.{AtMostTwo}
use Rattle.ticket_whole.proofs.LabelTurns.{or_split, or_left, or_right, comes_more}
use Rattle.law_lemmas.proofs.EachOne.{each_more}
use Rattle.law_lemmas.proofs.Lists.{front_at}

come_at : (u : ℕ) (ls : List ℕ) (k x : ℕ) → k < length ls → slice_index_or ls k x ≡ x → u ≡ x → comes_in u ls ≡ true
come_at u [] k x lt e is = absurd (omega (arith, lt))
come_at u (l ∷ ls) zero x lt e is = or_left (u == l) (comes_in u ls) ((Decides-eqb u l).1 (is ∙ sym e))
come_at u (l ∷ ls) (suc k) x lt e is = or_right (u == l) (comes_in u ls) (come_at u ls k x (omega (arith, lt)) e is)

any_come : (u : ℕ) (ls : List ℕ) → comes_in u ls ≡ true → Any (λ l. u ≡ l) ls
any_come u [] h = absurd (cc)
any_come u (l ∷ ls) h = elim (or_split (u == l) (comes_in u ls) h) [
  | inl e ↦ (0, l, omega arith, refl, (Decides-eqb u l).0 e)
  | inr f ↦ let k = any_come u ls f in (suc k.0, k.1, omega (arith, k.2), k.3, k.4)
]

-- a label comes exactly where one of them is it
pub comes_told : (u : ℕ) (ls : List ℕ) → Any (λ l. u ≡ l) ls ↔ (comes_in u ls ≡ true)
comes_told u ls = (λ h. come_at u ls h.0 h.1 h.2 h.3 h.4, any_come u ls)

pub label_at : (u : ℕ) (cs : List Component) (k : ℕ) (x : Component) → k < length cs → slice_index_or cs k x ≡ x → x.unit ≡ u → comes_in u (map (λ c. c.unit) cs) ≡ true
label_at u [] k x lt e is = absurd (omega (arith, lt))
label_at u (c ∷ cs) zero x lt e is = or_left (u == c.unit) (comes_in u (map (λ (y : Component). y.unit) cs)) ((Decides-eqb u c.unit).1 (sym (ap (λ (y : Component). y.unit) e ∙ is)))
label_at u (c ∷ cs) (suc k) x lt e is = or_right (u == c.unit) (comes_in u (map (λ (y : Component). y.unit) cs)) (label_at u cs k x (omega (arith, lt)) e is)

pub some_label : (u : ℕ) (cs : List Component) → comes_in u (map (λ c. c.unit) cs) ≡ true → Any (λ c. c.unit ≡ u) cs
some_label u [] h = absurd (cc)
some_label u (c ∷ cs) h = elim (or_split (u == c.unit) (comes_in u (map (λ (y : Component). y.unit) cs)) h) [
  | inl e ↦ (0, c, omega arith, refl, sym ((Decides-eqb u c.unit).0 e))
  | inr f ↦ let k = some_label u cs f in (suc k.0, k.1, omega (arith, k.2), k.3, k.4)
]

-- a label comes exactly where a component has it
pub label_told : (u : ℕ) (cs : List Component) → Any (λ c. c.unit ≡ u) cs ↔ (comes_in u (map (λ c. c.unit) cs) ≡ true)
label_told u cs = (λ h. label_at u cs h.0 h.1 h.2 h.3 h.4, some_label u cs)

-- What is found of the labels on both sides, among the first i of those before the boundary.
pub record Found (before after found : List ℕ) (i : ℕ) : Type 0 where
  pub few : length found ≤ 2
  pub apart : AllDifferent found
  pub both : Each (StandsOnBothSides before after) found
  pub all : (u : ℕ) → comes_in u (take i before) ≡ true → comes_in u after ≡ true → comes_in u found ≡ true

last_or_before : (before : List ℕ) (i u : ℕ) → i < length before → comes_in u (take (i + 1) before) ≡ true → (comes_in u (take i before) ≡ true) ⊎ (u ≡ get_or before i 0)
last_or_before before i u lt h = (comes_more u (get_or before i 0) (take i before)).0 (subst (λ ls. comes_in u ls ≡ true) (front_at before i 0 lt) h)

-- a label that comes after the boundary no more, or is found already, adds nothing
pub found_skip : (before after found : List ℕ) (i : ℕ) → i < length before → (comes_in (get_or before i 0) after ≡ true → comes_in (get_or before i 0) found ≡ true) → Found before after found i → Found before after found (i + 1)
found_skip before after found i lt old h = record {
  few = h.few;
  apart = h.apart;
  both = h.both;
  all = λ u c k. elim (last_or_before before i u lt c) [ inl e ↦ h.all u e k | inr e ↦ subst (λ v. comes_in v found ≡ true) (sym e) (old (subst (λ v. comes_in v after ≡ true) e k)) ];
}

come_got : (before : List ℕ) (i : ℕ) → i < length before → comes_in (get_or before i 0) before ≡ true
come_got [] i lt = absurd (omega (arith, lt))
come_got (l ∷ ls) zero lt = or_left (l == l) (comes_in l ls) ((Decides-eqb l l).1 refl)
come_got (l ∷ ls) (suc i) lt = or_right (get_or ls i 0 == l) (comes_in (get_or ls i 0) ls) (come_got ls i (omega (arith, lt)))

different_more : (found : List ℕ) (l : ℕ) → AllDifferent found → (comes_in l found ≡ true → ⊥) → AllDifferent (found ++ l ∷ [])
different_more [] l h new = (tt, tt)
different_more (x ∷ found) l h new = (
  each_more (λ y. x ≢ y) found l h.0 (λ e. new (or_left (l == x) (comes_in l found) ((Decides-eqb l x).1 (sym e)))),
  different_more found l h.1 (λ c. new (or_right (l == x) (comes_in l found) c)),
)

length_end : (found : List ℕ) (l : ℕ) → length (found ++ l ∷ []) ≡ length found + 1
length_end [] l = refl
length_end (x ∷ found) l = omega (arith, length_end found l)

-- a new label on both sides is added
pub found_more : (before after found : List ℕ) (i : ℕ) → i < length before → comes_in (get_or before i 0) after ≡ true → (comes_in (get_or before i 0) found ≡ true → ⊥) → length found < 2 → Found before after found i → Found before after (found ++ get_or before i 0 ∷ []) (i + 1)
found_more before after found i lt later new room h = record {
  few = omega (arith, room, length_end found (get_or before i 0));
  apart = different_more found (get_or before i 0) h.apart new;
  both = each_more (StandsOnBothSides before after) found (get_or before i 0) h.both (come_got before i lt, later);
  all = λ u c k. elim (last_or_before before i u lt c) [ inl e ↦ (comes_more u (get_or before i 0) found).1 (inl (h.all u e k)) | inr e ↦ (comes_more u (get_or before i 0) found).1 (inr e) ];
}

one_less : (a b : ℕ) → a ≢ b → (a < b) ⊎ (b < a)
one_less a b ne = elim (cases_order a b) [ inl e ↦ absurd (ne e) | inr h ↦ h ]

three_apart : (before after : List ℕ) → AtMostTwo before after → (u v w : ℕ) → u ≢ v → u ≢ w → v ≢ w → StandsOnBothSides before after u → StandsOnBothSides before after v → StandsOnBothSides before after w → ⊥
three_apart before after few u v w uv uw vw a b c = elim (one_less u v uv) [
  | inl x ↦ elim (one_less v w vw) [
    | inl y ↦ few u v w x y a b c
    | inr y ↦ elim (one_less u w uw) [ inl z ↦ few u w v z y a c b | inr z ↦ few w u v z x c a b ]
  ]
  | inr x ↦ elim (one_less u w uw) [
    | inl z ↦ few v u w x z b a c
    | inr z ↦ elim (one_less v w vw) [ inl y ↦ few v w u y z b c a | inr y ↦ few w v u y x c b a ]
  ]
]

-- a third label on both sides
pub third_found : (before after found : List ℕ) (i : ℕ) → i < length before → comes_in (get_or before i 0) after ≡ true → (comes_in (get_or before i 0) found ≡ true → ⊥) → length found ≡ 2 → Found before after found i → AtMostTwo before after → ⊥
third_found before after [] i lt later new full h few = absurd (omega (arith, full))
third_found before after (x ∷ []) i lt later new full h few = absurd (omega (arith, full))
third_found before after (x ∷ y ∷ more) i lt later new full h few =
    let l = get_or before i 0 in
    three_apart before after few x y l h.apart.0.0 (λ e. new (or_left (l == x) (comes_in l (y ∷ more)) ((Decides-eqb l x).1 (sym e))))
    (λ e. new (or_right (l == x) (comes_in l (y ∷ more)) (or_left (l == y) (comes_in l more) ((Decides-eqb l y).1 (sym e))))) h.both.0 h.both.1.0 (come_got before i lt, later)

one_of : (u x : ℕ) → comes_in u (x ∷ []) ≡ true → u ≡ x
one_of u x h = elim (or_split (u == x) false h) [ inl e ↦ (Decides-eqb u x).0 e | inr e ↦ absurd (cc) ]

one_of_two : (u x y : ℕ) → comes_in u (x ∷ y ∷ []) ≡ true → (u ≡ x) ⊎ (u ≡ y)
one_of_two u x y h = elim (or_split (u == x) (comes_in u (y ∷ [])) h) [ inl e ↦ inl ((Decides-eqb u x).0 e) | inr e ↦ inr (one_of u y e) ]

three_of_two : (found : List ℕ) → length found ≤ 2 → (u v w : ℕ) → u < v → v < w → comes_in u found ≡ true → comes_in v found ≡ true → comes_in w found ≡ true → ⊥
three_of_two [] le u v w x y a b c = absurd (cc)
three_of_two (p ∷ []) le u v w x y a b c = absurd (omega (arith, one_of u p a, one_of v p b, x))
three_of_two (p ∷ q ∷ []) le u v w x y a b c = elim (one_of_two u p q a) [
  | inl e ↦ elim (one_of_two v p q b) [ inl f ↦ absurd (omega arith) | inr f ↦ elim (one_of_two w p q c) [ inl g ↦ absurd (omega arith) | inr g ↦ absurd (omega arith) ] ]
  | inr e ↦ elim (one_of_two v p q b) [ inl f ↦ elim (one_of_two w p q c) [ inl g ↦ absurd (omega arith) | inr g ↦ absurd (omega arith) ] | inr f ↦ absurd (omega arith) ]
]
three_of_two (p ∷ q ∷ r ∷ more) le u v w x y a b c = absurd (omega (arith, le))

pub all_found : (before after found : List ℕ) (i : ℕ) → length before ≤ i → Found before after found i → AtMostTwo before after
all_found before after found i le h u v w x y a b c =
    let all = λ (z : ℕ) (s : StandsOnBothSides before after z). h.all z (subst (λ ls. comes_in z ls ≡ true) (sym (take_all i before le)) s.0) s.1 in
    three_of_two found h.few u v w x y (all u a) (all v b) (all w c)
