-- The first shares of rungs. Given on to the crates above.
use Rattle.std.proofs.Common.{◌≡◌, ◌≢◌, ℕ, ◌+◌, ◌<◌, ◌≤◌, ◌^◌, cond, List, [], ◌∷◌, ◌++◌, length, map, take, get_or, Option, None, Some, IsBitSet, bit_and, bit_or, refl, sym, ap, subst, ◌∙◌, inl, inr}
use Rattle.std.proofs.lemmas.Bool.Decides.{eqb_tells}
use Rattle.fare_groups.specs.declared.group.GroupedFare.{GroupedFare}
use Rattle.fare_groups.specs.declared.rungs.Rung.{Rung}
use Rattle.fare_groups.specs.Grouping.{AreCheapestFirst, AreFirsts, AreOneClass, AreRungs, Cheapest, first_share, rung_of}
use Rattle.fare_groups.proofs.Bits.{either_set, none_set, one_class, zero_or_not}
use Rattle.fare_groups.proofs.Reordered.{in_mapped, of_mapped}
use Rattle.fare_law.specs.Lists.{Each, EachPair, IsIn}
use Rattle.law_lemmas.proofs.EachOne.{each_from, each_in, each_more}
use Rattle.law_lemmas.proofs.Lists.{front_read}
use Rattle.law_lemmas.proofs.Members.{in_left, in_right}
use Rattle.law_lemmas.proofs.Numbers.{le_itself, le_on}
use Rattle.law_lemmas.proofs.Options.{none_some, some_same}

-- a rung of one of the classes is the first, another is passed
pub open_first : (r : Rung) (rs : List Rung) (classes : ℕ) → bit_and classes r.class ≢ 0 → first_share (r ∷ rs) classes ≡ Some r.share
open_first r rs classes ne = elim (eqb_tells (bit_and classes r.class) 0) [ inl y ↦ absurd (ne y.1) | inr n ↦ ap (λ t. cond t (first_share rs classes) (Some r.share)) n.0 ]

pub closed_first : (r : Rung) (rs : List Rung) (classes : ℕ) → bit_and classes r.class ≡ 0 → first_share (r ∷ rs) classes ≡ first_share rs classes
closed_first r rs classes z = elim (eqb_tells (bit_and classes r.class) 0) [ inl y ↦ ap (λ t. cond t (first_share rs classes) (Some r.share)) y.0 | inr n ↦ absurd (n.1 z) ]

-- where there is no first share, each rung is of another class
none_open : (rs : List Rung) (classes : ℕ) → first_share rs classes ≡ None → (r : Rung) → IsIn r rs → bit_and classes r.class ≡ 0
none_open [] classes e r i = absurd i
none_open (x ∷ xs) classes e r i = elim (zero_or_not (bit_and classes x.class)) [
  | inr ne ↦ absurd (none_some x.share (sym e ∙ open_first x xs classes ne))
  | inl z ↦ elim i [ inl s ↦ ap (λ (y : Rung). bit_and classes y.class) s ∙ z | inr j ↦ none_open xs classes (sym (closed_first x xs classes z) ∙ e) r j ]
]

-- the rung that has the first share
pub record IsFirst (rs : List Rung) (classes share : ℕ) : Type 0 where
  pub rung : Rung
  pub within : IsIn rung rs
  pub open_rung : bit_and classes rung.class ≢ 0
  pub share_is : rung.share ≡ share

pub first_of : (rs : List Rung) (classes share : ℕ) → first_share rs classes ≡ Some share → IsFirst rs classes share
first_of [] classes share e = absurd (none_some share e)
first_of (x ∷ xs) classes share e = elim (zero_or_not (bit_and classes x.class)) [
  | inr ne ↦ record { rung = x; within = inl refl; open_rung = ne; share_is = some_same x.share share (sym (open_first x xs classes ne) ∙ e) }
  | inl z ↦ let more = first_of xs classes share (sym (closed_first x xs classes z) ∙ e) in record { rung = more.rung; within = inr more.within; open_rung = more.open_rung; share_is = more.share_is }
]

-- ---- rungs in the order of their shares
abbrev pub Ascend : List Rung → Type 0
Ascend rs = EachPair (λ (r s : Rung). r.share ≤ s.share) rs

pub fares_ascend : (fs : List GroupedFare) → AreCheapestFirst fs → Ascend (map rung_of fs)
fares_ascend [] h = tt
fares_ascend (f ∷ []) h = tt
fares_ascend (f ∷ g ∷ fs) h = (h.0, fares_ascend (g ∷ fs) h.1)

ascend_rest : (r : Rung) (rs : List Rung) → Ascend (r ∷ rs) → Ascend rs
ascend_rest r [] h = tt
ascend_rest r (s ∷ rs) h = h.1

least_front : (r : Rung) (rs : List Rung) → Ascend (r ∷ rs) → (s : Rung) → IsIn s rs → r.share ≤ s.share
least_front r [] h s i = absurd i
least_front r (x ∷ xs) h s (inl e) = subst (λ (y : Rung). r.share ≤ y.share) (sym e) h.0
least_front r (x ∷ xs) h s (inr i) = le_on r.share x.share s.share h.0 (least_front x xs h.1 s i)

-- of rungs whose shares ascend the first share is the least
first_least : (rs : List Rung) (classes share : ℕ) → Ascend rs → first_share rs classes ≡ Some share → (r : Rung) → IsIn r rs → bit_and classes r.class ≢ 0 → share ≤ r.share
first_least [] classes share h e r i o = absurd i
first_least (x ∷ xs) classes share h e r i o = elim (zero_or_not (bit_and classes x.class)) [
  | inr ne ↦
      let same : x.share ≡ share = some_same x.share share (sym (open_first x xs classes ne) ∙ e) in
      subst (λ n. n ≤ r.share) same (elim i [ inl s ↦ subst (λ (y : Rung). x.share ≤ y.share) (sym s) (le_itself x.share) | inr j ↦ least_front x xs h r j ])
  | inl z ↦ elim i [
    | inl s ↦ absurd (o (ap (λ (y : Rung). bit_and classes y.class) s ∙ z))
    | inr j ↦ first_least xs classes share (ascend_rest x xs h) (sym (closed_first x xs classes z) ∙ e) r j o
  ]
]

-- ---- the first of each class
-- one rung more has its share told where there was none before
first_more : (xs ys : List Rung) (r : Rung) (classes : ℕ) → first_share xs classes ≡ first_share ys classes → first_share (xs ++ r ∷ []) classes ≡ first_share (ys ++ r ∷ []) classes
first_more xs ys r classes e = behind xs ∙ ap (λ o. first_or o (first_share (r ∷ []) classes)) e ∙ sym (behind ys)
  where
    first_or : Option ℕ → Option ℕ → Option ℕ
    first_or None o = o
    first_or (Some s) o = Some s

    behind : (zs : List Rung) → first_share (zs ++ r ∷ []) classes ≡ first_or (first_share zs classes) (first_share (r ∷ []) classes)
    behind [] = refl
    behind (z ∷ zs) = elim (zero_or_not (bit_and classes z.class)) [
      | inr ne ↦ open_first z (zs ++ r ∷ []) classes ne ∙ sym (ap (λ o. first_or o (first_share (r ∷ []) classes)) (open_first z zs classes ne))
      | inl c ↦ closed_first z (zs ++ r ∷ []) classes c ∙ behind zs ∙ sym (ap (λ o. first_or o (first_share (r ∷ []) classes)) (closed_first z zs classes c))
    ]

-- and none where one of its class stands before it
first_same : (xs : List Rung) (r s : Rung) (classes : ℕ) → IsIn s xs → s.class ≡ r.class → first_share (xs ++ r ∷ []) classes ≡ first_share xs classes
first_same [] r s classes i e = absurd i
first_same (x ∷ xs) r s classes i e = elim (zero_or_not (bit_and classes x.class)) [
  | inr ne ↦ open_first x (xs ++ r ∷ []) classes ne ∙ sym (open_first x xs classes ne)
  | inl z ↦ closed_first x (xs ++ r ∷ []) classes z ∙ elim i [
    | inl t ↦ last xs (sym (ap (bit_and classes) e) ∙ ap (λ (y : Rung). bit_and classes y.class) t ∙ z)
    | inr j ↦ first_same xs r s classes j e
  ] ∙ sym (closed_first x xs classes z)
]
  where
    last : (ys : List Rung) → bit_and classes r.class ≡ 0 → first_share (ys ++ r ∷ []) classes ≡ first_share ys classes
    last [] z = closed_first r [] classes z
    last (y ∷ ys) z = elim (zero_or_not (bit_and classes y.class)) [
      | inr ne ↦ open_first y (ys ++ r ∷ []) classes ne ∙ sym (open_first y ys classes ne)
      | inl c ↦ closed_first y (ys ++ r ∷ []) classes c ∙ last ys z ∙ sym (closed_first y ys classes c)
    ]

-- The first of each class of some of all rungs, and the classes that were seen.
pub record TakesFirsts (all some : List Rung) (seen : ℕ) (firsts : List Rung) : Type 0 where
  pub same : (classes : ℕ) → first_share firsts classes ≡ first_share some classes
  pub among : Each (λ r. IsIn r all) firsts
  pub seen_are : (class : ℕ) → IsBitSet seen class → (r : Rung) × IsIn r firsts × (r.class ≡ 2 ^ class)

pub firsts_none : (all : List Rung) → TakesFirsts all [] 0 []
firsts_none all = record { same = λ classes. refl; among = tt; seen_are = λ class h. absurd (none_set class h) }

module _ (all some firsts : List Rung) (seen class : ℕ) (r : Rung) (t : TakesFirsts all some seen firsts) (own : r.class ≡ 2 ^ class) where
  -- one of a class that wasn't seen is added
  firsts_added : IsIn r all → TakesFirsts all (some ++ r ∷ []) (bit_or seen r.class) (firsts ++ r ∷ [])
  firsts_added i = record {
    same = λ classes. first_more firsts some r classes (t.same classes);
    among = each_more (λ x. IsIn x all) firsts r t.among i;
    seen_are = λ c h. elim (either_set seen r.class c h) [
      | inl k ↦ let x = t.seen_are c k in (x.0, in_left x.0 firsts (r ∷ []) x.1, x.2)
      | inr k ↦ let one = one_class class c (subst (λ n. IsBitSet n c) own k) in (r, in_right r firsts (r ∷ []) (inl refl), own ∙ ap (λ n. 2 ^ n) (sym one))
    ];
  }

  -- and another is passed
  firsts_passed : bit_and seen r.class ≢ 0 → TakesFirsts all (some ++ r ∷ []) seen firsts
  firsts_passed ne = record {
    same = λ classes.
        let x = t.seen_are class (λ z. ne (ap (bit_and seen) own ∙ z)) in
        sym (first_same firsts r x.0 classes x.1 (x.2 ∙ sym own)) ∙ first_more firsts some r classes (t.same classes);
    among = t.among;
    seen_are = t.seen_are;
  }

-- rung by rung
module _ (all : List Rung) (one : AreOneClass all) (i : ℕ) (d r : Rung) (lt : i < length all) (is : r ≡ get_or all i d) (within : IsIn r all) (seen : ℕ) (firsts : List Rung) (t : TakesFirsts all (take i all) seen firsts) where
  front : take (i + 1) all ≡ take i all ++ r ∷ []
  front = front_read all i d r lt is

  pub next_added : (new : List Rung) → new ≡ firsts ++ r ∷ [] → TakesFirsts all (take (i + 1) all) (bit_or seen r.class) new
  next_added new e =
      let c = each_in (λ (x : Rung). (class : ℕ) × (class ≤ 25) × (x.class ≡ 2 ^ class)) all r one within in
      subst (λ rs. TakesFirsts all rs (bit_or seen r.class) new) (sym front) (subst (TakesFirsts all (take i all ++ r ∷ []) (bit_or seen r.class)) (sym e) (firsts_added all (take i all) firsts seen c.0 r t c.2 within))

  pub next_passed : bit_and seen r.class ≢ 0 → TakesFirsts all (take (i + 1) all) seen firsts
  next_passed ne =
      let c = each_in (λ (x : Rung). (class : ℕ) × (class ≤ 25) × (x.class ≡ 2 ^ class)) all r one within in
      subst (λ rs. TakesFirsts all rs seen firsts) (sym front) (firsts_passed all (take i all) firsts seen c.0 r t c.2 ne)

pub firsts_all : (all firsts : List Rung) (seen : ℕ) → TakesFirsts all all seen firsts → AreFirsts all firsts
firsts_all all firsts seen t = record { same = t.same; among = t.among }

-- ---- rungs of fares
pub all_one_class : (fares : List GroupedFare) → Each (λ f. f.class ≤ 25) fares → AreOneClass (map rung_of fares)
all_one_class [] h = tt
all_one_class (f ∷ fs) h = ((f.class, h.0, refl), all_one_class fs h.1)

module _ (fares : List GroupedFare) (ascend : Ascend (map rung_of fares)) where
  cheapest_of : (classes : ℕ) (o : Option ℕ) → first_share (map rung_of fares) classes ≡ o → Cheapest classes fares o
  cheapest_of classes None e = each_from (λ (f : GroupedFare). IsBitSet classes f.class → ⊥) fares (λ f i open_class. open_class (none_open (map rung_of fares) classes e (rung_of f) (in_mapped rung_of fares f i)))
  cheapest_of classes (Some share) e =
      let first = first_of (map rung_of fares) classes share e in
      let of = of_mapped rung_of fares first.rung first.within in
      record {
        fare = of.0;
        within = of.1;
        open_class = λ z. first.open_rung (ap (λ (r : Rung). bit_and classes r.class) of.2 ∙ z);
        costs = sym (ap (λ (r : Rung). r.share) of.2) ∙ first.share_is;
        below = each_from (λ (f : GroupedFare). IsBitSet classes f.class → share ≤ f.share) fares (λ f i open_class. first_least (map rung_of fares) classes share ascend e (rung_of f) (in_mapped rung_of fares f i) open_class);
      }

  -- the first of each class have the least shares of the fares
  pub firsts_are : (firsts : List Rung) → AreFirsts (map rung_of fares) firsts → AreRungs fares firsts
  firsts_are firsts h = record {
    least = λ classes. cheapest_of classes (first_share firsts classes) (sym (h.same classes));
    among = h.among;
  }
