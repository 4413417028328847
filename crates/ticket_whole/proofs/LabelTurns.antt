-- Labels are numbered by first appearance exactly where each stands after those before it.
use Rattle.std.proofs.Common.{◌≡◌, ◌⊎◌, ◌↔◌, ◌≤◌, ◌||◌, ◌==◌, ◌++◌, ℕ, suc, max, Bool, true, false, List, [], ◌∷◌, refl, inl, inr, arith}
use Rattle.std.proofs.lemmas.Bool.{cases_eq}
use Rattle.std.proofs.lemmas.Bool.Decides.{Decides-eqb}
use Rattle.fare_law.specs.Lawful.{comes_in, Numbered}
use Rattle.ticket_whole.specs.Breaches.{greatest, LabelStands}

-- each label stands after those before it
abbrev pub StandFrom : List ℕ → List ℕ → Type 0
StandFrom before [] = Unit {0}
StandFrom before (l ∷ ls) = LabelStands before l × StandFrom (before ++ l ∷ []) ls

-- the labels so far are 1 to n
record UpTo (before : List ℕ) (n : ℕ) : Type 0 where
  top : greatest before ≡ n
  has : (u : ℕ) → comes_in u before ≡ true ↔ ((1 ≤ u) × (u ≤ n))

greatest_more : (ls : List ℕ) (l : ℕ) → greatest (ls ++ l ∷ []) ≡ max (greatest ls) l
greatest_more [] l = omega arith
greatest_more (x ∷ ls) l = omega (arith, greatest_more ls l)

pub or_split : (a b : Bool) → a || b ≡ true → (a ≡ true) ⊎ (b ≡ true)
or_split true b h = inl refl
or_split false b h = inr h

pub or_left : (a b : Bool) → a ≡ true → a || b ≡ true
or_left true b h = refl
or_left false b h = absurd (cc)

pub or_right : (a b : Bool) → b ≡ true → a || b ≡ true
or_right true b h = refl
or_right false b h = h

pub comes_more : (u l : ℕ) (ls : List ℕ) → comes_in u (ls ++ l ∷ []) ≡ true ↔ ((comes_in u ls ≡ true) ⊎ (u ≡ l))
comes_more u l [] = (
  λ h. elim (or_split (u == l) false h) [ inl e ↦ inr ((Decides-eqb u l).0 e) | inr f ↦ absurd (cc) ],
  λ h. elim h [ inl e ↦ absurd (cc) | inr e ↦ or_left (u == l) false ((Decides-eqb u l).1 e) ],
)
comes_more u l (x ∷ ls) = (
  λ h. elim (or_split (u == x) (comes_in u (ls ++ l ∷ [])) h) [
    | inl e ↦ inl (or_left (u == x) (comes_in u ls) e)
    | inr f ↦ elim ((comes_more u l ls).0 f) [ inl g ↦ inl (or_right (u == x) (comes_in u ls) g) | inr e ↦ inr e ]
  ],
  λ h. elim h [
    | inl e ↦ elim (or_split (u == x) (comes_in u ls) e) [
      | inl f ↦ or_left (u == x) (comes_in u (ls ++ l ∷ [])) f
      | inr f ↦ or_right (u == x) (comes_in u (ls ++ l ∷ [])) ((comes_more u l ls).1 (inl f))
    ]
    | inr e ↦ or_right (u == x) (comes_in u (ls ++ l ∷ [])) ((comes_more u l ls).1 (inr e))
  ],
)

stays_up : (before : List ℕ) (n l : ℕ) → UpTo before n → 1 ≤ l → l ≤ n → UpTo (before ++ l ∷ []) n
stays_up before n l h low high = record {
  top = omega (arith, greatest_more before l, h.top);
  has = λ u. (
    λ c. elim ((comes_more u l before).0 c) [ inl e ↦ (h.has u).0 e | inr e ↦ (omega arith, omega arith) ],
    λ k. (comes_more u l before).1 (inl ((h.has u).1 k)),
  );
}

goes_up : (before : List ℕ) (n l : ℕ) → UpTo before n → l ≡ suc n → UpTo (before ++ l ∷ []) (suc n)
goes_up before n l h e = record {
  top = omega (arith, greatest_more before l, h.top);
  has = λ u. (
    λ c. elim ((comes_more u l before).0 c) [ inl g ↦ let k = (h.has u).0 g in (k.0, omega (arith, k.1)) | inr g ↦ (omega arith, omega arith) ],
    λ k. elim (cases_eq u l) [ inl g ↦ (comes_more u l before).1 (inr g) | inr ne ↦ (comes_more u l before).1 (inl ((h.has u).1 (k.0, omega (arith, k.1, ne)))) ],
  );
}

to_numbered : (before ls : List ℕ) (n : ℕ) → UpTo before n → StandFrom before ls → Numbered n ls
to_numbered before [] n h s = tt
to_numbered before (l ∷ ls) n h s = elim s.0 [
  | inl c ↦ let k = (h.has l).0 c in inl (k.0, k.1, to_numbered (before ++ l ∷ []) ls n (stays_up before n l h k.0 k.1) s.1)
  | inr e ↦ let f : l ≡ suc n = omega (arith, h.top) in inr (f, to_numbered (before ++ l ∷ []) ls (suc n) (goes_up before n l h f) s.1)
]

to_stand : (before ls : List ℕ) (n : ℕ) → UpTo before n → Numbered n ls → StandFrom before ls
to_stand before [] n h s = tt
to_stand before (l ∷ ls) n h s = elim s [
  | inl k ↦ (inl ((h.has l).1 (k.0, k.1)), to_stand (before ++ l ∷ []) ls n (stays_up before n l h k.0 k.1) k.2)
  | inr k ↦ (inr (omega (arith, h.top, k.0)), to_stand (before ++ l ∷ []) ls (suc n) (goes_up before n l h k.0) k.1)
]

none_up : UpTo [] 0
none_up = record { top = refl; has = λ u. (λ h. absurd (cc), λ k. absurd (omega (arith, k.0, k.1))) }

pub stand_numbered : (ls : List ℕ) → StandFrom [] ls ↔ Numbered 0 ls
stand_numbered ls = (to_numbered [] ls 0 none_up, to_stand [] ls 0 none_up)
