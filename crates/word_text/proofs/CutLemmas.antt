-- A text is cut at its first separator, and there alone. Given on to the crates above.
use Rattle.std.proofs.Common.{◌==◌, is_some, if◌then◌else◌, zero, suc, ◌+◌, ◌-◌, ◌<◌, ◌≤◌, length, take, drop, get_or, arith, subst, sym, ◌∙◌, add-one, drop-cons, length-drop, ◌≡◌, ◌≢◌, ℕ, Bool, true, false, List, [], ◌∷◌, ◌++◌, Option, Some, None, option_map, refl, ap, eq-eqb, ne_eqb}
use Rattle.std.proofs.lemmas.List.{take_all, take-append-drop}
use Rattle.std.proofs.lemmas.Bool.{true≢false}
use Rattle.std.proofs.lemmas.Option.{some_pair_parts}
use Rattle.word_text.specs.Laws.{CutTells, LastCutTells}
use Rattle.word_text.specs.Words.{IsFreeOf, cut_at, cut_last_at}
use Rattle.law_lemmas.proofs.Tests.{same_byte}

-- what stands before the separator and after it is found again
pub cut_again : (c : ℕ) (word rest : List ℕ) → IsFreeOf c word → cut_at c (word ++ c ∷ rest) ≡ Some (word, rest)
unfolding cut_at
cut_again c [] rest h = rw (eq-eqb c c refl) refl
cut_again c (b ∷ word) rest h = rw (ne_eqb b c h.0, cut_again c word rest h.1) refl

-- where there is no separator, nothing is cut
pub cut_none : (c : ℕ) (text : List ℕ) → IsFreeOf c text → cut_at c text ≡ None
unfolding cut_at
cut_none c [] h = refl
cut_none c (b ∷ text) h = rw (ne_eqb b c h.0, cut_none c text h.1) refl

pub cut_of : (c : ℕ) (text word rest : List ℕ) → text ≡ word ++ c ∷ rest → IsFreeOf c word → cut_at c text ≡ Some (word, rest)
cut_of c text word rest e h = rw e (cut_again c word rest h)

both : {A B : Type 0} (a x : A) (b y : B) → ◌≡◌ {A = Option (A × B)} (Some (a, b)) (Some (x, y)) → (a ≡ x) × (b ≡ y)
both = some_pair_parts

other_byte : (b c : ℕ) → (b == c) ≡ false → b ≢ c
other_byte b c e same = true≢false (sym (eq-eqb b c same) ∙ e)

abbrev IsFirstCut : ℕ → List ℕ → List ℕ × List ℕ → Type 0
IsFirstCut c text p = (text ≡ p.0 ++ c ∷ p.1) × IsFreeOf c p.0

first_step : (c b : ℕ) (text : List ℕ) (p : List ℕ × List ℕ) (t : Bool) → (b == c) ≡ t → (o : Option (List ℕ × List ℕ))
    → ((q : List ℕ × List ℕ) → o ≡ Some q → IsFirstCut c text q)
    → (if t then Some ([], text) else option_map (λ q. (b ∷ q.0, q.1)) o) ≡ Some p → IsFirstCut c (b ∷ text) p
first_step c b text p true is o further at =
    let parts = both [] p.0 text p.1 at in
    rw (← parts.0, ← parts.1) (ap (λ x. x ∷ text) (same_byte b c is), tt)
first_step c b text p false is None further at = absurd (cc)
first_step c b text p false is (Some q) further at =
    let rest = further q refl in
    let parts = both (b ∷ q.0) p.0 q.1 p.1 at in
    rw (← parts.0, ← parts.1) (ap (λ t. b ∷ t) rest.0, (other_byte b c is, rest.1))

-- the parts that are found make the text, and the first has no separator
pub cut_read : (c : ℕ) (text : List ℕ) (p : List ℕ × List ℕ) → cut_at c text ≡ Some p → IsFirstCut c text p
unfolding cut_at
cut_read c [] p e = absurd (cc)
cut_read c (b ∷ text) p e = first_step c b text p (b == c) refl (cut_at c text) (λ q h. cut_read c text q h) e

-- what stands before the last separator and after it is found again
pub last_none : (c : ℕ) (text : List ℕ) → IsFreeOf c text → cut_last_at c text ≡ None
unfolding cut_last_at
last_none c [] h = refl
last_none c (b ∷ text) h = rw (last_none c text h.1, ne_eqb b c h.0) refl

pub last_again : (c : ℕ) (before word : List ℕ) → IsFreeOf c word → cut_last_at c (before ++ c ∷ word) ≡ Some (before, word)
unfolding cut_last_at
last_again c [] word h = rw (last_none c word h, eq-eqb c c refl) refl
last_again c (b ∷ before) word h = rw (last_again c before word h) refl

pub last_of : (c : ℕ) (text before word : List ℕ) → text ≡ before ++ c ∷ word → IsFreeOf c word → cut_last_at c text ≡ Some (before, word)
last_of c text before word e h = rw e (last_again c before word h)

abbrev step_back : ℕ → ℕ → List ℕ → Option (List ℕ × List ℕ) → Bool → Option (List ℕ × List ℕ)
step_back c b text o t = if is_some o then option_map (λ q. (b ∷ q.0, q.1)) o else if t then Some ([], text) else None

none_step : (c b : ℕ) (text : List ℕ) (o : Option (List ℕ × List ℕ)) (t : Bool) → (b == c) ≡ t → (o ≡ None → IsFreeOf c text)
    → step_back c b text o t ≡ None → IsFreeOf c (b ∷ text)
none_step c b text None true is further at = absurd (cc)
none_step c b text None false is further at = (other_byte b c is, further refl)
none_step c b text (Some q) t is further at = absurd (cc)

free_of_last : (c : ℕ) (text : List ℕ) → cut_last_at c text ≡ None → IsFreeOf c text
unfolding cut_last_at
free_of_last c [] e = tt
free_of_last c (b ∷ text) e = none_step c b text (cut_last_at c text) (b == c) refl (λ h. free_of_last c text h) e

abbrev IsLastCut : ℕ → List ℕ → List ℕ × List ℕ → Type 0
IsLastCut c text p = (text ≡ p.0 ++ c ∷ p.1) × IsFreeOf c p.1

last_step : (c b : ℕ) (text : List ℕ) (p : List ℕ × List ℕ) (o : Option (List ℕ × List ℕ)) (t : Bool) → (b == c) ≡ t → (o ≡ None → IsFreeOf c text)
    → ((q : List ℕ × List ℕ) → o ≡ Some q → IsLastCut c text q) → step_back c b text o t ≡ Some p → IsLastCut c (b ∷ text) p
last_step c b text p None true is none further at =
    let parts = both [] p.0 text p.1 at in
    rw (← parts.0, ← parts.1) (ap (λ x. x ∷ text) (same_byte b c is), none refl)
last_step c b text p None false is none further at = absurd (cc)
last_step c b text p (Some q) t is none further at =
    let rest = further q refl in
    let parts = both (b ∷ q.0) p.0 q.1 p.1 at in
    rw (← parts.0, ← parts.1) (ap (λ t. b ∷ t) rest.0, rest.1)

-- the parts that are found make the text, and the last has no separator
pub last_read : (c : ℕ) (text : List ℕ) (p : List ℕ × List ℕ) → cut_last_at c text ≡ Some p → IsLastCut c text p
unfolding cut_last_at
last_read c [] p e = absurd (cc)
last_read c (b ∷ text) p e =
    last_step c b text p (cut_last_at c text) (b == c) refl (λ h. free_of_last c text h) (λ q h. last_read c text q h) e

pub cut_tells : CutTells
cut_tells = record { again = cut_again; none = cut_none; read = cut_read }

pub last_tells : LastCutTells
last_tells = record { again = last_again; read = last_read }

pub ruleset cut_rules = (cut_none, cut_of, last_none, last_of)

pub ruleset cut_laws = (cut_tells, last_tells)

-- one more byte that is no separator
pub free_more : (c : ℕ) (text : List ℕ) (i : ℕ) → i < length text → IsFreeOf c (take i text) → get_or text i 0 ≢ c → IsFreeOf c (take (i + 1) text)
free_more c [] i l h ne = absurd (omega arith)
free_more c (b ∷ text) zero l h ne = (ne, tt)
free_more c (b ∷ text) (suc i) l h ne =
    let next : suc i + 1 ≡ suc (i + 1) = omega arith in
    subst (λ n. IsFreeOf c (take n (b ∷ text))) (sym next) (h.0, free_more c text i (omega arith) h.1 ne)

-- a text is what stands before a place, what stands there, and the rest
pub parts_at : (c : ℕ) (text : List ℕ) (i : ℕ) → i < length text → get_or text i 0 ≡ c → text ≡ take i text ++ c ∷ take (length text - (i + 1)) (drop (i + 1) text)
parts_at c text i l e =
    let rest : drop i text ≡ get_or text i 0 ∷ drop (i + 1) text = rw (drop-cons text i 0 l, add-one) refl in
    let whole : take (length text - (i + 1)) (drop (i + 1) text) ≡ drop (i + 1) text = take_all (length text - (i + 1)) (drop (i + 1) text) (omega (arith, length-drop (i + 1) text)) in
    sym (take-append-drop i text) ∙ ap (λ xs. take i text ++ xs) rest ∙ ap (λ b. take i text ++ b ∷ drop (i + 1) text) e ∙ ap (λ xs. take i text ++ c ∷ xs) (sym whole)

pub free_all : (c : ℕ) (text : List ℕ) (i : ℕ) → length text ≤ i → IsFreeOf c (take i text) → IsFreeOf c text
free_all c text i l h = subst (IsFreeOf c) (take_all i text l) h

pub free_before : (c : ℕ) (text : List ℕ) (i : ℕ) → i < length text → IsFreeOf c (drop (i + 1) text) → get_or text i 0 ≢ c → IsFreeOf c (drop i text)
free_before c text i l h ne =
    let rest : drop i text ≡ get_or text i 0 ∷ drop (i + 1) text = rw (drop-cons text i 0 l, add-one) refl in
    rw rest (ne, h)

pub ruleset part_rules = (free_more, parts_at, free_all, free_before)
