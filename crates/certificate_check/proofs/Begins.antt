-- Answers that begin with a front, and those among the first of a list.
use Rattle.std.proofs.Common.{◌≡◌, ◌↔◌, ◌∙◌, ℕ, zero, suc, ◌+◌, ◌-◌, ◌<◌, Bool, IsTrue, List, [], ◌∷◌, ◌++◌, length, take, drop, get_or, slice_get, Some, sym, refl, ap, subst, inl, inr, arith}
use Rattle.certificate.specs.declared.parts.CertAnswer.{CertAnswer}
use Rattle.certificate.specs.DepartureCheck.{BeginsWith}
use Rattle.certificate.specs.InOrder.{IfLast}
use Rattle.certificate_check.specs.Fronts.{CountsBeginning}
use Rattle.certificate_check.proofs.FromFront.{split_at}
use Rattle.fare_law.specs.declared.moves.Move.{Move}
use Rattle.fare_law.specs.Lists.{OnLast}
use Rattle.law_lemmas.proofs.Options.{some_same}

pub front_taken : (front ms : List Move) (m : Move) (rest : List Move) → ms ≡ front ++ m ∷ rest → take (length front) ms ≡ front
front_taken [] ms m rest e = refl
front_taken (k ∷ front) [] m rest e = absurd (cc)
front_taken (k ∷ front) (z ∷ ms) m rest e =
    let h : z ≡ k = cc in
    let t : ms ≡ front ++ m ∷ rest = cc in
    ap (λ w. w ∷ take (length front) ms) h ∙ ap (λ ws. k ∷ ws) (front_taken front ms m rest t)

pub front_shorter : (front ms : List Move) (m : Move) (rest : List Move) → ms ≡ front ++ m ∷ rest → length front < length ms
front_shorter [] ms m rest e = let l = ap length e in omega (arith, l)
front_shorter (k ∷ front) [] m rest e = absurd (cc)
front_shorter (k ∷ front) (z ∷ ms) m rest e = let t : ms ≡ front ++ m ∷ rest = cc in let l = front_shorter front ms m rest t in omega (arith, l)

pub some_at : {X : Type 0} (xs : List X) (i : ℕ) → i < length xs → (x : X) × (x ≡ get_or xs i x)
some_at [] i lt = absurd (omega (arith, lt))
some_at (y ∷ ys) zero lt = (y, refl)
some_at (y ∷ ys) (suc i) lt = some_at ys i (omega (arith, lt))

-- the test of the first moves tells
pub begins_told : (a : CertAnswer) (ms front : List Move) (result : Bool) → ms ≡ a.moves → length front < length ms → IsTrue result ↔ (take (length front) ms ≡ front) → IsTrue result ↔ BeginsWith a front
begins_told a ms front result e lt told = (
  λ t. let m = some_at ms (length front) lt in (m.0, drop (suc (length front)) ms, sym e ∙ split_at ms (length front) m.0 lt m.1 ∙ ap (λ z. z ++ m.0 ∷ drop (suc (length front)) ms) (told.0 t)),
  λ h. told.1 (front_taken front ms h.0 h.1 (e ∙ h.2)),
)

-- one answer more

pub count_one : (front : List Move) (xs : List CertAnswer) (x : CertAnswer) (n : ℕ) → CountsBeginning front xs n → BeginsWith x front → CountsBeginning front (xs ++ x ∷ []) (n + 1)
count_one front [] x n h begins = inl (begins, 0, refl, omega (arith, h))
count_one front (a ∷ xs) x n (inl (b, before, c, e)) begins = inl (b, before + 1, count_one front xs x before c begins, omega (arith, e))
count_one front (a ∷ xs) x n (inr (never, c)) begins = inr (never, count_one front xs x n c begins)

pub count_none : (front : List Move) (xs : List CertAnswer) (x : CertAnswer) (n : ℕ) → CountsBeginning front xs n → (BeginsWith x front → ⊥) → CountsBeginning front (xs ++ x ∷ []) n
count_none front [] x n h other = inr (other, h)
count_none front (a ∷ xs) x n (inl (b, before, c, e)) other = inl (b, before, count_none front xs x before c other, e)
count_none front (a ∷ xs) x n (inr (never, c)) other = inr (never, count_none front xs x n c other)

-- the last of a list

shift : (i : ℕ) → suc (suc i) - 1 ≡ suc (suc i - 1)
shift i = omega arith

pub if_last : {X : Type 0} (P : X → Type 0) (xs : List X) (x : X) → slice_get xs (length xs - 1) ≡ Some x → IfLast P xs ↔ P x
if_last P [] x e = absurd (cc)
if_last P (y ∷ []) x e = (λ h. subst P (some_same y x e) h, λ h. subst P (sym (some_same y x e)) h)
if_last P (y ∷ z ∷ zs) x e = if_last P (z ∷ zs) x (sym (ap (slice_get (y ∷ z ∷ zs)) (shift (length zs))) ∙ e)

pub on_last_is : {X : Type 0} (P : X → Type 0) (xs : List X) (x : X) → slice_get xs (length xs - 1) ≡ Some x → OnLast P xs ↔ P x
on_last_is P [] x e = absurd (cc)
on_last_is P (y ∷ []) x e = (λ h. subst P (some_same y x e) h, λ h. subst P (sym (some_same y x e)) h)
on_last_is P (y ∷ z ∷ zs) x e = on_last_is P (z ∷ zs) x (sym (ap (slice_get (y ∷ z ∷ zs)) (shift (length zs))) ∙ e)
