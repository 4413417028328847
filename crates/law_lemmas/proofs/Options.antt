-- What is there or not, and results. Given on to the crates above.
use Rattle.std.proofs.Common.{Err, IfOk, IfSome, IsSome, None, Ok, OnOk, Option, Result, Some, ap, false, inl, inr, is_some, option_and_then, option_map, refl, ◌≡◌, ◌⊎◌}
use Rattle.std.proofs.lemmas.Option.{same_Some}

pub from_step : {A B P : Type 0} (o : Option A) (f : A → Option B) (b : B) → option_and_then f o ≡ Some b → ((x : A) → o ≡ Some x → f x ≡ Some b → P) → P
from_step None f b e go = absurd (cc)
from_step (Some x) f b e go = go x refl e

pub if_ok : {X E : Type 0} (r : Result X E) (P Q : X → Type 0) → ((x : X) → P x → Q x) → IfOk r P → IfOk r Q
if_ok (Ok x) P Q h p = h x p
if_ok (Err e) P Q h p = tt

pub if_ok_to : {A E : Type 0} (P Q : A → Type 0) (r : Result A E) → IfOk r P → ((x : A) → P x → Q x) → IfOk r Q
if_ok_to P Q (Ok x) h k = k x h
if_ok_to P Q (Err e) h k = tt

pub if_some : {A : Type 0} (o : Option A) (P Q : A → Type 0) → ((a : A) → P a → Q a) → IfSome o P → IfSome o Q
if_some None P Q f p = tt
if_some (Some x) P Q f p = f x p

pub none_or_some : {X : Type 0} (o : Option X) → (o ≡ None) ⊎ ((x : X) × (o ≡ Some x))
none_or_some None = inl refl
none_or_some (Some x) = inr (x, refl)

pub none_some : {X : Type 0} (x : X) → None ≡ Some x → ⊥
none_some x e = cc

pub none_told : {X : Type 0} (o : Option X) → is_some o ≡ false → o ≡ None
none_told None e = refl
none_told (Some x) e = absurd (cc)

pub not_both : {X : Type 0} (o : Option X) (x : X) → o ≡ Some x → o ≡ None → ⊥
not_both o x h k = cc

pub ok_or_fault : {A E : Type 0} (a : A) (e : E) → ◌≡◌ {A = Result A E} (Ok a) (Err e) → ⊥
ok_or_fault a e h = cc

pub ok_same : {A E : Type 0} (a b : A) → ◌≡◌ {A = Result A E} (Ok a) (Ok b) → a ≡ b
ok_same a b e = cc

pub on_ok : {A E : Type 0} (r : Result A E) (P Q : Type 0) → (P → Q) → OnOk r P → OnOk r Q
on_ok (Ok x) P Q f p = f p
on_ok (Err e) P Q f p = tt

pub option_mapped : {A B : Type 0} (f : A → B) (o : Option A) (y : B) → option_map f o ≡ Some y → (x : A) × (o ≡ Some x) × (f x ≡ y)
option_mapped f None y e = absurd (cc)
option_mapped f (Some x) y e = (x, refl, same_Some (f x) y e)

pub some_none : {X : Type 0} (x : X) → Some x ≡ None → ⊥
some_none x e = cc

pub some_of : {A : Type 0} (o : Option A) → IsSome o → (x : A) × (o ≡ Some x)
some_of None s = absurd (cc)
some_of (Some x) s = (x, refl)

pub some_one : {X : Type 0} (o : Option X) (x y : X) → o ≡ Some x → o ≡ Some y → x ≡ y
some_one o x y h k = cc

pub some_same : {X : Type 0} (x y : X) → Some x ≡ Some y → x ≡ y
some_same x y e = cc

pub some_there : {A : Type 0} (o : Option A) (x : A) → o ≡ Some x → IsSome o
some_there o x e = ap is_some e
