-- What a reader says where it found something, and where it found nothing. Given on to the crates above.
use Rattle.std.proofs.Common.{◌≡◌, Option, Some, None, MatchOption, subst}

pub on_some : {A : Type 0} (N : Type 0) (P : A → Type 0) (o : Option A) (x : A) → o ≡ Some x → MatchOption o N P → P x
on_some N P o x e h = subst (λ z. MatchOption z N P) e h

pub on_none : {A : Type 0} (N : Type 0) (P : A → Type 0) (o : Option A) → o ≡ None → MatchOption o N P → N
on_none N P o e h = subst (λ z. MatchOption z N P) e h
