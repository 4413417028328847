-- What holds of the first or of the last element of a list. Given on to the crates above.
use Rattle.std.proofs.Common.{List, [], ◌∷◌}
use Rattle.fare_law.specs.Lists.{OnLast}

pub last_both : {X : Type 0} (P Q : X → Type 0) (xs : List X) → OnLast P xs → OnLast Q xs → OnLast (λ x. P x × Q x) xs
last_both P Q [] h k = absurd h
last_both P Q (x ∷ []) h k = (h, k)
last_both P Q (x ∷ y ∷ xs) h k = last_both P Q (y ∷ xs) h k

pub last_like : {X : Type 0} (P Q : X → Type 0) (xs : List X) → OnLast P xs → ((x : X) → P x → Q x) → OnLast Q xs
last_like P Q [] h f = absurd h
last_like P Q (x ∷ []) h f = f x h
last_like P Q (x ∷ y ∷ xs) h f = last_like P Q (y ∷ xs) h f

pub on_last : {X : Type 0} (P Q : X → Type 0) → ((x : X) → P x → Q x) → (xs : List X) → OnLast P xs → OnLast Q xs
on_last P Q f [] h = h
on_last P Q f (x ∷ []) h = f x h
on_last P Q f (x ∷ y ∷ ys) h = on_last P Q f (y ∷ ys) h
