-- The field of a record at a place.
use Rattle.std.proofs.Common.{◌≡◌, ℕ, zero, suc, List, [], ◌∷◌, get_or, Some, None, refl}
use Rattle.csv.specs.Records.{field_at}

pub field_some : (fs : List (List ℕ)) (i : ℕ) (f : List ℕ) → field_at fs i ≡ Some f → f ≡ get_or fs i []
unfolding field_at
field_some [] i f h = cc
field_some (x ∷ fs) zero f h = cc
field_some (x ∷ fs) (suc i) f h = field_some fs i f h

pub field_none : (fs : List (List ℕ)) (i : ℕ) → field_at fs i ≡ None → [] ≡ get_or fs i []
unfolding field_at
field_none [] i h = refl
field_none (x ∷ fs) zero h = cc
field_none (x ∷ fs) (suc i) h = field_none fs i h
