-- Of what was served: all but the last, and the last.
use Rattle.std.proofs.Common.{◌≡◌, ◌<◌, ℕ, zero, suc, List, [], ◌∷◌, ◌++◌, length, slice_index_or, Result, IfOk, subst, refl, arith}
use Rattle.std.proofs.lemmas.List.{length-append}
use Rattle.fare_law.specs.declared.filings.Filing.{Filing}
use Rattle.fare_versions.specs.Histories.{House}
use Rattle.serve_desks.specs.Served.{AllServed, IsServed}
use Rattle.serve_desks.specs.Terms.{Rightness, Terms}
use Rattle.serve_desks.specs.declared.serving.Served.{Served}

at_before : {X : Type 0} (before : List X) (x d : X) (i : ℕ) → i < length before → slice_index_or (before ++ x ∷ []) i d ≡ slice_index_or before i d
at_before [] x d i h = absurd (omega (arith, h))
at_before (b ∷ before) x d zero h = refl
at_before (b ∷ before) x d (suc i) h = at_before before x d i (omega (arith, h))

at_last : {X : Type 0} (before : List X) (x d : X) → slice_index_or (before ++ x ∷ []) (length before) d ≡ x
at_last [] x d = refl
at_last (b ∷ before) x d = at_last before x d

module _ {T E : Type 0} (house : T → House) (terms : T → Terms) (seen : T → List Filing) (wants : T → ℕ) (right : Rightness) (name : House) (all : Terms) where
  abbrev IsEnded : Result (Served T) E → Type 0
  IsEnded r = IfOk r (IsServed house terms seen wants right name all)

  pub served_before : (before : List (Result (Served T) E)) (x : Result (Served T) E) → AllServed house terms seen wants right name all (before ++ x ∷ []) → AllServed house terms seen wants right name all before
  served_before before x h = record { each = λ i d less. subst IsEnded (at_before before x d i less) (h.each i d (omega (arith, less, length-append before (x ∷ [])))) }

  pub served_last : (before : List (Result (Served T) E)) (x : Result (Served T) E) → AllServed house terms seen wants right name all (before ++ x ∷ []) → IfOk x (IsServed house terms seen wants right name all)
  served_last before x h = subst IsEnded (at_last before x x) (h.each (length before) x (omega (arith, length-append before (x ∷ []))))
