-- A basis that a text spells is the text.
use Rattle.std.proofs.Common.{◌≡◌, ℕ, Bool, true, false, if◌then◌else◌, List, Some, None, sym, ap, ◌∙◌, ◌++◌}
use Rattle.fare_law.specs.declared.names.Basis.{Basis}
use Rattle.name_text.specs.Names.{basis_of}
use Rattle.fare_filing.specs.Compact.{Follows}

held : {A : Type 0} (b : Bool) (x y : A) → (if b then Some x else None) ≡ Some y → x ≡ y
held true x y e = cc
held false x y e = absurd (cc)

pub basis_stands : (text : List ℕ) (basis : Basis) → basis_of text ≡ Some basis → text ≡ basis.0
unfolding basis_of
basis_stands text basis e = ap (λ p. p.0) (held _ (record { 0 = text }) basis e)

-- what a basis is, with what comes before and behind it
pub basis_there : (text piece name rest : List ℕ) (basis : Basis) → Follows text piece name rest → Some basis ≡ basis_of name → text ≡ piece ++ (basis.0 ++ rest)
basis_there text piece name rest basis f e = f.parts ∙ ap (λ n. piece ++ (n ++ rest)) (basis_stands name basis (sym e))
