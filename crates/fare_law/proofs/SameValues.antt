-- Tests of options and truth values tell whether they are equal, where those of their parts do. Given on to the
-- crates above.
use Rattle.std.proofs.Common.{◌≡◌, Bool, true, false, Option, Some, None, Decides, refl, ap}
use mathlib.Core.Bool.{beq}
use Rattle.std.specs.Option.{option_eq}
use Rattle.std.proofs.lemmas.Bool.Decides.{Decides-like}

pub options_tell : {A : Type 0} {E : A → A → Bool} → ((a b : A) → Decides (E a b) (a ≡ b)) → (a b : Option A) → Decides (option_eq E a b) (a ≡ b)
options_tell tells None None = (λ _. refl, λ _. refl)
options_tell tells None (Some y) = (λ h. absurd (cc), λ h. absurd (cc))
options_tell tells (Some x) None = (λ h. absurd (cc), λ h. absurd (cc))
options_tell tells (Some x) (Some y) = Decides-like _ (λ e. ap Some e) one (tells x y)
  where
    one : Some x ≡ Some y → x ≡ y
    one e = cc

pub bools_tell : (a b : Bool) → Decides (beq a b) (a ≡ b)
bools_tell true true = (λ _. refl, λ _. refl)
bools_tell false false = (λ _. refl, λ _. refl)
bools_tell true false = (λ h. absurd (cc h), λ h. absurd (cc h))
bools_tell false true = (λ h. absurd (cc h), λ h. absurd (cc h))
