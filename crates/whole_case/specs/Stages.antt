-- The stages in which a case is read, each of which gives something or is the first that refuses the case.
use Rattle.std.specs.Prelude.{◌≡◌, ◌⊎◌, ⊤, Option, Some, Result, Ok, Err}
use Rattle.whole_case.specs.declared.refusals.LoadFault.{LoadFault}
use Rattle.whole_case.specs.declared.refusals.LoadFault.TheVariants.{Refused, Mem}
use Rattle.whole_case.specs.declared.refusals.Refusal.{Refusal}

-- what a stage may come to: what it gives, or the line and the reason for which the case is refused
abbrev pub Stage : Type 0 → Type 1
Stage A = Result A Refusal → Type 0

-- a stage that gives just this
abbrev pub done : {A : Type 0} → A → Stage A
done a outcome = outcome ≡ Ok a

-- a stage that gives what a reader tells, or its fault as a refusal
abbrev pub told : {A F : Type 0} → Result A F → (F → Option Refusal) → Stage A
told spelled refusal_of (Ok a) = spelled ≡ Ok a
told {A} {F} spelled refusal_of (Err refusal) = (fault : F) × (spelled ≡ Err fault) × (refusal_of fault ≡ Some refusal)

infixl 10 ◌>>=◌
-- one stage after another, which goes by what the first one gives
abbrev pub ◌>>=◌ : {A B : Type 0} → Stage A → (A → Stage B) → Stage B
◌>>=◌ {A} first next (Ok b) = (a : A) × first (Ok a) × next a (Ok b)
◌>>=◌ {A} first next (Err refusal) = first (Err refusal) ⊎ ((a : A) × first (Ok a) × next a (Err refusal))

-- the stage comes to one thing at most: it doesn't give two, nor refuse for two reasons, nor give and refuse
abbrev pub IsOne : {A : Type 0} → Stage A → Type 0
IsOne {A} stage = (one other : Result A Refusal) → stage one → stage other → one ≡ other

-- what was returned is what the stage comes to, unless memory ran out
abbrev pub Reads : {A : Type 0} → Result A LoadFault → Stage A → Type 0
Reads (Ok a) stage = stage (Ok a)
Reads (Err (Refused refusal)) stage = stage (Err refusal)
Reads (Err Mem) stage = ⊤
