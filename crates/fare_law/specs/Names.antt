-- The characters of carriers and fare bases.
use Rattle.std.specs.Prelude.{◌≡◌, ◌⊎◌, ℕ, ◌≤◌, length}
use Rattle.fare_law.specs.declared.names.Basis.{Basis}
use Rattle.fare_law.specs.declared.names.Carrier.{Carrier}
use Rattle.fare_law.specs.Lists.{Each}

-- a digit or a capital
abbrev pub IsCharacter : ℕ → Type 0
IsCharacter c = ((48 ≤ c) × (c ≤ 57)) ⊎ ((65 ≤ c) × (c ≤ 90))

-- a carrier of two characters
abbrev pub IsCarrier : Carrier → Type 0
IsCarrier c = (length c.0 ≡ 2) × Each IsCharacter c.0

-- a basis of one to eight characters
abbrev pub IsBasis : Basis → Type 0
IsBasis b = (1 ≤ length b.0) × (length b.0 ≤ 8) × Each IsCharacter b.0
