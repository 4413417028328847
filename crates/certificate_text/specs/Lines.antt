-- The lines of a certificate's text, without their line feeds.
use Rattle.std.specs.Prelude.{◌≡◌, ◌↔◌, ◌≤◌, ◌<◌, ◌^◌, ℕ, List, [], ◌∷◌, ◌++◌, length, map, flat_map, Option, Some, None, IfSome, codes, decimal}
use Rattle.certificate.specs.declared.parts.CertAnswer.{CertAnswer}
use Rattle.certificate.specs.declared.parts.CertRow.{CertRow}
use Rattle.fare_law.specs.declared.moves.Move.{Move}
use Rattle.fare_law.specs.Lists.{Each}
use Rattle.fare_law.specs.Codes.{role_code}
use Rattle.fare_law.specs.Names.{IsBasis, IsCarrier}
use Rattle.fare_law.specs.declared.limits.TheConstants.{MOST_COMPONENTS, MOST_FLIGHTS_OF_A_COMPONENT}
use Rattle.residual_keys.specs.ResidualText.{IsWritten, Spells, residual_text}

-- words, each after a space
abbrev pub spaced : List (List ℕ) → List ℕ
spaced words = flat_map (λ word. 32 ∷ word) words

-- a name and a number
abbrev pub number_line : List ℕ → ℕ → List ℕ
number_line name n = name ++ 32 ∷ decimal n

-- a move: the count of its flights, their numbers, carrier, basis, the role's number and the slot
abbrev pub move_words : Move → List (List ℕ)
move_words m =
    decimal (length m.flights) ∷ map decimal m.flights
    ++ m.carrier.0 ∷ m.basis.0 ∷ decimal (role_code m.role) ∷ decimal m.slot ∷ []

-- an answer: its price and its moves
abbrev pub answer_line : CertAnswer → List ℕ
answer_line a = codes "answer" ++ spaced (decimal a.price ∷ flat_map move_words a.moves)

abbrev pub bound_word : Option ℕ → List ℕ
bound_word None = codes "-"
bound_word (Some bound) = decimal bound

-- a row: its residual's text and its bound
abbrev pub row_line : CertRow → List ℕ
row_line r = codes "row " ++ (residual_text r.residual ++ 32 ∷ bound_word r.bound)

-- 1 to `MOST_FLIGHTS_OF_A_COMPONENT` flights, names of their forms, and numbers that fit their fields
pub record IsMove (m : Move) : Type 0 where
  pub count : (1 ≤ length m.flights) × (length m.flights ≤ MOST_FLIGHTS_OF_A_COMPONENT)
  pub flights : Each (λ f. f < 2 ^ 32) m.flights
  pub carrier : IsCarrier m.carrier
  pub basis : IsBasis m.basis
  pub slot : m.slot < 2 ^ 8

-- at most `MOST_COMPONENTS` moves
pub record IsAnswer (a : CertAnswer) : Type 0 where
  pub price : a.price < 2 ^ 64
  pub few : length a.moves ≤ MOST_COMPONENTS
  pub moves : Each IsMove a.moves

-- a residual that has a text of its own, and a bound that fits its field
pub record IsRow (r : CertRow) : Type 0 where
  pub residual : IsWritten r.residual
  pub bound : IfSome r.bound (λ n. n < 2 ^ 64)

-- the line has this name and this number
pub record SpellsNumber (name line : List ℕ) (n : ℕ) : Type 0 where
  pub fits : n < 2 ^ 32
  pub written : line ≡ number_line name n

pub record SpellsAnswer (line : List ℕ) (a : CertAnswer) : Type 0 where
  pub is : IsAnswer a
  pub written : line ≡ answer_line a

pub record SpellsRow (line : List ℕ) (r : CertRow) : Type 0 where
  pub is : IsRow r
  pub written : line ≡ row_line r

-- The rows that the line spells are those of the residual that the text spells, with this bound.
abbrev pub HasWords : List ℕ → List ℕ → Option ℕ → Type 0
HasWords line text bound = (r : CertRow) → SpellsRow line r ↔ (Spells text r.residual × (r.bound ≡ bound))
