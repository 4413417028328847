-- What the words of a line spell, one after another. That a line is read exactly is a clause of its reader.
use Rattle.std.specs.Prelude.{bytes_eq, ℕ, zero, suc, ◌==◌, List, [], ◌∷◌, Option, Some, None, option_map, option_and_then, if◌then◌else◌, codes}
use Rattle.certificate.specs.declared.parts.CertAnswer.{CertAnswer}
use Rattle.fare_law.specs.declared.moves.Move.{Move}
use Rattle.fare_law.specs.declared.moves.Role.{Role}
use Rattle.fare_law.specs.declared.moves.Role.TheVariants.{Alone, Opens, GoesOn, Closes}
use Rattle.fare_law.specs.declared.limits.TheConstants.{MOST_COMPONENTS, MOST_FLIGHTS_OF_A_COMPONENT}
use Rattle.name_text.specs.Names.{basis_of, carrier_of}
use Rattle.word_text.specs.Words.{number_in}

-- one thing after another, as long as each is there
infixl 10 ◌>>=◌
abbrev pub ◌>>=◌ : {A B : Type 0} → Option A → (A → Option B) → Option B
o >>= f = option_and_then f o

-- what stands after the label
unfoldable pub after_label : List ℕ → List ℕ → Option (List ℕ)
after_label [] text = Some text
after_label (c ∷ label) [] = None
after_label (c ∷ label) (b ∷ text) = if b == c then after_label label text else None

-- what stands before the first space, and the rest with it
unfoldable pub before_space : List ℕ → List ℕ × List ℕ
before_space [] = ([], [])
before_space (b ∷ bs) = if b == 32 then ([], b ∷ bs) else (b ∷ (before_space bs).0, (before_space bs).1)

-- a word after a space, and the rest
unfoldable pub word_at : List ℕ → Option (List ℕ × List ℕ)
word_at text = option_map before_space (after_label (32 ∷ []) text)

unfoldable pub number_spelled : List ℕ → List ℕ → Option ℕ
number_spelled name line = do
  spaced ← after_label name line
  word ← after_label (32 ∷ []) spaced
  number_in 4294967295 word

unfoldable pub bound_in : List ℕ → Option (Option ℕ)
bound_in word = if bytes_eq word (codes "-") then Some None else option_map Some (number_in 18446744073709551615 word)

abbrev pub role_numbered : ℕ → Role
role_numbered n = if n == 0 then Alone else if n == 1 then Opens else if n == 2 then GoesOn else Closes

unfoldable pub role_in : List ℕ → Option Role
role_in word = option_map role_numbered (number_in 3 word)

-- so many flights, and the rest
unfoldable pub flights_in : ℕ → List ℕ → Option (List ℕ × List ℕ)
flights_in zero text = Some ([], text)
flights_in (suc n) text = do
  word ← word_at text
  flight ← number_in 4294967295 word.0
  more ← flights_in n word.1
  Some (flight ∷ more.0, more.1)

-- the count of a move's flights, from 1 to `MOST_FLIGHTS_OF_A_COMPONENT`
abbrev pub count_in : List ℕ → Option ℕ
count_in word = do
  n ← number_in MOST_FLIGHTS_OF_A_COMPONENT word
  if n == 0 then None else Some n

-- a move, and the rest
unfoldable pub move_in : List ℕ → Option (Move × List ℕ)
move_in text = do
  a ← word_at text
  count ← count_in a.0
  flights ← flights_in count a.1
  b ← word_at flights.1
  c ← word_at b.1
  d ← word_at c.1
  e ← word_at d.1
  carrier ← carrier_of b.0
  basis ← basis_of c.0
  role ← role_in d.0
  slot ← number_in 255 e.0
  Some (record { flights = flights.0; carrier = carrier; basis = basis; role = role; slot = slot }, e.1)

-- moves to the end of the text, at most so many
unfoldable pub moves_in : ℕ → List ℕ → Option (List Move)
moves_in n [] = Some []
moves_in zero (b ∷ text) = None
moves_in (suc n) (b ∷ text) = do
  first ← move_in (b ∷ text)
  more ← moves_in n first.1
  Some (first.0 ∷ more)

unfoldable pub answer_in : List ℕ → Option CertAnswer
answer_in line = do
  rest ← after_label (codes "answer") line
  word ← word_at rest
  price ← number_in 18446744073709551615 word.0
  moves ← moves_in MOST_COMPONENTS word.1
  Some (record { price = price; moves = moves })
