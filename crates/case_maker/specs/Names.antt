-- The names of a made case. Each place, date and basis has its fixed length.
use Rattle.std.specs.Prelude.{ℕ, ◌+◌, ◌/◌, ◌%◌, List, [], ◌∷◌, codes}

-- where the journey begins, and where it turns
abbrev pub home : List ℕ
home = codes "AAA"

abbrev pub away : List ℕ
away = codes "BBB"

-- a hub: H and two letters that count it
abbrev pub hub : ℕ → List ℕ
hub i = 72 ∷ (65 + i / 26) ∷ (65 + i % 26) ∷ []

-- the days of the flights out and of those back
abbrev pub out_date : List ℕ
out_date = codes "2031-03-03"

abbrev pub back_date : List ℕ
back_date = codes "2031-03-10"

-- the basis of a fare for the whole way out: B and three digits
abbrev pub numbered_basis : ℕ → List ℕ
numbered_basis j = 66 ∷ (48 + j / 100) ∷ (48 + j / 10 % 10) ∷ (48 + j % 10) ∷ []
