-- Numbers that are drawn one after another, and texts that are made of them.
use Rattle.std.specs.Prelude.{ℕ, zero, suc, ◌+◌, ◌*◌, ◌/◌, ◌%◌, ◌^◌, List, [], ◌++◌}

-- the number that follows this one
abbrev pub after : ℕ → ℕ
after x = (x * 6364136223846793005 + 1442695040888963407) % 2 ^ 64

-- what a number draws from those below n
abbrev pub drawn_below : ℕ → ℕ → ℕ
drawn_below n x = x / 2 ^ 33 % n

-- A text that was made, and the last number of those that follow one another.
pub record Made : Type 0 where
  pub text : List ℕ
  pub last : ℕ

-- what is made where this number is the last so far
abbrev pub Making : Type 0
Making = ℕ → Made

-- a text that draws nothing
abbrev pub said : List ℕ → Making
said text x = record { text = text; last = x }

-- the next number is drawn from those below n, and the rest is made of it
abbrev pub drawing : ℕ → (ℕ → Making) → Making
drawing n make x = make (drawn_below n (after x)) (after x)

-- what was made, and after it what is made next
unfoldable pub going_on : Made → Making → Made
going_on made next = record { text = made.text ++ (next made.last).text; last = (next made.last).last }

infixr 5 ◌before◌
-- the one, and after it the other
unfoldable pub ◌before◌ : Making → Making → Making
(one before other) x = going_on (one x) other

-- what is made of each number below n, in order
unfoldable pub each_below : ℕ → (ℕ → Making) → Making
each_below zero make = said []
each_below (suc n) make = each_below n make before make n
