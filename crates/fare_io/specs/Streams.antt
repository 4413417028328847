-- What reading to the end and writing a whole text do to the bytes that are known.
use Rattle.std.specs.Prelude.{◌≡◌, ℕ, ◌+◌, ◌<◌, ◌≤◌, ⊤, List, [], ◌++◌, length, take, drop, Option, None, Some}

-- these bytes were all that the source had, and it has no more
abbrev pub ReadsWhole : Option (List ℕ) → Option (List ℕ) → List ℕ → Type 0
ReadsWhole None new bytes = ⊤
ReadsWhole (Some all) new bytes = (bytes ≡ all) × (new ≡ Some [])

-- the source had more bytes than the limit, and gave one more than the limit and no further one
abbrev pub ReadsPast : Option (List ℕ) → Option (List ℕ) → ℕ → Type 0
ReadsPast None new limit = ⊤
ReadsPast (Some all) new limit = (limit < length all) × (new ≡ Some (drop (limit + 1) all))

-- a front of so many bytes of the list, and at most this many, is gone
pub record FrontGone (all : List ℕ) (new : Option (List ℕ)) (most : ℕ) : Type 0 where
  pub count : ℕ
  pub within : count ≤ most
  pub rest : new ≡ Some (drop count all)

-- the source gave no more bytes than this
abbrev pub GivesAtMost : Option (List ℕ) → Option (List ℕ) → ℕ → Type 0
GivesAtMost None new most = ⊤
GivesAtMost (Some all) new most = FrontGone all new most

-- a front of the text, and not all of it, came after these bytes
pub record FrontAdded (held : List ℕ) (new : Option (List ℕ)) (text : List ℕ) : Type 0 where
  pub count : ℕ
  pub within : count < length text
  pub grown : new ≡ Some (held ++ take count text)

-- the sink took a front of the text, and not all of it
abbrev pub AppendsFront : Option (List ℕ) → Option (List ℕ) → List ℕ → Type 0
AppendsFront None new text = ⊤
AppendsFront (Some held) new text = FrontAdded held new text
