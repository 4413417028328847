-- What a call from C gives that makes a book.
use Rattle.std.specs.Prelude.{◌≡◌, ◌⊎◌, ⊤, ℕ, List, Result, Ok, Err}
use Rattle.shop_book.specs.Held.{HoldsBook, HoldsNothing, HoldsText}
use Rattle.shop_book.specs.declared.handles.Handle.{Handle}
use Rattle.fare_law.specs.Book.{Book}
use Rattle.shop_book.specs.Told.{IsLong, IsWanting, lack_number}
use Rattle.shop_book.specs.declared.handles.lacks.Lack.TheVariants.{Memory, NoBook, TooLong}
use Rattle.shop_book.specs.declared.handles.lacks.Unmade.{Unmade}
use Rattle.shop_book.specs.declared.handles.lacks.Unmade.TheVariants.{Refused, Lacking}
use Rattle.whole_case.specs.Stages.{Stage}
use Rattle.whole_case.specs.Texts.{refusal_text}
use Rattle.whole_case.specs.declared.refusals.LoadFault.{LoadFault}
use Rattle.whole_case.specs.declared.refusals.LoadFault.TheVariants.{Refused as FaultRefused, Mem as FaultMem}
use Rattle.whole_case.specs.declared.refusals.Refusal.{Refusal}

-- what is wanting where a case or a filing isn't read
abbrev pub unmade_of : LoadFault → Unmade
unmade_of (FaultRefused why) = Refused why
unmade_of FaultMem = Lacking Memory

-- What was made of this text is what the stage gives, or why it gives nothing, or that the text is too long, unless memory was wanting.
abbrev pub Makes : Stage Book → List ℕ → Result Book Unmade → Type 0
Makes stage text (Ok b) = stage (Ok b)
Makes stage text (Err (Refused why)) = stage (Err why)
Makes stage text (Err (Lacking Memory)) = ⊤
Makes stage text (Err (Lacking TooLong)) = IsLong text
Makes stage text (Err (Lacking NoBook)) = ⊥

-- One handle holds the book that was made, or the other the line of its refusal, by the status 0 or 1; what else is wanting has its status,
-- and then they hold nothing.
abbrev pub Keeps : Result Book Unmade → ℕ → Handle → Handle → Type 0
Keeps (Ok b) status book refusal = ((status ≡ 0) × HoldsBook book b × HoldsNothing refusal) ⊎ ((status ≡ 5) × HoldsNothing book × HoldsNothing refusal)
Keeps (Err (Refused why)) status book refusal = ((status ≡ 1) × HoldsNothing book × HoldsText refusal (refusal_text why)) ⊎ ((status ≡ 5) × HoldsNothing book × HoldsNothing refusal)
Keeps (Err (Lacking lack)) status book refusal = (status ≡ lack_number lack) × HoldsNothing book × HoldsNothing refusal

-- At status 0 the one handle holds the book that the stage gives.
pub record Opens (stage : Stage Book) (status : ℕ) (book refusal : Handle) : Type 0 where
  pub version : Book
  pub made : stage (Ok version)
  pub number : status ≡ 0
  pub holds : HoldsBook book version
  pub none : HoldsNothing refusal

-- At status 1 the other holds the line of the stage's refusal.
pub record Refuses (stage : Stage Book) (status : ℕ) (book refusal : Handle) : Type 0 where
  pub why : Refusal
  pub refused : stage (Err why)
  pub number : status ≡ 1
  pub none : HoldsNothing book
  pub holds : HoldsText refusal (refusal_text why)

-- what a call gives that makes a book of this text: the book, why it is refused, or what is wanting, and then the handles hold nothing
abbrev pub Gives : Stage Book → List ℕ → ℕ → Handle → Handle → Type 0
Gives stage text status book refusal =
    Opens stage status book refusal ⊎ Refuses stage status book refusal ⊎ (IsWanting (IsLong text) status × HoldsNothing book × HoldsNothing refusal)

-- the other handle holds the same book, unless memory was wanting
abbrev pub Shares : Book → ℕ → Handle → Type 0
Shares b status other = ((status ≡ 0) × HoldsBook other b) ⊎ ((status ≡ 5) × HoldsNothing other)
