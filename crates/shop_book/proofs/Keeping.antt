-- What a call gives that makes a book, from what was made and from what the handles hold.
use Rattle.std.proofs.Common.{◌≡◌, ℕ, List, Option, None, Some, Result, Ok, Err, subst, sym, ◌∙◌, inl, inr}
use Rattle.std.proofs.lemmas.Option.{same_Some}
use Rattle.shop_book.specs.Held.{HoldsNothing, held_book, kept_book}
use Rattle.shop_book.specs.declared.handles.Handle.{Handle}
use Rattle.shop_book.specs.declared.handles.kept.Kept.{Kept}
use Rattle.fare_law.specs.Book.{Book}
use Rattle.shop_book.specs.Made.{Gives, Keeps, Makes}
use Rattle.shop_book.specs.declared.handles.lacks.Lack.TheVariants.{Memory, NoBook, TooLong}
use Rattle.shop_book.specs.declared.handles.lacks.Unmade.{Unmade}
use Rattle.shop_book.specs.declared.handles.lacks.Unmade.TheVariants.{Refused, Lacking}
use Rattle.whole_case.specs.Stages.{Stage}
use Rattle.shop_book.proofs.Replying.{kept_of_held}

pub gives : (stage : Stage Book) (text : List ℕ) (made : Result Book Unmade) (status : ℕ) (book refusal : Handle) → Makes stage text made → Keeps made status book refusal → Gives stage text status book refusal
gives stage text (Ok b) status book refusal is (inl kept) = inl (record { version = b; made = is; number = kept.0; holds = kept.1; none = kept.2 })
gives stage text (Ok b) status book refusal is (inr none) = inr (inr (inl none.0, none.1, none.2))
gives stage text (Err (Refused why)) status book refusal is (inl kept) = inr (inl (record { why = why; refused = is; number = kept.0; none = kept.1; holds = kept.2 }))
gives stage text (Err (Refused why)) status book refusal is (inr none) = inr (inr (inl none.0, none.1, none.2))
gives stage text (Err (Lacking Memory)) status book refusal is none = inr (inr (inl none.0, none.1, none.2))
gives stage text (Err (Lacking TooLong)) status book refusal is none = inr (inr (inr (none.0, is), none.1, none.2))
gives stage text (Err (Lacking NoBook)) status book refusal is none = absurd is

-- what was made of the one book that is kept
pub next_is : (stage : Book → Stage Book) (text : List ℕ) (made : Result Book Unmade) (kept : Kept) (b : Book) → kept_book kept ≡ Some b → Makes (stage b) text made → (other : Book) → kept_book kept ≡ Some other → Makes (stage other) text made
next_is stage text made kept b some makes other is = subst (λ x. Makes (stage x) text made) (same_Some b other (sym some ∙ is)) makes

module _ (made : Result Book Unmade) (held : Option Kept) (kept : Kept) (is : held ≡ Some kept) (status : ℕ) (book refusal : Handle) (keeps : Keeps made status book refusal) where
  -- where no book is held
  pub none_made : (kept_book kept ≡ None → made ≡ Err (Lacking NoBook)) → held_book held ≡ None → (status ≡ 16) × HoldsNothing book × HoldsNothing refusal
  none_made none holds = subst (λ m. Keeps m status book refusal) (none (kept_of_held held kept None is holds)) keeps

  -- where one is
  pub next_made : (stage : Book → Stage Book) (text : List ℕ) → ((b : Book) → kept_book kept ≡ Some b → Makes (stage b) text made) → (b : Book) → held_book held ≡ Some b → Gives (stage b) text status book refusal
  next_made stage text makes b holds = gives (stage b) text made status book refusal (makes b (kept_of_held held kept (Some b) is holds)) keeps
