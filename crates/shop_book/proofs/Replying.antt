-- What a call replies, from what was found of the book that is kept and from what was told.
use Rattle.std.proofs.Common.{◌≡◌, ℕ, List, Option, None, Some, Result, Ok, Err, ap, subst, sym, ◌∙◌, inl, inr}
use Rattle.std.proofs.lemmas.Option.{none-some, same_Some}
use Rattle.shop_book.specs.Held.{HoldsNothing, held_book, kept_book}
use Rattle.shop_book.specs.declared.handles.Handle.{Handle}
use Rattle.shop_book.specs.declared.handles.kept.Kept.{Kept}
use Rattle.fare_law.specs.Book.{Book}
use Rattle.lowfare.specs.declared.status.Status.{Status}
use Rattle.shop_book.specs.Told.{Asks, Finds, FindsOf, Replies, Tells}
use Rattle.shop_book.specs.declared.handles.lacks.Lack.{Lack}
use Rattle.shop_book.specs.declared.handles.lacks.Lack.TheVariants.{Memory, NoBook, TooLong}
use Rattle.lowfare.specs.declared.outcomes.Outcome.{Outcome}

pub replies : (says : Status → List ℕ → Type 0) (long : Type 0) (reply : Result Outcome Lack) (status : ℕ) (h : Handle) → Finds says long reply → Tells reply status h → Replies says long status h
replies says long (Ok reply) status h found (inl told) = inl (record { reply = reply.status; text = reply.text; so = found; number = told.0; holds = told.1 })
replies says long (Ok reply) status h found (inr told) = inr (inl told.0, told.1)
replies says long (Err Memory) status h found told = inr (inl told.0, told.1)
replies says long (Err TooLong) status h found told = inr (inr (told.0, found), told.1)
replies says long (Err NoBook) status h found told = absurd found

-- the book among what is held is the one that is kept
pub kept_of_held : (held : Option Kept) (kept : Kept) (known : Option Book) → held ≡ Some kept → held_book held ≡ known → kept_book kept ≡ known
kept_of_held held kept known is holds = sym (ap held_book is) ∙ holds

-- no book is the one that is kept
no_book : (b : Book) (known : Option Book) → known ≡ None → known ≡ Some b → ⊥
no_book b known none some = none-some b (sym none ∙ some)

module _ (says : Book → Status → List ℕ → Type 0) (long : Type 0) where
  module _ (kept : Kept) (reply : Result Outcome Lack) where
    -- what was found where no book is kept
    pub none_found : kept_book kept ≡ None → reply ≡ Err NoBook → FindsOf kept says long reply
    none_found none is = record { none = λ _. is; found = λ b some. absurd (no_book b (kept_book kept) none some) }

    -- what was found of the book that is
    pub book_found : (b : Book) → kept_book kept ≡ Some b → Finds (says b) long reply → FindsOf kept says long reply
    book_found b some found = record {
      none = λ none. absurd (no_book b (kept_book kept) none some);
      found = λ other is. subst (λ b. Finds (says b) long reply) (same_Some b other (sym some ∙ is)) found;
    }

  module _ (before after answer : Handle) (reply : Result Outcome Lack) (status : ℕ) (told : Tells reply status answer) where
    -- a handle that holds nothing was asked
    pub asks_nothing : before.owned.held ≡ None → after.owned.held ≡ None → reply ≡ Err NoBook → Asks before after says long status answer
    asks_nothing none still lacks = record {
      same = still ∙ sym none;
      none = λ _. subst (λ r. Tells r status answer) lacks told;
      replies = λ b holds. absurd (no_book b (held_book before.owned.held) (ap held_book none) holds);
    }

    -- one that holds something was
    pub asks_kept : (kept : Kept) → before.owned.held ≡ Some kept → after.owned.held ≡ Some kept → FindsOf kept says long reply → Asks before after says long status answer
    asks_kept kept is still finds = record {
      same = still ∙ sym is;
      none = λ holds. subst (λ r. Tells r status answer) (finds.none (kept_of_held before.owned.held kept None is holds)) told;
      replies = λ b holds. replies (says b) long reply status answer (finds.found b (kept_of_held before.owned.held kept (Some b) is holds)) told;
    }
