-- What follows the filings of a case, as what follows each stage up to them.
use Rattle.std.proofs.Common.{ℕ, Option, List, Result, Ok, Err, inl, inr, refl, subst}
use Rattle.case_text.specs.declared.contents.Case.{Case}
use Rattle.case_text.specs.declared.kinds.CaseKind.{CaseKind}
use Rattle.fare_law.specs.Book.{Book}
use Rattle.whole_case.specs.declared.books.FiledCase.{FiledCase}
use Rattle.whole_case.specs.declared.refusals.LoadFault.{LoadFault}
use Rattle.whole_case.specs.declared.refusals.LoadFault.TheVariants.{Refused, Mem}
use Rattle.whole_case.specs.Books.{book_in, filed_case, filed_of}
use Rattle.whole_case.specs.Filings.{filed_version}
use Rattle.whole_case.specs.Stages.{Reads, Stage, ◌>>=◌}
use Rattle.whole_case.specs.Timetables.{opening_of, sections_in}
use Rattle.law_lemmas.proofs.Options.{ok_same}

module _ {A : Type 0} (kind : CaseKind) (at : Option ℕ) (bytes : List ℕ) (then : FiledCase → Stage A) where
  abbrev pub by_stages : Stage A
  by_stages = sections_in kind bytes >>= (λ case. opening_of case.places case.flights case.seats >>= (λ opening. filed_version opening case.filings at >>= (λ book. then (filed_of case book))))

  pub parted : (r : Result A LoadFault) → Reads r (filed_case kind at bytes >>= then) → Reads r by_stages
  parted (Ok a) (filed, (case, form, (book, (opening, rows, filings), e)), s) =
      (case, form, (opening, rows, (book, filings, subst (λ (x : FiledCase). then x (Ok a)) (ok_same filed (filed_of case book) e) s)))
  parted (Err (Refused refusal)) (inl (inl p)) = inl p
  parted (Err (Refused refusal)) (inl (inr (case, form, inl (inl p)))) = inr (case, form, inl p)
  parted (Err (Refused refusal)) (inl (inr (case, form, inl (inr (opening, rows, p))))) = inr (case, form, inr (opening, rows, inl p))
  parted (Err (Refused refusal)) (inl (inr (case, form, inr (book, made, e)))) = absurd (cc)
  parted (Err (Refused refusal)) (inr (filed, (case, form, (book, (opening, rows, filings), e)), s)) =
      inr (case, form, inr (opening, rows, inr (book, filings, subst (λ (x : FiledCase). then x (Err refusal)) (ok_same filed (filed_of case book) e) s)))
  parted (Err Mem) p = tt

-- a case is filed in two stages, its sections and its book
module _ (kind : CaseKind) (at : Option ℕ) (bytes : List ℕ) (case : Case) (form : sections_in kind bytes (Ok case)) where
  pub book_stops : (fault : LoadFault) → Reads {A = Book} (Err fault) (book_in case.places case.flights case.seats case.filings at) → Reads {A = FiledCase} (Err fault) (filed_case kind at bytes)
  book_stops (Refused refusal) h = inr (case, form, inl h)
  book_stops Mem h = tt

  pub filed : (book : Book) → book_in case.places case.flights case.seats case.filings at (Ok book) → filed_case kind at bytes (Ok (filed_of case book))
  filed book h = (case, form, (book, h, refl))
