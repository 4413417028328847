-- Filings one after another: up to a line, and on from there.
use Rattle.std.proofs.Common.{◌≡◌, ◌≤◌, ◌<◌, ◌+◌, ℕ, suc, Option, List, [], ◌∷◌, ◌++◌, length, take, drop, get_or, eqb, true, Result, Ok, Err, refl, sym, ap, subst, ◌∙◌, append_assoc, append-nil, add-one, drop-cons, inl, inr, arith}
use borrow.Author.Tests.{eqb-true}
use Rattle.std.proofs.lemmas.List.{drop_all}
use Rattle.std.proofs.Math.Seq.{take-append_seam}
use Rattle.fare_law.specs.declared.filings.Filing.{Filing}
use Rattle.fare_law.specs.declared.rows.TextLine.{TextLine}
use Rattle.fare_law.specs.Book.{Book}
use Rattle.whole_case.specs.declared.refusals.LoadFault.{LoadFault}
use Rattle.whole_case.specs.declared.refusals.LoadFault.TheVariants.{Refused, Mem}
use Rattle.whole_case.specs.declared.refusals.Refusal.{Refusal}
use Rattle.whole_case.specs.Filings.{are_taken, filed, filed_version, kept, next, version}
use Rattle.whole_case.specs.Stages.{Reads}
use Rattle.law_lemmas.proofs.Options.{ok_same}

-- what the lines from a place on come to, the lines before them come to
pub filed_on : (b : Book) (front rest : List TextLine) (named : Book) → filed b front (Ok named) → (outcome : Result Book Refusal) → filed named rest outcome → filed b (front ++ rest) outcome
filed_on b [] rest named f outcome r = subst (λ x. filed x rest outcome) (ok_same named b f) r
filed_on b (line ∷ front) rest named (more, n, f) (Ok last) r = (more, n, filed_on more front rest named f (Ok last) r)
filed_on b (line ∷ front) rest named (more, n, f) (Err refusal) r = inr (more, n, filed_on more front rest named f (Err refusal) r)

pub filed_fault : (b : Book) (front rest : List TextLine) (refusal : Refusal) → filed b front (Err refusal) → filed b (front ++ rest) (Err refusal)
filed_fault b [] rest refusal f = absurd (cc)
filed_fault b (line ∷ front) rest refusal (inl n) = inl n
filed_fault b (line ∷ front) rest refusal (inr (more, n, f)) = inr (more, n, filed_fault more front rest refusal f)

-- a book has so many filings more as lines were filed
pub record Grows (b c : Book) (count : ℕ) : Type 0 where
  pub more : List Filing
  pub is : c ≡ record { timetable = b.timetable; entries = b.entries ++ more }
  pub many : length more ≡ count

pub filed_grows : (b c : Book) (lines : List TextLine) → filed b lines (Ok c) → Grows b c (length lines)
filed_grows b c [] f = record { more = []; is = ok_same c b f ∙ same; many = refl }
  where
    same : b ≡ record { timetable = b.timetable; entries = b.entries ++ [] }
    same = λ i. record { timetable = b.timetable; entries = sym (append-nil b.entries) i }
filed_grows b c (line ∷ lines) (m, (filing, read, (none, is)), f) = grown (filed_grows m c lines f)
  where
    grown : Grows m c (length lines) → Grows b c (suc (length lines))
    grown g = record {
      more = filing ∷ g.more;
      is = g.is ∙ ap (λ (x : Book). record { timetable = x.timetable; entries = x.entries ++ g.more }) is ∙ joined g.more;
      many = ap suc g.many;
    }
      where
        joined : (more : List Filing) → ◌≡◌ {A = Book} (record { timetable = b.timetable; entries = (b.entries ++ filing ∷ []) ++ more }) (record { timetable = b.timetable; entries = b.entries ++ (filing ∷ more) })
        joined more = λ i. record { timetable = b.timetable; entries = append_assoc b.entries (filing ∷ []) more i }

-- ---- line by line
-- what the lines from a place on come to, all lines come to
abbrev pub GoesOn : Book → List TextLine → Book → ℕ → Type 0
GoesOn start lines b i = (outcome : Result Book Refusal) → filed b (drop i lines) outcome → filed start lines outcome

here : (lines : List TextLine) (i : ℕ) (d : TextLine) → i < length lines → drop i lines ≡ get_or lines i d ∷ drop (i + 1) lines
here lines i d l = rw (drop-cons lines i d l, add-one) refl

pub filed_start : (b : Book) (lines : List TextLine) → GoesOn b lines b 0
filed_start b lines outcome f = f

pub filed_more : (start : Book) (lines : List TextLine) (b m : Book) (i : ℕ) (line : TextLine) → i < length lines → line ≡ get_or lines i line → next b line (Ok m) → GoesOn start lines b i → GoesOn start lines m (i + 1)
filed_more start lines b m i line lt e n h outcome f = h outcome (subst (λ ls. filed b ls outcome) (ap (λ x. x ∷ drop (i + 1) lines) e ∙ sym (here lines i line lt)) (after outcome f))
  where
    after : (outcome : Result Book Refusal) → filed m (drop (i + 1) lines) outcome → filed b (line ∷ drop (i + 1) lines) outcome
    after (Ok last) f = (m, n, f)
    after (Err refusal) f = inr (m, n, f)

pub filed_stop : (start : Book) (lines : List TextLine) (b : Book) (i : ℕ) (line : TextLine) (fault : LoadFault) → i < length lines → line ≡ get_or lines i line → Reads (Err fault) (next b line) → GoesOn start lines b i → Reads (Err fault) (filed start lines)
filed_stop start lines b i line (Refused refusal) lt e n h = h (Err refusal) (subst (λ ls. filed b ls (Err refusal)) (ap (λ x. x ∷ drop (i + 1) lines) e ∙ sym (here lines i line lt)) (inl n))
filed_stop start lines b i line Mem lt e n h = tt

pub filed_end : (start : Book) (lines : List TextLine) (b : Book) (i : ℕ) → length lines ≤ i → GoesOn start lines b i → filed start lines (Ok b)
filed_end start lines b i le h = h (Ok b) (subst (λ ls. filed b ls (Ok b)) (sym (drop_all i lines le)) refl)

-- ---- all the lines
pub empty_is : (lines : List TextLine) → eqb (length lines) 0 ≡ true → lines ≡ []
empty_is [] h = refl
empty_is (line ∷ lines) h = absurd (omega (arith, eqb-true (length (line ∷ lines)) 0 h))

pub none_taken : (b : Book) (lines : List TextLine) → lines ≡ [] → are_taken b lines (Ok tt)
none_taken b lines e = subst (λ ls. are_taken b ls (Ok tt)) (sym e) (b, refl, refl)

-- ---- the version that is kept
module _ (b : Book) (lines front rest : List TextLine) (at : Option ℕ) (split : lines ≡ front ++ rest) where
  pub front_stops : (fault : LoadFault) → Reads (Err fault) (filed b front) → Reads (Err fault) (filed_version b lines at)
  front_stops (Refused refusal) f = inl (subst (λ ls. filed b ls (Err refusal)) (sym split) (filed_fault b front rest refusal f))
  front_stops Mem f = tt

  pub later_stops : (named : Book) (fault : LoadFault) → filed b front (Ok named) → Reads (Err fault) (are_taken named rest) → Reads (Err fault) (filed_version b lines at)
  later_stops named (Refused refusal) f (inl r) = inl (subst (λ ls. filed b ls (Err refusal)) (sym split) (filed_on b front rest named f (Err refusal) r))
  later_stops named (Refused refusal) f (inr (last, r, e)) = absurd (cc)
  later_stops named Mem f r = tt

  pub version_kept : (named : Book) → b.entries ≡ [] → length front ≡ kept at (length lines) → filed b front (Ok named) → are_taken named rest (Ok tt) → filed_version b lines at (Ok named)
  version_kept named none count f (last, r, e) =
      let whole : filed b lines (Ok last) = subst (λ ls. filed b ls (Ok last)) (sym split) (filed_on b front rest named f (Ok last) r) in
      (last, whole, ap Ok (same (filed_grows b named front f) (filed_grows named last rest r)))
    where
      same : Grows b named (length front) → Grows named last (length rest) → named ≡ version (kept at (length lines)) last
      same g h = told (ap (λ (x : Book). x.timetable) h.is) (ap (λ (x : Book). x.entries) h.is) (ap (λ (x : Book). x.entries) g.is)
        where
          told : last.timetable ≡ named.timetable → last.entries ≡ named.entries ++ h.more → named.entries ≡ b.entries ++ g.more → named ≡ version (kept at (length lines)) last
          told t l n =
              let entries : named.entries ≡ g.more = n ∙ ap (λ xs. xs ++ g.more) none in
              let front_is : take (kept at (length lines)) last.entries ≡ named.entries =
              ap (λ xs. take (kept at (length lines)) xs) l ∙ ap (λ n. take n (named.entries ++ h.more)) (sym count ∙ sym g.many ∙ ap length (sym entries)) ∙ take-append_seam named.entries h.more in
              λ i. record { timetable = sym t i; entries = sym front_is i }
