-- Bytes of a search's case with a section of lines before #end have the sections of a check: the same, and these lines.
use Rattle.std.proofs.Common.{◌≡◌, ◌+◌, ℕ, List, [], ◌∷◌, ◌++◌, length, map, flat_map, None, false, Ok, codes, refl, sym, ap, subst, ◌∙◌}
use Rattle.std.specs.Str.Lines.{lines}
use Rattle.std.proofs.lemmas.Grind.{flat_map-append}
use Rattle.case_text.specs.declared.contents.Case.{Case}
use Rattle.case_text.specs.declared.contents.Entry.{Entry}
use Rattle.case_text.specs.declared.contents.Entry.TheVariants.{Opens, Text}
use Rattle.case_text.specs.declared.headers.Header.TheVariants.{Certificate, End, Filings, Request}
use Rattle.case_text.specs.declared.kinds.CaseKind.TheVariants.{Check, Search}
use Rattle.case_text.specs.Contents.{case_with, flights_in, lines_in, places_in, seats_in}
use Rattle.case_text.specs.Entries.{at_start, case_of, entries, ◌>>=◌}
use Rattle.case_text.specs.Headers.{is_named}
use Rattle.case_text.specs.Lines.{numbered, text_lines}
use Rattle.fare_law.specs.declared.rows.TextLine.{TextLine}
use Rattle.fare_law.specs.Lists.{Each}
use Rattle.search_check.specs.Sections.{SameSections}
use Rattle.search_check.proofs.SectionAdded.{Before, after_request, before, certificate_line, end_line, ok_bind}
use Rattle.search_check.proofs.TextLines.{IsRead, front_lines, lines_after, lines_read, numbered_bytes, numbered_each, numbered_more}
use Rattle.law_lemmas.proofs.Options.{ok_same}

-- a line that is read as it was written, and isn't #end
pub record IsOwn (line : List ℕ) : Type 0 where
  pub read : IsRead line
  pub other : is_named line End ≡ false

all_read : (ls : List (List ℕ)) → Each IsOwn ls → Each IsRead ls
all_read [] h = tt
all_read (l ∷ ls) h = (h.0.read, all_read ls h.1)

all_other : (ls : List (List ℕ)) → Each IsOwn ls → Each (λ l. is_named l End ≡ false) ls
all_other [] h = tt
all_other (l ∷ ls) h = (h.0.other, all_other ls h.1)

-- ---- the entries of the section

-- what headers and lines of a certificate add nothing to
record Silent {X : Type 0} (f : Entry → List X) : Type 0 where
  certificate : (n : ℕ) → f (Opens Certificate n) ≡ []
  end : (n : ℕ) → f (Opens End n) ≡ []
  line : (l : TextLine) → f (Text Certificate l) ≡ []

abbrev section_of : ℕ → List TextLine → ℕ → List Entry
section_of m ls n = Opens Certificate m ∷ (map (Text Certificate) ls ++ Opens End n ∷ [])

silent_lines : {X : Type 0} (f : Entry → List X) → Silent f → (ls : List TextLine) (n : ℕ) → flat_map f (map (Text Certificate) ls ++ Opens End n ∷ []) ≡ []
silent_lines f s [] n = ap (λ xs. xs ++ []) (s.end n)
silent_lines f s (l ∷ ls) n = ap (λ xs. xs ++ flat_map f (map (Text Certificate) ls ++ Opens End n ∷ [])) (s.line l) ∙ silent_lines f s ls n

same_lists : {X : Type 0} (f : Entry → List X) → Silent f → (front : List Entry) (k m n : ℕ) (ls : List TextLine) → flat_map f (front ++ section_of m ls n) ≡ flat_map f (front ++ Opens End k ∷ [])
same_lists f s front k m n ls =
    flat_map-append f front (section_of m ls n)
    ∙ ap (λ xs. flat_map f front ++ xs) (ap (λ xs. xs ++ flat_map f (map (Text Certificate) ls ++ Opens End n ∷ [])) (s.certificate m) ∙ silent_lines f s ls n ∙ sym (ap (λ xs. xs ++ []) (s.end k)))
    ∙ sym (flat_map-append f front (Opens End k ∷ []))

own_lines : (ls : List TextLine) (n : ℕ) → flat_map (lines_in Certificate) (map (Text Certificate) ls ++ Opens End n ∷ []) ≡ ls
own_lines [] n = refl
own_lines (l ∷ ls) n = ap (λ xs. l ∷ xs) (own_lines ls n)

silent_rows : {X : Type 0} (f : Entry → List X) → ((n : ℕ) → f (Opens Certificate n) ≡ []) → ((n : ℕ) → f (Opens End n) ≡ []) → ((l : TextLine) → f (Text Certificate l) ≡ []) → Silent f
silent_rows f a b c = record { certificate = a; end = b; line = c }

same_sections : (front : List Entry) (k m n : ℕ) (ls : List TextLine) → SameSections (case_with (front ++ Opens End k ∷ [])) (case_with (front ++ section_of m ls n))
same_sections front k m n ls = record {
  places = same_lists places_in (silent_rows places_in (λ _. refl) (λ _. refl) (λ _. refl)) front k m n ls;
  flights = same_lists flights_in (silent_rows flights_in (λ _. refl) (λ _. refl) (λ _. refl)) front k m n ls;
  seats = same_lists seats_in (silent_rows seats_in (λ _. refl) (λ _. refl) (λ _. refl)) front k m n ls;
  filings = same_lists (lines_in Filings) (silent_rows (lines_in Filings) (λ _. refl) (λ _. refl) (λ _. refl)) front k m n ls;
  requests = same_lists (lines_in Request) (silent_rows (lines_in Request) (λ _. refl) (λ _. refl) (λ _. refl)) front k m n ls;
}

-- ---- the lines of both cases

searched_lines : (front : List ℕ) → text_lines (front ++ codes "\n#end\n") ≡ numbered 1 (front_lines front) ++ end_line (1 + length (front_lines front)) ∷ []
searched_lines front = ap (numbered 1) (lines_after front (codes "#end\n")) ∙ numbered_more 1 (front_lines front) (lines (codes "#end\n"))

checked_lines : (front : List ℕ) (ls : List (List ℕ)) → Each IsOwn ls
    → lines (front ++ (codes "\n#certificate\n" ++ (flat_map (λ line. line ++ 10 ∷ []) ls ++ codes "#end\n"))) ≡ front_lines front ++ codes "#certificate" ∷ (ls ++ codes "#end" ∷ [])
checked_lines front ls own =
    let text = flat_map (λ (line : List ℕ). line ++ 10 ∷ []) ls ++ codes "#end\n" in
    lines_after front (codes "#certificate" ++ 10 ∷ text)
    ∙ ap (λ xs. front_lines front ++ xs) (lines_after (codes "#certificate") text ∙ ap (λ xs. codes "#certificate" ∷ xs) (lines_read ls (codes "#end\n") (all_read ls own)))

numbered_lines : (front : List ℕ) (ls : List (List ℕ)) → Each IsOwn ls
    → text_lines (front ++ (codes "\n#certificate\n" ++ (flat_map (λ line. line ++ 10 ∷ []) ls ++ codes "#end\n")))
    ≡ numbered 1 (front_lines front) ++ certificate_line (1 + length (front_lines front)) ∷ (numbered (1 + length (front_lines front) + 1) ls ++ end_line (1 + length (front_lines front) + 1 + length ls) ∷ [])
numbered_lines front ls own =
    let m = 1 + length (front_lines front) in
    ap (numbered 1) (checked_lines front ls own)
    ∙ numbered_more 1 (front_lines front) (codes "#certificate" ∷ (ls ++ codes "#end" ∷ []))
    ∙ ap (λ xs. numbered 1 (front_lines front) ++ certificate_line m ∷ xs) (numbered_more (m + 1) ls (codes "#end" ∷ []))

-- ---- the cases

-- The case of a check, with the sections of this one, and these lines in that of the certificate.
pub record HasAdded (before : Case) (added : List ℕ) (ls : List (List ℕ)) : Type 0 where
  pub after : Case
  pub spelled : case_of Check added ≡ Ok after
  pub same : SameSections before after
  pub lines : map (λ (l : TextLine). l.bytes) after.certificate ≡ ls

pub has_added : (front : List ℕ) (ls : List (List ℕ)) (before : Case) → Each IsOwn ls → case_of Search (front ++ codes "\n#end\n") ≡ Ok before
    → HasAdded before (front ++ (codes "\n#certificate\n" ++ (flat_map (λ line. line ++ 10 ∷ []) ls ++ codes "#end\n"))) ls
has_added front ls case own e =
    let bytes = front ++ codes "\n#end\n" in
    let added = front ++ (codes "\n#certificate\n" ++ (flat_map (λ (line : List ℕ). line ++ 10 ∷ []) ls ++ codes "#end\n")) in
    let k = 1 + length (front_lines front) in
    let n = k + 1 + length ls in
    let section = numbered (k + 1) ls in
    let r = ok_bind (entries Search (length (lines bytes) + 1) at_start (text_lines bytes)) (λ found. Ok (case_with found)) case e in
    let b : Before at_start (numbered 1 (front_lines front)) k r.0 =
    before (length (lines bytes) + 1) None 0 (numbered 1 (front_lines front)) k r.0 tt (subst (λ xs. entries Search (length (lines bytes) + 1) at_start xs ≡ Ok r.0) (searched_lines front) r.1) in
    let found = b.front ++ section_of k section n in
    let read : entries Check (length (lines added) + 1) at_start (text_lines added) ≡ Ok found =
    ap (entries Check (length (lines added) + 1) at_start) (numbered_lines front ls own)
    ∙ b.on (length (lines added) + 1) (certificate_line k ∷ (section ++ end_line n ∷ [])) (section_of k section n)
    (after_request (length (lines added) + 1) b.count k section n b.asked (numbered_each (λ l. is_named l End ≡ false) (k + 1) ls (all_other ls own))) in
    let is : case ≡ case_with (b.front ++ Opens End k ∷ []) = ok_same case (case_with r.0) (sym r.2) ∙ ap case_with b.whole in
    record {
      after = case_with found;
      spelled = ap (λ x. x >>= (λ (z : List Entry). Ok (case_with z))) read;
      same = subst (λ x. SameSections x (case_with found)) (sym is) (same_sections b.front k k n section);
      lines =
          ap (map (λ (l : TextLine). l.bytes))
          (flat_map-append (lines_in Certificate) b.front (section_of k section n) ∙ ap (λ xs. xs ++ flat_map (lines_in Certificate) (section_of k section n)) b.none ∙ own_lines section n)
          ∙ numbered_bytes (k + 1) ls (all_read ls own);
    }
