-- Lines that are rows of one table are its entries, with what follows them.
use Rattle.std.proofs.Common.{◌≡◌, ◌≤◌, ◌<◌, ◌+◌, ◌∙◌, ℕ, true, false, cond, List, [], ◌∷◌, ◌++◌, length, map, flat_map, Some, Result, Ok, Err, refl, ap, subst, arith, lt-ltb}
use Rattle.case_text.specs.declared.contents.Entry.{Entry}
use Rattle.case_text.specs.declared.faults.CaseFault.TheVariants.{AfterEnd}
use Rattle.case_text.specs.declared.headers.Header.{Header}
use Rattle.case_text.specs.declared.kinds.CaseKind.TheVariants.{Search}
use Rattle.case_text.specs.declared.standing.Standing.{Standing}
use Rattle.case_text.specs.Entries.{begins_header, counted, entries, entry_of, has_room, header_judged, is_header, is_over, judged, limit, line_judged, moved, row_judged, ◌>>=◌}
use Rattle.fare_law.specs.declared.rows.TextLine.{TextLine}
use Rattle.fare_law.specs.Lists.{Matched}

-- where the next line of a section stands, after so many
abbrev pub in_section : Header → ℕ → Standing
in_section h count = record { under = Some h; count = count }

-- A table: what its header, its limit and its entries are.
pub record IsTable {A : Type 0} (h : Header) (entry : A → Entry) (read : TextLine → Result A ℕ) (most : ℕ) : Type 0 where
  pub on : is_over (Some h) ≡ false
  pub headers : (line : List ℕ) → is_header (Some h) line ≡ begins_header line
  pub room : limit Search h ≡ Some most
  pub reads : (l : TextLine) → entry_of h l ≡ row_judged entry l (read l)
  pub moves : (count : ℕ) (a : A) → moved (in_section h count) (entry a) ≡ in_section h (count + 1)

-- the line is no header, and it is read as this row
abbrev pub IsReadAs : {A : Type 0} → (TextLine → Result A ℕ) → TextLine → A → Type 0
IsReadAs read l a = (begins_header l.bytes ≡ false) × (read l ≡ Ok a)

module _ {A : Type 0} (h : Header) (entry : A → Entry) (read : TextLine → Result A ℕ) (most : ℕ) (t : IsTable h entry read most) where
  one : (count : ℕ) (l : TextLine) (a : A) → count < most → IsReadAs read l a → judged Search (in_section h count) l ≡ Ok (entry a)
  one count l a few is =
      ap (λ b. cond b (Err (AfterEnd l.line)) (cond (is_header (Some h) l.bytes) (header_judged Search (in_section h count) l) (line_judged Search (Some h) count l))) t.on
      ∙ ap (λ b. cond b (header_judged Search (in_section h count) l) (line_judged Search (Some h) count l)) (t.headers l.bytes ∙ is.0)
      ∙ ap (λ m. counted (has_room m count) l (entry_of h l)) t.room
      ∙ ap (λ b. counted b l (entry_of h l)) (lt-ltb count most few)
      ∙ ap (λ r. counted true l r) (t.reads l ∙ ap (row_judged entry l) is.1)

  pub rows_before : (next count : ℕ) (ls : List TextLine) (rows : List A) (rest : List TextLine) (more : List Entry) → Matched (IsReadAs read) ls rows → count + length ls ≤ most
      → entries Search next (in_section h (count + length ls)) rest ≡ Ok more → entries Search next (in_section h count) (ls ++ rest) ≡ Ok (map entry rows ++ more)
  rows_before next count [] [] rest more m few e = subst (λ k. entries Search next (in_section h k) rest ≡ Ok more) {x = count + 0} {y = count} (omega arith) e
  rows_before next count [] (a ∷ rows) rest more m few e = absurd m
  rows_before next count (l ∷ ls) [] rest more m few e = absurd m
  rows_before next count (l ∷ ls) (a ∷ rows) rest more m few e =
      let after = rows_before next (count + 1) ls rows rest more m.1 (omega (arith, few)) (subst (λ k. entries Search next (in_section h k) rest ≡ Ok more) {x = count + length (l ∷ ls)} {y = (count + 1) + length ls} (omega arith) e) in
      ap (λ x. x >>= (λ y. entries Search next (moved (in_section h count) y) (ls ++ rest) >>= (λ more. Ok (y ∷ more)))) (one count l a (omega (arith, few)) m.0)
      ∙ ap (λ st. entries Search next st (ls ++ rest) >>= (λ more. Ok (entry a ∷ more))) (t.moves count a)
      ∙ ap (λ x. x >>= (λ more. Ok (entry a ∷ more))) after

-- ---- what entries add to a case

-- rows of another table add nothing
pub none_of : {A B : Type 0} (entry : A → Entry) (f : Entry → List B) → ((a : A) → f (entry a) ≡ []) → (rows : List A) (rest : List Entry) → flat_map f (map entry rows ++ rest) ≡ flat_map f rest
none_of entry f none [] rest = refl
none_of entry f none (a ∷ rows) rest = ap (λ xs. xs ++ flat_map f (map entry rows ++ rest)) (none a) ∙ none_of entry f none rows rest

-- rows of the table are added one after another
pub all_of : {A : Type 0} (entry : A → Entry) (f : Entry → List A) → ((a : A) → f (entry a) ≡ a ∷ []) → (rows : List A) (rest : List Entry) → flat_map f (map entry rows ++ rest) ≡ rows ++ flat_map f rest
all_of entry f each [] rest = refl
all_of entry f each (a ∷ rows) rest = ap (λ xs. xs ++ flat_map f (map entry rows ++ rest)) (each a) ∙ ap (λ xs. a ∷ xs) (all_of entry f each rows rest)
