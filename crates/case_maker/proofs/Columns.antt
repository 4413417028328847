-- A row of columns: it is cut into them again, it is plain, and it begins no header.
use Rattle.std.proofs.Common.{◌≡◌, ◌≢◌, ◌≤◌, ◌<◌, ◌+◌, ◌%◌, ◌/◌, ◌&&◌, ℕ, Bool, true, false, cond, eqb, List, [], ◌∷◌, ◌++◌, length, refl, ap, ◌∙◌, arith, nat_lt, not}
use borrow.Author.Tests.{ne_eqb}
use Rattle.std.proofs.lemmas.Bool.Decides.{nat_tests}
use Rattle.std.specs.Int.{IsInRange}
use Rattle.std.specs.List.{join_with_byte, list_all}
use Rattle.case_text.specs.Cut.{cut, onto_first, plain_byte, plain_line}
use Rattle.case_text.specs.Entries.{begins_header}
use Rattle.case_text.specs.Rows.{columns}
use Rattle.fare_law.specs.Lists.{Each}
use Rattle.law_lemmas.proofs.EachOne.{each_append, each_weaker}
use Rattle.law_lemmas.proofs.Tests.{both_true}
use Rattle.std.specs.Prelude.{Ok, Err}

-- a byte of a column: a letter, a digit or a mark, but no comma
pub record IsColumnByte (c : ℕ) : Type 0 where
  pub low : 42 ≤ c
  pub high : c ≤ 90
  pub other : c ≢ 44

abbrev pub IsColumn : List ℕ → Type 0
IsColumn column = Each IsColumnByte column

-- a byte of a row
pub record IsRowByte (c : ℕ) : Type 0 where
  pub low : 42 ≤ c
  pub high : c ≤ 90

-- ---- the cut

cut_last : (column : List ℕ) → IsColumn column → cut column ≡ column ∷ []
cut_last [] h = refl
cut_last (c ∷ column) h =
    ap (λ b. cond b ([] ∷ cut column) (onto_first c (cut column))) (ne_eqb c 44 h.0.other) ∙ ap (onto_first c) (cut_last column h.1)

cut_more : (column rest : List ℕ) → IsColumn column → cut (column ++ 44 ∷ rest) ≡ column ∷ cut rest
cut_more [] rest h = refl
cut_more (c ∷ column) rest h =
    ap (λ b. cond b ([] ∷ cut (column ++ 44 ∷ rest)) (onto_first c (cut (column ++ 44 ∷ rest)))) (ne_eqb c 44 h.0.other) ∙ ap (onto_first c) (cut_more column rest h.1)

cut_joined : (column : List ℕ) (others : List (List ℕ)) → Each IsColumn (column ∷ others) → cut (join_with_byte 44 (column ∷ others)) ≡ column ∷ others
cut_joined column [] h = cut_last column h.0
cut_joined column (next ∷ others) h = cut_more column (join_with_byte 44 (next ∷ others)) h.0 ∙ ap (λ fs. column ∷ fs) (cut_joined next others h.1)

-- ---- the bytes

row_byte : (c : ℕ) → IsColumnByte c → IsRowByte c
row_byte c h = record { low = h.low; high = h.high }

pub joined_bytes : (columns : List (List ℕ)) → Each IsColumn columns → Each IsRowByte (join_with_byte 44 columns)
joined_bytes [] h = tt
joined_bytes (column ∷ []) h = each_weaker IsColumnByte IsRowByte row_byte column h.0
joined_bytes (column ∷ next ∷ others) h =
    each_append IsRowByte column (44 ∷ join_with_byte 44 (next ∷ others)) (each_weaker IsColumnByte IsRowByte row_byte column h.0) (record { low = omega arith; high = omega arith }, joined_bytes (next ∷ others) h.1)

is_plain : (c : ℕ) → IsRowByte c → plain_byte c ≡ true
is_plain c h = let low = h.low in let high = h.high in grind (arith, nat_tests)

pub all_plain : (line : List ℕ) → Each IsRowByte line → plain_line line ≡ true
all_plain [] h = refl
all_plain (c ∷ line) h = rw (is_plain c h.0) (all_plain line h.1)

pub no_header : (line : List ℕ) → Each IsRowByte line → begins_header line ≡ false
no_header [] h = refl
no_header (c ∷ line) h = ne_eqb c 35 (λ e. omega (arith, e, h.0.low))

-- ---- the columns

-- a row of these columns is read as them
pub columns_read : (column : List ℕ) (others : List (List ℕ)) (count : ℕ) → Each IsColumn (column ∷ others) → eqb (length (column ∷ others)) count ≡ true
    → columns count (join_with_byte 44 (column ∷ others)) ≡ Ok (column ∷ others)
columns_read column others count h many =
    let line = join_with_byte 44 (column ∷ others) in
    ap (λ b. cond (b && eqb (length (cut line)) count) (Ok (cut line)) (Err 0)) (all_plain line (joined_bytes (column ∷ others) h))
    ∙ ap (λ fs. cond (eqb (length fs) count) (Ok fs) (Err 0)) (cut_joined column others h)
    ∙ ap (λ b. cond b (Ok (column ∷ others)) (Err 0)) many

-- ---- columns that are made

pub column_byte : (c : ℕ) → 45 ≤ c → c ≤ 90 → IsColumnByte c
column_byte c low high = record { low = omega (arith, low); high = high; other = λ e. omega (arith, e, low) }

pub digits_column : (digits : List ℕ) → Each (IsInRange 48 57) digits → IsColumn digits
digits_column [] h = tt
digits_column (c ∷ digits) h = (column_byte c (omega (arith, h.0.0)) (omega (arith, h.0.1)), digits_column digits h.1)

pub capitals_column : (name : List ℕ) → Each (IsInRange 65 90) name → IsColumn name
capitals_column [] h = tt
capitals_column (c ∷ name) h = (column_byte c (omega (arith, h.0.0)) (omega (arith, h.0.1)), capitals_column name h.1)

abbrev column_test : ℕ → Bool
column_test c = nat_lt 41 c && nat_lt c 91 && not (eqb c 44)

tested : (c : ℕ) → column_test c ≡ true → IsColumnByte c
tested c e = record { low = grind (arith, nat_tests); high = grind (arith, nat_tests); other = λ is. grind (arith, nat_tests) }

-- a column that is known
pub known_column : (column : List ℕ) → list_all column_test column ≡ true → IsColumn column
known_column [] e = tt
known_column (c ∷ column) e = let h = both_true (column_test c) (list_all column_test column) e in (tested c h.0, known_column column h.1)

pub time_column : (minute : ℕ) → minute < 1440 → IsColumn ((48 + minute / 60 / 10) ∷ (48 + minute / 60 % 10) ∷ 58 ∷ (48 + minute % 60 / 10) ∷ (48 + minute % 60 % 10) ∷ [])
time_column minute h =
    (column_byte _ (omega arith) (omega (arith, h)), (column_byte _ (omega arith) (omega (arith, h)), (column_byte 58 (omega arith) (omega arith), (column_byte _ (omega arith) (omega (arith, h)), (column_byte _ (omega arith) (omega (arith, h)), tt)))))
