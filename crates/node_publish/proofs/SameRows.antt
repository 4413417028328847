-- Rows of two sheets, the next of which are equal too.
use Rattle.std.proofs.Common.{◌≡◌, ℕ, ◌+◌, ◌<◌, List, [], ◌∷◌, ◌++◌, length, take, slice_index_or, sym, subst, ap, ap₂, ◌∙◌}
use Rattle.std.proofs.Math.Seq.{take-suc, take-length}
use Rattle.std.proofs.Math.Numerals.{suc-eq-add-one}
use Rattle.fare_law.specs.declared.sheets.SheetRow.{SheetRow}

pub row_whole : (r s : SheetRow) → r.fare ≡ s.fare → r.rule ≡ s.rule → r ≡ s
row_whole r s f u = λ i. record { fare = f i; rule = u i }

pub rows_more : (xs ys : List SheetRow) (n : ℕ) (d : SheetRow) → n < length xs → n < length ys → take n xs ≡ take n ys
    → slice_index_or xs n d ≡ slice_index_or ys n d → take (n + 1) xs ≡ take (n + 1) ys
rows_more xs ys n d i j before here =
    subst (λ k. take k xs ≡ take k ys) (suc-eq-add-one n) (take-suc xs n d i ∙ ap₂ (λ a b. a ++ (b ∷ [])) before here ∙ sym (take-suc ys n d j))

pub all_rows : (xs ys : List SheetRow) → length xs ≡ length ys → take (length xs) xs ≡ take (length xs) ys → xs ≡ ys
all_rows xs ys many same = sym (take-length xs) ∙ same ∙ ap (λ n. take n ys) many ∙ take-length ys
