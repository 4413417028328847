-- Lines of rows, of texts that are kept by number.
use Rattle.std.proofs.Common.{◌≡◌, ◌∙◌, ℕ, zero, suc, ◌-◌, ◌<◌, ◌≤◌, List, [], ◌∷◌, ◌++◌, length, map, get_or, slice_get, Some, append_assoc, false, refl, take, ap, sym, subst, arith}
use Rattle.std.proofs.lemmas.List.{take_all}
use Rattle.std.specs.Fmt.{decimal}
use Rattle.std.specs.List.{join_with_byte}
use Rattle.certificate.specs.declared.numbered.NumberedRow.{NumberedRow}
use Rattle.certificate.specs.NumberedRows.{bound_of, key_of, row_of, rows_of}
use Rattle.certificate_text.specs.CertText.{text_of}
use Rattle.certificate_text.specs.Lines.{bound_word, row_line}
use Rattle.certificate_text.specs.RowTexts.{beginning}
use Rattle.law_lemmas.proofs.Lists.{map_length}
use Rattle.open_unit.specs.declared.marks.CarrierMark.TheVariants.{NotYet}
use Rattle.open_unit.specs.declared.units.OpenUnit.{OpenUnit}
use Rattle.residual_keys.specs.ResidualText.{part_text, position_words, residual_text, unit_text, units_text, via_word}
use Rattle.residual_keys.specs.Residuals.{State}
use Rattle.residual_table.specs.Keys.{StandsFor, Tables, units_of}
use Rattle.residual_table.proofs.KeyFacts.{Slots, neither, one, both, has_slots, residual_is, slots}

map_got : {X : Type 0} (f : X → List ℕ) (xs : List X) (n : ℕ) (x : X) (d : List ℕ) → slice_get xs n ≡ Some x → get_or (map f xs) n d ≡ f x
map_got f [] n x d g = absurd (cc)
map_got f (y ∷ xs) zero x d g = let e : y ≡ x = cc in ap f e
map_got f (y ∷ xs) (suc n) x d g = map_got f xs n x d g

-- the text of a number is that of its element
pub text_at : {X : Type 0} (f : X → List ℕ) (xs : List X) (texts : List (List ℕ)) (n : ℕ) (x : X) (t d : List ℕ) → texts ≡ map f xs → slice_get xs n ≡ Some x → t ≡ get_or texts n d → t ≡ f x
text_at f xs texts n x t d e g is = is ∙ ap (λ ts. get_or ts n d) e ∙ map_got f xs n x d g

-- the second slot is one of a text
pub second_within : (us xs : List OpenUnit) (texts : List (List ℕ)) (first second : ℕ) → texts ≡ map unit_text us → units_of us first second ≡ Some xs → (second ≡ 0 → ⊥) → second - 1 < length texts
second_within us xs texts first zero e is some = absurd (some refl)
second_within us xs texts first (suc n) e is some =
    let many : length texts ≡ length us = ap length e ∙ map_length unit_text us in
    omega (arith, many, (has_slots us first (suc n) xs is).1)

-- the text of one open unit
pub one_added : (us xs : List OpenUnit) (texts : List (List ℕ)) (first second : ℕ) (old new t : List ℕ) → texts ≡ map unit_text us → units_of us first second ≡ Some xs
    → (first ≡ 0 → ⊥) → second ≡ 0 → t ≡ get_or texts (first - 1) t → new ≡ old ++ t → new ≡ old ++ units_text xs
one_added us xs texts first second old new t e is some none at more = go (slots us first second xs is)
  where
    go : Slots us first second xs → new ≡ old ++ units_text xs
    go (neither same f g) = absurd (some f)
    go (one a u same f g h) =
        let n : first - 1 ≡ a = omega (arith, f) in
        more ∙ ap (λ w. old ++ w) (text_at unit_text us texts a u t t e h (subst (λ i. t ≡ get_or texts i t) n at) ∙ ap units_text (sym same))
    go (both a b u v same f g h i) = absurd (omega (arith, g, none))

-- the texts of two open units
pub two_added : (us xs : List OpenUnit) (texts : List (List ℕ)) (first second : ℕ) (old one_more slash new t s : List ℕ) → texts ≡ map unit_text us → units_of us first second ≡ Some xs
    → (second ≡ 0 → ⊥) → t ≡ get_or texts (first - 1) t → s ≡ get_or texts (second - 1) s
    → one_more ≡ old ++ t → slash ≡ one_more ++ 47 ∷ [] → new ≡ slash ++ s → new ≡ old ++ units_text xs
two_added us xs texts first second old one_more slash new t s e is some at at_2 e1 e2 e3 = go (slots us first second xs is)
  where
    all : new ≡ old ++ (t ++ 47 ∷ s)
    all = e3 ∙ ap (λ w. w ++ s) (e2 ∙ ap (λ w. w ++ 47 ∷ []) e1) ∙ append_assoc (old ++ t) (47 ∷ []) s ∙ append_assoc old t (47 ∷ s)

    go : Slots us first second xs → new ≡ old ++ units_text xs
    go (neither same f g) = absurd (some g)
    go (one a u same f g h) = absurd (some g)
    go (both a b u v same f g h i) =
        let m : first - 1 ≡ a = omega (arith, f) in
        let n : second - 1 ≡ b = omega (arith, g) in
        let left : t ≡ unit_text u = text_at unit_text us texts a u t t e h (subst (λ i. t ≡ get_or texts i t) m at) in
        let right : s ≡ unit_text v = text_at unit_text us texts b v s s e i (subst (λ i. s ≡ get_or texts i s) n at_2) in
        all ∙ ap (λ w. old ++ (w ++ 47 ∷ s)) left ∙ ap (λ w. old ++ (unit_text u ++ 47 ∷ w)) right ∙ ap (λ us. old ++ units_text us) (sym same)

joined_after : (c : ℕ) (w : List ℕ) (ws : List (List ℕ)) (v : List ℕ) (vs : List (List ℕ)) → join_with_byte c ((w ∷ ws) ++ v ∷ vs) ≡ join_with_byte c (w ∷ ws) ++ c ∷ join_with_byte c (v ∷ vs)
joined_after c w [] v vs = refl
joined_after c w (x ∷ ws) v vs = ap (λ t. w ++ c ∷ t) (joined_after c x ws v vs) ∙ sym (append_assoc w (c ∷ join_with_byte c (x ∷ ws)) (c ∷ join_with_byte c (v ∷ vs)))

abbrev labelled : List ℕ → List ℕ
labelled t = 114 ∷ 111 ∷ 119 ∷ 32 ∷ t

-- parts that were added one after another are a line
all_added : (old p u t b end : List ℕ) → (((old ++ labelled (p ++ 32 ∷ [])) ++ u) ++ 32 ∷ t) ++ 32 ∷ (b ++ end) ≡ old ++ labelled (((p ++ 32 ∷ (u ++ 32 ∷ t)) ++ 32 ∷ b) ++ end)
all_added old p u t b end =
    let last : List ℕ = 32 ∷ (t ++ 32 ∷ (b ++ end)) in
    append_assoc ((old ++ labelled (p ++ 32 ∷ [])) ++ u) (32 ∷ t) (32 ∷ (b ++ end))
    ∙ append_assoc (old ++ labelled (p ++ 32 ∷ [])) u last
    ∙ append_assoc old (labelled (p ++ 32 ∷ [])) (u ++ last)
    ∙ ap (λ z. old ++ labelled z) (
    append_assoc p (32 ∷ []) (u ++ last)
    ∙ ap (λ z. p ++ 32 ∷ z) (sym (append_assoc u (32 ∷ t) (32 ∷ (b ++ end))))
    ∙ sym (append_assoc p (32 ∷ (u ++ 32 ∷ t)) (32 ∷ (b ++ end)))
    ∙ sym (append_assoc (p ++ 32 ∷ (u ++ 32 ∷ t)) (32 ∷ b) end))

-- the line of a row, of which the parts were added
pub row_added : (t : Tables) (r : NumberedRow) (x : State) (old begun opened parted new : List ℕ) → StandsFor t (key_of r) x → begun ≡ old ++ beginning x.at → opened ≡ begun ++ units_text x.units
    → parted ≡ opened ++ 32 ∷ part_text r.part → new ≡ parted ++ 32 ∷ (bound_word (bound_of r) ++ 10 ∷ []) → new ≡ old ++ (row_line (row_of t r) ++ 10 ∷ [])
row_added t r x old begun opened parted new s e1 e2 e3 e4 =
    let p = join_with_byte 32 (position_words x.at) in
    let u = units_text x.units in
    let part = part_text r.part in
    let b = bound_word (bound_of r) in
    let text : residual_text x ≡ p ++ 32 ∷ (u ++ 32 ∷ part_text x.part) =
    joined_after 32 (decimal x.at.slice) (decimal x.at.leg ∷ x.at.place.0 ∷ via_word x.at.via ∷ decimal x.at.lo ∷ decimal x.at.hi ∷ []) u (part_text x.part ∷ []) in
    let line : row_line (row_of t r) ≡ labelled ((p ++ 32 ∷ (u ++ 32 ∷ part)) ++ 32 ∷ b) =
    ap (λ y. row_line (record { residual = y; bound = bound_of r })) (residual_is t (key_of r) x s)
    ∙ ap (λ z. labelled (z ++ 32 ∷ b)) text
    ∙ ap (λ z. labelled ((p ++ 32 ∷ (u ++ 32 ∷ part_text z)) ++ 32 ∷ b)) (sym s.part) in
    e4 ∙ ap (λ z. z ++ 32 ∷ (b ++ 10 ∷ [])) (e3 ∙ ap (λ z. z ++ 32 ∷ part) (e2 ∙ ap (λ z. z ++ u) e1))
    ∙ all_added old p u part b (10 ∷ [])
    ∙ ap (λ z. old ++ (z ++ 10 ∷ [])) (sym line)

-- what stands where there is no row
abbrev pub no_row : NumberedRow
no_row = record { position = 0; first = 0; second = 0; part = record { units = 0; ends = 0; carrier = NotYet }; bounded = false; low = 0; high = 0 }

lines_are : (t : Tables) (rows : List NumberedRow) → map (λ r. row_line (row_of t r)) rows ≡ map row_line (rows_of t rows)
lines_are t [] = refl
lines_are t (r ∷ rows) = ap (λ ls. row_line (row_of t r) ∷ ls) (lines_are t rows)

-- where no row is left, the lines of all were added
pub all_lines : (t : Tables) (rows : List NumberedRow) (n : ℕ) (old new : List ℕ) → length rows ≤ n → new ≡ old ++ text_of (map (λ r. row_line (row_of t r)) (take n rows)) → new ≡ old ++ text_of (map row_line (rows_of t rows))
all_lines t rows n old new all is = is ∙ ap (λ rs. old ++ text_of (map (λ r. row_line (row_of t r)) rs)) (take_all n rows all) ∙ ap (λ ls. old ++ text_of ls) (lines_are t rows)
