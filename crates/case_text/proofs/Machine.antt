-- The reader's machine on a plain line.
use Rattle.std.proofs.Common.{◌≡◌, ◌≢◌, ◌<◌, ℕ, List, [], ◌∷◌, ◌++◌, Bool, true, false, Option, Some, None, refl, ap, sym, ◌∙◌, subst, arith, eqb, append-nil, append_assoc, inl, inr, length}
use Rattle.std.proofs.lemmas.Grind.{common_steps}
use Rattle.std.proofs.lemmas.Bool.Decides.{eqb_tells}
use Rattle.csv.specs.Machine.{next_record, step, ends_at_end, in_field}
use Rattle.csv.specs.Reading.{default_config, strip_bom, ReadsNext, NextIs}
use Rattle.csv.specs.declared.parser.Config.{Config}
use Rattle.csv.specs.declared.parser.State.{State}
use Rattle.csv.specs.declared.parser.Action.TheVariants as act
use Rattle.csv.specs.declared.parser.State.TheVariants as st
use Rattle.std.proofs.lemmas.List.Elements.{All-head, All-tail}
use Rattle.case_text.specs.Cut.{cut, onto_first, IsPlain, IsPlainLine}

-- each byte is plain, one after another
abbrev pub AllPlain : List ℕ → Type 0
AllPlain [] = Unit {0}
AllPlain (c ∷ rest) = IsPlain c × AllPlain rest

all_plain : (line : List ℕ) → IsPlainLine line → AllPlain line
all_plain [] h = tt
all_plain (c ∷ rest) h = (All-head IsPlain c rest h, all_plain rest (All-tail IsPlain c rest h))

-- the field at hand goes before the first field of the rest
abbrev pub onto : List ℕ → List (List ℕ) → List (List ℕ)
onto field [] = field ∷ []
onto field (f ∷ fs) = (field ++ f) ∷ fs

abbrev pub Same : State → Type 0
Same s = (c : ℕ) → IsPlain c → step default_config s c ≡ in_field default_config c

not_eqb : (a b : ℕ) → a ≢ b → eqb a b ≡ false
not_eqb a b h = elim (eqb_tells a b) [ inl p ↦ absurd (h p.1) | inr p ↦ p.0 ]

in_field_other : (c : ℕ) → IsPlain c → c ≢ 44 → in_field default_config c ≡ (st.InField, act.Copy)
in_field_other c p h = rw (not_eqb c 44 h, not_eqb c 13 p.cr, not_eqb c 10 p.lf) refl

in_field_comma : (c : ℕ) → c ≡ 44 → in_field default_config c ≡ (st.StartField, act.EndField)
in_field_comma c h = rw h refl

same_in_field : Same st.InField
same_in_field c p = refl

same_start_field : Same st.StartField
same_start_field c p = rw (not_eqb c 34 p.quote) refl

same_start_record : Same st.StartRecord
same_start_record c p = rw (not_eqb c 13 p.cr, not_eqb c 10 p.lf, not_eqb c 34 p.quote) refl

cut_comma : (c : ℕ) (xs : List ℕ) → c ≡ 44 → cut (c ∷ xs) ≡ [] ∷ cut xs
cut_comma c xs h = rw h refl

cut_other : (c : ℕ) (xs : List ℕ) → c ≢ 44 → cut (c ∷ xs) ≡ onto_first c (cut xs)
cut_other c xs h = rw (not_eqb c 44 h) refl

onto_onto : (field : List ℕ) (c : ℕ) (fs : List (List ℕ)) → onto (field ++ c ∷ []) fs ≡ onto field (onto_first c fs)
onto_onto field c [] = refl
onto_onto field c (f ∷ fs) = ap (λ x. x ∷ fs) (append_assoc field (c ∷ []) f)

onto_nil : (xs : List ℕ) → onto [] (cut xs) ≡ cut xs
onto_nil [] = refl
onto_nil (c ∷ xs) = grind (arith, common_steps)

next_comma : (s : State) (fields : List (List ℕ)) (field : List ℕ) (c : ℕ) (xs : List ℕ) → step default_config s c ≡ (st.StartField, act.EndField) → next_record default_config s fields field (c ∷ xs) ≡ next_record default_config st.StartField (fields ++ field ∷ []) [] xs
unfolding next_record
next_comma s fields field c xs h = rw h refl

next_other : (s : State) (fields : List (List ℕ)) (field : List ℕ) (c : ℕ) (xs : List ℕ) → step default_config s c ≡ (st.InField, act.Copy) → next_record default_config s fields field (c ∷ xs) ≡ next_record default_config st.InField fields (field ++ c ∷ []) xs
unfolding next_record
next_other s fields field c xs h = rw h refl

next_end : (s : State) (fields : List (List ℕ)) (field : List ℕ) → ends_at_end s ≡ true → next_record default_config s fields field [] ≡ Some (fields ++ field ∷ [], st.StartRecord, [])
unfolding next_record
next_end s fields field h = rw h refl

comma_step : (fields : List (List ℕ)) (field : List ℕ) (c : ℕ) (xs : List ℕ) → c ≡ 44 → (fields ++ field ∷ []) ++ onto [] (cut xs) ≡ fields ++ onto field (cut (c ∷ xs))
comma_step fields field c xs h =
    append_assoc fields (field ∷ []) (onto [] (cut xs))
    ∙ ap (λ f. fields ++ f) (ap (λ z. field ∷ z) (onto_nil xs) ∙ ap (λ z. z ∷ cut xs) (sym (append-nil field)) ∙ ap (onto field) (sym (cut_comma c xs h)))

pub reads_on : (xs : List ℕ) (s : State) (fields : List (List ℕ)) (field : List ℕ) → Same s → ends_at_end s ≡ true → AllPlain xs → next_record default_config s fields field xs ≡ Some (fields ++ onto field (cut xs), st.StartRecord, [])
reads_on [] s fields field same e p = next_end s fields field e ∙ ap (λ f. Some (fields ++ f ∷ [], st.StartRecord, [])) (sym (append-nil field))
reads_on (c ∷ xs) s fields field same e p =
    elim (eqb_tells c 44) [
      | inl q ↦ next_comma s fields field c xs (same c p.0 ∙ in_field_comma c q.1)
          ∙ reads_on xs st.StartField (fields ++ field ∷ []) [] same_start_field refl p.1
          ∙ ap (λ f. Some (f, st.StartRecord, [])) (comma_step fields field c xs q.1)
      | inr q ↦ next_other s fields field c xs (same c p.0 ∙ in_field_other c p.0 q.1)
          ∙ reads_on xs st.InField fields (field ++ c ∷ []) same_in_field refl p.1
          ∙ ap (λ f. Some (fields ++ f, st.StartRecord, [])) (onto_onto field c (cut xs) ∙ ap (onto field) (sym (cut_other c xs q.1)))
    ]

pub reads_line : (xs : List ℕ) → 0 < length xs → AllPlain xs → next_record default_config st.StartRecord [] [] xs ≡ Some (cut xs, st.StartRecord, [])
reads_line [] l p = absurd (omega (arith, l))
reads_line (c ∷ xs) l p =
    elim (eqb_tells c 44) [
      | inl q ↦ next_comma st.StartRecord [] [] c xs (same_start_record c p.0 ∙ in_field_comma c q.1)
          ∙ reads_on xs st.StartField ([] ∷ []) [] same_start_field refl p.1
          ∙ ap (λ f. Some (f, st.StartRecord, [])) (comma_step [] [] c xs q.1 ∙ onto_nil (c ∷ xs))
      | inr q ↦ next_other st.StartRecord [] [] c xs (same_start_record c p.0 ∙ in_field_other c p.0 q.1)
          ∙ reads_on xs st.InField [] (c ∷ []) same_in_field refl p.1
          ∙ ap (λ f. Some (f, st.StartRecord, [])) (onto_onto [] c (cut xs) ∙ ap (onto []) (sym (cut_other c xs q.1)) ∙ onto_nil (c ∷ xs))
    ]

-- a plain line has no byte order mark
pub no_bom : (xs : List ℕ) → AllPlain xs → strip_bom xs ≡ xs
unfolding strip_bom
no_bom [] p = refl
no_bom (a ∷ []) p = refl
no_bom (a ∷ b ∷ []) p = refl
no_bom (a ∷ b ∷ c ∷ xs) p = let h : a ≢ 239 = omega (arith, p.0.ascii) in rw (not_eqb a 239 h) refl

pub fields_are : (cfg : Config) (s : State) (src after : Option (List ℕ)) (found : Bool) (fields : List (List ℕ)) (s2 : State) (line : List ℕ)
    → cfg ≡ default_config → s ≡ st.StartRecord → src ≡ Some (strip_bom line) → 0 < length line → IsPlainLine line → ReadsNext cfg s src after found fields s2 → fields ≡ cut line
fields_are cfg s src after found fields s2 line a b d l plain h =
    let p = all_plain line plain in
    go after (subst (λ r. ReadsNext default_config st.StartRecord r after found fields s2) (d ∙ ap Some (no_bom line p)) (subst (λ t. ReadsNext default_config t src after found fields s2) b (subst (λ z. ReadsNext z s src after found fields s2) a h)))
  where
    go : (after : Option (List ℕ)) → ReadsNext default_config st.StartRecord (Some line) after found fields s2 → fields ≡ cut line
    go None k = absurd k
    go (Some ys) k = let z = subst (λ r. NextIs r found fields s2 ys) (reads_line line l (all_plain line plain)) k in z.1

-- the newline at the end of a line ends its record
abbrev Ends : State → Type 0
Ends s = step default_config s 10 ≡ (st.StartRecord, act.EndRecord)

next_newline : (s : State) (fields : List (List ℕ)) (field rest : List ℕ) → Ends s → next_record default_config s fields field (10 ∷ rest) ≡ Some (fields ++ field ∷ [], st.StartRecord, rest)
unfolding next_record
next_newline s fields field rest h = rw h refl

reads_to_newline : (xs rest : List ℕ) (s : State) (fields : List (List ℕ)) (field : List ℕ) → Same s → Ends s → AllPlain xs → next_record default_config s fields field (xs ++ 10 ∷ rest) ≡ Some (fields ++ onto field (cut xs), st.StartRecord, rest)
reads_to_newline [] rest s fields field same e p = next_newline s fields field rest e ∙ ap (λ f. Some (fields ++ f ∷ [], st.StartRecord, rest)) (sym (append-nil field))
reads_to_newline (c ∷ xs) rest s fields field same e p =
    elim (eqb_tells c 44) [
      | inl q ↦ next_comma s fields field c (xs ++ 10 ∷ rest) (same c p.0 ∙ in_field_comma c q.1)
          ∙ reads_to_newline xs rest st.StartField (fields ++ field ∷ []) [] same_start_field refl p.1
          ∙ ap (λ f. Some (f, st.StartRecord, rest)) (comma_step fields field c xs q.1)
      | inr q ↦ next_other s fields field c (xs ++ 10 ∷ rest) (same c p.0 ∙ in_field_other c p.0 q.1)
          ∙ reads_to_newline xs rest st.InField fields (field ++ c ∷ []) same_in_field refl p.1
          ∙ ap (λ f. Some (fields ++ f, st.StartRecord, rest)) (onto_onto field c (cut xs) ∙ ap (onto field) (sym (cut_other c xs q.1)))
    ]

-- a plain line before others is the next record
reads_line_first : (xs rest : List ℕ) → 0 < length xs → AllPlain xs → next_record default_config st.StartRecord [] [] (xs ++ 10 ∷ rest) ≡ Some (cut xs, st.StartRecord, rest)
reads_line_first [] rest l p = absurd (omega (arith, l))
reads_line_first (c ∷ xs) rest l p =
    elim (eqb_tells c 44) [
      | inl q ↦ next_comma st.StartRecord [] [] c (xs ++ 10 ∷ rest) (same_start_record c p.0 ∙ in_field_comma c q.1)
          ∙ reads_to_newline xs rest st.StartField ([] ∷ []) [] same_start_field refl p.1
          ∙ ap (λ f. Some (f, st.StartRecord, rest)) (comma_step [] [] c xs q.1 ∙ onto_nil (c ∷ xs))
      | inr q ↦ next_other st.StartRecord [] [] c (xs ++ 10 ∷ rest) (same_start_record c p.0 ∙ in_field_other c p.0 q.1)
          ∙ reads_to_newline xs rest st.InField [] (c ∷ []) same_in_field refl p.1
          ∙ ap (λ f. Some (f, st.StartRecord, rest)) (onto_onto [] c (cut xs) ∙ ap (onto []) (sym (cut_other c xs q.1)) ∙ onto_nil (c ∷ xs))
    ]

-- what a read of a plain line shows
pub record ReadsLine (line rest : List ℕ) (after : Option (List ℕ)) (fields : List (List ℕ)) (s : State) : Type 0 where
  pub cuts : fields ≡ cut line
  pub state : s ≡ st.StartRecord
  pub left : after ≡ Some rest

pub reads_first : (cfg : Config) (s : State) (src after : Option (List ℕ)) (found : Bool) (fields : List (List ℕ)) (s2 : State) (line rest : List ℕ)
    → cfg ≡ default_config → s ≡ st.StartRecord → src ≡ Some (line ++ 10 ∷ rest) → 0 < length line → IsPlainLine line → ReadsNext cfg s src after found fields s2 → ReadsLine line rest after fields s2
reads_first cfg s src after found fields s2 line rest a b d l plain h =
    go after (subst (λ r. ReadsNext default_config st.StartRecord r after found fields s2) d (subst (λ t. ReadsNext default_config t src after found fields s2) b (subst (λ z. ReadsNext z s src after found fields s2) a h)))
  where
    go : (after : Option (List ℕ)) → ReadsNext default_config st.StartRecord (Some (line ++ 10 ∷ rest)) after found fields s2 → ReadsLine line rest after fields s2
    go None k = absurd k
    go (Some ys) k =
        let z = subst (λ r. NextIs r found fields s2 ys) (reads_line_first line rest l (all_plain line plain)) k in
        record { cuts = z.1; state = z.2; left = ap Some z.3 }
