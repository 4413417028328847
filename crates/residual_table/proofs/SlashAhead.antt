-- A text that begins with a word and a slash is cut there, where no slash stands in the word.
use Rattle.std.proofs.Common.{◌==◌, if◌then◌else◌, ◌≡◌, ◌∙◌, ◌-◌, ◌≤◌, ℕ, Bool, true, false, List, [], ◌∷◌, ◌++◌, length, take, drop, get_or, Option, Some, None, option_map, refl, ap, sym, arith, eq-eqb}
use Rattle.std.proofs.lemmas.Bool.{true≢false}
use Rattle.std.proofs.lemmas.List.{take_all}
use Rattle.word_text.specs.Laws.{CutTells}
use Rattle.word_text.specs.Words.{IsFreeOf, cut_at}

-- the first byte is a slash
pub slash_first : (rest : List ℕ) (d : ℕ) → 1 ≤ length rest → get_or rest 0 d ≡ 47 → rest ≡ 47 ∷ take (length rest - 1) (drop 1 rest)
slash_first [] d one e = absurd (omega (arith, one))
slash_first (b ∷ bs) d one e = ap (λ x. x ∷ bs) e ∙ ap (λ xs. 47 ∷ xs) (sym (take_all (length (b ∷ bs) - 1) bs (omega arith)))

abbrev step_at : ℕ → List ℕ → Option (List ℕ × List ℕ) → Bool → Option (List ℕ × List ℕ)
step_at b text o t = if t then Some ([], text) else option_map (λ p. (b ∷ p.0, p.1)) o

free_step : (c b : ℕ) (text : List ℕ) (t : Bool) → (b == c) ≡ t → (o : Option (List ℕ × List ℕ)) → (o ≡ None → IsFreeOf c text)
    → step_at b text o t ≡ None → IsFreeOf c (b ∷ text)
free_step c b text true is o further e = absurd (cc)
free_step c b text false is None further e = (λ same. true≢false (sym (eq-eqb b c same) ∙ is), further refl)
free_step c b text false is (Some p) further e = absurd (cc)

free_of_none : (c : ℕ) (text : List ℕ) → cut_at c text ≡ None → IsFreeOf c text
unfolding cut_at
free_of_none c [] e = tt
free_of_none c (b ∷ text) e = free_step c b text (b == c) refl (cut_at c text) (λ h. free_of_none c text h) e

pub slash_ahead : CutTells → (text word other : List ℕ) → cut_at 47 word ≡ None → text ≡ word ++ 47 ∷ other → cut_at 47 text ≡ Some (word, other)
slash_ahead k text word other whole e = ap (cut_at 47) e ∙ k.again 47 word other (free_of_none 47 word whole)
