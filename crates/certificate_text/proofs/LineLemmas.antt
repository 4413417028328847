-- The lines of a certificate's text are read as what they spell, and what is read is spelled so.
use Rattle.std.proofs.Common.{◌≡◌, ◌↔◌, ℕ, List, ◌∷◌, ◌++◌, flat_map, Option, Some, None, refl, ap, ap₂, sym, ◌∙◌, subst, arith}
use Rattle.std.specs.Fmt.{decimal}
use Rattle.std.specs.Prelude.{codes}
use Rattle.std.proofs.lemmas.Option.{same_Some}
use Rattle.fare_law.specs.declared.limits.TheConstants.{MOST_COMPONENTS}
use Rattle.certificate.specs.declared.parts.CertAnswer.{CertAnswer}
use Rattle.certificate.specs.declared.parts.CertRow.{CertRow}
use Rattle.certificate_text.specs.LineReading.{after_label, word_at, bound_in, moves_in, answer_in}
use Rattle.certificate_text.specs.Lines.{spaced, move_words, answer_line, bound_word, HasWords, IsAnswer, SpellsAnswer, SpellsRow}
use Rattle.certificate_text.proofs.LineWords.{Numbers, digits_free, bound_again, bound_read, bound_free}
use Rattle.certificate_text.proofs.MoveLemmas.{moves_again, moves_read, spaced_ends}
use Rattle.certificate_text.proofs.WordLemmas.{label_again, label_read, word_again, word_read}
use Rattle.residual_keys.specs.ResidualText.{Spells, residual_text}
use Rattle.residual_keys.specs.Residuals.{State}
use Rattle.word_text.specs.Laws.{LastCutTells}
use Rattle.word_text.specs.Words.{cut_last_at, number_in}
use Rattle.law_lemmas.proofs.Options.{from_step}

pub answer_again : Numbers → (a : CertAnswer) → IsAnswer a → answer_in (answer_line a) ≡ Some a
unfolding answer_in
answer_again k a h =
    let rest = flat_map move_words a.moves in
    rw (
      label_again (codes "answer") (spaced (decimal a.price ∷ rest)),
      word_again (decimal a.price) (spaced rest) (digits_free k a.price h.price) (spaced_ends rest),
      k.number.again 18446744073709551615 a.price (omega (arith, h.price)) h.price,
      moves_again k MOST_COMPONENTS a.moves h.few h.moves,
    ) refl

answer_read : Numbers → (line : List ℕ) (a : CertAnswer) → answer_in line ≡ Some a → SpellsAnswer line a
unfolding answer_in
answer_read k line a e =
    from_step (after_label (codes "answer") line) _ a e (λ rest was_rest e.
    from_step (word_at rest) _ a e (λ word was_word e.
    from_step (number_in 18446744073709551615 word.0) _ a e (λ price is_price e.
    from_step (moves_in MOST_COMPONENTS word.1) _ a e (λ moves was_moves e.
    let n = k.number.read 18446744073709551615 price word.0 is_price in
    let m = moves_read k MOST_COMPONENTS word.1 moves was_moves in
    let it : CertAnswer = record { price = price; moves = moves } in
    subst (SpellsAnswer line) (same_Some it a e) (record {
      is = record { price = omega (arith, n.0); few = m.few; moves = m.moves };
      written = label_read (codes "answer") line rest was_rest
          ∙ ap (λ t. codes "answer" ++ t) (word_read rest word was_word ∙ ap₂ (λ a b. 32 ∷ (a ++ b)) n.1 m.written);
    })))))

pub answer_exact : Numbers → (line : List ℕ) (o : Option CertAnswer) → o ≡ answer_in line → (a : CertAnswer) → (o ≡ Some a) ↔ SpellsAnswer line a
answer_exact k line o is a = (
  λ e. answer_read k line a (sym is ∙ e),
  λ s. is ∙ ap answer_in s.written ∙ answer_again k a s.is,
)

-- ---- rows

-- the parts of a row's line
pub row_rest : (line : List ℕ) (r : CertRow) → SpellsRow line r → after_label (codes "row ") line ≡ Some (residual_text r.residual ++ 32 ∷ bound_word r.bound)
row_rest line r s = ap (after_label (codes "row ")) s.written ∙ label_again (codes "row ") (residual_text r.residual ++ 32 ∷ bound_word r.bound)

pub row_parts : LastCutTells → Numbers → (line rest : List ℕ) (r : CertRow) → after_label (codes "row ") line ≡ Some rest → SpellsRow line r
    → cut_last_at 32 rest ≡ Some (residual_text r.residual, bound_word r.bound)
row_parts cuts k line rest r was s =
    let same : residual_text r.residual ++ 32 ∷ bound_word r.bound ≡ rest = same_Some (residual_text r.residual ++ 32 ∷ bound_word r.bound) rest (sym (row_rest line r s) ∙ was) in
    subst (λ t. cut_last_at 32 t ≡ Some (residual_text r.residual, bound_word r.bound)) same
    (cuts.again 32 (residual_text r.residual) (bound_word r.bound) (bound_free k r.bound s.is.bound))

pub row_words : LastCutTells → Numbers → (line rest : List ℕ) (p : List ℕ × List ℕ) (r : CertRow) → after_label (codes "row ") line ≡ Some rest → cut_last_at 32 rest ≡ Some p → SpellsRow line r
    → (p.0 ≡ residual_text r.residual) × (p.1 ≡ bound_word r.bound)
row_words cuts k line rest p r was cut s =
    let same : p ≡ (residual_text r.residual, bound_word r.bound) = same_Some p (residual_text r.residual, bound_word r.bound) (sym cut ∙ row_parts cuts k line rest r was s) in
    (ap (λ (q : List ℕ × List ℕ). q.0) same, ap (λ (q : List ℕ × List ℕ). q.1) same)

abbrev NoRow : List ℕ → Type 0
NoRow line = (r : CertRow) → SpellsRow line r → ⊥

pub row_no_label : (line : List ℕ) → after_label (codes "row ") line ≡ None → NoRow line
row_no_label line e r s = let k = row_rest line r s in absurd (cc)

pub row_no_cut : LastCutTells → Numbers → (line rest : List ℕ) → after_label (codes "row ") line ≡ Some rest → cut_last_at 32 rest ≡ None → NoRow line
row_no_cut cuts k line rest was e r s = let h = row_parts cuts k line rest r was s in absurd (cc)

pub row_no_bound : LastCutTells → Numbers → (line rest : List ℕ) (p : List ℕ × List ℕ) → after_label (codes "row ") line ≡ Some rest → cut_last_at 32 rest ≡ Some p
    → bound_in p.1 ≡ None → NoRow line
row_no_bound cuts k line rest p was cut none r s =
    let h = row_words cuts k line rest p r was cut s in
    let e : bound_in p.1 ≡ Some r.bound = ap bound_in h.1 ∙ bound_again k r.bound s.is.bound in
    absurd (cc)

row_spelled : LastCutTells → Numbers → (line rest : List ℕ) (p : List ℕ × List ℕ) (x : State) (b : Option ℕ) → after_label (codes "row ") line ≡ Some rest → cut_last_at 32 rest ≡ Some p
    → Spells p.0 x → bound_in p.1 ≡ Some b → SpellsRow line (record { residual = x; bound = b })
row_spelled cuts k line rest p x b was cut s is =
    let n = bound_read k p.1 b is in
    record {
      is = record { residual = s.is; bound = n.0 };
      written = label_read (codes "row ") line rest was ∙ ap (λ t. codes "row " ++ t) ((cuts.read 32 rest p cut).0 ∙ ap₂ (λ a c. a ++ 32 ∷ c) s.written n.1);
    }

-- the rows that the line spells
pub has_words : LastCutTells → Numbers → (line rest : List ℕ) (p : List ℕ × List ℕ) (b : Option ℕ) → after_label (codes "row ") line ≡ Some rest → cut_last_at 32 rest ≡ Some p → bound_in p.1 ≡ Some b → HasWords line p.0 b
has_words cuts k line rest p b was cut is r = (
  λ s.
      let h = row_words cuts k line rest p r was cut s in
      let e : bound_in p.1 ≡ Some r.bound = ap bound_in h.1 ∙ bound_again k r.bound s.is.bound in
      (record { is = s.is.residual; written = h.0 }, same_Some r.bound b (sym e ∙ is)),
  λ s. row_spelled cuts k line rest p r.residual r.bound was cut s.0 (is ∙ ap Some (sym s.1)),
)
