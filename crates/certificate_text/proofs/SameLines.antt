-- A certificate's lines are of the forms that are due, and of no other certificate.
use Rattle.std.proofs.Common.{◌≡◌, ◌<◌, ◌^◌, ℕ, List, [], ◌∷◌, ◌++◌, length, map, get_or, drop, refl, ap, ap₂, sym, ◌∙◌, subst, arith}
use Rattle.std.proofs.lemmas.Option.{same_Some}
use Rattle.std.specs.Prelude.{codes}
use Rattle.certificate.specs.declared.parts.CertAnswer.{CertAnswer}
use Rattle.certificate.specs.declared.parts.CertRow.{CertRow}
use Rattle.certificate.specs.declared.parts.Certificate.{Certificate}
use Rattle.certificate_text.specs.CertText.{IsCertificate, IsRequestText, answer_lines, cert_lines, row_lines}
use Rattle.certificate_text.specs.Faults.{Due, Head, Version, Asked, AnswerCount, Answer, RowCount, Row, End, Nothing, answers_due, rows_due, IsOf, Leads}
use Rattle.certificate_text.specs.LineReading.{after_label, answer_in, bound_in, number_spelled}
use Rattle.certificate_text.specs.Lines.{IsAnswer, IsRow, answer_line, bound_word, number_line, row_line}
use Rattle.certificate_text.proofs.LineLemmas.{answer_again, row_parts}
use Rattle.certificate_text.proofs.LineWords.{Numbers, bound_again, number_again}
use Rattle.certificate_text.proofs.ListLemmas.{DueAfter}
use Rattle.certificate_text.proofs.WordLemmas.{label_again}
use Rattle.fare_law.specs.Lists.{Each}
use Rattle.request_text.specs.declared.fault.RequestFault.{RequestFault}
use Rattle.request_text.specs.Reading.{request_of}
use Rattle.residual_keys.specs.Residuals.{State}
use Rattle.residual_keys.specs.ResidualText.{IsWritten, residual_text}
use Rattle.word_text.specs.Laws.{LastCutTells}
use Rattle.law_lemmas.proofs.Options.{ok_same}

abbrev pub OneResidual : Type 0
OneResidual = (x y : State) → IsWritten x → IsWritten y → residual_text x ≡ residual_text y → x ≡ y

-- ---- what a line says is one

number_same : Numbers → (name : List ℕ) (m n : ℕ) → m < 2 ^ 32 → n < 2 ^ 32 → number_line name m ≡ number_line name n → m ≡ n
number_same k name m n small fits e = same_Some m n (sym (number_again k name m small) ∙ ap (number_spelled name) e ∙ number_again k name n fits)

answer_same : Numbers → (a b : CertAnswer) → IsAnswer a → IsAnswer b → answer_line a ≡ answer_line b → a ≡ b
answer_same k a b h g e = same_Some a b (sym (answer_again k a h) ∙ ap answer_in e ∙ answer_again k b g)

row_same : LastCutTells → OneResidual → Numbers → (r s : CertRow) → IsRow r → IsRow s → row_line r ≡ row_line s → r ≡ s
row_same cuts one k r s h g e =
    let rest = residual_text r.residual ++ 32 ∷ bound_word r.bound in
    let here = row_parts cuts k (row_line r) rest r (label_again (codes "row ") rest) (record { is = h; written = refl }) in
    let there = row_parts cuts k (row_line r) rest s (label_again (codes "row ") rest) (record { is = g; written = e }) in
    let same : (residual_text r.residual, bound_word r.bound) ≡ (residual_text s.residual, bound_word s.bound) = same_Some (residual_text r.residual, bound_word r.bound) (residual_text s.residual, bound_word s.bound) (sym here ∙ there) in
    let residual = one r.residual s.residual h.residual g.residual (ap (λ (p : List ℕ × List ℕ). p.0) same) in
    let bound = same_Some r.bound s.bound (sym (bound_again k r.bound h.bound) ∙ ap (λ (p : List ℕ × List ℕ). bound_in p.1) same ∙ bound_again k s.bound g.bound) in
    λ i. let row : CertRow = record { residual = residual i; bound = bound i } in row

-- lists of as many items, with what follows them
listed_same : {X : Type 0} (Is : X → Type 0) (f : X → List ℕ) → ((x y : X) → Is x → Is y → f x ≡ f y → x ≡ y) → (xs ys : List X) (a b : List (List ℕ)) → Each Is xs → Each Is ys → length xs ≡ length ys
    → map f xs ++ a ≡ map f ys ++ b → (xs ≡ ys) × (a ≡ b)
listed_same Is f one [] [] a b h g n e = (refl, e)
listed_same Is f one [] (y ∷ ys) a b h g n e = absurd (omega (arith, n))
listed_same Is f one (x ∷ xs) [] a b h g n e = absurd (omega (arith, n))
listed_same Is f one (x ∷ xs) (y ∷ ys) a b h g n e =
    let first : f x ≡ f y = cc in
    let more : map f xs ++ a ≡ map f ys ++ b = cc in
    let many : length xs ≡ length ys = omega (arith, n) in
    let r = listed_same Is f one xs ys a b h.1 g.1 many more in
    (ap₂ (λ z zs. z ∷ zs) (one x y h.0 g.0 first) r.0, r.1)

pub certificate_same : LastCutTells → OneResidual → Numbers → (c d : Certificate) (request other : List ℕ) → IsCertificate c → IsCertificate d → IsRequestText c.request request → IsRequestText d.request other
    → cert_lines c request ≡ cert_lines d other → c ≡ d
certificate_same cuts one k c d request other h g q r e =
    let line : ℕ → List (List ℕ) → List ℕ = λ n ls. get_or ls n [] in
    let number = number_same k (codes "version") c.number d.number h.number g.number (ap (line 1) e) in
    let text : request ≡ other = same_Some request other (sym (label_again (codes "request ") request) ∙ ap (λ ls. after_label (codes "request ") (line 2 ls)) e ∙ label_again (codes "request ") other) in
    let asked = ok_same {E = RequestFault} c.request d.request (sym q.read ∙ ap request_of text ∙ r.read) in
    let many = number_same k (codes "answers") (length c.answers) (length d.answers) h.answer_count g.answer_count (ap (line 3) e) in
    let answers = listed_same IsAnswer answer_line (answer_same k) c.answers d.answers _ _ h.answers g.answers many (ap (drop 4) e) in
    let count = number_same k (codes "rows") (length c.rows) (length d.rows) h.row_count g.row_count (ap (line 0) answers.1) in
    let rows = listed_same IsRow row_line (row_same cuts one k) c.rows d.rows _ _ h.rows g.rows count (ap (drop 1) answers.1) in
    λ i. let it : Certificate = record { number = number i; request = asked i; answers = answers.0 i; rows = rows.0 i } in it

-- ---- the lines are due in their order

listed_leads : {X : Type 0} (Is : X → Type 0) (f : X → List ℕ) (dues Item : ℕ → Due) (k : DueAfter dues Item) → ((x : X) (more : ℕ) → Is x → IsOf (Item more) (f x) (dues more))
    → (xs : List X) → Each Is xs → (after : List (List ℕ)) (last : Due) → Leads (dues 0) after last → Leads (dues (length xs)) (map f xs ++ after) last
listed_leads Is f dues Item k is [] h after last l = l
listed_leads Is f dues Item k is (x ∷ xs) h after last l =
    subst (λ (d : Due). Leads d (f x ∷ (map f xs ++ after)) last) (sym (k.more (length xs))) (dues (length xs), is x (length xs) h.0, listed_leads Is f dues Item k is xs h.1 after last l)

pub certificate_leads : (c : Certificate) (request : List ℕ) → IsCertificate c → IsRequestText c.request request → Leads Head (cert_lines c request) Nothing
certificate_leads c request h q =
    let end : Leads End (codes "end" ∷ []) Nothing = (Nothing, (refl, refl), refl) in
    let rows : Leads RowCount (row_lines c.rows ++ codes "end" ∷ []) Nothing = (
      rows_due (length c.rows),
      (length c.rows, record { fits = h.row_count; written = refl }, refl),
      listed_leads IsRow row_line rows_due Row (record { more = λ n. refl }) (λ r more is. (r, record { is = is; written = refl }, refl)) c.rows h.rows (codes "end" ∷ []) Nothing end,
    ) in
    let answers : Leads AnswerCount (answer_lines c.answers ++ (row_lines c.rows ++ codes "end" ∷ [])) Nothing = (
      answers_due (length c.answers),
      (length c.answers, record { fits = h.answer_count; written = refl }, refl),
      listed_leads IsAnswer answer_line answers_due Answer (record { more = λ n. refl }) (λ a more is. (a, record { is = is; written = refl }, refl)) c.answers h.answers (row_lines c.rows ++ codes "end" ∷ []) Nothing rows,
    ) in (
      Version,
      (refl, refl),
      (
        Asked,
        (c.number, record { fits = h.number; written = refl }, refl),
        (AnswerCount, (c.request, record { text = request; is = h.request; request = q; written = refl }, refl), answers),
      ),
    )
