-- The certificate of a search is one, and certificates that meet the checks have one list of answers.
use Rattle.std.proofs.Common.{◌≡◌, ℕ, arith, List, [], ◌∷◌, map, Option, Some, None, sym, refl, ap, ap₂, ◌∙◌, subst}
use Rattle.certificate.specs.declared.parts.CertAnswer.{CertAnswer}
use Rattle.certificate.specs.declared.parts.CertRow.{CertRow}
use Rattle.certificate.specs.AnswerCheck.{AnswerIs}
use Rattle.certificate.specs.CertOf.{OneCertificate, SameAnswers}
use Rattle.certificate.proofs.Below.{one_best}
use Rattle.residual_keys.proofs.Needed.{need_one}
use Rattle.certificate.proofs.OneFirst.{neither_less}
use Rattle.certificate.proofs.Tickets.{costs_one}
use Rattle.certificate.proofs.YesIsBest.{yes_is_best}
use Rattle.fare_law.specs.declared.requests.Request.{Request}
use Rattle.fare_law.specs.declared.tickets.Ticket.{Ticket}
use Rattle.fare_law.specs.Book.{Book}
use Rattle.fare_law.specs.Lists.{Each, Matched}
use Rattle.residual_keys.specs.Residuals.{State}
use Rattle.residual_keys.specs.Searches.{Least}

least_one : (b : Book) (q : Request) (x : State) (o p : Option ℕ) → Least b q x o → Least b q x p → o ≡ p
least_one b q x None None h k = refl
least_one b q x None (Some n) h k = absurd (h k.0.0 n k.0.1)
least_one b q x (Some m) None h k = absurd (k h.0.0 m h.0.1)
least_one b q x (Some m) (Some n) h k = ap Some (neither_less m n (λ l. absurd (omega (arith, l, k.1 h.0.0 m h.0.1))) (λ l. absurd (omega (arith, l, h.1 k.0.0 n k.0.1))))

rows_one : (b : Book) (q : Request) (rows others : List CertRow) → map (λ row. row.residual) rows ≡ map (λ row. row.residual) others → Each (λ row. Least b q row.residual row.bound) rows → Each (λ row. Least b q row.residual row.bound) others → rows ≡ others
rows_one b q [] [] e h k = refl
rows_one b q [] (y ∷ ys) e h k = absurd (none_some e)
  where
    none_some : [] ≡ y.residual ∷ map (λ row. row.residual) ys → ⊥
    none_some e = cc
rows_one b q (x ∷ xs) [] e h k = absurd (some_none e)
  where
    some_none : x.residual ∷ map (λ row. row.residual) xs ≡ [] → ⊥
    some_none e = cc
rows_one b q (x ∷ xs) (y ∷ ys) e h k =
    let r = first e in
    let bounds = least_one b q y.residual x.bound y.bound (subst (λ z. Least b q z x.bound) r h.0) k.0 in
    ap₂ (λ z zs. z ∷ zs) (λ i. let row : CertRow = record { residual = r i; bound = bounds i } in row) (rows_one b q xs ys (rest e) h.1 k.1)
  where
    first : x.residual ∷ map (λ row. row.residual) xs ≡ y.residual ∷ map (λ row. row.residual) ys → x.residual ≡ y.residual
    first e = cc

    rest : x.residual ∷ map (λ row. row.residual) xs ≡ y.residual ∷ map (λ row. row.residual) ys → map (λ row. row.residual) xs ≡ map (λ row. row.residual) ys
    rest e = cc

module _ (b : Book) (q : Request) where
  answer_one : (a c : CertAnswer) (t : Ticket) → AnswerIs b q a t → AnswerIs b q c t → a ≡ c
  answer_one a c t h k =
      let price = costs_one b q t a.price c.price h.2 k.2 in
      let moves = sym h.1 ∙ k.1 in
      λ i. record { price = price i; moves = moves i }

  answers_one : (xs ys : List CertAnswer) (ts : List Ticket) → Matched (AnswerIs b q) xs ts → Matched (AnswerIs b q) ys ts → xs ≡ ys
  answers_one [] [] [] h k = refl
  answers_one [] [] (t ∷ ts) h k = absurd h
  answers_one [] (y ∷ ys) [] h k = absurd k
  answers_one [] (y ∷ ys) (t ∷ ts) h k = absurd h
  answers_one (x ∷ xs) ys [] h k = absurd h
  answers_one (x ∷ xs) [] (t ∷ ts) h k = absurd k
  answers_one (x ∷ xs) (y ∷ ys) (t ∷ ts) h k = ap₂ (λ z zs. z ∷ zs) (answer_one x y t h.0 k.0) (answers_one xs ys ts h.1 k.1)

  pub same_answers : SameAnswers b q
  same_answers keys c d h k =
      let t = yes_is_best c b q h in
      let u = yes_is_best d b q k in
      answers_one c.answers d.answers u.0 (subst (Matched (AnswerIs b q) c.answers) (one_best b q keys t.0 u.0 t.1 u.1) t.2) u.2

  pub one_certificate : OneCertificate b q
  one_certificate keys c d h k =
      let tickets = one_best b q keys h.tickets k.tickets h.best k.best in
      let answers = answers_one c.answers d.answers k.tickets (subst (Matched (AnswerIs b q) c.answers) tickets h.answers) k.answers in
      let residuals = need_one b q (map (λ row. row.residual) c.rows) (map (λ row. row.residual) d.rows) h.rows.need k.rows.need in
      let rows = rows_one b q c.rows d.rows residuals h.rows.bounds k.rows.bounds in
      let number = h.of.0 ∙ sym k.of.0 in
      let request = h.of.1 ∙ sym k.of.1 in
      λ i. record { number = number i; request = request i; answers = answers i; rows = rows i }
