-- Pieces that are added one after another.
use Rattle.std.proofs.Common.{◌≡◌, ℕ, suc, ◌+◌, List, [], ◌∷◌, ◌++◌, flat_map, map, take, take-suc, slice_get, Some, append_assoc, append-nil, refl, ap, sym, subst, ◌∙◌, arith}
use Rattle.std.proofs.lemmas.List.{map-append}
use Rattle.std.proofs.lemmas.Option.{get_or_from_slice_get, slice_get_within}
use Rattle.std.specs.Prelude.{codes}
use Rattle.certificate.specs.declared.parts.Certificate.{Certificate}
use Rattle.certificate_text.specs.CertText.{AddsCertText, CertText, IsRequestText, answer_lines, cert_lines, head_lines, row_lines, text_of}

pub flat_joined : {X : Type 0} (f : X → List ℕ) (xs ys : List X) → flat_map f (xs ++ ys) ≡ flat_map f xs ++ flat_map f ys
flat_joined f [] ys = refl
flat_joined f (x ∷ xs) ys = ap (λ t. f x ++ t) (flat_joined f xs ys) ∙ sym (append_assoc (f x) (flat_map f xs) (flat_map f ys))

abbrev end_line : List ℕ
end_line = 101 ∷ 110 ∷ 100 ∷ 10 ∷ []

-- the parts of a certificate's text, one after another, are the whole
whole_added : (c : Certificate) (request t0 t1 t2 t3 t4 : List ℕ) → t1 ≡ t0 ++ text_of (head_lines c.number request)
    → t2 ≡ t1 ++ text_of (answer_lines c.answers) → t3 ≡ t2 ++ text_of (row_lines c.rows) → t4 ≡ t3 ++ end_line → t4 ≡ t0 ++ text_of (cert_lines c request)
whole_added c request t0 t1 t2 t3 t4 e1 e2 e3 e4 =
    let h = text_of (head_lines c.number request) in
    let a = text_of (answer_lines c.answers) in
    let r = text_of (row_lines c.rows) in
    let all : t4 ≡ (((t0 ++ h) ++ a) ++ r) ++ end_line = e4 ∙ ap (λ t. t ++ end_line) (e3 ∙ ap (λ t. t ++ r) (e2 ∙ ap (λ t. t ++ a) e1)) in
    let line : List ℕ → List ℕ = λ x. x ++ 10 ∷ [] in
    let joined : text_of (cert_lines c request) ≡ h ++ (a ++ (r ++ end_line)) =
    flat_joined line (head_lines c.number request) (answer_lines c.answers ++ (row_lines c.rows ++ codes "end" ∷ []))
    ∙ ap (λ t. h ++ t) (flat_joined line (answer_lines c.answers) (row_lines c.rows ++ codes "end" ∷ []) ∙ ap (λ t. a ++ t) (flat_joined line (row_lines c.rows) (codes "end" ∷ []))) in
    all ∙ append_assoc ((t0 ++ h) ++ a) r end_line ∙ append_assoc (t0 ++ h) a (r ++ end_line) ∙ append_assoc t0 h (a ++ (r ++ end_line)) ∙ ap (λ t. t0 ++ t) (sym joined)

pub cert_added : (c : Certificate) (request t0 t1 t2 t3 t4 : List ℕ) → IsRequestText c.request request → t1 ≡ t0 ++ text_of (head_lines c.number request)
    → t2 ≡ t1 ++ text_of (answer_lines c.answers) → t3 ≡ t2 ++ text_of (row_lines c.rows) → t4 ≡ t3 ++ end_line → AddsCertText c t0 t4
cert_added c request t0 t1 t2 t3 t4 is e1 e2 e3 e4 = record {
  added = text_of (cert_lines c request);
  is = record { request = request; is = is; written = refl };
  whole = whole_added c request t0 t1 t2 t3 t4 e1 e2 e3 e4;
}

-- a text that was added to none is the whole
pub cert_alone : (c : Certificate) (old new : List ℕ) → old ≡ [] → AddsCertText c old new → CertText c new
cert_alone c old new e h = subst (CertText c) (sym (h.whole ∙ ap (λ t. t ++ h.added) e)) h.is

-- one line more
pub line_more : {X : Type 0} (line : X → List ℕ) (xs : List X) (i : ℕ) (x : X) (t0 t t' : List ℕ) → slice_get xs i ≡ Some x → t ≡ t0 ++ text_of (map line (take i xs))
    → t' ≡ t ++ (line x ++ 10 ∷ []) → t' ≡ t0 ++ text_of (map line (take (i + 1) xs))
line_more line xs i x t0 t t' e s n =
    let next : suc i ≡ i + 1 = omega arith in
    let end : List ℕ → List ℕ = λ l. l ++ 10 ∷ [] in
    let front = take-suc xs i x (slice_get_within xs i x e) ∙ ap (λ z. take i xs ++ z ∷ []) (get_or_from_slice_get xs i x x e) in
    let lines : text_of (map line (take (suc i) xs)) ≡ text_of (map line (take i xs)) ++ (line x ++ 10 ∷ []) =
    ap (λ zs. text_of (map line zs)) front ∙ (ap text_of (map-append line (take i xs) (x ∷ [])) ∙ (flat_joined end (map line (take i xs)) (line x ∷ []) ∙ ap (λ z. text_of (map line (take i xs)) ++ z) (append-nil (line x ++ 10 ∷ [])))) in
    n ∙ (ap (λ z. z ++ (line x ++ 10 ∷ [])) s ∙ (append_assoc t0 (text_of (map line (take i xs))) (line x ++ 10 ∷ []) ∙ ap (λ z. t0 ++ z) (sym lines ∙ ap (λ (n : ℕ). text_of (map line (take n xs))) next)))
