-- Moves that are all taken after a front are no more than the answers that begin with it.
use Rattle.std.proofs.Common.{◌≡◌, ◌∙◌, ℕ, suc, ◌≤◌, List, [], ◌∷◌, ◌++◌, length, map, sym, refl, ap, inl, inr, arith}
use Rattle.certificate.specs.declared.parts.CertAnswer.{CertAnswer}
use Rattle.certificate_check.specs.Fronts.{CountsBeginning, IsTaken, TakenByAny}
use Rattle.fare_law.specs.declared.moves.Move.{Move}
use Rattle.fare_law.specs.Lists.{AllDifferent, Each, IsIn}
use Rattle.search_steps.specs.declared.least.LeastMove.{LeastMove}
use Rattle.residual_keys.proofs.Sizes.{no_more}

same_after : (front : List Move) (m n : Move) (rest more : List Move) → front ++ m ∷ rest ≡ front ++ n ∷ more → m ≡ n
same_after [] m n rest more e = cc
same_after (k ∷ front) m n rest more e = same_after front m n rest more (let t : front ++ m ∷ rest ≡ front ++ n ∷ more = cc in t)

-- the moves that answers take after a front, one for each that begins with it
nexts : (front : List Move) (answers : List CertAnswer) (n : ℕ) → CountsBeginning front answers n → (ts : List Move) × (length ts ≡ n) × ((m : Move) → IsTaken answers front m → IsIn m ts)
nexts front [] n c = ([], sym c, λ m t. t.1)
nexts front (a ∷ answers) n (inl (begins, before, c, e)) =
    let r = nexts front answers before c in
    let k = r.1 in (
      begins.0 ∷ r.0,
      omega (arith, k, e),
      λ m t. elim t.1 [
        | inl s ↦ inl (same_after front m begins.0 t.2.0 begins.1 (sym t.2.1 ∙ ap (λ z. z.moves) s ∙ begins.2))
        | inr i ↦ inr (r.2 m (t.0, i, t.2))
      ],
    )
nexts front (a ∷ answers) n (inr (denied, c)) =
    let r = nexts front answers n c in (
      r.0,
      r.1,
      λ m t. elim t.1 [
        | inl s ↦ absurd (denied (m, t.2.0, sym (ap (λ z. z.moves) s) ∙ t.2.1))
        | inr i ↦ r.2 m (t.0, i, t.2)
      ],
    )

all_in : {K : Type 0} (answers : List CertAnswer) (front ts : List Move) (ms : List (LeastMove K)) → ((m : Move) → IsTaken answers front m → IsIn m ts) → TakenByAny answers front ms → Each (λ m. IsIn m ts) (map (λ m. m.mv) ms)
all_in answers front ts [] to h = tt
all_in answers front ts (m ∷ ms) to h = (to m.mv h.0, all_in answers front ts ms to h.1)

length_moves : {K : Type 0} (ms : List (LeastMove K)) → length (map (λ m. m.mv) ms) ≡ length ms
length_moves [] = refl
length_moves (m ∷ ms) = ap suc (length_moves ms)

pub few_taken : {K : Type 0} (answers : List CertAnswer) (front : List Move) (n : ℕ) (ms : List (LeastMove K)) → CountsBeginning front answers n → AllDifferent (map (λ m. m.mv) ms) → TakenByAny answers front ms → length ms ≤ n
few_taken answers front n ms c d t =
    let r = nexts front answers n c in
    let k = no_more (map (λ m. m.mv) ms) r.0 d (all_in answers front r.0 ms r.2 t) in
    let l = length_moves ms in
    let e = r.1 in
    omega (arith, k, l, e)
