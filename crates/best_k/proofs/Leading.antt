-- A way comes no later than what it leads, and before what follows it.
use Rattle.std.proofs.Common.{◌≡◌, ℕ, suc, ◌<◌, ◌≤◌, ◌⊎◌, sym, subst, inl, inr, arith, ◌∙◌}
use Rattle.std.proofs.lemmas.Bool.{cases_order}
use Rattle.best_k.specs.declared.table.Way.{Way}
use Rattle.best_k.specs.Derivations.{Shape, LatticeLaws}
use Rattle.best_k.specs.Ways.{HasRank}
use Rattle.best_k.specs.Frontiers.{Leads, Follows}
use Rattle.best_k.proofs.Ways.{rank_same, ranks_least}

leads_smaller : (p g : Way) → Leads p g → (p.first ≤ g.first) × (p.rest ≤ g.rest)
leads_smaller p g (e, inl (f, h)) = (omega arith, h)
leads_smaller p g (e, inr (f, h)) = (h, omega arith)

pub leads_rank : (l : Shape) → LatticeLaws l → (node : ℕ) (p g : Way) (r s : ℕ) → node < l.nodes → Leads p g
    → HasRank l node p r → HasRank l node g s → r ≤ s
leads_rank l laws node p g r s n h x y = let k = leads_smaller p g h in ranks_least l laws node p g r s n h.0 k.0 k.1 x y

follows_leads : (p q : Way) → Follows p q → Leads p q
follows_leads p q (e, inl (f, h)) = (e, inl (f, omega arith))
follows_leads p q (e, inr (f, h, k)) = (e, inr (f, omega arith))

follows_other : (p : Way) → Follows p p → ⊥
follows_other p (e, inl (f, h)) = omega arith
follows_other p (e, inr (f, h, k)) = omega arith

pub follows_rank : (l : Shape) → LatticeLaws l → (node : ℕ) (p q : Way) (r s : ℕ) → node < l.nodes
    → Follows p q → HasRank l node p r → HasRank l node q s → r < s
follows_rank l laws node p q r s n h x y =
    let k = leads_rank l laws node p q r s n (follows_leads p q h) x y in
    elim (cases_order r s) [
      | inl e ↦ absurd (follows_other p (subst (λ z. Follows p z) (sym (rank_same l laws node p q s n (subst (λ z. HasRank l node p z) e x) y)) h))
      | inr o ↦ elim o [ inl lt ↦ lt | inr gt ↦ absurd (omega arith) ]
    ]

-- one way follows one way
pub follows_one : (p p' q : Way) → Follows p q → Follows p' q
    → (p.at ≡ p'.at) × ((p.first ≡ p'.first) × (p.rest ≡ p'.rest))
follows_one p p' q (e, inl (f, h)) (e', inl (f', h')) = (e ∙ sym e', (f ∙ sym f', omega arith))
follows_one p p' q (e, inl (f, h)) (e', inr (f', h', k')) = absurd (omega arith)
follows_one p p' q (e, inr (f, h, k)) (e', inl (f', h')) = absurd (omega arith)
follows_one p p' q (e, inr (f, h, k)) (e', inr (f', h', k')) = (e ∙ sym e', (omega arith, omega arith))

-- What comes after p and isn't p comes after a way that follows p.
pub leads_on : (p g : Way) → Leads p g → ((p.first ≡ g.first) × (p.rest ≡ g.rest))
    ⊎ (((p.first ≡ g.first) × (suc p.rest ≤ g.rest)) ⊎ ((p.rest ≡ 0) × (suc p.first ≤ g.first)))
leads_on p g (e, inl (f, h)) = elim (cases_order p.rest g.rest) [ inl s ↦ inl (f, s) | inr o ↦ elim o [ inl lt ↦ inr (inl (f, omega arith)) | inr gt ↦ absurd (omega arith) ] ]
leads_on p g (e, inr (f, h)) =
    elim (cases_order p.first g.first) [
      | inr o ↦ elim o [ inl lt ↦ inr (inr (f, omega arith)) | inr gt ↦ absurd (omega arith) ]
      | inl s ↦ elim (cases_order p.rest g.rest) [ inl t ↦ inl (s, t) | inr o ↦ elim o [ inl lt ↦ inr (inl (s, omega arith)) | inr gt ↦ absurd (omega arith) ] ]
    ]
