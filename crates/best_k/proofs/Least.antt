-- The least way of a node, among its choices.
use Rattle.std.proofs.Common.{◌≡◌, ℕ, ◌<◌, ◌≤◌, ◌⊎◌, ◌↔◌, List, length, IsTrue, sym, refl, subst, inl, inr, arith, ◌+◌, Bool, true, false, Option, Some, None, IfSome, ◌∙◌}
use Rattle.std.proofs.lemmas.Bool.{cases_eq, cases_lt}
use Rattle.best_k.specs.declared.lattice.Choice.{Choice}
use Rattle.best_k.specs.declared.lattice.Choice.TheVariants.{Leaf, Pair}
use Rattle.best_k.specs.declared.table.Progress.{Progress}
use Rattle.best_k.specs.declared.table.Stage.{Stage}
use Rattle.best_k.specs.declared.table.Stage.TheVariants.{Fresh, Open, Spent}
use Rattle.best_k.specs.declared.table.Way.{Way}
use Rattle.best_k.specs.Derivations.{Shape, LatticeLaws}
use Rattle.best_k.specs.Ranked.{ranked}
use Rattle.best_k.specs.Ways.{HasRank, Offered}
use Rattle.best_k.specs.Tables.{drawn_of, Held, IsDrawnTo, ArePartsDrawnTo}
use Rattle.best_k.specs.Drawing.{IsLesserWay, IsLeastWay, IsStage, IsTable}
use Rattle.best_k.proofs.Apart.{Inside, inside}
use Rattle.best_k.proofs.Ways.{rank_one, rank_some, rank_short, rank_fewer}
use Rattle.best_k.proofs.Leading.{leads_rank}
use Rattle.best_k.proofs.Tables.{there}

stage_first : (l : Shape) (t : List Progress) (node : ℕ) (drawn queue : List Way) (s : Stage)
    → IsStage l t node drawn queue s → (0 < length drawn) ⊎ (length drawn ≡ length (ranked l node))
stage_first l t node drawn queue Fresh (w, e, f, g, q) = inl (subst (λ z. 0 < length z) (sym e) (omega arith))
stage_first l t node drawn queue Open k = inl (omega (arith, k.last))
stage_first l t node drawn queue Spent k = inr k

drawn_first : (l : Shape) (t : List Progress) (n u : ℕ) → IsTable l t n → u < n → IsDrawnTo l t u 0
drawn_first l t n u ok h =
    let x = there t u (omega (arith, ok.long)) in
    subst (λ z. (0 < drawn_of z) ⊎ (drawn_of z ≡ length (ranked l u))) (sym x.1) (stage_first l t u x.0.drawn.items x.0.queue.items x.0.stage (ok.nodes u x.0 h x.1).state)

drawn_choice : (l : Shape) (t : List Progress) (n : ℕ) (c : Choice) → IsTable l t n → Inside n c
    → ArePartsDrawnTo l t c 0 0
drawn_choice l t n (Leaf price word) ok h = tt
drawn_choice l t n (Pair first None) ok h = drawn_first l t n first ok h
drawn_choice l t n (Pair first (Some rest)) ok h = (drawn_first l t n first ok h.0, drawn_first l t n rest ok h.1)

-- The least parts of a choice are drawn.
pub least_drawn : (l : Shape) → LatticeLaws l → (t : List Progress) (node at : ℕ) → node < l.nodes
    → at < l.choices node → IsTable l t node → ArePartsDrawnTo l t (l.choice node at) 0 0
least_drawn l laws t node at n k ok = drawn_choice l t node (l.choice node at) ok (inside l laws node at n k)

pub lesser_first : (l : Shape) (node : ℕ) (least : Option Way) (way other : Way) (b : Bool)
    → least ≡ Some other → b ≡ true
    → ((r s : ℕ) → HasRank l node way r → HasRank l node other s → IsTrue b ↔ (r < s))
    → IsLesserWay l node least way way
lesser_first l node least way other b e t k = subst (λ z. IsLesserWay l node z way way) (sym e) (inl refl, λ r s u x y z. let a = rank_one l node way r u x z in let c = (k r s x y).0 t in (omega arith, omega arith))

pub lesser_second : (l : Shape) (node : ℕ) (least : Option Way) (way other : Way) (b : Bool)
    → least ≡ Some other → b ≡ false
    → ((r s : ℕ) → HasRank l node way r → HasRank l node other s → IsTrue b ↔ (r < s))
    → IsLesserWay l node least way other
lesser_second l node least way other b e t k = subst (λ z. IsLesserWay l node z way other) (sym e) (
  inr refl,
  λ r s u x y z. let a = rank_one l node other s u y z in
      elim (cases_lt r s) [ inl lt ↦ let c = (k r s x y).1 lt in let z : false ≡ true = sym t ∙ c in absurd (cc) | inr le ↦ (omega arith, omega arith) ],
)

-- what is known of the least way among the choices below c
abbrev pub LeastTo : Shape → List Progress → ℕ → ℕ → Option Way → Type 0
LeastTo l t node c None = (w : Way) (r : ℕ) → w.at < c → HasRank l node w r → ⊥
LeastTo l t node c (Some w) = (w.first ≡ 0) × (w.rest ≡ 0) × Held l t node w × ((r : ℕ) × (HasRank l node w r × ((g : Way) (s : ℕ) → g.at < c → HasRank l node g s → r ≤ s)))

pub least_same : (l : Shape) → LatticeLaws l → (t : List Progress) (node c : ℕ) (o p : Option Way)
    → node < l.nodes → p ≡ None → LeastTo l t node c o → Offered l node c 0 0 p → LeastTo l t node (c + 1) o
least_same l laws t node c o p n e h k = go o h
  where
    never : (w : Way) (r : ℕ) → w.at ≡ c → HasRank l node w r → ⊥
    never w r a x = let q = rank_fewer l laws node w r 0 0 n (omega arith) (omega arith) x in subst (λ z. Offered l node c 0 0 z) e k q.0 q.1.3.0 (q.1.0 ∙ a) q.1.1 q.1.2 q.1.3.1

    go : (o : Option Way) → LeastTo l t node c o → LeastTo l t node (c + 1) o
    go None h = λ w r lt x. elim (cases_lt w.at c) [ inl less ↦ h w r less x | inr ge ↦ never w r (omega arith) x ]
    go (Some v) h = (h.0, h.1, h.2, (h.3.0, (h.3.1.0, λ w r lt x. elim (cases_lt w.at c) [ inl less ↦ h.3.1.1 w r less x | inr ge ↦ absurd (never w r (omega arith) x) ])))

pub least_more : (l : Shape) → LatticeLaws l → (t : List Progress) (node c : ℕ) (o p : Option Way) (w x : Way)
    → node < l.nodes → p ≡ Some w → LeastTo l t node c o → Offered l node c 0 0 p → IfSome p (Held l t node)
    → IsLesserWay l node o w x → LeastTo l t node (c + 1) (Some x)
least_more l laws t node c o p w x n e h k' held' less = go o h less
  where
    k : Offered l node c 0 0 (Some w)
    k = subst (λ z. Offered l node c 0 0 z) e k'

    held : Held l t node w
    held = subst (λ z. IfSome z (Held l t node)) e held'

    here : (g : Way) (s : ℕ) → g.at ≡ c → HasRank l node g s → k.3.0 ≤ s
    here g s a y = leads_rank l laws node w g k.3.0 s n (k.0 ∙ sym a, inr (k.2, omega (arith, k.1))) k.3.1 y

    go : (o : Option Way) → LeastTo l t node c o → IsLesserWay l node o w x
        → LeastTo l t node (c + 1) (Some x)
    go None h less = subst (λ z. LeastTo l t node (c + 1) (Some z)) (sym less) (k.1, k.2, held, (k.3.0, (k.3.1, λ g s lt y. elim (cases_lt g.at c) [ inl b ↦ absurd (h g s b y) | inr ge ↦ here g s (omega arith) y ])))
    go (Some v) h less =
        elim less.0 [
          | inl same ↦ let r = less.1 k.3.0 h.3.0 k.3.0 k.3.1 h.3.1.0 (subst (λ z. HasRank l node z k.3.0) (sym same) k.3.1) in
              subst (λ z. LeastTo l t node (c + 1) (Some z)) (sym same) (k.1, k.2, held, (k.3.0, (k.3.1, λ g s lt y. elim (cases_lt g.at c) [ inl b ↦ let q = h.3.1.1 g s b y in omega (arith, r.1) | inr ge ↦ here g s (omega arith) y ])))
          | inr same ↦ let r = less.1 k.3.0 h.3.0 h.3.0 k.3.1 h.3.1.0 (subst (λ z. HasRank l node z h.3.0) (sym same) h.3.1.0) in
              subst (λ z. LeastTo l t node (c + 1) (Some z)) (sym same) (h.0, h.1, h.2, (h.3.0, (h.3.1.0, λ g s lt y. elim (cases_lt g.at c) [ inl b ↦ h.3.1.1 g s b y | inr ge ↦ let q = here g s (omega arith) y in omega (arith, r.0) ])))
        ]

pub least_end : (l : Shape) → LatticeLaws l → (t : List Progress) (node c : ℕ) (o : Option Way)
    → node < l.nodes → l.choices node ≤ c → LeastTo l t node c o → IsLeastWay l t node o
least_end l laws t node c None n e h = elim (cases_eq (length (ranked l node)) 0) [
  | inl z ↦ z
  | inr ne ↦ let w = rank_some l laws node 0 n (omega arith) in absurd (h w.0 0 (omega (arith, w.1.is.there)) w.1)
]
least_end l laws t node c (Some w) n e h =
    let s = rank_short l node w h.3.0 h.3.1.0 in
    let g = rank_some l laws node 0 n (omega arith) in
    let z : h.3.0 ≡ 0 = omega (arith, h.3.1.1 g.0 0 (omega (arith, g.1.is.there)) g.1) in
    (h.0, h.1, h.2, subst (λ r. HasRank l node w r) z h.3.1.0)
