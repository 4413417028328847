-- Keys by numbers: they tell residuals apart, and go on to stand for them while numbers grow.
use Rattle.std.proofs.Common.{◌≡◌, ◌↔◌, ◌∙◌, Bool, IsTrue, sym, subst}
use Rattle.graph_walk.specs.Steps.{KeepsStates, TellsStates}
use Rattle.residual_keys.specs.Residuals.{State}
use Rattle.residual_table.specs.declared.key.ResidualKey.{ResidualKey}
use Rattle.residual_table.specs.Keys.{Grows, IsLive, StandsFor, Tables as Numbers, residual_at}
use Rattle.residual_table.proofs.KeyFacts.{residual_is, stays}

-- the test of keys tells whether they stand for one residual
pub tells_states : (t : Numbers) (eq : ResidualKey → ResidualKey → Bool) → ((k l : ResidualKey) (x y : State) → StandsFor t k x → StandsFor t l y → IsTrue (eq k l) ↔ (x ≡ y)) → TellsStates (IsLive t) (residual_at t) eq
tells_states t eq tells k l (x, h) (y, i) =
    let e = tells k l x y h i in
    let a = residual_is t k x h in
    let b = residual_is t l y i in
    (λ z. a ∙ e.0 z ∙ sym b, λ z. e.1 (sym a ∙ z ∙ b))

-- live keys stay while numbers grow
pub keeps_states : (t u : Numbers) → Grows t u → KeepsStates (IsLive t) (IsLive u) (residual_at t) (residual_at u)
keeps_states t u g k (x, h) = let i = stays t u g k x h in ((x, i), residual_is u k x i ∙ sym (residual_is t k x h))

pub live_state : (t : Numbers) (k : ResidualKey) (x : State) → StandsFor t k x → IsLive t k
live_state t k x h = (x, h)

-- of equal things the same is said
pub said : {A B : Type 0} (P : A → B → Type 0) (a c : A) (b d : B) → a ≡ c → b ≡ d → P a b → P c d
said P a c b d e f h = subst (P c) f (subst (λ z. P z b) e h)
