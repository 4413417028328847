-- Keys that are sorted by their ranks.
use Rattle.std.proofs.Common.{◌≡◌, ◌↔◌, List, Option, ℕ, IsPermutation, subst, sym}
use Rattle.std.specs.declared.cmp.Ordering.{Ordering}
use Rattle.std.specs.declared.cmp.Ordering.TheVariants.{Less as Lower}
use Rattle.std.specs.List.{IsDistinct}
use Rattle.std.specs.Map.{keys_of}
use Rattle.std.proofs.lemmas.List.Sorted.{IsPermutation-map}
use Rattle.std.proofs.lemmas.Map.Keys.{IsDistinct-IsPermutation}
use Rattle.residual_keys.specs.ResidualOrder.{StateBefore}
use Rattle.residual_keys.specs.Residuals.{State}
use Rattle.residual_table.specs.contracts.key.ResidualKeyPartialEq.TheImpl as key
use Rattle.residual_table.specs.contracts.key.ResidualKeyEq.TheImpl.Laws.{laws-law}
use Rattle.residual_table.specs.declared.key.ResidualKey.{ResidualKey}
use Rattle.residual_table.specs.declared.key.SortKey.{SortKey}
use Rattle.residual_table.specs.Keys.{IsLive, StandsFor, Tables as Numbers, residual_at}
use Rattle.residual_table.specs.PartNumbers.{HasLetters}
use Rattle.residual_table.specs.Ranks.{RankLists, rank_of}
use Rattle.residual_table.proofs.KeyFacts.{residual_is}

-- a key that stands for a residual, and whose carrier has its letters
abbrev pub IsSortable : Numbers → ResidualKey → Type 0
IsSortable t k = IsLive t k × HasLetters k.part.carrier

-- ranks of such keys compare as their residuals do
pub order_told : (t : Numbers) (r : RankLists) (compare : SortKey → SortKey → Ordering)
    → ((k l : ResidualKey) (x y : State) → StandsFor t k x → StandsFor t l y → HasLetters k.part.carrier → HasLetters l.part.carrier → (compare (rank_of r k) (rank_of r l) ≡ Lower) ↔ StateBefore x y)
    → (k l : ResidualKey) → IsSortable t k → IsSortable t l → (compare (rank_of r k) (rank_of r l) ≡ Lower) ↔ StateBefore (residual_at t k) (residual_at t l)
order_told t r compare told k l ((x, h), m) ((y, i), n) =
    let e = told k l x y h i m n in (
      λ z. subst (λ v. StateBefore v (residual_at t l)) (sym (residual_is t k x h)) (subst (λ w. StateBefore x w) (sym (residual_is t l y i)) (e.0 z)),
      λ z. e.1 (subst (λ v. StateBefore v y) (residual_is t k x h) (subst (λ w. StateBefore (residual_at t k) w) (residual_is t l y i) z)),
    )

-- rows in another order are still distinct
module _ (rows turned : List (ResidualKey × Option ℕ)) (moves : IsPermutation rows turned) (distinct : IsDistinct key.ghosts.eq (keys_of rows)) where
  flips : (k l : ResidualKey) → key.ghosts.eq k l ≡ key.ghosts.eq l k
  flips k l = laws-law.symm k l

  pub still_distinct : IsDistinct key.ghosts.eq (keys_of turned)
  still_distinct = IsDistinct-IsPermutation key.ghosts.eq flips (keys_of rows) (keys_of turned) (IsPermutation-map (λ r. r.0) rows turned moves) distinct
