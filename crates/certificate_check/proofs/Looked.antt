-- An entry that has a key is the one that is looked up, where keys differ.
use Rattle.std.proofs.Common.{◌≡◌, ◌∙◌, ℕ, Bool, cond, List, [], ◌∷◌, Option, Some, refl, ap, ap₂}
use Rattle.std.specs.Cmp.{IsEquivalence}
use Rattle.std.specs.List.{IsDistinct}
use Rattle.std.specs.Map.{keys_of, lookup}
use Rattle.std.proofs.lemmas.Map.Entries.{lookup_from_place}
use Rattle.certificate_check.specs.Tables.{IsPlaced}
use Rattle.certificate_check.proofs.RowTables.{Entry}
use Rattle.residual_table.specs.declared.key.ResidualKey.{ResidualKey}

-- tests that answer alike find the same
one_test : (t u : ResidualKey → Bool) → ((k : ResidualKey) → t k ≡ u k) → (es : List Entry) → lookup t es ≡ lookup u es
one_test t u alike [] = refl
one_test t u alike (e ∷ es) = ap₂ (λ b rest. cond b (Some e.1) rest) (alike e.0) (one_test t u alike es)

pub looked_up : (same : ResidualKey → ResidualKey → Bool) → IsEquivalence same → (es : List Entry) → IsDistinct same (keys_of es) → (key : ResidualKey) (bound : Option ℕ) → IsPlaced same key es bound → lookup (same key) es ≡ Some bound
looked_up same laws es differ key bound p =
    one_test (same key) (same p.entry.0) (λ k. laws.congr key p.entry.0 k p.same) es ∙ lookup_from_place laws es p.place p.entry.0 p.entry.1 differ p.there ∙ ap Some p.bound
