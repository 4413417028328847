-- What bytes spell, where a reader took them or refused them.
use Rattle.std.proofs.Common.{◌≡◌, ℕ, List, true, false, cond, Some, None, refl}
use Rattle.std.specs.Str.{IsUtf8, is_utf8}
use Rattle.std.proofs.lemmas.Str.{IsUtf8-from_is_utf8, is_utf8-from_IsUtf8}
use Rattle.serde_json.specs.Data.{Data}
use Rattle.serde_json.specs.Read.{read}
use Rattle.json_form.specs.Spelled.{spelled}

pub spelled_some : (bytes : List ℕ) (d : Data) → IsUtf8 bytes → read bytes ≡ Some d → Some d ≡ spelled bytes
unfolding spelled
spelled_some bytes d utf8 e = rw (is_utf8-from_IsUtf8 bytes utf8, e) refl

pub spelled_none : (bytes : List ℕ) → (IsUtf8 bytes → read bytes ≡ None) → None ≡ spelled bytes
unfolding spelled
spelled_none bytes refused =
    elim (is_utf8 bytes) as (λ b. is_utf8 bytes ≡ b → None ≡ cond b (read bytes) None) [ true ↦ λ e. rw (refused (IsUtf8-from_is_utf8 bytes e)) refl | false ↦ λ e. refl ] refl
