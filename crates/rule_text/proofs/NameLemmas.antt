-- Names that code has by reference, and the names themselves.
use Rattle.std.proofs.Common.{◌≡◌, ℕ, List, [], ◌∷◌, map, refl, ap, Bor, bytes_eq, ◌||◌, ◌&&◌, is_some, String, Global, string_bytes}
use Rattle.std.specs.List.{list_all, list_any}
use Rattle.std.specs.Map.{keys_of}
use Rattle.serde_json.specs.Data.{Data}
use Rattle.serde_json.specs.Find.{get}
use Rattle.serde_json.specs.View.{members_view}
use Rattle.serde_json.specs.declared.value.Value.{Value}
use Rattle.rule_text.specs.Members.{is_one_of, only_named, all_there}

abbrev pub told : List (Bor (List ℕ)) → List (List ℕ)
told names = map {A = Bor (List ℕ)} {B = List ℕ} (λ n. n.now) names

pub any_told : (names : List (Bor (List ℕ))) (name : List ℕ) → list_any (λ (n : Bor (List ℕ)). bytes_eq n.now name) names ≡ is_one_of (told names) name
any_told [] name = refl
any_told (n ∷ ns) name = ap (λ b. bytes_eq n.now name || b) (any_told ns name)

pub all_told : (names : List (Bor (List ℕ))) (d : Data) → list_all (λ (n : Bor (List ℕ)). is_some (get n.now d)) names ≡ all_there (told names) d
all_told [] d = refl
all_told (n ∷ ns) d = ap (λ b. is_some (get n.now d) && b) (all_told ns d)

pub names_told : (these those : List (List ℕ)) (es : List (String Global × Value))
    → list_all (λ (key : String Global). is_one_of these (string_bytes key) || is_one_of those (string_bytes key)) (keys_of es) ≡ only_named these those (members_view es)
names_told these those [] = refl
names_told these those (e ∷ es) = ap (λ b. (is_one_of these (string_bytes e.0) || is_one_of those (string_bytes e.0)) && b) (names_told these those es)
