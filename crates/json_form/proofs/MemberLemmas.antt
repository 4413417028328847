-- How many members an object has.
use Rattle.std.proofs.Common.{◌≡◌, suc, List, [], ◌∷◌, length, refl, ap, String}
use Rattle.std.specs.declared.alloc.Global.{Global}
use Rattle.serde_json.specs.View.{members_view}
use Rattle.serde_json.specs.declared.value.Value.{Value}
use Rattle.json_form.specs.Members.{member_count}

pub count_members : (ms : List (String Global × Value)) → member_count (members_view ms) ≡ length ms
count_members [] = refl
count_members (m ∷ ms) = ap suc (count_members ms)
