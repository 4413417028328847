-- The members of an object and the items of a list, up to the first fault.
use Rattle.std.specs.Prelude.{ℕ, suc, List, [], ◌∷◌, Bool, true, false, ◌&&◌, ◌||◌, ◌==◌, nat_le, not, is_some, bytes_eq, if◌then◌else◌, Option, Some, None, option_map, unwrap_or, Result, Ok, Err, ok_or}
use Rattle.std.specs.List.{list_all, list_any}
use Rattle.serde_json.specs.Data.{Data, Items, no_items, item, Members, no_members, member}
use Rattle.serde_json.specs.Find.{get, as_array, as_object}
use Rattle.rule_text.specs.declared.fault.RuleFault.{RuleFault}
use Rattle.rule_text.specs.declared.fault.RuleFault.TheVariants.{Missing, Unknown, Range}

infixl 10 ◌>>=◌
-- from one part to the next, up to the first fault
abbrev pub ◌>>=◌ : {A B : Type 0} → Result A RuleFault → (A → Result B RuleFault) → Result B RuleFault
(Ok x) >>= f = f x
(Err fault) >>= f = Err fault

abbrev pub is_one_of : List (List ℕ) → List ℕ → Bool
is_one_of names name = list_any (λ known. bytes_eq known name) names

-- whether each member's name is one of these or of those
abbrev pub only_named : List (List ℕ) → List (List ℕ) → Members → Bool
only_named these those no_members = true
only_named these those (member name d ms) = (is_one_of these name || is_one_of those name) && only_named these those ms

-- whether there is a member of each of these names
abbrev pub all_there : List (List ℕ) → Data → Bool
all_there names d = list_all (λ name. is_some (get name d)) names

-- an object whose members have these names: each of the first, perhaps some of the second, no others
abbrev pub with_members : List (List ℕ) → List (List ℕ) → Data → Result (Unit {0}) RuleFault
with_members required optional d = do
  members ← ok_or (as_object d) Range
  if not (only_named required optional members) then Err Unknown
      else if all_there required d then Ok tt else Err Missing

-- a member that has to be there, of a form
abbrev pub part_at : {A : Type 0} → (Data → Result A RuleFault) → List ℕ → Data → Result A RuleFault
part_at form name d = ok_or (get name d) Missing >>= form

-- a member that may be absent, of a form where it is there
abbrev pub if_there : {A : Type 0} → (Data → Result A RuleFault) → Option Data → Result (Option A) RuleFault
if_there form None = Ok None
if_there form (Some d) = form d >>= (λ a. Ok (Some a))

abbrev pub optional_at : {A : Type 0} → (Data → Result A RuleFault) → List ℕ → Data → Result (Option A) RuleFault
optional_at form name d = if_there form (get name d)

abbrev pub item_count : Items → ℕ
item_count no_items = 0
item_count (item d ds) = suc (item_count ds)

-- a list of so many items
abbrev pub has_items : ℕ → Data → Bool
has_items n d = unwrap_or (option_map (λ ds. item_count ds == n) (as_array d)) false

-- one item before the others
abbrev pub then_rest : {A : Type 0} → Result A RuleFault → Result (List A) RuleFault → Result (List A) RuleFault
then_rest (Ok x) (Ok xs) = Ok (x ∷ xs)
then_rest (Ok x) (Err fault) = Err fault
then_rest (Err fault) rest = Err fault

-- each item of a form, in their order
abbrev pub each_of : {A : Type 0} → (Data → Result A RuleFault) → Items → Result (List A) RuleFault
each_of form no_items = Ok []
each_of form (item d ds) = then_rest (form d) (each_of form ds)

-- 1 to `most` items of a form
abbrev pub items_of : {A : Type 0} → ℕ → (Data → Result A RuleFault) → Items → Result (List A) RuleFault
items_of most form items =
    if nat_le 1 (item_count items) && nat_le (item_count items) most then each_of form items else Err Range

-- a list of 1 to `most` items of a form
abbrev pub list_of : {A : Type 0} → ℕ → (Data → Result A RuleFault) → Data → Result (List A) RuleFault
list_of most form d = ok_or (as_array d) Range >>= items_of most form
