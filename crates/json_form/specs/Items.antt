-- The items of a list.
use Rattle.std.specs.Prelude.{List, [], ◌∷◌, Option, Some, None, option_map, option_and_then}
use Rattle.serde_json.specs.Data.{Data, Items, no_items, item}

-- what each item is read as, or none where one isn't of its form
abbrev pub each_item : {A : Type 0} → (Data → Option A) → Items → Option (List A)
each_item form no_items = Some []
each_item form (item d ds) = option_and_then (λ a. option_map (λ xs. a ∷ xs) (each_item form ds)) (form d)

-- the item of a list that has no other
abbrev pub only_item : Items → Option Data
only_item no_items = None
only_item (item d no_items) = Some d
only_item (item d (item e ds)) = None
