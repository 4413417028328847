-- What a board and a pass are to a contract.
use Rattle.std.specs.Prelude.{◌≡◌, ℕ, List, [], ◌∷◌, Option, Some, None, unwrap_or}
use Rattle.atomic_table.specs.Seated.{TableId}
use Rattle.shared_board.specs.declared.mark.Mark.{Mark}

-- which board it is, and its number
pub record SlotsView : Type 0 where
  pub board : TableId
  pub number : ℕ

-- the board that it is a pass of, and the slot that it holds
pub record PassView : Type 0 where
  pub of : SlotsView
  pub held : Option ℕ

-- what a view shows; no pass has a view that shows nothing
abbrev pub mark_of : Option Mark → Mark
mark_of view = unwrap_or view (record { number = 0; held = None })

module _ {S : Type 0} where
  -- the seat holds this slot and no other
  abbrev pub Holds : Option ℕ → List (ℕ × S) → Type 0
  Holds None taken = taken ≡ []
  Holds (Some slot) taken = (value : S) × (taken ≡ (slot, value) ∷ [])
