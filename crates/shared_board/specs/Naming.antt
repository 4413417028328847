-- The numbers that tell one board from all others.
use Rattle.std.specs.Prelude.{ℕ, List, ◌∷◌}
use Rattle.shared_board.specs.Holding.{SlotsView}

abbrev pub numbers_of : SlotsView → List ℕ
numbers_of b = b.number ∷ b.board.words ∷ b.board.slots ∷ b.board.views_name ∷ b.board.atom ∷ b.board.block ∷ b.board.offset ∷ b.board.slot_names
