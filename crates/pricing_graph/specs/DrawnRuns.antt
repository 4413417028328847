-- Runs that are drawn, as runs of the search.
use Rattle.std.specs.Prelude.{◌≡◌, List}
use Rattle.best_k.specs.declared.lattice.Derivation.{Derivation}
use Rattle.fare_law.specs.declared.moves.Move.{Move}
use Rattle.residual_keys.specs.Searches.{Drawn}
use Rattle.ticket_order.specs.Coding.{IsCodeOf}
use Rattle.pricing_graph.specs.declared.drawn.DrawnRun.{DrawnRun}

-- a run that is drawn, as a run of the search
abbrev pub run_of_drawn : DrawnRun → Drawn
run_of_drawn run = record { price = run.price; moves = run.moves }

-- the word is the code of moves
abbrev pub HasMoves : Derivation → Type 0
HasMoves d = (ms : List Move) × IsCodeOf d.word ms

-- the run has the price, and the moves whose code the word is
pub record IsReadAs (d : Derivation) (run : DrawnRun) : Type 0 where
  pub price : run.price ≡ d.price
  pub moves : IsCodeOf d.word run.moves
