use Rattle.std.proofs.Common.{◌∙◌}
use Rattle.cheap_moves.proofs.endings.endings_of.Goals as goal

pub returns : goal.returns
returns c = λ slices i are. record {
  within = c.in_ok-numbers.ensures.within;
  to = λ b same. c.in_ok-numbers.ensures.tails b slices i (record { places = same.places ∙ c.schedule_of.ensures.places; flights = same.flights ∙ c.schedule_of.ensures.flights }) (are b same);
}
