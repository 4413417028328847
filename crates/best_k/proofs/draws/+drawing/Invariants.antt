use Rattle.std.proofs.Common.{◌*◌, ◌+◌}
use Rattle.best_k.proofs.draws.+drawing.Given as goal

abbrev pub decreases-draw_to : goal.decreases-draw_to
decreases-draw_to g l = 2 * l.node + 1

abbrev pub decreases-draw_parts : goal.decreases-draw_parts
decreases-draw_parts g l = 2 * l.node
