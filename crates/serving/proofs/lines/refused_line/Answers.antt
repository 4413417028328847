use Rattle.std.proofs.Common.{◌++◌, ◌∙◌, List, ℕ, ap, codes, decimal}
use Rattle.serving.proofs.lines.refused_line.Goals as goal

pub returns : goal.returns
returns c =
    c.in_ok-format.ensures.ok
    ∙ ap (λ (why : List ℕ). codes "later " ++ (decimal c.args.later ++ (codes " refused action " ++ (decimal c.args.action ++ (codes " " ++ (why ++ codes "\n")))))) c.why_text-why.ensures
