use Rattle.std.proofs.Common.{◌≡◌, ◌↔◌, IsTrue, rules}
use Rattle.std.specs.List.{Any}
use Rattle.ticket_whole.proofs.LabelsAmong.{comes_told}
use Rattle.ticket_whole.proofs.boundaries.is_among.Goals as goal

pub returns : goal.returns
returns c =
    let any : IsTrue c.any.result ↔ Any (λ l. c.args.label ≡ l) c.args.labels.now = search rules in
    let told = comes_told c.args.label c.args.labels.now in
    (λ t. told.0 (any.0 t), λ h. any.1 (told.1 h))
