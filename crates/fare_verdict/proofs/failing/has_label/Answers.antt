use Rattle.std.proofs.Common.{◌≡◌, ◌↔◌, IsTrue, rules}
use Rattle.std.specs.List.{Any}
use Rattle.ticket_whole.proofs.LabelsAmong.{label_told}
use Rattle.fare_verdict.proofs.failing.has_label.Goals as goal

pub returns : goal.returns
returns c =
    let any : IsTrue c.any.result ↔ Any (λ x. x.unit ≡ c.args.label) c.args.components.now = search rules in
    let told = label_told c.args.label c.args.components.now in
    (λ t. told.0 (any.0 t), λ h. any.1 (told.1 h))
