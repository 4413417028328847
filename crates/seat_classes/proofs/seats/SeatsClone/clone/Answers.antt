use Rattle.std.proofs.Common.{◌∙◌}
use Rattle.std.specs.List.{each_same}
use Rattle.std.proofs.lemmas.Map.Entries.{entries_from_clone}
use Rattle.seat_classes.proofs.seats.SeatsClone.clone.Goals as goal

pub returns : goal.returns
returns c =
    record {
      cases = entries_from_clone _ _ (λ x y e. e) (λ v w e. each_same v w e.whole) c.self.inside.rows.entries c.in_ok-clone.field-0.entries c.in_ok-clone.ensures.cases ∙ c.self.view_is;
    }
