use Rattle.std.proofs.Common.{is_some, sym, ◌∙◌}
use Rattle.std.proofs.lemmas.Bool.{true_from_ne_false}
use Rattle.schedule_book.proofs.PlaceRows.{known_told, none_told, known_some}
use Rattle.schedule_book.proofs.places.Places.knows.Goals as goal

pub returns : goal.returns
returns c = (
  λ t. known_told c.args.place c.args.self.now c.connect.result c.connect.ensures (sym c.is_some.ensures ∙ t),
  λ k. c.is_some.ensures ∙ true_from_ne_false (is_some c.connect.result) (λ f. known_some c.args.place c.args.self.now k (sym c.connect.ensures ∙ none_told c.connect.result f)),
)
