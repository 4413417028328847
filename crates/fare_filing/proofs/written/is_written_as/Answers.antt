use Rattle.std.proofs.Common.{ℕ, List, ◌++◌, ◌∙◌, sym, subst}
use Rattle.serde_json.specs.View.{view}
use Rattle.fare_filing.specs.Compact.{Begins}
use Rattle.fare_filing.proofs.ActionTexts.{action_begins}
use Rattle.fare_filing.proofs.written.is_written_as.Goals as goal

pub returns : goal.returns
returns c = λ same rest.
    subst (λ (text : List ℕ). Begins (text ++ rest) c.args.action.now rest) (sym c.as_slice.ensures.value ∙ c.is_same.ensures same)
    (action_begins c.names_read_again.ensures c.names_stand_aside.ensures c.args.action.now (view c.in_ok-value.value) c.in_ok-written.written.items rest c.requires c.in_ok-value.ensures c.in_ok-written.ensures.text c.in_ok-written.ensures.order c.in_ok-written.ensures.reads_back)
