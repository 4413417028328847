use Rattle.std.proofs.Common.{sym}
use Rattle.std.specs.Borrow.{Bor}
use Rattle.std.proofs.lemmas.Result.{IfErr-weaker, IfOk-weaker}
use Rattle.fare_law.specs.declared.requests.Request.{Request}
use Rattle.fare_law.specs.Book.{Book}
use Rattle.graph_walk.specs.Steps.{ExceedsIf, rows_of}
use Rattle.graph_walk.specs.Walks.{AreLeast, AreReached, IsShort, Reached, states}
use Rattle.residual_table.specs.Keys.{residual_at}
use Rattle.search_steps.specs.Leads.{leads_of, level_of}
use Rattle.search_steps.proofs.RowsByNumber.{said}
use Rattle.search_steps.proofs.numbered_case.NumberedCase.walked.Goals as goal

pub walk-requires-clause-short : goal.walk-requires-clause-short
walk-requires-clause-short c =
    said (λ (b : Bor Book) (q : Bor Request). IsShort (leads_of b.now q.now) level_of (residual_at c.args.self.now.numbers c.args.root)) _ _ _ _ (sym c.case-case.ensures.book) (sym c.case-case.ensures.request) c.requires.short

pub returns-clause-reached : goal.returns-clause-reached
returns-clause-reached c =
    let x = residual_at c.args.self.now.numbers c.args.root in
    IfOk-weaker c.walk.result _ _
    (λ rows h. said (λ (b : Bor Book) (q : Bor Request). AreReached (leads_of b.now q.now) x (states (rows_of (residual_at c.walk.new.steps.numbers) rows.entries))) _ _ _ _ c.case-case.ensures.book c.case-case.ensures.request h) c.walk.ensures.reached

pub returns-clause-least : goal.returns-clause-least
returns-clause-least c =
    IfOk-weaker c.walk.result _ _
    (λ rows h. said (λ (b : Bor Book) (q : Bor Request). AreLeast (leads_of b.now q.now) (rows_of (residual_at c.walk.new.steps.numbers) rows.entries)) _ _ _ _ c.case-case.ensures.book c.case-case.ensures.request h) c.walk.ensures.least

pub returns-clause-large : goal.returns-clause-large
returns-clause-large c =
    let x = residual_at c.args.self.now.numbers c.args.root in
    IfErr-weaker c.walk.result _ _
    (λ fault h. said (λ (b : Bor Book) (q : Bor Request). ExceedsIf (Reached (leads_of b.now q.now) x) c.args.budget fault) _ _ _ _ c.case-case.ensures.book c.case-case.ensures.request h) c.walk.ensures.large
