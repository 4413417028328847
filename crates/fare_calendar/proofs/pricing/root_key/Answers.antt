use Rattle.std.proofs.Common.{◌≡◌, ◌≤◌, length, sym, subst, arith}
use Rattle.fare_law.specs.Book.{Book}
use Rattle.law_lemmas.proofs.Options.{if_ok}
use Rattle.pricing_graph.proofs.Whole.{root_of}
use Rattle.residual_keys.specs.Residuals.{State}
use Rattle.search_steps.specs.Keys.{state}
use Rattle.search_steps.specs.Leads.{IsRoot}
use Rattle.fare_calendar.proofs.pricing.root_key.Goals as goal

pub returns-clause-root : goal.returns-clause-root
returns-clause-root c =
    let b = c.args.steps.now.case.book.now in
    let r = c.args.request.now in
    let some : 1 ≤ length r.slices = let n = c.requires.count in omega (arith, n) in
    let is : IsRoot b r c.root.result = subst (λ (d : Book). IsRoot d r c.root.result) c.case-case.ensures.book (root_of c.case-case.result.book.now r c.root.result some c.root.ensures.root) in
    if_ok c.key_of.result (λ key. state c.key_of.new.self key ≡ c.root.result) (λ key. IsRoot b r (state c.key_of.new.self key)) (λ key e. subst (λ (x : State). IsRoot b r x) (sym e) is) c.key_of.ensures.state
