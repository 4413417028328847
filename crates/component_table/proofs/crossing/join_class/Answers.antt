use Rattle.component_table.specs.Crossings.{ClassPaths, TailPaths}
use Rattle.component_table.proofs.Added.{adds_like}
use Rattle.law_lemmas.proofs.Options.{on_ok}
use Rattle.component_table.proofs.crossing.join_class.Goals as goal

pub returns-clause-found : goal.returns-clause-found
returns-clause-found c =
    let k = c.args.bucket.now in
    on_ok _ _ _ (adds_like k.case.now.book.now k.case.now.request.now k.at.now (TailPaths k c.tails_after-tails.result.now) (ClassPaths k c.args.slice.now c.args.joined.now.class.now) _ _ _ (λ o price x w. c.tails_after-tails.ensures.all o x.numbers w)) c.add_groups.ensures.found
