use Rattle.std.proofs.Common.{◌∙◌, sym, subst}
use Rattle.graph_walk.specs.Steps.{rows_of}
use Rattle.residual_table.specs.contracts.key.ResidualKeyPartialEq.TheImpl as key
use Rattle.search_steps.specs.Keys.{state}
use Rattle.pricing_graph.specs.NodeSteps.{IsRootNode}
use Rattle.pricing_graph.proofs.RootNode.{root_there}
use Rattle.law_lemmas.proofs.Options.{some_same}
use Rattle.pricing_graph.proofs.graph.Graph.root.Goals as goal

pub unreachable-requires : goal.unreachable-requires
unreachable-requires c =
    let kept = c.in_ok-key.ensures in
    let r =
    root_there c.args.steps.now c.key_of.new.self c.case-case.result.book.now c.case-case.result.request.now key.ghosts.eq c.args.self.now.rows.entries c.in_ok-key.key c.root.result c.case-case.ensures.book c.case-case.ensures.request kept.case kept.keeps
    c.requires.request c.requires.live c.requires.graph c.root.ensures.root kept.live kept.state c.keys_tell.ensures in
    let found = r.1 in
    let none = c.in-None.is in
    let is = c.node.ensures in
    absurd (cc)

pub returns-clause-node : goal.returns-clause-node
returns-clause-node c =
    let kept = c.in_ok-key.ensures in
    let new = c.key_of.new.self in
    let r =
    root_there c.args.steps.now new c.case-case.result.book.now c.case-case.result.request.now key.ghosts.eq c.args.self.now.rows.entries c.in_ok-key.key c.root.result c.case-case.ensures.book c.case-case.ensures.request kept.case kept.keeps c.requires.request
    c.requires.live c.requires.graph c.root.ensures.root kept.live kept.state c.keys_tell.ensures in
    subst (λ n. IsRootNode new.case.book.now new.case.request.now (rows_of (state new) c.args.self.now.rows.entries) n) (some_same r.0 c.in-Some.node (sym r.1 ∙ sym c.node.ensures ∙ c.in-Some.is)) r.2
