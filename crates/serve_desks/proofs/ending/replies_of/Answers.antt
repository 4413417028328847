use Rattle.std.proofs.Common.{◌≡◌, ◌≤◌, ℕ, length, List, [], drop, sym, subst}
use Rattle.std.proofs.lemmas.List.{append-nil, drop_all}
use Rattle.script_text.specs.declared.lines.ScriptLine.{ScriptLine}
use Rattle.serve_desks.specs.Logs.{Replies}
use Rattle.serve_desks.proofs.ending.replies_of.Goals as goal

pub returns : goal.returns
returns g c =
    let told = Replies g.T.Teller.right g.H.House.terms c.args.filings.now.opening c.args.filings.now.filed c.args.filings.now.receipt.entries in
    let lines = c.args.script.now.lines in
    let start = c.in_ok-floors.ensures.items_if_clones_equal (λ y e. e) in
    let none : drop c.loop-line.line-index lines ≡ [] = drop_all c.loop-line.line-index lines (subst (λ (ls : List ScriptLine). length ls ≤ c.loop-line.line-index) c.as_slice-line-items.ensures c.loop-line-test.false) in
    let all = c.loop-line.invariant.7 [] (subst (λ (ls : List ScriptLine). told c.loop-line.replied.floors.items ls []) (sym none) tt) in
    subst (λ (fl : List ℕ). told fl lines c.loop-line.replied.replies) start (subst (told c.in_ok-floors.floors.items lines) (append-nil c.loop-line.replied.replies) all)
