use Rattle.serve_desks.proofs.Names.{all_settled}
use Rattle.serve_desks.proofs.settling.settle_one.Goals as goal

pub returns-then-number-last-clause-right : goal.returns-then-number-last-clause-right
returns-then-number-last-clause-right g c =
    let e = c.in_ok-number.ensures in
    all_settled g.T.Teller.right g.H.House.terms (g.T.Teller.seen c.args.served.teller) (g.T.Teller.seen c.settle.new.self) c.args.filings.now.receipt.entries
    c.args.served.replies.items c.in_ok-number.number c.number-last.result e.seen e.number.0 e.number.1 c.number-last.ensures.value c.if-number-last.true c.requires.served.replies_right
