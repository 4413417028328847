use Rattle.ticket_order.proofs.Comparing.{code_told, below_told, same_told, above_told}
use Rattle.ticket_order.proofs.keys.cmp_key.Goals as goal

pub returns-in-Equal-clause-less : goal.returns-in-Equal-clause-less
returns-in-Equal-clause-less c =
    let a = c.args in
    below_told c.cmp-in-Equal.result a.a_price a.b_price a.a.now a.b.now
    (code_told a.a_price a.b_price a.a.now a.b.now _ _ c.cmp-in-Equal.result c.in-Equal.ensures c.as_slice.ensures.items c.as_slice-in-Equal.ensures.items c.cmp-in-Equal.ensures)

pub returns-in-Equal-clause-equal : goal.returns-in-Equal-clause-equal
returns-in-Equal-clause-equal c =
    let a = c.args in
    same_told c.cmp-in-Equal.result a.a_price a.b_price a.a.now a.b.now
    (code_told a.a_price a.b_price a.a.now a.b.now _ _ c.cmp-in-Equal.result c.in-Equal.ensures c.as_slice.ensures.items c.as_slice-in-Equal.ensures.items c.cmp-in-Equal.ensures)

pub returns-in-Equal-clause-greater : goal.returns-in-Equal-clause-greater
returns-in-Equal-clause-greater c =
    let a = c.args in
    above_told c.cmp-in-Equal.result a.a_price a.b_price a.a.now a.b.now
    (code_told a.a_price a.b_price a.a.now a.b.now _ _ c.cmp-in-Equal.result c.in-Equal.ensures c.as_slice.ensures.items c.as_slice-in-Equal.ensures.items c.cmp-in-Equal.ensures)
