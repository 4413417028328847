use Rattle.std.proofs.Common.{OnOk, subst, sym}
use Rattle.fare_law.specs.Lists.{EachPair}
use Rattle.graph_walk.specs.Steps.{AreLive}
use Rattle.residual_keys.specs.ResidualOrder.{StateBefore}
use Rattle.residual_table.specs.Keys.{IsLive, residual_at}
use Rattle.search_steps.specs.Numbers.{Numbered}
use Rattle.search_steps.proofs.numbered_case.NumberedCase.put_in_order.Goals as goal

pub put_rows_in_order-requires : goal.put_rows_in_order-requires
put_rows_in_order-requires c = subst (λ (n : Numbered). AreLive (IsLive n.numbers) c.args.rows.now.entries) (sym c.self.view_is) c.requires

pub returns-clause-order : goal.returns-clause-order
returns-clause-order c =
    subst (λ (n : Numbered). OnOk c.put_rows_in_order.result (EachPair (λ r s. StateBefore (residual_at n.numbers r.0) (residual_at n.numbers s.0)) c.put_rows_in_order.new.rows.entries)) c.self.view_is c.put_rows_in_order.ensures.order
