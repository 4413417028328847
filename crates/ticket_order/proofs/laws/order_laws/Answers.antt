use Rattle.ticket_order.proofs.Words.{less_cut, less_more, less_second, less_first, before_never, before_trans, before_total, before_more, before_second}
use Rattle.law_lemmas.proofs.Words.{less_never, less_total, less_trans, words_told}
use Rattle.ticket_order.proofs.laws.order_laws.Goals as goal

pub returns : goal.returns
returns c = record {
  less_never = less_never;
  less_trans = less_trans;
  less_total = less_total;
  less_told = words_told;
  less_cut = less_cut;
  less_more = less_more;
  less_second = less_second;
  less_first = less_first;
  before_never = before_never;
  before_trans = before_trans;
  before_total = before_total;
  before_more = before_more;
  before_second = before_second;
}
