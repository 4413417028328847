use Rattle.std.proofs.Common.{◌≡◌, ◌↔◌, IsTrue, subst}
use Rattle.std.specs.declared.cmp.Ordering.TheVariants.{Less}
use Rattle.certificate_check.proofs.ByNumbers.{stands}
use Rattle.residual_table.specs.contracts.key.SortKeyOrd.TheImpl as sort_key
use Rattle.residual_table.specs.declared.key.SortKey.{SortKey}
use Rattle.residual_table.specs.Keys.{residual_at}
use Rattle.residual_table.specs.Ranks.{rank_of}
use Rattle.certificate_check.proofs.rows.Judge.is_before.Goals as goal

pub returns : goal.returns
returns c =
    let t = c.args.self.now.parts.now in
    let k = c.args.one.now in
    let l = c.args.other.now in
    let law = c.ranks_order.ensures t c.args.self.now.ranks k l (residual_at t k) (residual_at t l) c.requires.ranks (stands t k c.requires.one) (stands t l c.requires.other) c.of.ensures.letters c.of-2.ensures.letters in
    let first = subst (λ (z : SortKey). IsTrue c.is_below.result ↔ (sort_key.cmp-value.it z c.of-2.result ≡ Less)) c.of.ensures.value c.is_below.ensures in
    let told = subst (λ (z : SortKey). IsTrue c.is_below.result ↔ (sort_key.cmp-value.it (rank_of c.args.self.now.ranks k) z ≡ Less)) c.of-2.ensures.value first in
    (λ h. law.0 (told.0 h), λ h. told.1 (law.1 h))
