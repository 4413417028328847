use Rattle.std.proofs.Common.{rules, subst, sym}
use Rattle.std.specs.List.Sorted.{IsSorted}
use Rattle.std.specs.Ordering.{is_lt, nat_cmp}
use Rattle.std.proofs.lemmas.Fn.{always_returns_same}
use Rattle.schedule_book.proofs.Packing.{Point, keys_parted}
use Rattle.schedule_book.proofs.departures.Departures.find.Goals as goal

pub returns-clause-point : goal.returns-clause-point
returns-clause-point c =
    let keys = c.as_slice-keys.result.now in
    let sorted = subst (IsSorted nat_cmp) (sym c.as_slice-keys.ensures.value) c.requires in
    let point = c.partition_point.ensures.partitioned (λ k. is_lt (nat_cmp k c.args.key)) (always_returns_same _ _ _ (λ a r q k. search rules)) (keys_parted keys c.args.key sorted) in
    subst (λ ks. Point ks c.args.key c.partition_point.result) c.as_slice-keys.ensures.value point
