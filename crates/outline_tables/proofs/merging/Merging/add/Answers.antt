use Rattle.std.proofs.Common.{◌≤◌, ◌∷◌, [], ◌++◌, List, get_or, subst, sym, take}
use Rattle.std.proofs.lemmas.List.{take_all}
use Rattle.law_lemmas.proofs.Lists.{front_at}
use Rattle.outline_tables.specs.declared.outline_numbers.Priced.{Priced}
use Rattle.outline_tables.specs.Merges.{IsLeastMerge}
use Rattle.outline_tables.proofs.MergeFacts.{merge_empty, merge_more}
use Rattle.outline_tables.proofs.merging.Merging.add.Goals as goal

pub loop-one-init : goal.loop-one-init
loop-one-init c =
    let so = c.in_ok-lengthen.ensures in
    record { merging = so.merging; room = so.room; merged = λ tables h. merge_empty tables c.lengthen.new.self.table.items h }

pub loop-one-preserved : goal.loop-one-preserved
loop-one-preserved c =
    let table = c.args.table.now in
    let i = c.loop-one.one-index in
    let none : Priced = record { outline = 0; price = 0 } in
    let x = get_or table i none in
    let so = c.loop-one.invariant in
    let put = c.in_ok-put.ensures in
    let old = c.loop-one.self.table.items in
    let new = c.put.new.self.table.items in
    let front = front_at table i none c.loop-one-test.true in
    record {
      merging = put.merging;
      room = subst (λ n. c.args.count ≤ n) (sym put.stands) so.room;
      merged = λ tables h. subst (λ (t : List Priced). IsLeastMerge (tables ++ t ∷ []) new) (sym front) (merge_more tables (take i table) x old new put.put (so.merged tables h));
    }

pub returns-clause-merged : goal.returns-clause-merged
returns-clause-merged c =
    let now = c.loop-one.self.table.items in
    λ tables h. subst (λ (table : List Priced). IsLeastMerge (tables ++ table ∷ []) now) (take_all c.loop-one.one-index c.args.table.now c.loop-one-test.false) (c.loop-one.invariant.merged tables (subst (IsLeastMerge tables) (sym c.in_ok-lengthen.ensures.table) h))
