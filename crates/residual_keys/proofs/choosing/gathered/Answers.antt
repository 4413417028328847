use Rattle.std.proofs.Common.{◌≡◌, [], sym, ap, subst, ◌∙◌, arith}
use Rattle.std.proofs.lemmas.List.{take_all}
use Rattle.fare_component.specs.Keys.{asked}
use Rattle.fare_law.specs.declared.market.OfferKey.{OfferKey}
use Rattle.fare_law.specs.Lists.{IsIn}
use Rattle.flight_paths.specs.Paths.{ArePaths}
use Rattle.residual_keys.specs.Gathered.{Adds}
use Rattle.residual_keys.specs.Steps.{IsChosen}
use Rattle.residual_keys.proofs.PathByPath.{HoldsOn, OnPaths, all_keys, all_paths, holds_more, no_slice, path_more}
use Rattle.residual_keys.proofs.StepTaken.{path_known}
use Rattle.law_lemmas.proofs.Members.{read_in}
use Rattle.residual_keys.proofs.choosing.gathered.Goals as goal

pub returns-then-from-len-clause-moves : goal.returns-then-from-len-clause-moves
returns-then-from-len-clause-moves g c =
    let at : c.residual.inside.at.slice ≡ c.args.residual.now.at.slice = ap (λ x. x.at.slice) c.residual.view_is in
    subst (Adds (IsChosen c.args.book.now c.args.request.now c.args.residual.now) []) (sym c.new-found.ensures) (no_slice c.args.book.now c.args.request.now c.args.residual.now [] (omega (arith, at, c.if-from-len.true, c.from.ensures, c.len.ensures.value)))

pub returns-then-from-len-clause-asked : goal.returns-then-from-len-clause-asked
returns-then-from-len-clause-asked g c = λ key k.
    let at : c.residual.inside.at.slice ≡ c.args.residual.now.at.slice = ap (λ x. x.at.slice) c.residual.view_is in
    let lt = path_known c.args.book.now c.args.request.now c.args.residual.now k.numbers k.flights k.next k.path in
    absurd (omega (arith, lt, at, c.if-from-len.true, c.from.ensures, c.len.ensures.value))

pub add_path-requires-clause-path : goal.add_path-requires-clause-path
add_path-requires-clause-path g c =
    let items = c.as_slice-path-items.result.now in
    let are = subst (λ x. ArePaths c.args.book.now c.args.request.now.slices x.at c.in_ok-paths.paths) c.residual.view_is (c.in_ok-paths.ensures c.args.book.now c.schedule_of.ensures) in
    (are.are c.path-item.result).0 (subst (IsIn c.path-item.result) c.as_slice-path-items.ensures (read_in items c.loop-path.path-index c.path-item.result c.path-item.result c.loop-path-test.true c.path-item.is))

pub loop-path-preserved : goal.loop-path-preserved
loop-path-preserved g c =
    let b = c.args.book.now in
    let q = c.args.request.now in
    let r = c.args.residual.now in
    let items = c.as_slice-path-items.result.now in
    let i = c.loop-path.path-index in
    let path = c.path-item.result in
    let laws = c.order_laws.ensures in
    let are = subst (λ xs. ArePaths b q.slices r.at xs) (sym c.as_slice-path-items.ensures) (subst (λ x. ArePaths b q.slices x.at c.in_ok-paths.paths) c.residual.view_is (c.in_ok-paths.ensures b c.schedule_of.ensures)) in
    let before = c.loop-path.invariant in
    let now = c.in_ok-add_path.ensures in
    record {
      moves = path_more laws.less_never laws.less_trans b q r items are.in_order i path path [] c.loop-path.found c.add_path.new.found c.loop-path-test.true c.path-item.is before.moves now.moves;
      base = now.base ∙ before.base;
      stays = λ a h. now.stays a (before.stays a h);
      asked = holds_more b q r items (λ key. g.O.OfferSource.settled c.add_path.new.offers (asked key)) i path path c.loop-path-test.true c.path-item.is (λ p w fs h key k. now.stays (asked key) (before.asked p w fs h key k)) now.asked;
    }

pub returns-clause-moves : goal.returns-clause-moves
returns-clause-moves g c =
    let b = c.args.book.now in
    let q = c.args.request.now in
    let r = c.args.residual.now in
    let items = c.as_slice-path-items.result.now in
    let are = subst (λ xs. ArePaths b q.slices r.at xs) (sym c.as_slice-path-items.ensures) (subst (λ x. ArePaths b q.slices x.at c.in_ok-paths.paths) c.residual.view_is (c.in_ok-paths.ensures b c.schedule_of.ensures)) in
    all_paths b q r items are [] c.loop-path.found (subst (λ xs. Adds (OnPaths b q r xs) [] c.loop-path.found) (take_all c.loop-path.path-index items c.loop-path-test.false) c.loop-path.invariant.moves)

pub returns-clause-asked : goal.returns-clause-asked
returns-clause-asked g c =
    let b = c.args.book.now in
    let q = c.args.request.now in
    let r = c.args.residual.now in
    let items = c.as_slice-path-items.result.now in
    let are = subst (λ xs. ArePaths b q.slices r.at xs) (sym c.as_slice-path-items.ensures) (subst (λ x. ArePaths b q.slices x.at c.in_ok-paths.paths) c.residual.view_is (c.in_ok-paths.ensures b c.schedule_of.ensures)) in
    let settled = λ (key : OfferKey). g.O.OfferSource.settled c.loop-path.offers (asked key) in
    all_keys b q r items settled are (subst (HoldsOn b q r settled) (take_all c.loop-path.path-index items c.loop-path-test.false) c.loop-path.invariant.asked)
