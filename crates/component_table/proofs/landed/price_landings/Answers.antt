use Rattle.std.proofs.Common.{subst, sym, ◌∙◌, arith}
use Rattle.component_table.specs.Begun.{AreLandings}
use Rattle.component_table.proofs.LandedFacts.{landed_class, landings_added, landings_whole, stays_on}
use Rattle.fare_ends.specs.declared.ends.FareEnds.{FareEnds}
use Rattle.outline_tables.proofs.Putting.{got_some}
use Rattle.component_table.proofs.landed.price_landings.Goals as goal

pub add_class-requires-clause-class : goal.add_class-requires-clause-class
add_class-requires-clause-class c =
    let o = c.args.origin.now in
    let ps = c.args.paths.now in
    let ls = c.args.landings.now in
    let k = c.class_between-class in
    let p = c.past_class-to.ensures in
    let are = subst (λ (f : FareEnds). AreLandings o f ps ls) (sym c.loop-from.invariant.fares) c.requires.landings in
    let first = got_some ls c.loop-from.from c.loop-from-test.true in
    landed_class o c.loop-from.known.fares ps ls c.loop-from.from c.past_class-to.result are k.result k.ensures.paths k.ensures.landings first.0 first.1 p.past (p.alike first.0 first.1) k.ensures.classes

pub loop-from-preserved : goal.loop-from-preserved
loop-from-preserved c =
    let o = c.args.origin.now in
    let ps = c.args.paths.now in
    let ls = c.args.landings.now in
    let i = c.loop-from.invariant in
    let k = c.class_between-class in
    let a = c.add_class in
    record {
      within = c.past_class-to.ensures.within;
      known = a.ensures.known;
      fares = a.ensures.fares ∙ i.fares;
      stays = stays_on c.args.known.now c.loop-from.known a.new.known i.stays a.ensures.stays;
      added = landings_added o.case.now.book.now o.case.now.request.now o.at.now ps ls c.loop-from.from c.past_class-to.result k.result c.loop-from.known.outlines.of.items a.new.known.outlines.of.items c.args.found.now.items c.loop-from.found.items a.new.found.items
          k.ensures.paths k.ensures.landings a.ensures.stays.outlines i.added c.in_ok-add_class.ensures.found;
    }

pub returns-clause-found : goal.returns-clause-found
returns-clause-found c =
    let o = c.args.origin.now in
    landings_whole o.case.now.book.now o.case.now.request.now o.at.now c.args.paths.now c.args.landings.now c.loop-from.from c.loop-from.known.outlines.of.items c.args.found.now.items c.loop-from.found.items (let l = c.loop-from-test.false in omega (arith, l)) c.loop-from.invariant.added
