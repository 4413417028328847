use Rattle.std.proofs.Common.{◌+◌, get_or, take, subst}
use Rattle.std.proofs.lemmas.List.{take_all}
use Rattle.fare_ends.proofs.EndFacts.{knows_on, knows_self}
use Rattle.joint_paths.specs.JoinEnds.{AddsJoins}
use Rattle.joint_paths.proofs.JoinFacts.{joins_grown, joins_more, joins_none, no_end}
use Rattle.law_lemmas.proofs.Lists.{front_at, prefix_trans}
use Rattle.joint_paths.proofs.join_ends.add_ends.Goals as goal

pub loop-end-init : goal.loop-end-init
loop-end-init c = record {
  fares = c.requires.fares;
  markets = c.requires.markets;
  knows = knows_self c.args.fares.now;
  added = joins_none c.args.case.now.book.now c.args.fares.now c.args.key c.args.found.now.items;
}

pub loop-end-preserved : goal.loop-end-preserved
loop-end-preserved c =
    let b = c.args.case.now.book.now in
    let l = c.loop-end.invariant in
    let es = c.args.ends.now in
    let i = c.loop-end.end-index in
    record {
      fares = c.add_end.ensures.fares;
      markets = c.add_end.ensures.markets;
      knows = knows_on c.args.fares.now c.loop-end.fares c.add_end.new.fares l.knows c.add_end.ensures.knows;
      added = joins_more b c.args.key (take i es) (take (i + 1) es) (get_or es i no_end) (front_at es i no_end c.loop-end-test.true) c.loop-end.fares c.add_end.new.fares c.add_end.ensures.knows c.args.found.now.items c.loop-end.found.items c.add_end.new.found.items l.added c.in_ok-add_end.ensures.added;
    }

pub returns-in_err-add_end-clause-knows : goal.returns-in_err-add_end-clause-knows
returns-in_err-add_end-clause-knows c = knows_on c.args.fares.now c.loop-end.fares c.add_end.new.fares c.loop-end.invariant.knows c.add_end.ensures.knows

pub returns-in_err-add_end-clause-grows : goal.returns-in_err-add_end-clause-grows
returns-in_err-add_end-clause-grows c =
    let l = c.loop-end.invariant in
    prefix_trans c.args.found.now.items c.loop-end.found.items c.add_end.new.found.items (joins_grown c.args.case.now.book.now c.loop-end.fares c.args.key _ c.args.found.now.items c.loop-end.found.items l.added) c.add_end.ensures.grows

pub returns-clause-grows : goal.returns-clause-grows
returns-clause-grows c = joins_grown c.args.case.now.book.now c.loop-end.fares c.args.key _ c.args.found.now.items c.loop-end.found.items c.loop-end.invariant.added

pub returns-clause-added : goal.returns-clause-added
returns-clause-added c = subst (λ es. AddsJoins c.args.case.now.book.now c.loop-end.fares c.args.key es c.args.found.now.items c.loop-end.found.items) (take_all c.loop-end.end-index c.args.ends.now c.loop-end-test.false) c.loop-end.invariant.added
