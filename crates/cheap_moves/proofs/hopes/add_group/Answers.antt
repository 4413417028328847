use Rattle.std.proofs.Common.{Some, is_some, sym, ap}
use Rattle.cheap_moves.proofs.Suiting.{group_added}
use Rattle.law_lemmas.proofs.Options.{on_ok}
use Rattle.cheap_moves.proofs.hopes.add_group.Goals as goal

pub returns-in-Some : goal.returns-in-Some
returns-in-Some g c =
    let w = c.put.new.self in
    on_ok c.put.result _ _
    (λ put. group_added g.K.PartialEq.eq c.keys_equivalence.ensures c.args.class c.args.group c.args.classes.now (c.get_mut.follows.lender w) (Some c.in-Some.known.now) w (sym c.in-Some.ensures.value)
    ((c.get_mut.follows.holds w).3 (ap is_some (sym c.in-Some.ensures.value))).0 put.once put.stay put.has)
    c.put.ensures
