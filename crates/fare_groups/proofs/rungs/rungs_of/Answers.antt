use Rattle.std.proofs.Common.{subst, sym, ◌∙◌}
use Rattle.fare_groups.specs.Grouping.{AreFirsts, AreOneClass, AreRungs}
use Rattle.fare_groups.proofs.RungFacts.{all_one_class, fares_ascend, firsts_are}
use Rattle.law_lemmas.proofs.Options.{if_ok}
use Rattle.fare_groups.proofs.rungs.rungs_of.Goals as goal

pub firsts_of-requires : goal.firsts_of-requires
firsts_of-requires c = subst AreOneClass (sym (c.as_slice.ensures.value ∙ c.in_ok-all.ensures)) (all_one_class c.args.fares.now c.requires.low)

pub returns : goal.returns
returns c =
    let fares = c.args.fares.now in
    if_ok c.firsts_of.result (AreFirsts c.as_slice.result.now) (AreRungs fares) (λ firsts h. firsts_are fares (fares_ascend fares c.requires.order) firsts (subst (λ all. AreFirsts all firsts) (c.as_slice.ensures.value ∙ c.in_ok-all.ensures) h)) c.firsts_of.ensures
