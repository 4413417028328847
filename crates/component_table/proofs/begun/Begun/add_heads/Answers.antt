use Rattle.std.proofs.Common.{refl, ◌∙◌}
use Rattle.component_table.proofs.HeadsAdded.{heads_next}
use Rattle.component_table.proofs.LandedFacts.{stays_on}
use Rattle.law_lemmas.proofs.Lists.{read_got}
use Rattle.component_table.proofs.begun.Begun.add_heads.Goals as goal

pub loop-number-preserved : goal.loop-number-preserved
loop-number-preserved c =
    let o = c.args.origin.now in
    let ps = c.args.paths.now in
    let i = c.loop-number.invariant in
    let a = c.add_head in
    let added = c.in_ok-add_head.ensures.added in
    record {
      markets = a.ensures.markets;
      masks = a.ensures.masks;
      known = a.ensures.known;
      stays = stays_on c.args.known.now c.loop-number.known a.new.known i.stays a.ensures.stays;
      found = a.ensures.found ∙ i.found;
      heads = heads_next o c.loop-number.known.fares a.new.known.fares ps c.loop-number.number c.loop-number.self.landings.items a.new.self.landings.items c.args.self.now.heads.items c.loop-number.self.heads.items a.new.self.heads.items _
          a.ensures.stays.fares (read_got ps c.loop-number.number _ c.index-paths-number.result c.loop-number-test.true c.index-paths-number.is) refl i.heads added.landed added.crossed;
    }
