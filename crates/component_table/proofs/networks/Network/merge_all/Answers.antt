use Rattle.std.proofs.Common.{refl}
use Rattle.component_table.proofs.NetworkFacts.{network_merging}
use Rattle.law_lemmas.proofs.Lists.{got_within}
use Rattle.component_table.proofs.networks.Network.merge_all.Goals as goal

pub begin_all-requires-clause-known : goal.begin_all-requires-clause-known
begin_all-requires-clause-known c = got_within c.args.case.now.request.now.slices c.args.at.now.slice c.args.slice.now c.requires.slice

pub begin_all-requires-clause-network : goal.begin_all-requires-clause-network
begin_all-requires-clause-network c = network_merging c.args.case.now.book.now c.args.case.now.request.now c.args.self.now _ c.requires.network refl refl refl refl refl refl c.begin.ensures.merging

pub begin_each-requires-clause-network : goal.begin_each-requires-clause-network
begin_each-requires-clause-network c = network_merging c.args.case.now.book.now c.args.case.now.request.now c.args.self.now _ c.requires.network refl refl refl refl refl refl c.begin.ensures.merging
