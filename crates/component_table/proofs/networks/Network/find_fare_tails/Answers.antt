use Rattle.std.proofs.Common.{◌<◌, [], ◌∷◌, ◌++◌, ap, length, refl, slice_get, subst, sym, vec_len, ◌∙◌, ◌≡◌, arith}
use Rattle.component_table.specs.declared.networks.FareTails.{FareTails}
use Rattle.component_table.specs.declared.slice_tails.SliceTails.{SliceTails}
use Rattle.component_table.specs.Networks.{AreFareTailsOf}
use Rattle.fare_ends.specs.Tails.{AreEnds, AreTailsOver}
use Rattle.fare_law.specs.Lists.{Each}
use Rattle.law_lemmas.proofs.EachOne.{each_got, each_more}
use Rattle.law_lemmas.proofs.Lists.{got_is, got_last, got_within}
use Rattle.law_lemmas.proofs.Pairs.{matched_length}
use Rattle.component_table.proofs.networks.Network.find_fare_tails.Goals as goal

pub index-all-requires : goal.index-all-requires
index-all-requires c =
    let s = c.in_ok-among.ensures.tails in
    let lt = got_within c.find_tails.new.self.tails.items c.in_ok-among.among s.kept s.stands in
    let e : vec_len c.find_tails.new.self.tails ≡ length c.find_tails.new.self.tails.items = omega arith in
    omega (arith, lt, e)

pub returns-clause-network : goal.returns-clause-network
returns-clause-network c =
    let b = c.args.book.now in
    let q = c.args.request.now in
    let n = c.in_ok-among.ensures.network in
    let s = c.in_ok-among.ensures.tails in
    let ts = c.find_tails.new.self.tails.items in
    let t : FareTails = record { place = c.args.place; slice = c.args.slice; among = c.in_ok-among.among; numbers = c.in_ok-numbers.numbers } in
    let same = c.index-all.ensures ∙ got_is ts c.in_ok-among.among c.index-all.result.now s.kept s.stands in
    let are = each_got (λ (x : SliceTails). AreTailsOver b q.slices x.slice x.paths) ts c.in_ok-among.among s.kept n.tails s.stands in
    let over = subst (λ i. AreTailsOver b q.slices i s.kept.paths) s.slice_is are in
    let ends = subst (λ (x : SliceTails). AreEnds b s.kept.paths x.ends) (sym same) (each_got (λ (x : SliceTails). AreEnds b x.paths x.ends) ts c.in_ok-among.among s.kept n.ends s.stands) in
    let own : AreFareTailsOf b q ts t = record {
      among = s.kept;
      stands = s.stands;
      within = subst (λ k. Each (λ i. i < k) c.in_ok-numbers.numbers) (sym (matched_length _ s.kept.paths _ ends)) c.in_ok-numbers.ensures.within;
      are = c.in_ok-numbers.ensures.tails q c.args.slice s.kept.paths over ends;
    } in
    record {
      markets = n.markets;
      tails = n.tails;
      ends = n.ends;
      masks = n.masks;
      marks = n.marks;
      slices = n.slices;
      fare_tails = subst (Each (AreFareTailsOf b q ts)) (sym c.in_ok-push.ensures.items) (each_more (AreFareTailsOf b q ts) c.find_tails.new.self.fare_tails.items t n.fare_tails own);
      room = n.room;
    }

pub returns-clause-tails : goal.returns-clause-tails
returns-clause-tails c =
    let old = c.find_tails.new.self.fare_tails.items in
    let t : FareTails = record { place = c.args.place; slice = c.args.slice; among = c.in_ok-among.among; numbers = c.in_ok-numbers.numbers } in
    let n : c.len-at.result ≡ length old = omega (arith, c.len-at.ensures) in
    record { tails = t; stands = ap (λ xs. slice_get xs c.len-at.result) c.in_ok-push.ensures.items ∙ ap (slice_get (old ++ t ∷ [])) n ∙ got_last old t; place_is = refl; slice_is = refl }
