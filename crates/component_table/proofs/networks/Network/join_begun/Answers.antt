use Rattle.std.proofs.Common.{◌≡◌, [], Some, ap, eq-eqb, length, refl, sym, subst, vec_len, ◌∙◌, arith, append-nil}
use Rattle.component_table.proofs.HeadsGathered.{none_long, slice_within}
use Rattle.component_table.proofs.NetworkFacts.{network_joined, room_more}
use Rattle.component_table.proofs.NoneCrosses.{none_crosses}
use Rattle.component_table.specs.declared.slice_tails.SliceTails.{SliceTails}
use Rattle.component_table.specs.Crossings.{IsSliceTails}
use Rattle.component_table.specs.Begun.{AreCrossingHeads}
use Rattle.law_lemmas.proofs.EachOne.{each_got}
use Rattle.law_lemmas.proofs.Lists.{got_is, got_within}
use Rattle.law_lemmas.proofs.Numbers.{suc_is}
use Rattle.law_lemmas.proofs.Tests.{same_byte, true_false}
use Rattle.component_table.proofs.networks.Network.join_begun.Goals as goal

pub returns-then-is_empty-clause-found : goal.returns-then-is_empty-clause-found
returns-then-is_empty-clause-found c =
    let b = c.args.case.now.book.now in
    let q = c.args.case.now.request.now in
    let at = c.args.at.now in
    let begun = c.args.self.now.room.begun in
    let long : vec_len begun.heads ≡ length begun.heads.items = omega arith in
    let none : begun.heads.items ≡ [] = none_long begun.heads.items (vec_len begun.heads) long (same_byte (vec_len begun.heads) 0 (sym c.is_empty.ensures ∙ c.if-is_empty.true)) in
    record {
      more = [];
      joined = sym (append-nil begun.found.items);
      has = record { numbers = tt; right = tt; covers = λ o price h w. absurd (none_crosses b q at o price h c.limits.ensures (subst (AreCrossingHeads b q at) none c.requires.heads) w) };
    }

pub overflow_add-at : goal.overflow_add-at
overflow_add-at c =
    let b = c.args.case.now.book.now in
    let q = c.args.case.now.request.now in
    let at = c.args.at.now in
    let heads = c.args.self.now.room.begun.heads in
    let lt = slice_within b q at heads.items (λ e.
    let none : vec_len heads ≡ 0 = omega (arith, ap length e) in
    true_false (c.is_empty.ensures ∙ eq-eqb (vec_len heads) 0 none) c.if-is_empty.false) c.requires.heads in
    let few = c.requires.request.count in
    omega (arith, lt, few.1)

pub index_mut-requires : goal.index_mut-requires
index_mut-requires c =
    let s = c.in_ok-place.ensures.tails in
    let tails = c.find_tails.new.self.tails in
    let lt = got_within tails.items c.in_ok-place.place s.kept s.stands in
    let e : vec_len tails ≡ length tails.items = omega arith in
    omega (arith, lt, e)

pub join-requires-clause-slice : goal.join-requires-clause-slice
join-requires-clause-slice c =
    let b = c.args.case.now.book.now in
    let q = c.args.case.now.request.now in
    let s = c.in_ok-place.ensures.tails in
    let tails = c.find_tails.new.self.tails.items in
    let fares = c.find_tails.new.self.room.known.fares in
    let same = c.index_mut.ensures.value ∙ got_is tails c.in_ok-place.place c.index_mut.result.now s.kept s.stands in
    subst (IsSliceTails b q fares) (sym same) (each_got (IsSliceTails b q fares) tails c.in_ok-place.place s.kept c.in_ok-place.ensures.network.slices s.stands)

pub join-requires-clause-next : goal.join-requires-clause-next
join-requires-clause-next c =
    let s = c.in_ok-place.ensures.tails in
    let tails = c.find_tails.new.self.tails.items in
    let same = c.index_mut.ensures.value ∙ got_is tails c.in_ok-place.place c.index_mut.result.now s.kept s.stands in
    ap (λ (x : SliceTails). x.slice) same ∙ s.slice_is ∙ sym (suc_is c.args.at.now.slice)

pub returns-clause-network : goal.returns-clause-network
returns-clause-network c =
    let b = c.args.case.now.book.now in
    let q = c.args.case.now.request.now in
    let s = c.in_ok-place.ensures.tails in
    let n = c.find_tails.new.self in
    let at = c.in_ok-place.place in
    let was = c.index_mut.result.now in
    let same = c.index_mut.ensures.value ∙ got_is n.tails.items at was s.kept s.stands in
    network_joined b q n _ at was c.join.new.slice c.in_ok-place.ensures.network (s.stands ∙ ap Some (sym same)) c.join.ensures.keeps refl refl refl c.join.ensures.markets c.join.ensures.stays.fares c.join.ensures.slice
    (room_more b q n.room _ c.in_ok-place.ensures.network.room c.join.ensures.known c.join.ensures.stays.outlines refl refl)
