use Rattle.std.proofs.Common.{◌≡◌, ◌<◌, ◌+◌, List, length, slice_get, Some, vec_items, refl, sym, ap, subst, ◌∙◌, arith}
use Rattle.fare_ends.specs.declared.ends.EndGroup.{EndGroup}
use Rattle.fare_ends.specs.declared.ends.FareEnds.{FareEnds}
use Rattle.fare_ends.specs.Ends.{IsOneOfEnd, IsSheetOfEnd}
use Rattle.fare_ends.proofs.EndFacts.{knows_self, one_more}
use Rattle.fare_ends.proofs.WayFacts.{FindsGroups, finds_more, finds_passed}
use Rattle.fare_law.specs.Lists.{Each, IsIn}
use Rattle.law_lemmas.proofs.EachOne.{each_by}
use Rattle.law_lemmas.proofs.Lists.{prefix_self, read_got}
use Rattle.law_lemmas.proofs.Members.{read_in}
use Rattle.law_lemmas.proofs.Tests.{not_so}
use Rattle.fare_ends.proofs.ends.FareEnds.add_market.Goals as goal
use Rattle.fare_ends.proofs.ends.FareEnds.add_market.Goals.{then-is+in_ok-made+in_ok-push, else-is}

pub made_group-requires-clause-group : goal.made_group-requires-clause-group
made_group-requires-clause-group c =
    let lt : c.loop-at.at < length c.as_slice.result.now = omega (arith, c.loop-at-test.true, c.requires.within, ap length c.as_slice.ensures) in
    subst (IsIn c.index-as_slice-at.result) c.as_slice.ensures (read_in c.as_slice.result.now c.loop-at.at _ c.index-as_slice-at.result lt c.index-as_slice-at.is)

pub returns-in_err-made-clause-each : goal.returns-in_err-made-clause-each
returns-in_err-made-clause-each c = λ h.
    let b = c.args.case.now.book.now in
    let key = c.args.way.key in
    let mid = c.loop-at.self in
    let new = c.made_group.new.self in
    each_by (IsOneOfEnd b key mid) (IsOneOfEnd b key new) c.loop-at.found.items (one_more b key mid new c.made_group.ensures.grows.more) (c.loop-at.invariant.each h)

pub returns-in_err-push-clause-each : goal.returns-in_err-push-clause-each
returns-in_err-push-clause-each c = λ h.
    let b = c.args.case.now.book.now in
    let key = c.args.way.key in
    let mid = c.loop-at.self in
    let new = c.made_group.new.self in
    subst (Each (IsOneOfEnd b key new)) (sym c.in_err-push.ensures.items) (each_by (IsOneOfEnd b key mid) (IsOneOfEnd b key new) c.loop-at.found.items (one_more b key mid new c.made_group.ensures.grows.more) (c.loop-at.invariant.each h))

pub loop-at-init : goal.loop-at-init
loop-at-init c =
    let self = c.args.self.now in
    record {
      rules = c.requires.rules;
      grows = record { more = knows_self self; ends = refl };
      same = refl;
      prefix = prefix_self c.args.found.now.items;
      each = λ h. h;
      has = λ i g le lt got own. absurd (omega (arith, le, lt));
    }

pub loop-at-preserved : goal.loop-at-preserved
loop-at-preserved c =
    let b = c.args.case.now.book.now in
    let way = c.args.way in
    let m = c.args.market.now in
    let from = c.args.filed.from in
    let at = c.loop-at.at in
    let old = c.args.self.now in
    let were = c.args.found.now.items in
    let mid = c.loop-at.self in
    let found = c.loop-at.found.items in
    let lt : at < length c.as_slice.result.now = omega (arith, c.loop-at-test.true, c.requires.within, ap length c.as_slice.ensures) in
    let group = c.index-as_slice-at.result in
    let stands : slice_get m.groups at ≡ Some group = ap (λ gs. slice_get gs at) (sym c.as_slice.ensures) ∙ read_got c.as_slice.result.now at _ group lt c.index-as_slice-at.is in
    let sheet : IsSheetOfEnd b way.key way.reverse m.sheet.value m.groups = record { sheet_is = c.requires.sheet; groups_are = c.requires.market.groups } in
    elim c.if-is.branch [
      | then-is+in_ok-made+in_ok-push w ↦
          let new = w.made_group.new.self in
          let ok = w.in_ok-made.ensures in
          let more = finds_more b way m.groups from at old were mid found c.loop-at.invariant group stands new w.in_ok-made.made m.sheet.value ok.rules ok.grows ok.groups ok.group (c.is.ensures.0 w.if-is.true) sheet in
          subst (λ (s : FareEnds). FindsGroups b way m.groups from (at + 1) old were s c.if-is.found.items) (sym w.self-is)
          (subst (λ (xs : List EndGroup). FindsGroups b way m.groups from (at + 1) old were new xs) (sym (ap vec_items w.found-is ∙ w.in_ok-push.ensures.items)) more)
      | else-is w ↦
          let passed = finds_passed b way m.groups from at old were mid found c.loop-at.invariant group stands (λ own. not_so c.is.result w.if-is.false c.is.ensures.1 own) in
          subst (λ (s : FareEnds). FindsGroups b way m.groups from (at + 1) old were s c.if-is.found.items) (sym w.self-is)
          (subst (λ (xs : List EndGroup). FindsGroups b way m.groups from (at + 1) old were mid xs) (sym (ap vec_items w.found-is)) passed)
    ]
