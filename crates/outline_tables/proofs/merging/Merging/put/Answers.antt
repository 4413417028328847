use Rattle.std.proofs.Common.{ap, refl, slice_get, subst, sym, ◌∙◌, arith}
use Rattle.law_lemmas.proofs.Lists.{got_within, read_got}
use Rattle.law_lemmas.proofs.Options.{some_one}
use Rattle.outline_tables.specs.declared.outline_numbers.Priced.{Priced}
use Rattle.outline_tables.specs.Merges.{PutsIn}
use Rattle.outline_tables.proofs.InHand.{merging_last, outline_absent}
use Rattle.outline_tables.proofs.Putting.{set_same}
use Rattle.outline_tables.proofs.StandFacts.{puts_last, puts_none, puts_price}
use Rattle.outline_tables.proofs.merging.Merging.put.Goals as goal

pub returns-then-one-old-clause-put : goal.returns-then-one-old-clause-put
returns-then-one-old-clause-put c =
    let x = c.args.one.now in
    let m = c.args.self.now in
    let stand = c.index-stand.result.now in
    let got = read_got m.stands.items x.outline stand stand c.requires.within c.index-stand.ensures in
    let h = (c.requires.merging.said x.outline stand got).1 c.if-stand-self.true in
    let old = c.index_mut-old.result.now in
    let there = read_got m.table.items stand.at old old (got_within m.table.items stand.at h.0 h.1) c.index_mut-old.ensures.value in
    let same = ap (λ (p : Priced). p.outline) (some_one (slice_get m.table.items stand.at) old h.0 there h.1) ∙ h.2 in
    let test = c.if-one-old.true in
    puts_price x m.table.items stand.at old there same (omega (arith, test))

pub returns-else-one-old-clause-put : goal.returns-else-one-old-clause-put
returns-else-one-old-clause-put c =
    let x = c.args.one.now in
    let m = c.args.self.now in
    let stand = c.index-stand.result.now in
    let got = read_got m.stands.items x.outline stand stand c.requires.within c.index-stand.ensures in
    let h = (c.requires.merging.said x.outline stand got).1 c.if-stand-self.true in
    let old = c.index_mut-old.result.now in
    let there = read_got m.table.items stand.at old old (got_within m.table.items stand.at h.0 h.1) c.index_mut-old.ensures.value in
    let same = ap (λ (p : Priced). p.outline) (some_one (slice_get m.table.items stand.at) old h.0 there h.1) ∙ h.2 in
    subst (PutsIn x m.table.items) (sym (set_same m.table.items stand.at old there)) (puts_none x m.table.items stand.at old there same c.if-one-old.false)

pub returns-clause-merging : goal.returns-clause-merging
returns-clause-merging c =
    let x = c.args.one.now in
    let m = c.args.self.now in
    let stand = c.index-stand.result.now in
    let got = read_got m.stands.items x.outline stand stand c.requires.within c.index-stand.ensures in
    merging_last m _ x stand c.len-at.result (c.len-at.ensures ∙ m.table.ok.0) c.requires.merging got c.if-stand-self.false refl c.in_ok-push.ensures.items refl

pub returns-clause-put : goal.returns-clause-put
returns-clause-put c =
    let x = c.args.one.now in
    let m = c.args.self.now in
    let stand = c.index-stand.result.now in
    let got = read_got m.stands.items x.outline stand stand c.requires.within c.index-stand.ensures in
    subst (PutsIn x m.table.items) (sym c.in_ok-push.ensures.items) (puts_last x m.table.items (outline_absent m x stand c.requires.merging got c.if-stand-self.false))
