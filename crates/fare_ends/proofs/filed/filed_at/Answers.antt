use Rattle.std.proofs.Common.{◌≡◌, ◌≤◌, ap, length, slice_get, MatchOption, subst, sym, ◌∙◌}
use Rattle.fare_ends.specs.declared.markets.Market.{Market}
use Rattle.fare_ends.specs.Markets.{StandsAt}
use Rattle.fare_book.specs.Keeping.{NoFare}
use Rattle.law_lemmas.proofs.Lists.{got_is}
use Rattle.fare_ends.proofs.filed.filed_at.Goals as goal

pub returns : goal.returns
returns c = λ b key h.
    let ms = c.args.markets.now in
    let n = c.in-Some.market in
    let s = subst (λ o. MatchOption o (NoFare b key.from key.to) (StandsAt ms key)) c.in-Some.is h in
    let m = c.in-Some-get.kept.now in
    let l = c.in-Some-get.ensures.lookup in
    let same : s.market ≡ m = sym (got_is ms n m s.market s.stands) ∙ sym l.1 in
    let groups = c.as_slice-groups.ensures ∙ ap (λ (x : Market). x.groups) (sym same) in
    record {
      at = s;
      within = subst (λ gs. c.past_place-to.result ≤ length gs) groups c.past_place-to.ensures.within;
      groups = λ i g got own.
          let read = ap (λ gs. slice_get gs i) groups ∙ got in
          (c.first_place-from.ensures i g read own, c.past_place-to.ensures.past i g read own);
    }
