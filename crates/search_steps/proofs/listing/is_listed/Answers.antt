use Rattle.std.proofs.Common.{length, sym, ◌-◌}
use Rattle.law_lemmas.proofs.Members.{got_in}
use Rattle.search_steps.proofs.listing.is_listed.Goals as goal

pub returns-then-last-bare : goal.returns-then-last-bare
returns-then-last-bare c same =
    let ss = c.args.steps.now in
    let last = c.in-Some.last.now in
    (last, got_in ss (length ss - 1) last (sym c.in-Some.ensures.value), c.have_one_mark.ensures.0 same, c.if-last-bare.true)
