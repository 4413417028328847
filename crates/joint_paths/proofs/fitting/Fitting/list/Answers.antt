use Rattle.std.proofs.Common.{get_or, subst, sym, refl}
use Rattle.joint_paths.specs.declared.tail_classes.JoinTail.{JoinTail}
use Rattle.joint_paths.specs.Tails.{IsJoinTail}
use Rattle.joint_paths.specs.Fits.{IsListed}
use Rattle.fare_law.specs.Lists.{IsIn}
use Rattle.joint_paths.proofs.FitFacts.{fits_listed, fits_stay}
use Rattle.law_lemmas.proofs.EachOne.{each_at}
use Rattle.law_lemmas.proofs.Lists.{got_is, got_read}
use Rattle.joint_paths.proofs.fitting.Fitting.list.Goals as goal

abbrev no_tail : JoinTail
no_tail = record { number = 0; first = 0; count = 0; classes = 0; mark = 0 }

pub add_heads-requires-clause-tail : goal.add_heads-requires-clause-tail
add_heads-requires-clause-tail c =
    let k = c.args.bucket.now in
    each_at (IsJoinTail k.case.now.book.now k.case.now.request.now k.paths.now) c.args.tails.now c.args.at no_tail c.requires.tails c.requires.place

pub returns-in_err-range-clause-fits : goal.returns-in_err-range-clause-fits
returns-in_err-range-clause-fits c = fits_stay c.args.bucket.now c.args.tails.now c.args.self.now c.add_heads.new.self c.requires.fits c.add_heads.ensures.heads c.add_heads.ensures.tails c.add_heads.ensures.whole

pub heads-requires : goal.heads-requires
heads-requires c = c.in_ok-range.ensures.listed.range

pub returns-clause-fits : goal.returns-clause-fits
returns-clause-fits c =
    let k = c.args.bucket.now in
    let ts = c.args.tails.now in
    let mid = c.add_heads.new.self in
    let open_heads = c.union_of-classes.ensures in
    fits_listed k ts c.args.at mid _ (get_or ts c.args.at no_tail) (got_read ts c.args.at no_tail c.requires.place)
    (fits_stay k ts c.args.self.now mid c.requires.fits c.add_heads.ensures.heads c.add_heads.ensures.tails c.add_heads.ensures.whole)
    c.in_ok-range.range c.in_ok-range.ensures.listed c.union_of-classes.result
    (λ f i. open_heads.each f (subst (IsIn f) (sym c.heads.ensures) i)) (λ more all. open_heads.least more (λ f i. all f (subst (IsIn f) c.heads.ensures i))) refl refl refl

pub returns-clause-listed : goal.returns-clause-listed
returns-clause-listed c = λ t got. subst (λ u. IsListed c.args.bucket.now u c.add_heads.new.self.heads.items c.in_ok-range.range) (got_is c.args.tails.now c.args.at no_tail t got) c.in_ok-range.ensures.listed
