use Rattle.std.proofs.Common.{◌≡◌, ℕ, suc, get_or, sym, ap, subst, ◌∙◌, arith}
use Rattle.flight_paths.specs.Heads.{IsHead}
use Rattle.flight_paths.proofs.Joining.{crossing_of, crossing_stands}
use Rattle.flight_paths.proofs.Places.{no_slice}
use Rattle.law_lemmas.proofs.Lists.{got_read}
use Rattle.law_lemmas.proofs.Options.{some_same}
use Rattle.law_lemmas.proofs.Tests.{not_so}
use Rattle.joint_paths.proofs.crossing_heads.crossing.Goals as goal

not_next : (m n : ℕ) → m ≡ suc n → m ≡ n → ⊥
not_next m n e h = omega (arith, e, h)

pub returns-then-middle-at-clause-none : goal.returns-then-middle-at-clause-none
returns-then-middle-at-clause-none c = λ middle x.
    let e : middle ≡ c.in-Some.middle = some_same middle c.in-Some.middle (sym x.after ∙ c.in-Some.is) in
    let s = crossing_stands c.args.case.now.book.now c.args.case.now.request.now.slices c.args.at.now c.args.path.now middle x in
    not_next c.in-Some.middle.slice c.args.at.now.slice (ap (λ p. p.slice) (sym e) ∙ s.0) c.if-middle-at.true

pub returns-then-not-is-clause-none : goal.returns-then-not-is-clause-none
returns-then-not-is-clause-none c = λ middle x.
    let sl = c.args.case.now.request.now.slices in
    let n = c.args.at.now.slice in
    let e : middle ≡ c.in-Some.middle = some_same middle c.in-Some.middle (sym x.after ∙ c.in-Some.is) in
    let s = crossing_stands c.args.case.now.book.now sl c.args.at.now c.args.path.now middle x in
    not_so c.is.result c.if-not-is.true c.is.ensures.1 (ap (λ p. p.place) (sym e) ∙ s.1 (get_or sl n no_slice) (got_read sl n no_slice c.requires.known) ∙ ap (λ xs. (get_or xs n no_slice).to) (sym c.as_slice-slices.ensures.items))

pub returns-clause-some : goal.returns-clause-some
returns-clause-some c =
    let b = c.args.case.now.book.now in
    let sl = c.args.case.now.request.now.slices in
    let at = c.args.at.now in
    let h = c.args.path.now in
    let head = subst (IsHead b sl at h.flights c.requires.head.0) c.in-Some.is c.requires.head.1 in
    crossing_of b sl at h c.requires.head.0 c.in-Some.middle (get_or sl at.slice no_slice) (got_read sl at.slice no_slice c.requires.known) c.in-Some.is head (λ e. c.if-middle-at.false e) (c.is.ensures.0 c.if-not-is.false ∙ ap (λ xs. (get_or xs at.slice no_slice).to) c.as_slice-slices.ensures.items)
