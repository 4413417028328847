use Rattle.std.proofs.Common.{◌≡◌, ◌≤◌, ◌∷◌, ◌∙◌, length, take, sym, ap, subst, arith}
use Rattle.fare_law.specs.Parts.{Numbers}
use Rattle.flight_paths.specs.Marks.{HasBits}
use Rattle.flight_paths.specs.Ways.{arrivals_of}
use Rattle.flight_paths.proofs.Joining.{head_flights}
use Rattle.fare_ends.specs.Legs.{HasLegs}
use Rattle.joint_paths.proofs.HeadFacts.{crosses_as, first_told}
use Rattle.joint_paths.proofs.crossing_heads.crossing_head.Goals as goal

pub returns-in_default-clause-none : goal.returns-in_default-clause-none
returns-in_default-clause-none c = λ tail f. c.in_default.ensures.none f.middle f.crossing

pub head_mark-mark-requires : goal.head_mark-mark-requires
head_mark-mark-requires c =
    let b = c.args.case.now.book.now in
    let q = c.args.case.now.request.now in
    let h = c.requires.head in
    (h.0, subst (λ ns. Numbers b ns h.0) (sym c.as_slice-numbers.ensures.items) (head_flights b q.slices c.args.at.now c.args.path.now.flights h.0 c.args.path.now.after h.1))

pub returns-clause-some : goal.returns-clause-some
returns-clause-some c =
    let b = c.args.case.now.book.now in
    let q = c.args.case.now.request.now in
    let at = c.args.at.now in
    let path = c.args.path.now in
    let known = c.requires.head in
    let h = c.head_with.result in
    let r = c.head_with.ensures in
    let e = c.as_slice-numbers.ensures.items in
    let few : length path.flights ≤ 3 = let l = (c.heads_are_short.ensures b q.slices at path.flights known.0 path.after).0 known.1 in omega (arith, l) in (
      crosses_as b q at path h c.in-Some.middle c.in-Some.ensures.some few (r.count ∙ ap length e) (subst (λ ns. take (length ns) h.flights ≡ ns) e r.numbers) r.lo r.hi
          (λ fs m. subst (HasLegs b q fs) (sym r.classes) (c.requires.classes fs m))
          (λ fs m. subst (λ n. HasBits n (at.place ∷ arrivals_of fs)) (sym r.mark) (c.head_mark-mark.ensures fs (subst (λ xs. Numbers b xs fs) (sym e) m)))
          (λ fs m. first_told c.args.first.now h.carrier h.first r.carrier r.first fs (c.requires.first fs m)),
      r.carrier,
      r.first,
      r.classes,
    )
