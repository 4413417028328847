use Rattle.std.proofs.Common.{◌≡◌, ◌++◌, ◌∷◌, [], List, Some, get_or, slice_get, refl, sym, subst, ◌∙◌}
use Rattle.flight_paths.specs.declared.positions.Path.{Path}
use Rattle.flight_paths.specs.Heads.{AreRest, IsJoined, Saw, joined_path}
use Rattle.flight_paths.specs.Plans.{plan_book}
use Rattle.flight_paths.proofs.Joining.{head_flights, tail_flights}
use Rattle.flight_paths.proofs.Seeing.{on_ok, rest_not, rest_one, saw_none, saw_one}
use Rattle.flight_paths.proofs.Skipping.{follows_where}
use Rattle.law_lemmas.proofs.Lists.{got_read}
use Rattle.law_lemmas.proofs.Options.{some_same}
use Rattle.law_lemmas.proofs.Tests.{not_so}
use Rattle.flight_paths.proofs.visits.visit_joined.Goals as goal

pub is_apart-requires-clause-marks : goal.is_apart-requires-clause-marks
is_apart-requires-clause-marks g c = λ mark got fs known.
    let all = c.args.tails.now.all.now in
    let n = c.args.number in
    let d = c.index-tails-number.result in
    let t = get_or all n d in
    c.requires.marks n mark t fs got (got_read all n d c.requires.number) known

pub is_apart-requires-clause-tail : goal.is_apart-requires-clause-tail
is_apart-requires-clause-tail g c =
    let all = c.args.tails.now.all.now in
    let n = c.args.number in
    let d = c.index-tails-number.result in
    let t = get_or all n d in
    let b = plan_book c.args.junction.now.schedule.now in
    let w = c.requires.tails t (got_read all n d c.requires.number) in
    (w.0, tail_flights b c.args.junction.now.slices.now c.args.junction.now.start.now _ t.flights w.0 t.after w.1)

pub visit_after-requires-clause-known : goal.visit_after-requires-clause-known
visit_after-requires-clause-known g c =
    let all = c.args.tails.now.all.now in
    let n = c.args.number in
    let d = c.index-tails-number.result in
    let t = get_or all n d in
    record { tails = all; numbers = c.args.tails.now.numbers.now; known = c.requires.knows; stands = got_read all n d c.requires.number }

pub visit_after-requires-clause-few : goal.visit_after-requires-clause-few
visit_after-requires-clause-few g c =
    let all = c.args.tails.now.all.now in
    let n = c.args.number in
    let d = c.index-tails-number.result in
    let t = get_or all n d in
    (c.requires.near t (got_read all n d c.requires.number)).few

pub returns-then-not-is_apart : goal.returns-then-not-is_apart
returns-then-not-is_apart g c = λ t got.
    let b = plan_book c.args.junction.now.schedule.now in
    let sl = c.args.junction.now.slices.now in
    let at = c.args.junction.now.start.now in
    let h = c.args.junction.now.head.now in
    let cr = c.requires.crossing in
    let all = c.args.tails.now.all.now in
    let n = c.args.number in
    let d = c.index-tails-number.result in
    let x = get_or all n d in
    let there : slice_get all n ≡ Some x = got_read all n d c.requires.number in
    let w = c.requires.tails x there in
    let places = c.requires.places cr.flights (head_flights b sl at h.flights cr.flights (Some c.args.junction.now.middle) cr.is_head) in
    let where_apart = follows_where b sl at h x c.args.junction.now.middle cr w.0 w.1 (c.requires.near x there) c.args.junction.now.places places in
    let tells = c.is_apart.ensures w.0 (tail_flights b sl at _ x.flights w.0 x.after w.1) in
    let same = some_same x t (sym there ∙ got) in
    let told = g.V.PathVisitor.told c.args.visitor.now in
    subst (λ y. Saw told told (AreRest b sl at h (y ∷ []))) same (saw_none told (AreRest b sl at h (x ∷ [])) (rest_not b sl at h x (λ f. not_so c.is_apart.result c.if-not-is_apart.true tells.1 (where_apart.1 f))))

pub returns : goal.returns
returns g c =
    let b = plan_book c.args.junction.now.schedule.now in
    let sl = c.args.junction.now.slices.now in
    let at = c.args.junction.now.start.now in
    let h = c.args.junction.now.head.now in
    let cr = c.requires.crossing in
    let all = c.args.tails.now.all.now in
    let n = c.args.number in
    let d = c.index-tails-number.result in
    let x = get_or all n d in
    let there : slice_get all n ≡ Some x = got_read all n d c.requires.number in
    let w = c.requires.tails x there in
    let places = c.requires.places cr.flights (head_flights b sl at h.flights cr.flights (Some c.args.junction.now.middle) cr.is_head) in
    let where_apart = follows_where b sl at h x c.args.junction.now.middle cr w.0 w.1 (c.requires.near x there) c.args.junction.now.places places in
    let tells = c.is_apart.ensures w.0 (tail_flights b sl at _ x.flights w.0 x.after w.1) in
    let old = g.V.PathVisitor.told c.args.visitor.now in
    let new = g.V.PathVisitor.told c.visit_after.new.self in
    let whole = joined_path h x in
    let joined : IsJoined b sl at h x whole = record { follows = where_apart.0 (tells.0 c.if-not-is_apart.false); numbers = refl; after = refl } in
    on_ok ((before : List Path) → old before → new (before ++ whole ∷ [])) ((t : Path) → slice_get all n ≡ Some t → Saw old new (AreRest b sl at h (t ∷ []))) c.visit_after.result c.visit_after.ensures
    (λ told t got.
    let same = some_same x t (sym there ∙ got) in
    subst (λ y. Saw old new (AreRest b sl at h (y ∷ []))) same (saw_one old new (AreRest b sl at h (x ∷ [])) whole told (rest_one b sl at h x whole joined)))
