use Rattle.std.proofs.Common.{◌≡◌, rules, refl, sym, subst, ◌∙◌, ℕ, List, [], slice_get, Some, IsSome, to_z, of_z, w32}
use Rattle.cheap_moves.proofs.Hoped.{class_is, no_class}
use Rattle.fare_law.specs.Lists.{Each, OnFirst, OnLast}
use Rattle.cheap_moves.proofs.hopes.class_over.Goals as goal

pub returns-clause-some : goal.returns-clause-some
returns-clause-some c =
    let f = c.in_ok-first.first in
    let z = c.in_ok-last.last in
    let all = c.flights-all.result.now in
    let ns = c.args.path.now.flights in
    let first : to_z w32 (of_z w32 f.day) ≡ f.day = search rules in
    let last : to_z w32 (of_z w32 z.day) ≡ z.day = search rules in
    class_is c.args.book.now all (c.schedule_of.ensures.flights ∙ sym c.flights-all.ensures.flights) ns c.args.path.now.after f z
    (subst (OnFirst (λ n. slice_get all n ≡ Some f)) c.as_slice.ensures.items c.in_ok-first.ensures.some) (subst (OnLast (λ n. slice_get all n ≡ Some z)) c.as_slice-2.ensures.items c.in_ok-last.ensures.some)
    _ refl refl first last refl

pub returns-in_err-first-clause-none : goal.returns-in_err-first-clause-none
returns-in_err-first-clause-none c =
    let all = c.flights-all.result.now in
    no_class c.from_residual.result c.args.book.now all (c.schedule_of.ensures.flights ∙ sym c.flights-all.ensures.flights) c.args.path.now.flights (subst (λ (ns : List ℕ). Each (λ n. IsSome (slice_get all n)) ns → ns ≡ []) c.as_slice.ensures.items c.in_err-first.ensures.none)

pub returns-in_err-last-clause-none : goal.returns-in_err-last-clause-none
returns-in_err-last-clause-none c =
    let all = c.flights-all.result.now in
    no_class c.from_residual-in_err-last.result c.args.book.now all (c.schedule_of.ensures.flights ∙ sym c.flights-all.ensures.flights) c.args.path.now.flights (subst (λ (ns : List ℕ). Each (λ n. IsSome (slice_get all n)) ns → ns ≡ []) c.as_slice-2.ensures.items c.in_err-last.ensures.none)
