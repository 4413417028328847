use Rattle.std.proofs.Common.{◌≡◌, ◌∷◌, [], map, rules, Bor, IsSome, Some, sym, ap, subst, ◌∙◌}
use Rattle.std.specs.List.Sorted.{IsStrictlySortedBy}
use Rattle.std.specs.Map.{keys_of}
use Rattle.std.specs.Map.Iter.{deref_pair}
use Rattle.std.proofs.lemmas.List.{map-append}
use Rattle.std.proofs.lemmas.Map.Iter.{iter_end}
use Rattle.fare_law.specs.contracts.fares.FareKeyOrd.TheImpl as fare_order
use Rattle.fare_law.specs.declared.fares.Fare.{Fare}
use Rattle.fare_law.specs.declared.fares.FareKey.{FareKey}
use Rattle.fare_law.specs.Book.{Book, live_rule}
use Rattle.fare_law.specs.Sheets.{SheetOf}
use Rattle.fare_book.specs.Keeping.{Rules}
use Rattle.fare_book.proofs.Making.{Made, is_sheet, made_push, sheet_made}
use Rattle.law_lemmas.proofs.Options.{if_ok}
use Rattle.fare_book.proofs.sheets.sheet_of.Goals as goal

pub loop-fare-init : goal.loop-fare-init
loop-fare-init c = subst (λ rows. Made c.args.rules.now.entries rows []) (sym c.new-rows.ensures) tt

pub loop-fare-preserved : goal.loop-fare-preserved
loop-fare-preserved c =
    let item : Bor FareKey × Bor Fare = (c.in-Some.field-0-0, c.in-Some.fare) in
    let held = c.args.rules.now.entries in
    made_push held c.loop-fare.rows c.push.new.self (map deref_pair c.loop-fare.yielded) _ (record { fare = c.copied.result; rule = c.in_ok-rule.rule }) (deref_pair item) c.in_ok-push.ensures.items (map-append deref_pair c.loop-fare.yielded (item ∷ []))
    (record {
      fare_is = c.copied.ensures;
      rule_is = subst (λ (f : Fare). (b : Book) → Rules b held → IsSome (live_rule b f.key.carrier f.rule) → live_rule b f.key.carrier f.rule ≡ Some c.in_ok-rule.rule) (sym c.copied.ensures) (λ b r s. c.rule_for.ensures b r s ∙ ap Some (sym c.in_ok-rule.ensures));
    }) c.loop-fare.invariant

pub of-requires : goal.of-requires
of-requires c =
    let entries = c.args.fares.now.entries in
    let all : map deref_pair c.loop-fare.yielded ≡ entries = search (rules, iter_end) in
    let sorted : IsStrictlySortedBy fare_order.ghosts.cmp (keys_of entries) = c.into_iter-fare-iterator.ensures.into_iter_gives.5 in
    is_sheet c.args.rules.now.entries c.requires.made.0 c.args.market entries c.requires.made.1 sorted c.loop-fare.rows (subst (Made c.args.rules.now.entries c.loop-fare.rows) all c.loop-fare.invariant)

pub returns : goal.returns
returns c =
    let entries = c.args.fares.now.entries in
    let market = c.args.market in
    let all : map deref_pair c.loop-fare.yielded ≡ entries = search (rules, iter_end) in
    let sorted : IsStrictlySortedBy fare_order.ghosts.cmp (keys_of entries) = c.into_iter-fare-iterator.ensures.into_iter_gives.5 in
    let made = subst (Made c.args.rules.now.entries c.loop-fare.rows) all c.loop-fare.invariant in
    if_ok c.of.result (λ s. s ≡ record { from = market.from; to = market.to; rows = c.loop-fare.rows }) _
    (λ s e b makes. subst (SheetOf b market.from market.to) (sym e) (sheet_made c.args.rules.now.entries b market entries makes sorted c.loop-fare.rows made c.requires.some)) c.of.ensures
