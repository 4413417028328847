use Rattle.std.proofs.Common.{◌≡◌, ◌∷◌, [], Some, sym, ap, subst, ◌∙◌}
use Rattle.fare_law.specs.Sheets.{SheetOf}
use Rattle.fare_book.proofs.Making.{is_sheet, made_one, sheet_made, sorted_one}
use Rattle.law_lemmas.proofs.Options.{if_ok}
use Rattle.fare_book.proofs.sheets.sheet_of_one.Goals as goal

pub of-requires : goal.of-requires
of-requires c =
    let rules = c.args.rules.now.entries in
    let fare = c.args.fare.now in
    let made = made_one rules c.from_vec-rows.result c.push.new.self c.copied.result fare c.in_ok-rule.rule (c.from_vec-rows.ensures ∙ c.in_ok-with_capacity.ensures.items) c.in_ok-push.ensures.items c.copied.ensures
    (λ b r s. c.rule_for.ensures b r s ∙ ap Some (sym c.in_ok-rule.ensures)) in
    is_sheet rules c.requires.0 c.args.market ((fare.key, fare) ∷ []) c.requires.1 (sorted_one fare) c.push.new.self made

pub returns : goal.returns
returns c =
    let rules = c.args.rules.now.entries in
    let fare = c.args.fare.now in
    let market = c.args.market in
    let made = made_one rules c.from_vec-rows.result c.push.new.self c.copied.result fare c.in_ok-rule.rule (c.from_vec-rows.ensures ∙ c.in_ok-with_capacity.ensures.items) c.in_ok-push.ensures.items c.copied.ensures
    (λ b r s. c.rule_for.ensures b r s ∙ ap Some (sym c.in_ok-rule.ensures)) in
    if_ok c.of.result (λ s. s ≡ record { from = market.from; to = market.to; rows = c.push.new.self }) _
    (λ s e b makes. subst (SheetOf b market.from market.to) (sym e) (sheet_made rules b market ((fare.key, fare) ∷ []) makes (sorted_one fare) c.push.new.self made (λ e. cc))) c.of.ensures
