use Rattle.std.proofs.Common.{Some, refl, arith}
use Rattle.fare_law.specs.declared.limits.TheConstants.{MOST_RULES}
use Rattle.fare_law.specs.declared.filings.Action.TheVariants.{PutRule}
use Rattle.fare_law.specs.declared.filings.BookWhy.TheVariants.{Limit}
use Rattle.fare_law.specs.Book.{live_fare, live_rule}
use Rattle.fare_book.proofs.Assembled.{rules_alone}
use Rattle.fare_book.proofs.Following.{fares_stay, rule_put_after, seats_stay}
use Rattle.fare_book.proofs.RuleKeeping.{fares_stay_kept, none_of, proper_number, rules_new, rules_old, stand_put}
use Rattle.fare_book.proofs.Stops.{faultless, none_live, put_rule_limit}
use Rattle.law_lemmas.proofs.Options.{some_of}
use Rattle.fare_book.proofs.rule_actions.put_rule.Goals as goal

pub returns-then-has_rule : goal.returns-then-has_rule
returns-then-has_rule c = λ b next d f.
    let old = c.args.draft.now in
    let k = c.args.carrier in
    let m = c.args.number in
    let r = c.args.rule.now in
    let proper = proper_number m c.requires.1 in
    let step = rule_put_after b next k m r f in
    let has = (c.has_rule.ensures b d.rules_kept.rules_are).0 c.if-has_rule.true in
    let was = some_of (live_rule b k m) has in (
      rules_alone b next _ (fares_stay b next (PutRule k m r) (λ q. refl) f) (seats_stay b next (PutRule k m r) (λ q. refl) f)
          (record {
            fares_kept = fares_stay_kept (live_rule b) (live_rule next) k m (Some r) proper step (live_fare b) old.changed.keys c.set_rule.new.changed.keys c.in_ok-set_rule.ensures.changed old.sheets.entries old.tables.entries old.fare_count old.uses.entries d.fares_kept;
            rules_kept = rules_old (live_rule b) (live_rule next) k m (Some r) proper step old.rules.entries c.set_rule.new.rules.entries c.in_ok-set_rule.ensures.rules old.rule_count d.rules_kept r was.0 refl was.1;
            seats_kept = d.seats_kept;
            stand = stand_put (live_rule b) (live_rule next) k m (Some r) proper step (live_fare b) r refl d.stand;
          }),
      faultless b (PutRule k m r) Limit (put_rule_limit b k m r) (λ full. none_live (live_rule b k m) full.0 has),
    )

pub returns : goal.returns
returns c = λ b next d f.
    let old = c.args.draft.now in
    let k = c.args.carrier in
    let m = c.args.number in
    let r = c.args.rule.now in
    let proper = proper_number m c.requires.1 in
    let step = rule_put_after b next k m r f in
    let none = none_of (live_rule b k m) c.has_rule.result c.if-has_rule.false (c.has_rule.ensures b d.rules_kept.rules_are).1 in (
      rules_alone b next _ (fares_stay b next (PutRule k m r) (λ q. refl) f) (seats_stay b next (PutRule k m r) (λ q. refl) f)
          (record {
            fares_kept = fares_stay_kept (live_rule b) (live_rule next) k m (Some r) proper step (live_fare b) old.changed.keys c.set_rule-2.new.changed.keys c.in_ok-set_rule-2.ensures.changed old.sheets.entries old.tables.entries old.fare_count old.uses.entries d.fares_kept;
            rules_kept = rules_new (live_rule b) (live_rule next) k m (Some r) proper step old.rules.entries c.set_rule-2.new.rules.entries c.in_ok-set_rule-2.ensures.rules old.rule_count d.rules_kept r refl none (omega (arith, c.if-draft-ge-MOST_RULES.false));
            seats_kept = d.seats_kept;
            stand = stand_put (live_rule b) (live_rule next) k m (Some r) proper step (live_fare b) r refl d.stand;
          }),
      faultless b (PutRule k m r) Limit (put_rule_limit b k m r) (λ full. omega (arith, c.if-draft-ge-MOST_RULES.false, d.rules_kept.counted.most MOST_RULES full.1)),
    )
