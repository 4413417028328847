use Rattle.std.proofs.Common.{◌≡◌, ◌-◌, None, Some, cond, sym, subst, refl, ◌∙◌, arith}
use Rattle.fare_law.specs.declared.filings.Action.TheVariants.{DropFare}
use Rattle.fare_law.specs.declared.filings.BookWhy.TheVariants.{NoFare}
use Rattle.fare_law.specs.Book.{live_fare, live_rule}
use Rattle.fare_book.specs.Drafts.{FaresKept}
use Rattle.fare_book.specs.declared.keys.RuleKey.{RuleKey}
use Rattle.fare_book.specs.Keeping.{uses_at}
use Rattle.fare_book.specs.Keys.{same_rule}
use Rattle.fare_book.specs.Tables.{Changes}
use Rattle.fare_book.proofs.Assembled.{fares_alone}
use Rattle.fare_book.proofs.FareKeeping.{clash, fares_gone, stand_drop}
use Rattle.fare_book.proofs.Following.{fare_dropped_after, rules_stay, seats_stay}
use Rattle.fare_book.proofs.Stops.{dropped_fare, faultless, only}
use Rattle.fare_book.proofs.fare_actions.drop_fare.Goals as goal

pub returns-in_ok-forget_use-in-Some : goal.returns-in_ok-forget_use-in-Some
returns-in_ok-forget_use-in-Some c = λ b next d f.
    let old = c.args.draft.now in
    let key = c.args.key.now in
    let step = fare_dropped_after b next key f in
    let changes : Changes old.sheets.entries old.tables.entries c.remove_fare.new.tables.entries key None (Some c.in-Some.old) = subst (λ o. Changes old.sheets.entries old.tables.entries c.remove_fare.new.tables.entries key None o) c.in-Some.is c.in_ok-old.ensures in
    let less = subst (λ r. (k : RuleKey) → uses_at c.forget_use.new.uses.entries k ≡ cond (same_rule k r) (uses_at old.uses.entries r - 1) (uses_at old.uses.entries k)) c.rule_of.ensures c.in_ok-forget_use-in-Some.ensures in
    let count : c.saturating_sub-draft.result ≡ old.fare_count - 1 = grind (arith, c.saturating_sub-draft.ensures) in
    let told = changes (live_fare b) (live_fare next) (live_rule b) old.changed.keys d.fares_kept.keyed d.fares_kept.markets step in (
      fares_alone b next _ (rules_stay b next (DropFare key) (λ c n. refl) f) (seats_stay b next (DropFare key) (λ k. refl) f)
          (record {
            fares_kept = subst (λ n. FaresKept (live_fare next) (live_rule b) old.changed.keys old.sheets.entries c.remove_fare.new.tables.entries n c.forget_use.new.uses.entries) (sym count)
                (fares_gone (live_fare b) (live_fare next) (live_rule b) old.changed.keys old.sheets.entries old.tables.entries c.remove_fare.new.tables.entries old.fare_count old.uses.entries d.fares_kept key c.in-Some.old c.forget_use.new.uses.entries changes step less);
            rules_kept = d.rules_kept;
            seats_kept = d.seats_kept;
            stand = stand_drop (live_fare b) (live_fare next) key (live_rule b) step d.stand;
          }),
      faultless b (DropFare key) NoFare (dropped_fare b key) (λ none. clash (live_fare b key) c.in-Some.old none (sym told.0)),
    )

pub returns-in-None : goal.returns-in-None
returns-in-None c = λ b d.
    let old = c.args.draft.now in
    let key = c.args.key.now in
    let told = c.in_ok-old.ensures (live_fare b) _ (live_rule b) old.changed.keys d.fares_kept.keyed d.fares_kept.markets (λ q. refl) in
    only b (DropFare key) NoFare (dropped_fare b key) (sym (sym c.in-None.is ∙ told.0))
