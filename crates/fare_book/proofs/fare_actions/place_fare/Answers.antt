use Rattle.std.proofs.Common.{◌≡◌, ◌+◌, ◌<◌, ◌≤◌, None, Some, cond, refl, sym, subst, ◌∙◌, arith}
use Rattle.fare_law.specs.declared.filings.Action.TheVariants.{PutFare}
use Rattle.fare_law.specs.Book.{live_fare, live_rule}
use Rattle.fare_book.specs.Keeping.{uses_at, uses_without}
use Rattle.fare_book.specs.Keys.{same_rule}
use Rattle.fare_book.specs.Tables.{Changes, rule_of}
use Rattle.fare_book.specs.declared.keys.RuleKey.{RuleKey}
use Rattle.fare_law.specs.declared.limits.TheConstants.{MOST_FARES}
use Rattle.fare_book.proofs.Assembled.{fares_alone}
use Rattle.fare_book.proofs.FareKeeping.{clash, fares_new, fares_old, stand_put}
use Rattle.fare_book.proofs.Following.{fare_put_after, rules_stay, seats_stay}
use Rattle.fare_book.proofs.Stops.{faultless_fare, limit_fault, rule_lives}
use Rattle.fare_book.proofs.fare_actions.place_fare.Goals as goal

pub returns-in_ok-move_use-in-Some : goal.returns-in_ok-move_use-in-Some
returns-in_ok-move_use-in-Some c = λ b next limit d f.
    let old = c.args.draft.now in
    let x = c.args.fare.now in
    let o = c.in-Some.old in
    let step = fare_put_after b next x f in
    let new = c.replace_fare.new.tables.entries in
    let used = c.move_use.new.uses.entries in
    let changes : Changes old.sheets.entries old.tables.entries new x.key (Some x) (Some o) = subst (Changes old.sheets.entries old.tables.entries new x.key (Some x)) c.in-Some.is c.in_ok-old.ensures in
    let moves = subst (λ r. (k : RuleKey) → 1 ≤ uses_at old.uses.entries (rule_of o) → uses_without old.uses.entries (rule_of o) r + 1 < 4294967296 → uses_at used k ≡ cond (same_rule k r) (uses_without old.uses.entries (rule_of o) r + 1) (uses_without old.uses.entries (rule_of o) k)) c.rule_of-in-Some.ensures
    (subst (λ r. (k : RuleKey) → 1 ≤ uses_at old.uses.entries r → uses_without old.uses.entries r c.rule_of-in-Some.result + 1 < 4294967296 → uses_at used k ≡ cond (same_rule k c.rule_of-in-Some.result) (uses_without old.uses.entries r c.rule_of-in-Some.result + 1) (uses_without old.uses.entries r k)) c.rule_of.ensures c.in_ok-move_use-in-Some.ensures) in
    let told = changes (live_fare b) (live_fare next) (live_rule b) old.changed.keys d.fares_kept.keyed d.fares_kept.markets step in (
      fares_alone b next _ (rules_stay b next (PutFare x) (λ c n. refl) f) (seats_stay b next (PutFare x) (λ k. refl) f)
          (record {
            fares_kept = fares_old (live_fare b) (live_fare next) (live_rule b) old.changed.keys old.sheets.entries old.tables.entries new old.fare_count old.uses.entries d.fares_kept x o used changes step moves;
            rules_kept = d.rules_kept;
            seats_kept = d.seats_kept;
            stand = stand_put (live_fare b) (live_fare next) x.key (live_rule b) x step (rule_lives b x limit) d.stand;
          }),
      faultless_fare b x limit (λ full. clash (live_fare b x.key) o full.0 (sym told.0)),
    )

pub returns-in-None : goal.returns-in-None
returns-in-None c = λ b limit d.
    let old = c.args.draft.now in
    let x = c.args.fare.now in
    let told = c.in_ok-old.ensures (live_fare b) _ (live_rule b) old.changed.keys d.fares_kept.keyed d.fares_kept.markets (λ q. refl) in
    limit_fault b x limit old.fare_count c.if-draft-ge-MOST_FARES.true d.fares_kept.few d.fares_kept.counted (sym (sym c.in-None.is ∙ told.0))

pub returns-in_ok-count_use-in-None-2 : goal.returns-in_ok-count_use-in-None-2
returns-in_ok-count_use-in-None-2 c = λ b next limit d f.
    let old = c.args.draft.now in
    let x = c.args.fare.now in
    let step = fare_put_after b next x f in
    let new = c.replace_fare.new.tables.entries in
    let changes : Changes old.sheets.entries old.tables.entries new x.key (Some x) None = subst (Changes old.sheets.entries old.tables.entries new x.key (Some x)) c.in-None.is c.in_ok-old.ensures in
    let more = subst (λ r. (k : RuleKey) → uses_at old.uses.entries r + 1 < 4294967296 → uses_at c.count_use.new.uses.entries k ≡ cond (same_rule k r) (uses_at old.uses.entries r + 1) (uses_at old.uses.entries k)) c.rule_of-in-None-2.ensures c.in_ok-count_use-in-None-2.ensures in (
      fares_alone b next _ (rules_stay b next (PutFare x) (λ c n. refl) f) (seats_stay b next (PutFare x) (λ k. refl) f)
          (record {
            fares_kept = fares_new (live_fare b) (live_fare next) (live_rule b) old.changed.keys old.sheets.entries old.tables.entries new old.fare_count old.uses.entries d.fares_kept x c.count_use.new.uses.entries changes step (omega (arith, c.if-draft-ge-MOST_FARES.false)) more;
            rules_kept = d.rules_kept;
            seats_kept = d.seats_kept;
            stand = stand_put (live_fare b) (live_fare next) x.key (live_rule b) x step (rule_lives b x limit) d.stand;
          }),
      faultless_fare b x limit (λ full. omega (arith, c.if-draft-ge-MOST_FARES.false, d.fares_kept.counted.most MOST_FARES full.1)),
    )
