-- The limits of what a book has.
use Rattle.std.proofs.Common.{◌≤◌, ℕ, List, subst, sym, arith}
use Rattle.fare_law.specs.Book.{Book}
use Rattle.fare_law.specs.Limits.{IsFareKey}
use Rattle.fare_book.specs.declared.keys.RuleKey.{RuleKey}
use Rattle.fare_book.specs.Counts.{AtMost}
use Rattle.fare_book.specs.Keeping.{Counted, History, Limited}
use Rattle.fare_law.specs.declared.limits.TheConstants.{MOST_FARES, MOST_RULES}
use Rattle.fare_book.proofs.LastActions.{live_fare_limits, live_key, live_rule_limits}

at_most : {K : Type 0} (Has : K → Type 0) (n m : ℕ) → n ≤ m → AtMost n Has → AtMost m Has
at_most Has n m le a k many = omega (arith, le, a k many)

pub kept_limits : (b : Book) (fare_count rule_count : ℕ) {uses : List (RuleKey × ℕ)} → History b → Counted b fare_count rule_count uses → Limited b
kept_limits b fare_count rule_count h c = record {
  fares = λ key fare l. (live_key b key fare l, live_fare_limits b key fare h.filings l);
  rules = λ carrier number rule l. live_rule_limits b carrier number rule h.filings l;
  keys = λ key fare l.
      let limits : IsFareKey key = subst IsFareKey (sym (live_key b key fare l)) (live_fare_limits b key fare h.filings l).key in
      (limits.carrier, limits.basis);
  stand = c.stand;
  few_fares = at_most _ fare_count MOST_FARES c.few_fares c.fares.most;
  few_rules = at_most _ rule_count MOST_RULES c.few_rules c.rules.most;
  few_seats = c.seats;
}
