-- Tests of keys: the derived ones and the law's both tell whether two keys are equal.
use Rattle.std.proofs.Common.{◌≡◌, Decides, ap}
use Rattle.std.specs.Prelude.{bytes_eq}
use Rattle.std.specs.Cmp.Lexicographic.{bytes_decides}
use Rattle.std.proofs.lemmas.Bool.Decides.{Decides-like, Decides-and, Decides-eqb, same_from_decides}
use Rattle.std.proofs.lemmas.Slice.Eq.{bytes_eq-Decides}
use Rattle.fare_law.specs.declared.fares.FareKey.{FareKey}
use Rattle.fare_law.specs.declared.names.Basis.{Basis}
use Rattle.fare_law.specs.declared.names.Carrier.{Carrier}
use Rattle.fare_law.specs.Book.{same_carrier, same_key}
use Rattle.fare_book.specs.contracts.keys.MarketPartialEq.TheImpl as market
use Rattle.fare_book.specs.contracts.keys.RuleKeyPartialEq.TheImpl as rule
use Rattle.fare_book.specs.declared.keys.Market.{Market}
use Rattle.fare_book.specs.declared.keys.RuleKey.{RuleKey}
use Rattle.fare_book.specs.Keys.{same_market, same_rule}
use Rattle.law_lemmas.proofs.Names.{carrier_whole, place_whole, places_told}

basis_whole : (a b : Basis) → a.0 ≡ b.0 → a ≡ b
basis_whole a b e = λ i. record { 0 = e i }

pub same_carriers_tell : (a b : Carrier) → Decides (same_carrier a b) (a ≡ b)
same_carriers_tell a b = Decides-like _ (carrier_whole a b) (λ e. ap (λ x. x.0) e) (bytes_eq-Decides a.0 b.0)

bases_tell : (a b : Basis) → Decides (bytes_eq a.0 b.0) (a ≡ b)
bases_tell a b = Decides-like _ (basis_whole a b) (λ e. ap (λ x. x.0) e) (bytes_eq-Decides a.0 b.0)

-- ---- fares
fare_key_whole : (a b : FareKey) → a.carrier ≡ b.carrier → a.from ≡ b.from → a.to ≡ b.to → a.basis ≡ b.basis → a ≡ b
fare_key_whole a b c f t s = λ i. record { carrier = c i; from = f i; to = t i; basis = s i }

pub same_fares_tell : (a b : FareKey) → Decides (same_key a b) (a ≡ b)
same_fares_tell a b =
    Decides-like _ (λ e. fare_key_whole a b e.0.0.0 e.0.0.1 e.0.1 e.1) (λ e. (((ap (λ x. x.carrier) e, ap (λ x. x.from) e), ap (λ x. x.to) e), ap (λ x. x.basis) e))
    (Decides-and _ _ (Decides-and _ _ (Decides-and _ _ (same_carriers_tell a.carrier b.carrier) (places_told a.from b.from)) (places_told a.to b.to)) (bases_tell a.basis b.basis))

-- ---- markets
market_whole : (a b : Market) → a.from ≡ b.from → a.to ≡ b.to → a ≡ b
market_whole a b f t = λ i. record { from = f i; to = t i }

pub same_markets_tell : (a b : Market) → Decides (same_market a b) (a ≡ b)
same_markets_tell a b =
    Decides-like _ (λ e. market_whole a b e.0 e.1) (λ e. (ap (λ x. x.from) e, ap (λ x. x.to) e))
    (Decides-and _ _ (places_told a.from b.from) (places_told a.to b.to))

markets_tell : (a b : Market) → Decides (market.ghosts.eq a b) (a ≡ b)
markets_tell a b =
    Decides-like _ (λ e. market_whole a b (place_whole _ _ e.0) (place_whole _ _ e.1)) (λ e. (ap (λ x. x.from.0) e, ap (λ x. x.to.0) e))
    (Decides-and _ _ (bytes_decides a.from.0 b.from.0) (bytes_decides a.to.0 b.to.0))

-- the derived test is that of the definitions
pub market_tests_agree : market.ghosts.eq ≡ same_market
market_tests_agree = λ i a b. same_from_decides (market.ghosts.eq a b) (same_market a b) (markets_tell a b) (same_markets_tell a b) i

-- ---- rules
rule_key_whole : (a b : RuleKey) → a.carrier ≡ b.carrier → a.number ≡ b.number → a ≡ b
rule_key_whole a b c n = λ i. record { carrier = c i; number = n i }

pub same_rules_tell : (a b : RuleKey) → Decides (same_rule a b) (a ≡ b)
same_rules_tell a b =
    Decides-like _ (λ e. rule_key_whole a b e.0 e.1) (λ e. (ap (λ x. x.carrier) e, ap (λ x. x.number) e))
    (Decides-and _ _ (same_carriers_tell a.carrier b.carrier) (Decides-eqb a.number b.number))

rules_tell : (a b : RuleKey) → Decides (rule.ghosts.eq a b) (a ≡ b)
rules_tell a b =
    Decides-like _ (λ e. rule_key_whole a b (carrier_whole _ _ e.0) e.1) (λ e. (ap (λ x. x.carrier.0) e, ap (λ x. x.number) e))
    (Decides-and _ _ (bytes_decides a.carrier.0 b.carrier.0) (Decides-eqb a.number b.number))

pub rule_tests_agree : rule.ghosts.eq ≡ same_rule
rule_tests_agree = λ i a b. same_from_decides (rule.ghosts.eq a b) (same_rule a b) (rules_tell a b) (same_rules_tell a b) i
