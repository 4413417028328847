-- Fares by their keys, as ordered maps compare them.
use Rattle.std.proofs.Common.{◌≡◌, ◌&&◌, Bool, cond, List, Option, Decides, sym, ap, subst, ◌∙◌}
use Rattle.std.specs.BTreeMap.{is_at}
use Rattle.std.specs.Cmp.Lexicographic.{slice_cmp}
use Rattle.std.specs.Map.{lookup}
use Rattle.std.specs.Ordering.{is_eq, nat_cmp, ordering_then}
use Rattle.std.proofs.lemmas.Bool.Decides.{Decides-like, Decides-and, same_from_decides}
use Rattle.fare_law.specs.contracts.fares.FareKeyOrd.TheImpl as fare_order
use Rattle.fare_law.specs.declared.fares.FareKey.{FareKey}
use Rattle.fare_law.specs.Book.{same_key}
use Rattle.fare_book.proofs.SameKeys.{same_fares_tell}
use Rattle.seat_classes.proofs.SeatKeys.{then_eq, words_tell}

whole : (a b : FareKey) → a.carrier.0 ≡ b.carrier.0 → a.from.0 ≡ b.from.0 → a.to.0 ≡ b.to.0 → a.basis.0 ≡ b.basis.0 → a ≡ b
whole a b c f t s = λ i. record { carrier = record { 0 = c i }; from = record { 0 = f i }; to = record { 0 = t i }; basis = record { 0 = s i } }

fares_tell : (a b : FareKey) → Decides (is_eq (fare_order.ghosts.cmp a b)) (a ≡ b)
fares_tell a b =
    let c = slice_cmp nat_cmp a.carrier.0 b.carrier.0 in
    let f = slice_cmp nat_cmp a.from.0 b.from.0 in
    let t = slice_cmp nat_cmp a.to.0 b.to.0 in
    let s = slice_cmp nat_cmp a.basis.0 b.basis.0 in
    let parts : is_eq (ordering_then c (ordering_then f (ordering_then t s))) ≡ (is_eq c && (is_eq f && (is_eq t && is_eq s))) =
    then_eq c (ordering_then f (ordering_then t s)) ∙ ap (λ x. is_eq c && x) (then_eq f (ordering_then t s) ∙ ap (λ x. is_eq f && x) (then_eq t s)) in
    subst (λ x. Decides x (a ≡ b)) (sym parts)
    (Decides-like _ (λ e. whole a b e.0 e.1.0 e.1.1.0 e.1.1.1) (λ e. (ap (λ x. x.carrier.0) e, (ap (λ x. x.from.0) e, (ap (λ x. x.to.0) e, ap (λ x. x.basis.0) e))))
    (Decides-and _ _ (words_tell a.carrier.0 b.carrier.0) (Decides-and _ _ (words_tell a.from.0 b.from.0) (Decides-and _ _ (words_tell a.to.0 b.to.0) (words_tell a.basis.0 b.basis.0)))))

-- comparing as equal is the law's test
pub fares_compared : (λ (a b : FareKey). is_eq (fare_order.ghosts.cmp a b)) ≡ same_key
fares_compared = λ i a b. same_from_decides (is_eq (fare_order.ghosts.cmp a b)) (same_key a b) (fares_tell a b) (same_fares_tell a b) i

pub same_key_flips : (a b : FareKey) → same_key a b ≡ same_key b a
same_key_flips a b = same_from_decides (same_key a b) (same_key b a) (same_fares_tell a b) (Decides-like _ (λ e. sym e) (λ e. sym e) (same_fares_tell b a))

pub fare_found_in : {X : Type 0} (table : List (FareKey × X)) (k : FareKey) → lookup (is_at (fare_order.ghosts.cmp k)) table ≡ lookup (same_key k) table
fare_found_in table k = ap (λ (e : FareKey → FareKey → Bool). lookup (e k) table) fares_compared

pub fare_changes : {X : Type 0} (old new : List (FareKey × X)) (k : FareKey) (w : Option X)
    → ((q : FareKey) → lookup (is_at (fare_order.ghosts.cmp q)) new ≡ cond (is_at (fare_order.ghosts.cmp k) q) w (lookup (is_at (fare_order.ghosts.cmp q)) old))
    → (q : FareKey) → lookup (same_key q) new ≡ cond (same_key q k) w (lookup (same_key q) old)
fare_changes {X = X} old new k w u q =
    subst (λ (e : FareKey → FareKey → Bool). (q : FareKey) → lookup (e q) new ≡ cond (e k q) w (lookup (e q) old)) fares_compared u q
    ∙ ap (λ b. cond b w (lookup (same_key q) old)) (same_key_flips k q)
