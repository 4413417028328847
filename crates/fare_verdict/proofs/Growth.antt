-- Lists of all findings of which something holds, and how they grow. Cited where findings are added.
use Rattle.std.proofs.Common.{◌⊎◌, List, [], ◌∷◌, ◌++◌, refl, sym, ap, subst, ◌∙◌, inl, inr, append_assoc, append-nil}
use Rattle.fare_law.specs.Lists.{EachPair, IsIn}
use Rattle.fare_verdict.specs.declared.finding.Finding.{Finding}
use Rattle.fare_verdict.specs.Findings.{AreAll, Before}
use Rattle.fare_verdict.specs.Told.{Extends}
use Rattle.law_lemmas.proofs.Members.{in_either, in_left, in_right}
use Rattle.law_lemmas.proofs.Pairs.{pairs_append}

pair_front : {A : Type 0} (R : A → A → Type 0) (x : A) (ys : List A) → ((y : A) → IsIn y ys → R x y) → EachPair R ys → EachPair R (x ∷ ys)
pair_front R x [] h k = tt
pair_front R x (y ∷ ys) h k = (h y (inl refl), k)

pub none_all : (P : Finding → Type 0) → ((f : Finding) → P f → ⊥) → AreAll P []
none_all P none = record { order = tt; each = λ f. (λ i. absurd i, λ p. absurd (none f p)) }

pub all_like : (P Q : Finding → Type 0) (xs : List Finding) → ((f : Finding) → P f → Q f) → ((f : Finding) → Q f → P f) → AreAll P xs → AreAll Q xs
all_like P Q xs to from h = record { order = h.order; each = λ f. (λ i. to f ((h.each f).0 i), λ q. (h.each f).1 (from f q)) }

pub all_append : (P Q : Finding → Type 0) (xs ys : List Finding) → AreAll P xs → AreAll Q ys → ((f g : Finding) → P f → Q g → Before f g) → AreAll (λ f. P f ⊎ Q f) (xs ++ ys)
all_append P Q xs ys h k below = record {
  order = pairs_append Before xs ys h.order k.order (λ f g i j. below f g ((h.each f).0 i) ((k.each g).0 j));
  each = λ f. (
    λ i. elim (in_either f xs ys i) [ inl a ↦ inl ((h.each f).0 a) | inr b ↦ inr ((k.each f).0 b) ],
    λ p. elim p [ inl a ↦ in_left f xs ys ((h.each f).1 a) | inr b ↦ in_right f xs ys ((k.each f).1 b) ],
  );
}

-- nothing was added
pub extends_none : (P : Finding → Type 0) (old : List Finding) → ((f : Finding) → P f → ⊥) → Extends P old old
extends_none P old none = record { more = []; whole = sym (append-nil old); all = none_all P none }

pub extends_like : (P Q : Finding → Type 0) (old new : List Finding) → ((f : Finding) → P f → Q f) → ((f : Finding) → Q f → P f) → Extends P old new → Extends Q old new
extends_like P Q old new to from h = record { more = h.more; whole = h.whole; all = all_like P Q h.more to from h.all }

-- first these were added, then those
pub extends_more : (P Q R : Finding → Type 0) (old mid new : List Finding) → Extends P old mid → Extends Q mid new
    → ((f g : Finding) → P f → Q g → Before f g) → ((f : Finding) → P f ⊎ Q f → R f) → ((f : Finding) → R f → P f ⊎ Q f) → Extends R old new
extends_more P Q R old mid new h k below to from = record {
  more = h.more ++ k.more;
  whole = k.whole ∙ ap (λ xs. xs ++ k.more) h.whole ∙ append_assoc old h.more k.more;
  all = all_like (λ f. P f ⊎ Q f) R (h.more ++ k.more) to from (all_append P Q h.more k.more h.all k.all below);
}

-- all of the old list, and what was added to it
pub all_more : (P Q R : Finding → Type 0) (old new : List Finding) → AreAll P old → Extends Q old new
    → ((f g : Finding) → P f → Q g → Before f g) → ((f : Finding) → P f ⊎ Q f → R f) → ((f : Finding) → R f → P f ⊎ Q f) → AreAll R new
all_more P Q R old new h k below to from = subst (λ xs. AreAll R xs) (sym k.whole) (all_like (λ f. P f ⊎ Q f) R (old ++ k.more) to from (all_append P Q old k.more h k.all below))
