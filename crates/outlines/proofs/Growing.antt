-- Lists of outcomes, as they grow. Given on to the crates above.
use Rattle.std.proofs.Common.{◌≡◌, ◌⊎◌, ◌↔◌, List, [], ◌∷◌, ◌++◌, append-nil, append_assoc, sym, ap, subst, ◌∙◌, inl, inr}
use Rattle.outlines.specs.declared.outline.Outcome.{Outcome}
use Rattle.outlines.specs.Outcomes.{Grows}
use Rattle.fare_law.specs.Lists.{IsIn}
use Rattle.law_lemmas.proofs.Members.{in_either, in_left, in_right}

pub grows_none : (P : Outcome → Type 0) (old : List Outcome) → ((o : Outcome) → P o → ⊥) → Grows P old old
grows_none P old none = record { more = []; joined = sym (append-nil old); are = λ o. (λ i. absurd i, λ h. absurd (none o h)) }

pub grows_one : (P : Outcome → Type 0) (old new : List Outcome) (o : Outcome) → new ≡ old ++ o ∷ [] → P o → ((x : Outcome) → P x → x ≡ o) → Grows P old new
grows_one P old new o e is only = record { more = o ∷ []; joined = e; are = λ x. (λ i. elim i [ inl same ↦ subst P (sym same) is | inr none ↦ absurd none ], λ h. inl (only x h)) }

pub grows_then : (P Q : Outcome → Type 0) (a b c : List Outcome) → Grows P a b → Grows Q b c → Grows (λ x. P x ⊎ Q x) a c
grows_then P Q a b c h k = record {
  more = h.more ++ k.more;
  joined = k.joined ∙ ap (λ xs. xs ++ k.more) h.joined ∙ append_assoc a h.more k.more;
  are = λ x. (
    λ i. elim (in_either x h.more k.more i) [ inl l ↦ inl ((h.are x).0 l) | inr r ↦ inr ((k.are x).0 r) ],
    λ e. elim e [ inl p ↦ in_left x h.more k.more ((h.are x).1 p) | inr q ↦ in_right x h.more k.more ((k.are x).1 q) ],
  );
}

pub grows_like : (P Q : Outcome → Type 0) (a b : List Outcome) → Grows P a b → ((o : Outcome) → P o ↔ Q o) → Grows Q a b
grows_like P Q a b h same = record { more = h.more; joined = h.joined; are = λ o. (λ i. (same o).0 ((h.are o).0 i), λ k. (h.are o).1 ((same o).1 k)) }
