-- Lists of moves, as they grow: what is added one part after another. Given on to the crates above.
use Rattle.std.proofs.Common.{◌≡◌, ◌≢◌, ◌⊎◌, ◌↔◌, List, [], ◌∷◌, ◌++◌, map, append-nil, append_assoc, refl, sym, ap, subst, ◌∙◌, inl, inr}
use Rattle.fare_law.specs.declared.moves.Move.{Move}
use Rattle.fare_law.specs.Lists.{AllDifferent, Each, IsIn}
use Rattle.residual_keys.specs.declared.residual.Chosen.{Chosen}
use Rattle.residual_keys.specs.Gathered.{Adds}
use Rattle.law_lemmas.proofs.Members.{in_either, in_left, in_right}

-- the moves of a list that is joined are different where those of its parts are, and no two of different parts are one
each_apart : (m : Move) (cs : List Chosen) → ((c : Chosen) → IsIn c cs → m ≢ c.mv) → Each (λ n. m ≢ n) (map (λ c. c.mv) cs)
each_apart m [] h = tt
each_apart m (c ∷ cs) h = (h c (inl refl), each_apart m cs (λ d i. h d (inr i)))

each_both : (m : Move) (xs ys : List Chosen) → Each (λ n. m ≢ n) (map (λ c. c.mv) xs) → Each (λ n. m ≢ n) (map (λ c. c.mv) ys) → Each (λ n. m ≢ n) (map (λ c. c.mv) (xs ++ ys))
each_both m [] ys h k = k
each_both m (x ∷ xs) ys h k = (h.0, each_both m xs ys h.1 k)

different_joined : (xs ys : List Chosen) → AllDifferent (map (λ c. c.mv) xs) → AllDifferent (map (λ c. c.mv) ys) → ((x y : Chosen) → IsIn x xs → IsIn y ys → x.mv ≢ y.mv) → AllDifferent (map (λ c. c.mv) (xs ++ ys))
different_joined [] ys h k apart = k
different_joined (x ∷ xs) ys h k apart = (each_both x.mv xs ys h.0 (each_apart x.mv ys (λ y i. apart x y (inl refl) i)), different_joined xs ys h.1 k (λ a y i j. apart a y (inr i) j))

pub adds_none : (P : Chosen → Type 0) (old : List Chosen) → ((c : Chosen) → P c → ⊥) → Adds P old old
adds_none P old none = record { more = []; joined = sym (append-nil old); once = tt; are = λ c. (λ i. absurd i, λ h. absurd (none c h)) }

pub adds_one : (P : Chosen → Type 0) (old new : List Chosen) (c : Chosen) → new ≡ old ++ c ∷ [] → P c → ((d : Chosen) → P d → d ≡ c) → Adds P old new
adds_one P old new c e is only = record { more = c ∷ []; joined = e; once = (tt, tt); are = λ d. (λ i. elim i [ inl same ↦ subst P (sym same) is | inr none ↦ absurd none ], λ h. inl (only d h)) }

-- one part after another, of which no two moves are one
pub adds_then : (P Q : Chosen → Type 0) (a b c : List Chosen) → Adds P a b → Adds Q b c → ((x y : Chosen) → P x → Q y → x.mv ≢ y.mv) → Adds (λ x. P x ⊎ Q x) a c
adds_then P Q a b c h k apart = record {
  more = h.more ++ k.more;
  joined = k.joined ∙ ap (λ xs. xs ++ k.more) h.joined ∙ append_assoc a h.more k.more;
  once = different_joined h.more k.more h.once k.once (λ x y i j. apart x y ((h.are x).0 i) ((k.are y).0 j));
  are = λ x. (
    λ i. elim (in_either x h.more k.more i) [ inl l ↦ inl ((h.are x).0 l) | inr r ↦ inr ((k.are x).0 r) ],
    λ e. elim e [ inl p ↦ in_left x h.more k.more ((h.are x).1 p) | inr q ↦ in_right x h.more k.more ((k.are x).1 q) ],
  );
}

-- the same by other words
pub adds_like : (P Q : Chosen → Type 0) (a b : List Chosen) → Adds P a b → ((c : Chosen) → P c ↔ Q c) → Adds Q a b
adds_like P Q a b h same = record { more = h.more; joined = h.joined; once = h.once; are = λ c. (λ i. (same c).0 ((h.are c).0 i), λ k. (h.are c).1 ((same c).1 k)) }
