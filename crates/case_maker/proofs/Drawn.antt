-- What holds of a text that was made, whatever was drawn for it; and the lines of what was made one after another.
use Rattle.std.proofs.Common.{◌≡◌, ◌<◌, ℕ, zero, suc, List, [], ◌∷◌, ◌++◌, append-nil, refl, sym, ap₂, ◌∙◌, arith}
use Rattle.std.proofs.lemmas.Grind.{flat_map-append}
use Rattle.std.proofs.lemmas.Nat.{mod_below}
use Rattle.fare_law.specs.Lists.{Matched}
use Rattle.case_maker.specs.Drawing.{Making, after, drawing, drawn_below, each_below, going_on, ◌before◌}
use Rattle.case_maker.specs.Lines.{HasLines, all_below, lined}

-- whatever the number before, the text that is made is such
abbrev pub Always : (List ℕ → Type 0) → Making → Type 0
Always P make = (x : ℕ) → P (make x).text

pub then_always : (P Q R : List ℕ → Type 0) (one other : Making) → ((s t : List ℕ) → P s → Q t → R (s ++ t)) → Always P one → Always Q other → Always R (one before other)
unfolding going_on ◌before◌
then_always P Q R one other join first second x = join (one x).text (other (one x).last).text (first x) (second (one x).last)

pub drawn_always : (P : List ℕ → Type 0) (below : ℕ) (make : ℕ → Making) → 0 < below → ((k : ℕ) → k < below → Always P (make k)) → Always P (drawing below make)
drawn_always P below make some each x = each (drawn_below below (after x)) (mod_below _ below some) (after x)

-- ---- lines

pub matched_append : {X Y : Type 0} (R : X → Y → Type 0) (xs us : List X) (ys vs : List Y) → Matched R xs ys → Matched R us vs → Matched R (xs ++ us) (ys ++ vs)
matched_append R [] us [] vs h k = k
matched_append R [] us (y ∷ ys) vs h k = absurd h
matched_append R (x ∷ xs) us [] vs h k = absurd h
matched_append R (x ∷ xs) us (y ∷ ys) vs h k = (h.0, matched_append R xs us ys vs h.1 k)

pub lined_joined : (ks ls : List (List ℕ)) (s t : List ℕ) → s ≡ lined ks → t ≡ lined ls → s ++ t ≡ lined (ks ++ ls)
lined_joined ks ls s t e f = ap₂ (λ a b. a ++ b) e f ∙ sym (flat_map-append (λ (line : List ℕ). line ++ 10 ∷ []) ks ls)

module _ {X : Type 0} (Is : X → List ℕ → Type 0) where
  pub one_line : (x : X) (line : List ℕ) → Is x line → HasLines Is (x ∷ []) (line ++ 10 ∷ [])
  one_line x line h = record { lines = line ∷ []; each = (h, tt); text_is = sym (append-nil (line ++ 10 ∷ [])) }

  pub joined : (xs ys : List X) (s t : List ℕ) → HasLines Is xs s → HasLines Is ys t → HasLines Is (xs ++ ys) (s ++ t)
  joined xs ys s t h k = record {
    lines = h.lines ++ k.lines;
    each = matched_append Is xs ys h.lines k.lines h.each k.each;
    text_is = lined_joined h.lines k.lines s t h.text_is k.text_is;
  }

  pub then_lines : (xs ys : List X) (one other : Making) → Always (HasLines Is xs) one → Always (HasLines Is ys) other → Always (HasLines Is (xs ++ ys)) (one before other)
  then_lines xs ys one other = then_always (HasLines Is xs) (HasLines Is ys) (HasLines Is (xs ++ ys)) one other (joined xs ys)

  pub each_lines : (f : ℕ → List X) (make : ℕ → Making) (count : ℕ) → ((i : ℕ) → i < count → Always (HasLines Is (f i)) (make i)) → Always (HasLines Is (all_below count f)) (each_below count make)
  unfolding each_below
  each_lines f make zero each x = record { lines = []; each = tt; text_is = refl }
  each_lines f make (suc count) each x =
      then_lines (all_below count f) (f count) (each_below count make) (make count) (each_lines f make count (λ i h. each i (omega (arith, h)))) (each count (omega arith)) x
