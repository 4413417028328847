-- Notes of the cells of a store, one for each cell.
use Rattle.std.proofs.Common.{◌≡◌, ◌≢◌, ℕ, ◌<◌, List, length, map, set, get_or, Option, Some, None, MatchOption, sym, ap, subst, ◌∙◌, get_or-set_same}
use Rattle.std.proofs.lemmas.List.{get_or-map, map-set, length-map, get_or-set_other}
use Rattle.std.proofs.Math.Seq.{map-set_same}
use native.Mathlib.Decide.{ℕ_discrete}
use Rattle.std.specs.Option.{option_copied}
use Rattle.std.specs.Borrow.{Bor}
use Rattle.once_cell.specs.Once.{Agrees}
use Rattle.fare_component.specs.Keys.{Asked}
use Rattle.node_publish.specs.Homes.{Known, at_cell, ReadsAt}

within : {X N : Type 0} (f : X → N) (xs : List X) (names : List N) (i : ℕ) → map f xs ≡ names → i < length names → i < length xs
within f xs names i is less = subst (λ n. i < n) (sym (ap length is) ∙ length-map xs f) less

-- the note and the cell at one place have one name
pub name_same : {X Y : Type 0} (f : X → ℕ) (g : Y → ℕ) (xs : List X) (ys : List Y) (names : List ℕ) (i : ℕ) (x : X) (y : Y) → map f xs ≡ names → map g ys ≡ names → i < length names
    → x ≡ get_or xs i x → y ≡ get_or ys i y → g y ≡ f x
name_same f g xs ys names i x y is_f is_g less at_x at_y =
    ap g at_y ∙ sym (get_or-map g ys i y (g y) (within g ys names i is_g less)) ∙ ap (λ z. get_or z i (g y)) (is_g ∙ sym is_f) ∙ get_or-map f xs i x (g y) (within f xs names i is_f less) ∙ ap f (sym at_x)

module _ {Y : Type 0} (g : Y → ℕ) (h : Y → Option Asked) (ys : List Y) (i : ℕ) (y z : Y) where
  abbrev pub known_by : List Y → Known
  known_by l = record { cells = map g l; known = map h l }

  -- the note at one place was changed to one that knows no less
  pub noted : (before : Known) (names : List ℕ) (found : Option Asked) → known_by ys ≡ before → before.cells ≡ names → i < length names → y ≡ get_or ys i y → g z ≡ g y
      → ((k : Asked) → h y ≡ Some k → h z ≡ Some k) → h z ≡ found → ReadsAt before (known_by (set ys i z)) i found
  noted before names found is own less at_y same more here =
      let less' : i < length ys = within g ys names i (ap (λ p. p.cells) is ∙ own) less in
      let after : map h (set ys i z) ≡ set (map h ys) i (h z) = map-set h ys i z in
      let in_map : i < length (map h ys) = subst (λ (n : ℕ). i < n) (sym (length-map ys h)) less' in
      let at_i : get_or (map h (set ys i z)) i None ≡ h z = ap (λ l. get_or l i None) after ∙ get_or-set_same (map h ys) i (h z) None in_map in
      let was : h y ≡ get_or (map h ys) i None = ap h at_y ∙ sym (get_or-map h ys i y None less') in
      let now : get_or (map h ys) i None ≡ at_cell before i = ap (λ p. get_or p.known i None) is in
      let other : (j : ℕ) → j ≢ i → get_or (map h (set ys i z)) j None ≡ at_cell before j = λ j apart. ap (λ l. get_or l j None) after ∙ get_or-set_other (map h ys) i j (h z) None apart ∙ ap (λ p. get_or p.known j None) is in
      let kept : (j : ℕ) (k : Asked) → at_cell before j ≡ Some k → get_or (map h (set ys i z)) j None ≡ Some k = λ j k known. elim (ℕ_discrete j i) [
        | yes e ↦ ap (λ (n : ℕ). get_or (map h (set ys i z)) n None) e ∙ at_i ∙ more k (was ∙ now ∙ ap (at_cell before) (sym e) ∙ known)
        | no n ↦ other j n ∙ known
      ] in
      record {
        keeps = record { cells = map-set_same g ys i z y (same ∙ ap g at_y) ∙ ap (λ p. p.cells) is; kept = kept };
        here = at_i ∙ here;
        others = other;
      }

-- what a read tells
pub read_more : (o : Option (Bor Asked)) (old new : Option Asked) → MatchOption o ((old ≡ None) × (new ≡ None)) (λ r. (new ≡ Some r.now) × Agrees old r.now) → ((k : Asked) → old ≡ Some k → new ≡ Some k) × (new ≡ option_copied o)
read_more None old new h = ((λ k e. absurd (cc (h.0, e))), h.1)
read_more (Some r) None new h = ((λ k e. absurd (cc e)), h.0)
read_more (Some r) (Some x) new h = ((λ k e. h.0 ∙ ap Some (sym h.1) ∙ e), h.0)

pub settle_more : (r : Asked) (old new : Option Asked) → new ≡ Some r → Agrees old r → (k : Asked) → old ≡ Some k → new ≡ Some k
settle_more r None new h a k e = absurd (cc e)
settle_more r (Some x) new h a k e = h ∙ ap Some (sym a) ∙ e
