-- Moves as they are drawn, path by path. Given on to the crates above.
use Rattle.std.proofs.Common.{◌≡◌, ◌≢◌, ℕ, ◌+◌, ◌<◌, Bool, List, [], ◌∷◌, ◌++◌, length, take, get_or, slice_get, Option, None, Some, append_assoc, refl, sym, ap, subst, subst₂, ◌∙◌, inl, inr}
use Rattle.cheap_moves.specs.declared.hopes.Hopes.{Hopes}
use Rattle.cheap_moves.specs.declared.hopes.PathClass.{PathClass}
use Rattle.cheap_moves.specs.declared.hopes.PathStart.{PathStart}
use Rattle.cheap_moves.specs.Drawing.{AreNext, AreSunk, IsNext}
use Rattle.cheap_moves.specs.Hopes.{AreHopes}
use Rattle.cheap_moves.proofs.Joining.{differs_before, same_map, taken_in}
use Rattle.fare_law.specs.declared.flights.Flight.{Flight}
use Rattle.fare_law.specs.declared.names.Place.{Place}
use Rattle.fare_law.specs.declared.requests.Request.{Request}
use Rattle.fare_law.specs.Book.{Book}
use Rattle.fare_law.specs.Lists.{AllDifferent, IsIn}
use Rattle.flight_paths.specs.declared.positions.Path.{Path}
use Rattle.flight_paths.specs.Marks.{AreMarks}
use Rattle.residual_keys.specs.Residuals.{State}
use Rattle.law_lemmas.proofs.EachOne.{each_in}
use Rattle.law_lemmas.proofs.Lists.{front_read}
use Rattle.law_lemmas.proofs.Members.{in_either, in_left, in_right, read_in}

-- one is none of those before it
other_than : (seen paths : List Path) (i : ℕ) (d p : Path) → AllDifferent (seen ++ paths) → i < length paths → p ≡ get_or paths i d → (y : Path) → IsIn y (seen ++ take i paths) → y ≢ p
other_than [] paths i d p once lt e y j s = differs_before (λ (w : Path). w) paths i d p y (subst AllDifferent (same_map paths) once) lt e j s
other_than (x ∷ seen) paths i d p once lt e y (inl a) s = each_in (λ z. x ≢ z) (seen ++ paths) p once.0 (in_right p seen paths (read_in paths i d p lt e)) (sym a ∙ s)
other_than (x ∷ seen) paths i d p once lt e y (inr j) s = other_than seen paths i d p once.1 lt e y j s

-- no marks are those of any tails
pub no_marks : (flights : List Flight) (tails : List Path) (marks : List ℕ) → marks ≡ [] → AreMarks flights tails marks
no_marks flights tails marks none n mark tail fs e t a = absurd (nothing n (subst (λ ms. slice_get ms n ≡ Some mark) none e))
  where
    nothing : (k : ℕ) → ◌≡◌ {A = Option ℕ} (slice_get [] k) (Some mark) → ⊥
    nothing k x = cc

module _ (b : Book) (q : Request) (r : State) (seen paths : List Path) where
  module _ (are : AreNext b q r seen paths) (i : ℕ) (d p : Path) (lt : i < length paths) (e : p ≡ get_or paths i d) where
    pub next_of : IsNext b q r (seen ++ take i paths) p
    next_of = record {
      own = are.each p (in_right p seen paths (read_in paths i d p lt e));
      each = λ y j. are.each y (elim (in_either y seen (take i paths) j) [ inl k ↦ in_left y seen paths k | inr k ↦ in_right y seen paths (taken_in y i paths k) ]);
      other = other_than seen paths i d p are.once lt e;
    }

    pub seen_more : (seen ++ take i paths) ++ p ∷ [] ≡ seen ++ take (i + 1) paths
    seen_more = append_assoc seen (take i paths) (p ∷ []) ∙ ap (λ ps. seen ++ ps) (sym (front_read paths i d p lt e))

module _ (same_start : PathStart → PathStart → Bool) (same_place : Place → Place → Bool) (same_class : PathClass → PathClass → Bool) (b : Book) (q : Request) (r : State) (bound : State → Option ℕ) (first : Option ℕ) where
  -- what the leads tell within the limit
  pub hopes_now : (start : Hopes) → AreHopes same_start same_place same_class b q r bound first start → (limit : Option ℕ) (sunk : Option Hopes) (h : Hopes) → AreSunk same_start same_place same_class b q r bound first limit sunk → ((x : Hopes) → sunk ≡ Some x → h ≡ x) → (sunk ≡ None → h ≡ start) → AreHopes same_start same_place same_class b q r bound limit h
  hopes_now start own limit None h e some none = subst₂ (λ l x. AreHopes same_start same_place same_class b q r bound l x) (sym e) (sym (none refl)) own
  hopes_now start own limit (Some x) h are some none = subst (AreHopes same_start same_place same_class b q r bound limit) (sym (some x refl)) are
