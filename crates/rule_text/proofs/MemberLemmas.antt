-- Objects of members that may be absent. Given on to the crates above.
use Rattle.std.proofs.Common.{◌≡◌, ◌<◌, ◌≤◌, ℕ, zero, suc, not, length, get_or, Bool, true, false, ◌||◌, ◌&&◌, bytes_eq, true≢false, Ordering, Less, Equal, Greater, List, [], ◌∷◌, ◌++◌, Option, Some, None, Result, Ok, refl, arith, sym, subst, ap, ◌∙◌}
use Rattle.std.specs.Cmp.Lexicographic.{slice_cmp}
use Rattle.std.specs.Ordering.{is_gt, nat_cmp, match_ordering}
use Rattle.std.proofs.lemmas.Slice.Eq.{bytes_eq-Decides}
use Rattle.serde_json.proofs.Views.{get_member-put, get_member-put_other}
use Rattle.serde_json.specs.Data.{Data, Members, no_members, member, object, put, depth, members_depth}
use Rattle.serde_json.specs.Find.{get_member}
use Rattle.serde_json.specs.Written.{has_float, members_have_float}
use Rattle.rule_text.specs.declared.fault.RuleFault.{RuleFault}
use Rattle.rule_text.specs.Members.{is_one_of, only_named, optional_at}
use Rattle.rule_text.specs.Again.{Spells}
use Rattle.rule_text.specs.Written.{Puts, WritesIf, member_if, put_if}
use Rattle.law_lemmas.proofs.Tests.{both_true, neither, not_true, untrue}

not_equal : (q k : List ℕ) → (q ≡ k → ⊥) → bytes_eq q k ≡ false
not_equal q k other = not_true (bytes_eq q k) (λ e. other ((bytes_eq-Decides q k).0 e))

-- a name of another text
other_name : (q k : List ℕ) → bytes_eq q k ≡ false → (q ≡ k → ⊥)
other_name q k e same = true≢false (sym ((bytes_eq-Decides q k).1 same) ∙ e)

pub get_other : (q k : List ℕ) (o : Option Data) (ms : Members) → bytes_eq q k ≡ false → get_member q (put_if k o ms) ≡ get_member q ms
get_other q k None ms e = refl
get_other q k (Some d) ms e = get_member-put_other q k d ms (other_name q k e)

pub get_here : (k : List ℕ) (o : Option Data) (ms : Members) → get_member k ms ≡ None → get_member k (put_if k o ms) ≡ o
get_here k None ms e = e
get_here k (Some d) ms e = get_member-put k d ms

module _ (these those : List (List ℕ)) where
  named_put_at : (o : Ordering) (k l : List ℕ) (d e : Data) (ms : Members) → (is_one_of these k || is_one_of those k) ≡ true
      → only_named these those (put k d ms) ≡ only_named these those ms
      → only_named these those (match_ordering o (member k d (member l e ms)) (member l d ms) (member l e (put k d ms))) ≡ only_named these those (member l e ms)
  named_put_at Less k l d e ms known later = rw known refl
  named_put_at Equal k l d e ms known later = refl
  named_put_at Greater k l d e ms known later = ap (λ b. (is_one_of these l || is_one_of those l) && b) later

  -- one more member of a known name changes nothing in whether all are known
  pub named_put : (k : List ℕ) (d : Data) (ms : Members) → (is_one_of these k || is_one_of those k) ≡ true → only_named these those (put k d ms) ≡ only_named these those ms
  named_put k d no_members known = rw known refl
  named_put k d (member l e ms) known = named_put_at (slice_cmp nat_cmp k l) k l d e ms known (named_put k d ms known)

floats_put_at : (o : Ordering) (k l : List ℕ) (d e : Data) (ms : Members) → has_float d ≡ false → members_have_float (member l e ms) ≡ false
    → (members_have_float ms ≡ false → members_have_float (put k d ms) ≡ false)
    → members_have_float (match_ordering o (member k d (member l e ms)) (member l d ms) (member l e (put k d ms))) ≡ false
floats_put_at Less k l d e ms none old later = rw none old
floats_put_at Equal k l d e ms none old later = rw none ((neither (has_float e) (members_have_float ms) old).1)
floats_put_at Greater k l d e ms none old later = let h = neither (has_float e) (members_have_float ms) old in rw (h.0) (later h.1)

pub floats_put : (k : List ℕ) (d : Data) (ms : Members) → has_float d ≡ false → members_have_float ms ≡ false → members_have_float (put k d ms) ≡ false
floats_put k d no_members none old = rw none refl
floats_put k d (member l e ms) none old = floats_put_at (slice_cmp nat_cmp k l) k l d e ms none old (floats_put k d ms none)

depth_put_at : (o : Ordering) (levels : ℕ) (k l : List ℕ) (d e : Data) (ms : Members) → depth d ≤ levels → members_depth (member l e ms) ≤ levels
    → (members_depth ms ≤ levels → members_depth (put k d ms) ≤ levels)
    → members_depth (match_ordering o (member k d (member l e ms)) (member l d ms) (member l e (put k d ms))) ≤ levels
depth_put_at Less levels k l d e ms one old later = omega arith
depth_put_at Equal levels k l d e ms one old later = omega arith
depth_put_at Greater levels k l d e ms one old later = let h = later (omega arith) in omega arith

pub depth_put : (levels : ℕ) (k : List ℕ) (d : Data) (ms : Members) → depth d ≤ levels → members_depth ms ≤ levels → members_depth (put k d ms) ≤ levels
depth_put levels k d no_members one old = omega arith
depth_put levels k d (member l e ms) one old = depth_put_at (slice_cmp nat_cmp k l) levels k l d e ms one old (depth_put levels k d ms one)

-- members by their names, each of which may be absent
abbrev pub Given : Type 0
Given = List ℕ × Option Data

abbrev pub built : List Given → Members
built [] = no_members
built (g ∷ gs) = put_if g.0 g.1 (built gs)

abbrev pub comes_in : List ℕ → List Given → Bool
comes_in q [] = false
comes_in q (g ∷ gs) = bytes_eq q g.0 || comes_in q gs

abbrev pub distinct : List Given → Bool
distinct [] = true
distinct (g ∷ gs) = not (comes_in g.0 gs) && distinct gs

pub absent : (q : List ℕ) (gs : List Given) → comes_in q gs ≡ false → get_member q (built gs) ≡ None
absent q [] e = refl
absent q (g ∷ gs) e = let h = neither (bytes_eq q g.0) (comes_in q gs) e in get_other q g.0 g.1 (built gs) h.0 ∙ absent q gs h.1

-- a name that doesn't come in a list is another than each of the list
apart : (q : List ℕ) (gs : List Given) (i : ℕ) (d : Given) → i < length gs → comes_in q gs ≡ false → bytes_eq (get_or gs i d).0 q ≡ false
apart q [] i d l e = absurd (omega arith)
apart q (g ∷ gs) zero d l e =
    let h = neither (bytes_eq q g.0) (comes_in q gs) e in
    not_equal g.0 q (λ same. other_name q g.0 h.0 (sym same))
apart q (g ∷ gs) (suc i) d l e = apart q gs i d (omega arith) ((neither (bytes_eq q g.0) (comes_in q gs) e).1)

pub found : (gs : List Given) (i : ℕ) (d : Given) → i < length gs → distinct gs ≡ true → get_member ((get_or gs i d).0) (built gs) ≡ (get_or gs i d).1
found [] i d l e = absurd (omega arith)
found (g ∷ gs) zero d l e =
    let h = both_true (not (comes_in g.0 gs)) (distinct gs) e in
    get_here g.0 g.1 (built gs) (absent g.0 gs (untrue (comes_in g.0 gs) h.0))
found (g ∷ gs) (suc i) d l e =
    let h = both_true (not (comes_in g.0 gs)) (distinct gs) e in
    get_other (get_or gs i d).0 g.0 g.1 (built gs) (apart g.0 gs i d (omega arith) (untrue (comes_in g.0 gs) h.0)) ∙ found gs i d (omega arith) h.1

-- whether each name is known
abbrev pub all_known : List (List ℕ) → List (List ℕ) → List Given → Bool
all_known these those [] = true
all_known these those (g ∷ gs) = (is_one_of these g.0 || is_one_of those g.0) && all_known these those gs

named_if : (these those : List (List ℕ)) (k : List ℕ) (o : Option Data) (ms : Members) → (is_one_of these k || is_one_of those k) ≡ true
    → only_named these those (put_if k o ms) ≡ only_named these those ms
named_if these those k None ms known = refl
named_if these those k (Some d) ms known = named_put these those k d ms known

pub built_named : (these those : List (List ℕ)) (gs : List Given) → all_known these those gs ≡ true → only_named these those (built gs) ≡ true
built_named these those [] e = refl
built_named these those (g ∷ gs) e =
    let h = both_true (is_one_of these g.0 || is_one_of those g.0) (all_known these those gs) e in
    named_if these those g.0 g.1 (built gs) h.0 ∙ built_named these those gs h.1

-- a part that may be absent, and its value
abbrev pub SpellsIf : {A : Type 0} → ℕ → (Data → Result A RuleFault) → Option A → Option Data → Type 0
SpellsIf levels form None None = Unit {0}
SpellsIf levels form None (Some d) = ⊥
SpellsIf levels form (Some part) None = ⊥
SpellsIf levels form (Some part) (Some d) = Spells levels form part d

-- a value that has no float and so many levels at most, where there is one
abbrev pub IsPlain : ℕ → Option Data → Type 0
IsPlain levels None = Unit {0}
IsPlain levels (Some d) = (has_float d ≡ false) × (depth d ≤ levels)

pub spells_plain : {A : Type 0} (levels most : ℕ) (form : Data → Result A RuleFault) (part : Option A) (o : Option Data) → SpellsIf levels form part o → levels ≤ most → IsPlain most o
spells_plain levels most form None None h l = tt
spells_plain levels most form None (Some d) h l = absurd h
spells_plain levels most form (Some a) None h l = absurd h
spells_plain levels most form (Some a) (Some d) h l = (h.no_float, (let a = h.nests in omega arith))

abbrev pub EachPlain : ℕ → List Given → Type 0
EachPlain levels [] = Unit {0}
EachPlain levels (g ∷ gs) = IsPlain levels g.1 × EachPlain levels gs

floats_if : (levels : ℕ) (k : List ℕ) (o : Option Data) (ms : Members) → IsPlain levels o → members_have_float ms ≡ false → members_have_float (put_if k o ms) ≡ false
floats_if levels k None ms h old = old
floats_if levels k (Some d) ms h old = floats_put k d ms h.0 old

depth_if : (levels : ℕ) (k : List ℕ) (o : Option Data) (ms : Members) → IsPlain levels o → members_depth ms ≤ levels → members_depth (put_if k o ms) ≤ levels
depth_if levels k None ms h old = old
depth_if levels k (Some d) ms h old = depth_put levels k d ms h.1 old

pub built_floats : (levels : ℕ) (gs : List Given) → EachPlain levels gs → members_have_float (built gs) ≡ false
built_floats levels [] h = refl
built_floats levels (g ∷ gs) h = floats_if levels g.0 g.1 (built gs) h.0 (built_floats levels gs h.1)

pub built_depth : (levels : ℕ) (gs : List Given) → EachPlain levels gs → members_depth (built gs) ≤ levels
built_depth levels [] h = omega arith
built_depth levels (g ∷ gs) h = depth_if levels g.0 g.1 (built gs) h.0 (built_depth levels gs h.1)

-- the member that was put is read again
pub optional_again : {A : Type 0} (levels : ℕ) (form : Data → Result A RuleFault) (part : Option A) (k : List ℕ) (o : Option Data) (ms : Members)
    → SpellsIf levels form part o → get_member k ms ≡ o → optional_at form k (object ms) ≡ Ok part
optional_again levels form None k None ms h e = rw e refl
optional_again levels form None k (Some d) ms h e = absurd h
optional_again levels form (Some a) k None ms h e = absurd h
optional_again levels form (Some a) k (Some d) ms h e = rw (e, h.again) refl

pub puts_some : {A : Type 0} (Writes : A → Data → Type 0) (part : Option A) (a : A) (name : List ℕ) (d : Data) (old new : Members)
    → part ≡ Some a → Writes a d → new ≡ put name d old → Puts Writes part name old new
puts_some Writes part a name d old new is h e = record {
  value = Some d;
  writes = subst (λ p. WritesIf Writes p (Some d)) (sym is) h;
  put = e;
}

-- members that were put in the order of their names

abbrev pub listed : List Given → Members
listed [] = no_members
listed (g ∷ gs) = member_if g.0 g.1 (listed gs)

abbrev pub turned : List Given → List Given
turned [] = []
turned (g ∷ gs) = turned gs ++ g ∷ []

-- whether this name comes after each of these
abbrev pub comes_after : List ℕ → List Given → Bool
comes_after k [] = true
comes_after k (g ∷ gs) = is_gt (slice_cmp nat_cmp k g.0) && comes_after k gs

-- whether each name comes after all that follow it
abbrev pub descend : List Given → Bool
descend [] = true
descend (g ∷ gs) = comes_after g.0 (turned gs) && descend gs

greater : (o : Ordering) → is_gt o ≡ true → o ≡ Greater
greater Less e = absurd (cc)
greater Equal e = absurd (cc)
greater Greater e = refl

put_behind : (k l : List ℕ) (o p : Option Data) (ms : Members) → slice_cmp nat_cmp k l ≡ Greater → put_if k o (member_if l p ms) ≡ member_if l p (put_if k o ms)
put_behind k l None p ms e = refl
put_behind k l (Some d) None ms e = refl
put_behind k l (Some d) (Some x) ms e = ap (λ r. match_ordering r (member k d (member l x ms)) (member l d ms) (member l x (put k d ms))) e

put_last : (k : List ℕ) (o : Option Data) (gs : List Given) → comes_after k gs ≡ true → put_if k o (listed gs) ≡ listed (gs ++ (k, o) ∷ [])
put_last k None [] e = refl
put_last k (Some d) [] e = refl
put_last k o (g ∷ gs) e =
    let h = both_true (is_gt (slice_cmp nat_cmp k g.0)) (comes_after k gs) e in
    put_behind k g.0 o g.1 (listed gs) (greater (slice_cmp nat_cmp k g.0) h.0) ∙ ap (member_if g.0 g.1) (put_last k o gs h.1)

pub built_in_order : (gs : List Given) → descend gs ≡ true → built gs ≡ listed (turned gs)
built_in_order [] e = refl
built_in_order (g ∷ gs) e =
    let h = both_true (comes_after g.0 (turned gs)) (descend gs) e in
    ap (put_if g.0 g.1) (built_in_order gs h.1) ∙ put_last g.0 g.1 (turned gs) h.0
